use Rattle.std.proofs.Common.{◌∙◌, ◌<◌, length, sym, ap, subst}
use Rattle.pgo_workers.specs.Worlds.{layout_of}
use Rattle.pgo_section.specs.Folds.{AllBelow}
use Rattle.pgo_section.specs.Turns.{entry_with}
use Rattle.pgo_section.proofs.Events.{is_counted, resources_there, same_length}
use Rattle.pgo_section.proofs.Values.{changed_below}
use Rattle.pgo_section.proofs.worker.Worker.ready.Goals as goal

pub changed_values-requires-clause-held : goal.changed_values-requires-clause-held
changed_values-requires-clause-held g c = c.requires.met.meets.taken

pub changed_values-requires-clause-once : goal.changed_values-requires-clause-once
changed_values-requires-clause-once g c = c.requires.met.meets.once

pub entry-requires-clause-attempts : goal.entry-requires-clause-attempts
entry-requires-clause-attempts g c =
    let a = c.args.self.now in let y = g.S.Sections.system c.args.sections.now in let tree = g.S.Sections.tree c.args.sections.now in let walk = g.S.Sections.walk c.args.sections.now in let b = g.B.Board.shows c.args.board.now in let p = c.args.place in
    subst (λ n. n < a.settings.attempts) (same_length _ a.records.items) (is_counted y tree walk a p c.requires.going b c.requires.met.meets)

pub entry-requires-clause-instance : goal.entry-requires-clause-instance
entry-requires-clause-instance g c =
    let a = c.args.self.now in let y = g.S.Sections.system c.args.sections.now in let tree = g.S.Sections.tree c.args.sections.now in let walk = g.S.Sections.walk c.args.sections.now in let b = g.B.Board.shows c.args.board.now in let p = c.args.place in
    subst (λ n. a.number < n) (sym (same_length (λ i. i.id) y.members)) c.requires.met.fits.instance

pub entry-requires-clause-below : goal.entry-requires-clause-below
entry-requires-clause-below g c =
    let a = c.args.self.now in let y = g.S.Sections.system c.args.sections.now in let tree = g.S.Sections.tree c.args.sections.now in let walk = g.S.Sections.walk c.args.sections.now in let b = g.B.Board.shows c.args.board.now in let p = c.args.place in
    subst (AllBelow (length y.resources)) (sym c.in_ok-values.ensures.values) (changed_below (length y.resources) b.held (resources_there y tree walk a p c.requires.going b c.requires.met.meets))

pub returns-clause-ends : goal.returns-clause-ends
returns-clause-ends g c =
    let a = c.args.self.now in let y = g.S.Sections.system c.args.sections.now in let tree = g.S.Sections.tree c.args.sections.now in let walk = g.S.Sections.walk c.args.sections.now in let b = g.B.Board.shows c.args.board.now in let p = c.args.place in
    record {
      prints = c.in_ok-next.prints;
      ends = c.in_ok-next.ensures;
      is = c.in_ok-entry.ensures ∙ ap (λ vs. entry_with (layout_of y) a vs c.in_ok-next.next c.in_ok-next.prints) c.in_ok-values.ensures.values;
    }
