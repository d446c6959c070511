use Rattle.std.proofs.Common.{sym, subst, arith}
use Rattle.pgo_model.specs.LogView.{entry_view}
use Rattle.pgo_journal.specs.Journal.{MayAppend}
use Rattle.pgo_journal.proofs.Sound.{entries_within, sound_appended}
use Rattle.pgo_journal.proofs.journal.Journal.append.Goals as goal

pub invariant_of-self : goal.invariant_of-self
invariant_of-self c =
    let i = c.self.inside in
    let w = entries_within i.start i.entries.items i.notes.items i.steps i.room _ _ c.self.invariant in
    let m = subst (λ j. MayAppend j (entry_view c.args.e)) (sym c.self.view_is) c.requires in
    rw (c.push_reserved.ensures.items, c.push_reserved.ensures.capacity) (sound_appended i.start i.entries.items i.notes.items i.steps i.room _ _ c.self.invariant c.args.e (omega (arith, w.0, c.len-count.ensures, c.if-count-self.false)) m)
