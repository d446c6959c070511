use Rattle.std.proofs.Common.{◌≡◌, ◌∙◌, Option, Some, None, false, refl, sym, subst, arith}
use Rattle.std.specs.Prelude.{is_some}
use Rattle.pgo_model.specs.Core.{Reaches}
use Rattle.pgo_section.specs.Programs.{IsGood}
use Rattle.pgo_workers.specs.Sentences.{Place}
use Rattle.pgo_workers.specs.Worker.{Resting}
use Rattle.pgo_section.specs.Sight.{see, program_at, phase_at}
use Rattle.pgo_section.proofs.Events.{world}
use Rattle.pgo_section.proofs.Keeping.{no_held, drops_of, keeps_both}
use Rattle.pgo_section.proofs.worker.Worker.stop.Goals as goal

none_of : {A : Type 0} (o : Option A) → is_some o ≡ false → o ≡ None
none_of None e = refl
none_of (Some x) e = absurd (grind (arith, e))

pub drop_attempt-requires-clause-drops : goal.drop_attempt-requires-clause-drops
drop_attempt-requires-clause-drops g c =
    let a = c.args.self.now in let y = g.S.Sections.system c.args.sections.now in let tree = g.S.Sections.tree c.args.sections.now in let walk = g.S.Sections.walk c.args.sections.now in let b = g.B.Board.shows c.args.board.now in
    drops_of y tree walk a b c.if-self.false c.requires.met

pub returns-then-self-clause-nothing : goal.returns-then-self-clause-nothing
returns-then-self-clause-nothing g c = no_held (g.B.Board.shows c.give_all.new.board).held (sym c.give_all.ensures.nothing ∙ c.give_all.ensures.met.meets.taken)

pub returns-then-is_some-clause-keeps : goal.returns-then-is_some-clause-keeps
returns-then-is_some-clause-keeps g c = keeps_both c.args.self.now c.drop_attempt.new.self c.give_all-then-is_some.new.self c.drop_attempt.ensures.keeps c.give_all-then-is_some.ensures.keeps

pub returns-then-is_some-clause-nothing : goal.returns-then-is_some-clause-nothing
returns-then-is_some-clause-nothing g c = no_held (g.B.Board.shows c.give_all-then-is_some.new.board).held (sym c.give_all-then-is_some.ensures.nothing ∙ c.give_all-then-is_some.ensures.met.meets.taken)

pub returns-else-is_some-clause-nothing : goal.returns-else-is_some-clause-nothing
returns-else-is_some-clause-nothing g c =
    let a = c.args.self.now in let y = g.S.Sections.system c.args.sections.now in let tree = g.S.Sections.tree c.args.sections.now in let walk = g.S.Sections.walk c.args.sections.now in let b = g.B.Board.shows c.args.board.now in
    let rests : (see walk a).phase ≡ Resting = (λ i. phase_at walk (c.if-self.false i) (none_of a.place (sym c.is_some.ensures ∙ c.if-is_some.false) i) a.readied) in
    let empty = subst (Place (world y) (program_at y tree a) (Reaches y) (IsGood y) (see walk a) b) rests c.requires.met.meets.place in
    no_held b.held (sym empty ∙ c.requires.met.meets.taken)

pub returns-then-is_some-clause-stays : goal.returns-then-is_some-clause-stays
returns-then-is_some-clause-stays g c = g.met.B.Board.stays_on c.args.board.now c.drop_attempt.new.board c.give_all-then-is_some.new.board c.drop_attempt.ensures.stays c.give_all-then-is_some.ensures.stays

pub returns-else-is_some-clause-stays : goal.returns-else-is_some-clause-stays
returns-else-is_some-clause-stays g c = g.met.B.Board.stays_same c.args.board.now
