use Rattle.std.proofs.Common.{slice_get, ap, sym, ◌∙◌}
use Rattle.pgo_base.specs.Lookup.{find}
use Rattle.pgo_base.specs.States.{first_place}
use Rattle.pgo_base.proofs.NamesOnce.{first_at, found_at, named_at}
use Rattle.pgo_base.proofs.scope.State.find_at.Goals as goal

pub returns-then-is-clause-value : goal.returns-then-is-clause-value
returns-then-is-clause-value c v h =
    ap (find c.args.name.now) (sym c.self.view_is)
    ∙ found_at c.self.inside.once c.self.inside.list.items c.args.place c.in-Some.p.now c.args.name.now c.self.invariant c.if-not-self.false (ap (λ vs. slice_get vs c.args.place) (sym c.as_slice.ensures.value) ∙ sym c.in-Some.ensures) (sym c.is.ensures ∙ c.if-is.true)
    ∙ h

pub returns-then-is-clause-place : goal.returns-then-is-clause-place
returns-then-is-clause-place c =
    ap (λ vs. slice_get vs c.args.place) (sym c.self.view_is)
    ∙ named_at c.self.inside.list.items c.args.place c.in-Some.p.now c.args.name.now (ap (λ vs. slice_get vs c.args.place) (sym c.as_slice.ensures.value) ∙ sym c.in-Some.ensures) (sym c.is.ensures ∙ c.if-is.true)

pub returns-then-is-clause-first : goal.returns-then-is-clause-first
returns-then-is-clause-first c =
    ap (first_place c.args.name.now) (sym c.self.view_is)
    ∙ first_at c.self.inside.once c.self.inside.list.items c.args.place c.in-Some.p.now c.args.name.now c.self.invariant c.if-not-self.false (ap (λ vs. slice_get vs c.args.place) (sym c.as_slice.ensures.value) ∙ sym c.in-Some.ensures) (sym c.is.ensures ∙ c.if-is.true)
