use Rattle.std.specs.Prelude.{option_map}
use Rattle.pgo_base.specs.ExprView.{tree}
use Rattle.pgo_effects.proofs.LeftLaws.{none_at_all, first_alone}
use Rattle.pgo_effects.proofs.lefts.only.Goals as goal

pub returns-in-None : goal.returns-in-None
returns-in-None c = none_at_all c.as_slice.result.now c.args.list.now c.in-None.ensures.cases c.as_slice.ensures

pub returns-in-Some : goal.returns-in-Some
returns-in-Some c =
    first_alone (option_map (λ e. tree e.now) c.alone.result) c.as_slice.result.now c.args.list.now c.in-Some.e.now c.in-Some.rest.now c.in-Some.ensures.cases.0 c.as_slice.ensures c.alone.ensures
