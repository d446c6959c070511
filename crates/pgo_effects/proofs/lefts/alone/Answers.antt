use Rattle.pgo_base.specs.ExprView.{tree}
use Rattle.pgo_effects.proofs.LeftLaws.{one_alone, not_alone}
use Rattle.pgo_effects.proofs.lefts.alone.Goals as goal

pub returns-in-None : goal.returns-in-None
returns-in-None c = one_alone (tree c.args.e.now) c.args.rest.now c.in-None.ensures.cases

pub returns-in-Some : goal.returns-in-Some
returns-in-Some c = not_alone (tree c.args.e.now) c.args.rest.now _ _ c.in-Some.ensures.cases.0
