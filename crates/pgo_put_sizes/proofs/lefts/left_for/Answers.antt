use Rattle.pgo_base.specs.ExprView.{tree}
use Rattle.pgo_put_sizes.proofs.LeftLaws.{one_spelled}
use Rattle.pgo_put_sizes.proofs.lefts.left_for.Goals as goal

pub returns-in-Some-head_of : goal.returns-in-Some-head_of
returns-in-Some-head_of c = λ ls. one_spelled c.args.es.now ls c.args.x.now c.in-Some-head_of.name.now (tree c.in-Some.e.now) c.in-Some.ensures c.in-Some-head_of.ensures
