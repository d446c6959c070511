use Rattle.std.proofs.Common.{◌∙◌}
use Rattle.pgo_base.specs.Data.{function, pairs}
use Rattle.pgo_model.specs.Operators.{built}
use Rattle.pgo_sets.proofs.changed.if_value.Goals as goal

pub returns : goal.returns
returns c = c.tested.ensures ∙ (λ i. built (c.len-count.ensures i) (function (pairs c.args.f)))
