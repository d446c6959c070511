use Rattle.std.proofs.Common.{map, ap, ◌∙◌, take_all}
use Rattle.pgo_base.specs.View.{data_of}
use Rattle.pgo_sets.proofs.choice.function_choices.Goals as goal

pub returns : goal.returns
returns c = c.loop-k.invariant ∙ ap (map (λ v. (data_of v, c.args.members.now))) (take_all c.loop-k.k-index c.args.domain.now c.loop-k-test.false)
