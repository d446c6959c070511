use Rattle.std.proofs.Common.{◌∙◌}
use Rattle.pgo_effects.proofs.PieceLaws.{from_none}
use Rattle.pgo_effects.proofs.evaluate.evaluate_alone.Goals as goal

pub returns : goal.returns
returns c = λ f. c.in_ok-rest.ensures (λ e k. f e) ∙ from_none _ c.new-effects.ensures.items _
