use Rattle.pgo_sections.specs.Code.{Assert}
use Rattle.pgo_effects.proofs.simple.assert_piece.Goals as goal

pub returns : goal.returns
returns c = λ s. c.in_ok-effects.ensures (λ e. Assert e)
