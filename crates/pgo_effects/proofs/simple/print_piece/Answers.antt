use Rattle.pgo_sections.specs.Code.{Print}
use Rattle.pgo_effects.proofs.simple.print_piece.Goals as goal

pub returns : goal.returns
returns c = λ s. c.in_ok-effects.ensures (λ e. Print e)
