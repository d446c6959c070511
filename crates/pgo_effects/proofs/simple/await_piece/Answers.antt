use Rattle.pgo_sections.specs.Code.{Await}
use Rattle.pgo_effects.proofs.simple.await_piece.Goals as goal

pub returns : goal.returns
returns c = λ s. c.in_ok-effects.ensures (λ e. Await e)
