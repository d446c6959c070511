-- An attempt, at its first event.
use Rattle.std.proofs.Common.{ap, ◌∙◌}
use Rattle.pgo_workers.specs.Walk.{settled}
use Rattle.pgo_places.proofs.program.begun.Goals as goal

pub returns : goal.returns
returns c = c.in_ok-settle.ensures.walk ∙ ap settled c.in_ok-attempt.ensures
