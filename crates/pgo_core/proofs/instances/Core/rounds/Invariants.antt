use Rattle.std.proofs.Common.{ℕ, List}
use Rattle.pgo_core.specs.Instances.{Safe, IsSame, StandsAt, turns_left}
use Rattle.pgo_core.proofs.RoundTurns.{RoundsSoFar}
use Rattle.pgo_core.proofs.instances.Core.rounds.Given as goal

abbrev pub invariant-loop : goal.invariant-loop
invariant-loop g l = record { safe : Safe l.self; same : IsSame l.fn.self l.self; stands : (before : List ℕ) → StandsAt before l.fn.self → RoundsSoFar before l.self }

abbrev pub decreases-loop : goal.decreases-loop
decreases-loop g l = turns_left l.self
