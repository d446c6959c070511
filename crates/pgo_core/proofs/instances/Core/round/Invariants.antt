use Rattle.std.proofs.Common.{◌≡◌, ◌≤◌, ◌<◌, ◌+◌, ℕ, List, Some, length}
use Rattle.std.specs.Prelude.{IsSome}
use Rattle.pgo_model.specs.Machine.{nth}
use Rattle.pgo_section.specs.Sight.{end_of}
use Rattle.pgo_section.specs.declared.worker.Worker.{Worker}
use Rattle.pgo_core.specs.Instances.{Safe, IsSame, StandsAt, MadeFrom, workers_in, turns_left}
use Rattle.pgo_core.proofs.instances.Core.round.Given as goal

abbrev pub invariant-loop-k : goal.invariant-loop-k
invariant-loop-k g l = record {
  safe : Safe l.self;
  same : IsSame l.fn.self l.self;
  as_many : length (workers_in l.self) ≡ length (workers_in l.fn.self);
  few : l.made ≤ l.k;
  left : turns_left l.self + l.k ≤ turns_left l.fn.self;
  stands : (before : List ℕ) → StandsAt before l.fn.self → MadeFrom before 0 l.k l.made l.self;
  ended : l.made ≡ 0 → (j : ℕ) (w : Worker _) → j < l.k → nth (workers_in l.self) j ≡ Some w → IsSome (end_of w);
}
