use Rattle.std.proofs.Common.{◌++◌, ℕ, List, take}
use Rattle.pgo_core.specs.Instances.{Safe, IsSame, StandsAt}
use Rattle.pgo_core.proofs.instances.Core.run.Given as goal

abbrev pub invariant-loop-k : goal.invariant-loop-k
invariant-loop-k g l = record {
  safe : Safe l.self;
  same : IsSame l.fn.self l.self;
  stands : (before : List ℕ) → StandsAt before l.fn.self → StandsAt (before ++ take l.k-index l.turns) l.self;
}
