use Rattle.std.proofs.Common.{◌≡◌, ◌<◌, ℕ, true, take}
use Rattle.pgo_model.specs.Core.{is_listed}
use Rattle.pgo_execute.proofs.run.numbers_are_short.Given as goal

abbrev pub invariant-loop-pair : goal.invariant-loop-pair
invariant-loop-pair l = (r o : ℕ) → is_listed (take l.pair-index l.pair-items) r o ≡ true → o < 4294967296
