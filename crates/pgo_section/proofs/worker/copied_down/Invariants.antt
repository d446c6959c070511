use Rattle.std.proofs.Common.{◌≡◌, ◌<◌, ℕ, true, take}
use Rattle.pgo_model.specs.Core.{is_listed}
use Rattle.pgo_section.proofs.worker.copied_down.Given as goal

abbrev pub invariant-loop-pair : goal.invariant-loop-pair
invariant-loop-pair l = record {
  same : l.list.items ≡ take l.pair-index l.pairs;
  listed : (r n : ℕ) → is_listed l.list.items r n ≡ true → n < 18446744073709551615;
}
