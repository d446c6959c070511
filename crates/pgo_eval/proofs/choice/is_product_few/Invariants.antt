use Rattle.std.proofs.Common.{◌≡◌, ◌≤◌, ◌*◌, drop}
use Rattle.std.specs.Prelude.{false}
use Rattle.pgo_model.specs.FunctionSets.{choice_count}
use Rattle.pgo_eval.specs.Choices.{has_empty, sets_of}
use Rattle.pgo_eval.proofs.choice.is_product_few.Given as goal

abbrev pub invariant-loop-b : goal.invariant-loop-b
invariant-loop-b l = record {
  some : 1 ≤ l.count;
  few : l.count ≤ 65536;
  full : has_empty (drop l.b-index l.bound) ≡ false;
  all : choice_count (sets_of l.bound) ≡ l.count * choice_count (sets_of (drop l.b-index l.bound));
}
