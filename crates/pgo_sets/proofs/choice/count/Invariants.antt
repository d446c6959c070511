use Rattle.std.proofs.Common.{◌≡◌, ◌*◌, ◌-◌, ◌^◌, ◌≤◌, min, map, drop}
use Rattle.pgo_model.specs.FunctionSets.{choice_count}
use Rattle.pgo_sets.specs.Choices.{members_in}
use Rattle.pgo_sets.proofs.choice.count.Given as goal

abbrev pub invariant-loop-c : goal.invariant-loop-c
invariant-loop-c l = (l.count ≤ 2 ^ 64 - 1) × (min (choice_count (map members_in l.choices)) (2 ^ 64 - 1) ≡ min (l.count * choice_count (map members_in (drop l.c-index l.choices))) (2 ^ 64 - 1))
