use Rattle.std.proofs.Common.{◌≡◌, ◌^◌}
use Rattle.pgo_sets.proofs.powers.count_subsets.Given as goal

abbrev pub invariant-loop : goal.invariant-loop
invariant-loop l = l.count ≡ 2 ^ l.index
