use Rattle.std.proofs.Common.{◌≡◌, map, take}
use Rattle.pgo_base.specs.PairsView.{all_pairs}
use Rattle.pgo_base.specs.View.{data_of, key_of}
use Rattle.pgo_sets.proofs.functions.keys_of.Given as goal

abbrev pub invariant-loop-i : goal.invariant-loop-i
invariant-loop-i l = map data_of l.domain.items ≡ map key_of (take l.i (all_pairs l.pairs))
