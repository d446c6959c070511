use Rattle.std.proofs.Common.{◌≡◌, ◌+◌, ◌++◌, List, vec_len, map, take, drop}
use Rattle.pgo_base.specs.Data.{Data}
use Rattle.pgo_base.specs.PairsView.{all_pairs}
use Rattle.pgo_base.specs.View.{pair_of, value_of}
use Rattle.pgo_model.specs.Operators.{sequence_at}
use Rattle.pgo_sets.proofs.sequences.add_numbered.Given as goal

abbrev pub invariant-loop-i : goal.invariant-loop-i
invariant-loop-i l = (vec_len l.all ≡ vec_len l.initial.all + l.i) × ((vs : List Data) → map pair_of l.initial.all.items ≡ sequence_at 1 vs → map pair_of l.all.items ≡ sequence_at 1 (vs ++ take l.i (drop l.from (map value_of (all_pairs l.pairs)))))
