-- What the loops keep: what is written and what is left to write are the whole.
use Rattle.std.proofs.Common.{◌≡◌, ◌+◌, ◌*◌, ◌++◌, map, drop}
use Rattle.std.specs.Prelude.{codes}
use Rattle.pgo_base.specs.PairsView.{all_pairs}
use Rattle.pgo_base.specs.Size.{depth, members_size, graph_size}
use Rattle.pgo_base.specs.View.{data_of, pair_of}
use Rattle.pgo_model.specs.ValueText.{value_text}
use Rattle.pgo_value_text.specs.Writing.{parts_text, between, pair_text}
use Rattle.pgo_value_text.proofs.write.+push.Given as goal

abbrev pub invariant-push_set-loop-i : goal.invariant-push_set-loop-i
invariant-push_set-loop-i l =
    l.bytes.items ++ parts_text (codes ", ") value_text l.i (map data_of (drop l.i l.members))
    ≡ l.initial.bytes.items ++ parts_text (codes ", ") value_text 0 (map data_of l.members)

abbrev pub invariant-push_pairs-loop-i : goal.invariant-push_pairs-loop-i
invariant-push_pairs-loop-i l =
    l.bytes.items ++ parts_text (between l.form) (pair_text l.form) l.i (map pair_of (drop l.i (all_pairs l.list)))
    ≡ l.initial.bytes.items ++ parts_text (between l.form) (pair_text l.form) 0 (map pair_of (all_pairs l.list))

abbrev pub decreases-push_value : goal.decreases-push_value
decreases-push_value l = 4 * depth (data_of l.value.now)

abbrev pub decreases-push_set : goal.decreases-push_set
decreases-push_set l = 4 * members_size (map data_of l.members.now) + 1

abbrev pub decreases-push_function : goal.decreases-push_function
decreases-push_function l = 4 * graph_size (map pair_of (all_pairs l.list)) + 3

abbrev pub decreases-push_pairs : goal.decreases-push_pairs
decreases-push_pairs l = 4 * graph_size (map pair_of (all_pairs l.list)) + 2

abbrev pub decreases-push_key : goal.decreases-push_key
decreases-push_key l = 4 * depth (data_of l.key.now) + 1
