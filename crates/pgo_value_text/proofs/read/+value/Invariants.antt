-- What the loops keep: what is left to read gives the same. Each call is of less depth, or of a smaller part.
use Rattle.std.proofs.Common.{◌≡◌, ◌+◌, ◌-◌, ◌*◌, map}
use Rattle.std.specs.Prelude.{codes}
use Rattle.pgo_base.specs.View.{data_of, pair_of}
use Rattle.pgo_value_text.specs.Reading as spec
use Rattle.pgo_value_text.proofs.read.+value.Given as goal

abbrev pub invariant-some_values-loop-turn : goal.invariant-some_values-loop-turn
invariant-some_values-loop-turn l =
    spec.parted (codes ",") (spec.spaced (spec.value l.depth)) l.fn.cursor
    ≡ spec.followed (codes ",") (spec.spaced (spec.value l.depth)) (l._turn-end - l._turn) (map data_of l.values.items) l.cursor

abbrev pub invariant-pairs-loop-turn : goal.invariant-pairs-loop-turn
invariant-pairs-loop-turn l =
    spec.pairs_in l.form (spec.value l.depth) l.fn.cursor
    ≡ spec.followed l.word (spec.pair_in l.form (spec.value l.depth)) (l._turn-end - l._turn) (map pair_of l.pairs.items) l.cursor

abbrev pub decreases-value : goal.decreases-value
decreases-value l = 8 * l.depth

abbrev pub decreases-spaced_value : goal.decreases-spaced_value
decreases-spaced_value l = 8 * l.depth + 1

abbrev pub decreases-some_values : goal.decreases-some_values
decreases-some_values l = 8 * l.depth + 2

abbrev pub decreases-values : goal.decreases-values
decreases-values l = 8 * l.depth + 3

abbrev pub decreases-set : goal.decreases-set
decreases-set l = 8 * l.depth + 4

abbrev pub decreases-tuple : goal.decreases-tuple
decreases-tuple l = 8 * l.depth + 4

abbrev pub decreases-pair : goal.decreases-pair
decreases-pair l = 8 * l.depth + 2

abbrev pub decreases-pairs : goal.decreases-pairs
decreases-pairs l = 8 * l.depth + 3

abbrev pub decreases-record : goal.decreases-record
decreases-record l = 8 * l.depth + 4

abbrev pub decreases-function : goal.decreases-function
decreases-function l = 8 * l.depth + 4
