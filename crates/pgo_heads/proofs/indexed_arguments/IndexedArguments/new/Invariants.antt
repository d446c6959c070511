-- What is known of the arguments, and what is left, are what all are found by.
use Rattle.std.proofs.Common.{◌≡◌, ℕ, map, drop}
use Rattle.std.specs.Prelude.{◌||◌}
use Rattle.pgo_base.specs.Lookup.{Name}
use Rattle.pgo_heads.specs.NameMaps.{has_name, has_number_in}
use Rattle.pgo_heads.specs.Refusals.{has_ref_to, has_ref_at, has_number}
use Rattle.pgo_heads.specs.Views.{handed_view}
use Rattle.pgo_heads.proofs.indexed_arguments.IndexedArguments.new.Given as goal

abbrev pub invariant-loop-h : goal.invariant-loop-h
invariant-loop-h l =
    ((n : Name) → has_name l.globals n || has_ref_to n (map handed_view (drop l.h-index l.list)) ≡ has_ref_to n (map handed_view l.list))
    × ((k : ℕ) → has_number_in l.globals_at k || has_ref_at k (map handed_view (drop l.h-index l.list)) ≡ has_ref_at k (map handed_view l.list))
    × ((k : ℕ) → has_number_in l.numbers k || has_number k (map handed_view (drop l.h-index l.list)) ≡ has_number k (map handed_view l.list))
