-- What is known of a name is what the globals from here on say of it.
use Rattle.std.proofs.Common.{◌≡◌, ◌≤◌, map, length, drop}
use Rattle.pgo_base.specs.Lookup.{Name}
use Rattle.pgo_heads.specs.NameMaps.{is_true_in}
use Rattle.pgo_heads.specs.Refusals.{names_no_elements}
use Rattle.pgo_heads.specs.Views.{global_view}
use Rattle.pgo_heads.proofs.named_globals.without_elements.Given as goal

abbrev pub invariant-loop-i : goal.invariant-loop-i
invariant-loop-i l =
    ((n : Name) → is_true_in l.known n ≡ names_no_elements (map global_view (drop l.i l.list)) n) × (l.i ≤ length l.list)

abbrev pub decreases-loop-i : goal.decreases-loop-i
decreases-loop-i l = l.i
