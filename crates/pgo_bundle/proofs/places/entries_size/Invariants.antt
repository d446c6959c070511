use Rattle.std.proofs.Common.{◌≡◌, ◌≤◌, ◌+◌, ◌^◌, ◌-◌, drop, map, min}
use Rattle.pgo_bundle.specs.Places as spec
use Rattle.pgo_bundle.specs.View.{logged_entry_view, version_view}
use Rattle.pgo_bundle.proofs.places.entries_size.Given as goal

abbrev pub invariant-loop-e : goal.invariant-loop-e
invariant-loop-e l =
    (min (l.size + spec.entries_size (version_view l.version) (map logged_entry_view (drop l.e-index l.entries))) (2 ^ 64 - 1) ≡ min (spec.entries_size (version_view l.version) (map logged_entry_view l.entries)) (2 ^ 64 - 1))
    × (l.size ≤ 2 ^ 64 - 1)
