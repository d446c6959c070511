-- What the loop keeps: the entries that are left lead to the same state.
use Rattle.std.proofs.Common.{◌≡◌, map, drop}
use Rattle.pgo_bundle.specs.View.{logged_entry_view}
use Rattle.pgo_show_text.specs.Facts as spec
use Rattle.pgo_show_text.proofs.places.behind_all.Given as goal

abbrev pub invariant-loop-logged : goal.invariant-loop-logged
invariant-loop-logged l =
    spec.behind_all l.start (map (λ e. e.entry) (map logged_entry_view l.entries))
    ≡ spec.behind_all l.state (map (λ e. e.entry) (map logged_entry_view (drop l.logged-index l.entries)))
