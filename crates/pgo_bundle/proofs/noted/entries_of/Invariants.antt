use Rattle.std.proofs.Common.{◌≡◌, ◌++◌, map}
use Rattle.pgo_model.specs.LogView.{entry_view}
use Rattle.pgo_bundle.specs.View.{logged_entry_view}
use Rattle.pgo_bundle.proofs.noted.entries_of.Given as goal

abbrev pub invariant-loop-e : goal.invariant-loop-e
invariant-loop-e l = map entry_view l.list ++ map (λ e. e.entry) (map logged_entry_view l.e-iterator.rest.items) ≡ map (λ e. e.entry) (map logged_entry_view l.fn.entries)
