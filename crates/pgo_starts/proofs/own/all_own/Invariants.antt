use Rattle.std.proofs.Common.{◌≡◌, ℕ, length, Some}
use Rattle.pgo_base.specs.Lookup.{Vars}
use Rattle.pgo_model.specs.Machine.{nth}
use Rattle.pgo_resource.specs.Layouts.{layout_view}
use Rattle.pgo_workers.specs.Worlds.{own_in}
use Rattle.pgo_starts.proofs.own.all_own.Given as goal

abbrev pub invariant-loop-k : goal.invariant-loop-k
invariant-loop-k l =
    (length l.list.items ≡ l.k) × ((k : ℕ) (o : Vars) → nth l.list.items k ≡ Some o → o ≡ own_in (layout_view l.layout) l.s k)
