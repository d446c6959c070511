use Rattle.std.proofs.Common.{◌≡◌, ◌≤◌, ◌+◌, ◌^◌, ◌-◌, drop, map, min}
use Rattle.pgo_bundle.specs.Places as spec
use Rattle.pgo_bundle.specs.View.{account_view}
use Rattle.pgo_bundle.proofs.places.accounts_size.Given as goal

abbrev pub invariant-loop-a : goal.invariant-loop-a
invariant-loop-a l =
    (min (l.size + spec.accounts_size (map account_view (drop l.a-index l.accounts))) (2 ^ 64 - 1) ≡ min (spec.accounts_size (map account_view l.accounts)) (2 ^ 64 - 1))
    × (l.size ≤ 2 ^ 64 - 1)
