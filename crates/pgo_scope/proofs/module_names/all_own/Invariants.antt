-- What the loop keeps: what is made and what is left are the whole.
use Rattle.std.proofs.Common.{◌≡◌, ◌++◌, map, drop}
use Rattle.pgo_scope.specs.Clash.{own_rows}
use Rattle.pgo_scope.specs.OwnView.{archetypes_in, lists_in}
use Rattle.pgo_scope.proofs.module_names.all_own.Given as goal

abbrev pub invariant-loop-i : goal.invariant-loop-i
invariant-loop-i l =
    (l.archetypes ++ archetypes_in (own_rows l.i (drop l.i l.list)) ≡ archetypes_in (own_rows 0 l.list))
    × (map (λ v. v.items) l.lists.items ++ lists_in (own_rows l.i (drop l.i l.list)) ≡ lists_in (own_rows 0 l.list))
