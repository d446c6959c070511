-- What the loop keeps: what is made and what is left are the whole.
use Rattle.std.proofs.Common.{◌≡◌, ◌++◌, map, drop}
use Rattle.pgo_uses.specs.AllUses.{names_of}
use Rattle.pgo_scope.specs.declared.binders.Binders.{Binders}
use Rattle.pgo_scope.specs.Binders.{some_binds, is_captured}
use Rattle.pgo_scope.proofs.captures.handed_places.Given as goal

abbrev pub invariant-loop-p : goal.invariant-loop-p
invariant-loop-p l = (b : Binders) → map (some_binds b) l.all.items ++ map (is_captured b l.found l.own) (names_of (drop l.p-index l.params)) ≡ map (is_captured b l.found l.own) (names_of l.params)
