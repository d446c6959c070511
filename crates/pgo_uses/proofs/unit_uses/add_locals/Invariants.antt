-- What the loop keeps: what is made and what is left are the whole.
use Rattle.std.proofs.Common.{◌≡◌, ◌++◌, drop}
use Rattle.pgo_uses.specs.Scopes.{row_names}
use Rattle.pgo_uses.specs.AllUses.{local_uses, variable_names}
use Rattle.pgo_uses.proofs.unit_uses.add_locals.Given as goal

abbrev pub invariant-loop-d : goal.invariant-loop-d
invariant-loop-d l =
    (l.out.items ++ local_uses l.archetype (row_names l.names) l.around (drop l.d-index l.list)
    ≡ l.initial.out.items ++ local_uses l.archetype (row_names l.initial.names) l.around l.list)
    × (row_names l.names ++ variable_names (drop l.d-index l.list) ≡ row_names l.initial.names ++ variable_names l.list)
