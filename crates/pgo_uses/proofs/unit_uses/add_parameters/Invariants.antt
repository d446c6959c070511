-- What the loop keeps: what is made and what is left are the whole.
use Rattle.std.proofs.Common.{◌≡◌, ◌++◌, drop}
use Rattle.pgo_uses.specs.Scopes.{row_names}
use Rattle.pgo_uses.specs.AllUses.{parameter_uses, parameter_names}
use Rattle.pgo_uses.proofs.unit_uses.add_parameters.Given as goal

abbrev pub invariant-loop-p : goal.invariant-loop-p
invariant-loop-p l =
    (l.out.items ++ parameter_uses (row_names l.names) l.around (drop l.p-index l.list)
    ≡ l.initial.out.items ++ parameter_uses (row_names l.initial.names) l.around l.list)
    × (row_names l.names ++ parameter_names (drop l.p-index l.list) ≡ row_names l.initial.names ++ parameter_names l.list)
