use Rattle.std.proofs.Common.{map, ap, ◌∙◌}
use Rattle.pgo_scope.specs.UnitRows.{own_rows, assignable_rows, macro_parameter_rows, see_kinds, kinds_of}
use Rattle.pgo_scope.proofs.Declaring.{own_found, assignable_found, mapped_found, params_found}
use Rattle.pgo_scope.proofs.units.names_of_units.Goals as goal

pub invariant_of-result : goal.invariant_of-result
invariant_of-result c =
    let s = c.args.s.now in record {
      own_found = own_found c.in_ok-own.own.items s.archetypes (c.in_ok-own.ensures ∙ ap (map own_rows) c.as_slice-archetypes.ensures);
      assignable_found = assignable_found c.in_ok-assignable.assignable.items s.archetypes (c.in_ok-assignable.ensures ∙ ap (map assignable_rows) c.as_slice-archetypes.ensures);
      mapped_found = mapped_found (map see_kinds c.in_ok-mapped.mapped.items) s.processes s.archetypes (c.in_ok-mapped.ensures ∙ (λ i. map (kinds_of (c.as_slice.ensures i)) (c.as_slice-archetypes.ensures i)));
      params_found = params_found c.in_ok-params.params.items s.macros (c.in_ok-params.ensures ∙ ap (map macro_parameter_rows) c.as_slice-2.ensures);
    }
