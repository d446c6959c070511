-- Rule 4: a global's name stands where it is not a `ref` argument or in a mapping clause, and means the global.
use Rattle.std.specs.Prelude.{Bool, not, ◌&&◌, false, List, flat_map}
use Rattle.pgo_syntax.specs.declared.spec.Spec.{Spec}
use Rattle.pgo_uses.specs.declared.tables.Tables.{Tables}
use Rattle.pgo_uses.specs.declared.uses.Form.{Form}
use Rattle.pgo_uses.specs.declared.uses.Form.TheVariants as forms
use Rattle.pgo_uses.specs.declared.uses.Use.{Use}
use Rattle.pgo_uses.specs.Names.{has_row}
use Rattle.pgo_uses.specs.Tables.{tables_of}
use Rattle.pgo_uses.specs.AllUses.{all_uses}
use Rattle.pgo_scope.specs.declared.errors.ScopeError.TheVariants as errors
use Rattle.pgo_scope.specs.declared.finding.Finding.{Finding}
use Rattle.pgo_scope.specs.Findings.{found_if}

-- a name that nothing around it gives a meaning; as a label or behind `goto` it means the label
abbrev pub is_global : Tables → Use → Form → Bool
is_global ts u forms.Alone = not u.inner && has_row u.name ts.globals
is_global ts u (forms.Applied n) = not u.inner && has_row u.name ts.globals
is_global ts u (forms.Assigned s) = not u.inner && has_row u.name ts.globals
is_global ts u (forms.Called es) = false
is_global ts u forms.Bound = false
is_global ts u forms.Named = false
is_global ts u forms.Field = false
is_global ts u forms.Label = false
is_global ts u forms.Target = false

abbrev pub global_finding : Tables → Use → List Finding
global_finding ts u = found_if (is_global ts u u.form) u.around.place (errors.GlobalInArchetype u.name)

abbrev pub globals_inside : Spec → List Finding
globals_inside s = flat_map (global_finding (tables_of s)) (all_uses s)
