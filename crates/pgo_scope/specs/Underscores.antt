-- Rule 8: an identifier holds `__`. Names that the translation makes are told from others by it.
use Rattle.std.specs.Prelude.{Bool, false, ◌&&◌, ◌||◌, nat_eq, List, [], ◌∷◌, ◌++◌, flat_map}
use Rattle.pgo_base.specs.Lookup.{Name}
use Rattle.pgo_syntax.specs.declared.name.PlacedName.{PlacedName}
use Rattle.pgo_syntax.specs.declared.spec.Spec.{Spec}
use Rattle.pgo_uses.specs.declared.uses.Use.{Use}
use Rattle.pgo_uses.specs.Heads.{head_names}
use Rattle.pgo_uses.specs.AllUses.{all_uses}
use Rattle.pgo_scope.specs.declared.errors.ScopeError.TheVariants as errors
use Rattle.pgo_scope.specs.declared.finding.Finding.{Finding}
use Rattle.pgo_scope.specs.Findings.{found_if}

-- two `_`, one behind the other
abbrev pub has_double : Name → Bool
has_double [] = false
has_double (b ∷ []) = false
has_double (b ∷ c ∷ cs) = (nat_eq b 95 && nat_eq c 95) || has_double (c ∷ cs)

abbrev pub double_use : Use → List Finding
double_use u = found_if (has_double u.name) u.around.place (errors.DoubleUnderscore u.name)

abbrev pub double_name : PlacedName → List Finding
double_name x = found_if (has_double x.name) x.place (errors.DoubleUnderscore x.name)

-- at one place the name that is declared there comes before those in its expressions
abbrev pub double_underscores : Spec → List Finding
double_underscores s = flat_map double_name (head_names s) ++ flat_map double_use (all_uses s)
