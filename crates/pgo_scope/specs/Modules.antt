-- Rule 9: EXTENDS names another module than these.
use Rattle.std.specs.Prelude.{not, List, [], ◌∷◌, codes, flat_map}
use Rattle.pgo_base.specs.Lookup.{Name}
use Rattle.pgo_model.specs.Names.{is_among}
use Rattle.pgo_syntax.specs.declared.name.PlacedName.{PlacedName}
use Rattle.pgo_syntax.specs.declared.spec.Spec.{Spec}
use Rattle.pgo_scope.specs.declared.errors.ScopeError.TheVariants as errors
use Rattle.pgo_scope.specs.declared.finding.Finding.{Finding}
use Rattle.pgo_scope.specs.Findings.{found_if}

abbrev pub modules : List Name
modules = codes "Naturals" ∷ codes "Integers" ∷ codes "Sequences" ∷ codes "FiniteSets" ∷ codes "TLC" ∷ []

abbrev pub unknown_module : PlacedName → List Finding
unknown_module x = found_if (not (is_among x.name modules)) x.place (errors.UnknownModule x.name)

abbrev pub unknown_modules : Spec → List Finding
unknown_modules s = flat_map unknown_module s.extends
