-- When the expansion of a section is named as the module asks.
use Rattle.std.specs.Prelude.{◌≡◌, true, List, [], Some}
use Rattle.pgo_base.specs.Lookup.{Name, find}
use Rattle.pgo_syntax.specs.declared.spec.Spec.{Spec}
use Rattle.pgo_bound.specs.State.{variables_of}
use Rattle.pgo_model.specs.Names.{is_among}
use Rattle.pgo_sections.specs.Code.{Place, variable_of, Code}
use Rattle.pgo_sections.specs.Expand.{expansion}
use Rattle.pgo_sections.specs.WellFormed.{PlainCode}
use Rattle.pgo_translate.specs.ModuleOf.{declared}
use Rattle.pgo_translate.specs.Premises.{ModuleNames, TreeNamed, taken_names}

-- what names stand for are variables
abbrev pub PlacesAmong : Spec → List (Name × Place) → Type 0
PlacesAmong s ps = (x : Name) (p : Place) → find x ps ≡ Some p → is_among (variable_of p) (variables_of s) ≡ true

abbrev pub TreesAreNamed : Type 0
TreesAreNamed =
    (s : Spec) (ps : List (Name × Place)) (c : Code) → ModuleNames s → PlacesAmong s ps → PlainCode (taken_names s) (declared s.globals) ps [] c
    → TreeNamed s (expansion (variables_of s) ps c)
