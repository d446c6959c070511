-- The newest definition of a name.
use Rattle.std.specs.Prelude.{◌≡◌, true, List, [], ◌∷◌, map, take, Option, Some, None}
use Rattle.pgo_base.specs.Data.{Data}
use Rattle.pgo_base.specs.declared.module.Defined as base_defined
use Rattle.pgo_base.specs.Lookup.{Name, Vars, same_name}
use Rattle.pgo_model.specs.ModuleView.{defined_view}
use Rattle.pgo_model.specs.Val.{Defined, Given, Means, call_def, meaning_of, meanings, default_meaning}
use Rattle.pgo_eval.specs.declared.definitions.Found.{Found}

abbrev pub name_of : Defined → Name
name_of (Given x v) = x
name_of (Means x ps e) = x

-- what the name means is what d means behind those before it
pub record IsNewest (x : Name) (ds before : List Defined) (d : Defined) : Type 0 where
  pub named : same_name x (name_of d) ≡ true
  pub means : (args : List Data) (now : Vars) (next : Option Vars) → call_def x args (meanings ds now next) ≡ call_def x args (meaning_of now next (meanings before now next) d)

-- what a search for the name finds among ds, which all the definitions begin with; where it finds none, the name means what it does without definitions
abbrev pub IsFound : Name → List base_defined.Defined → List base_defined.Defined → Option Found → Type 0
IsFound x all ds None = (args : List Data) (now : Vars) (next : Option Vars) → call_def x args (meanings (map defined_view ds) now next) ≡ call_def x args (default_meaning ∷ [])
IsFound x all ds (Some f) = IsNewest x (map defined_view ds) (map defined_view (take f.before all)) (defined_view f.definition.now)
