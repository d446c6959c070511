-- What the expressions of a specification see, and what its variables start with.
use Rattle.std.specs.Prelude.{ℕ, Bool, true, false, nat_lt, if◌then◌else◌, List, [], ◌∷◌, ◌++◌, map, Option, Some, None, option_map, option_and_then}
use Rattle.std.specs.List.{filter_map}
use Rattle.pgo_base.specs.Data.{Data, model}
use Rattle.pgo_base.specs.Size.{depth}
use Rattle.pgo_base.specs.Tree.{Tree}
use Rattle.pgo_base.specs.ValueCode.{value_from}
use Rattle.pgo_base.specs.Lookup.{Name, Names, same_name}
use Rattle.pgo_base.specs.declared.module.Defined.{Defined}
use Rattle.pgo_base.specs.declared.module.Defined.TheVariants.{Given, Means}
use Rattle.pgo_model.specs.ModuleView.{defined_view}
use Rattle.pgo_model.specs.Operators.{members_of}
use Rattle.pgo_model.specs.Val.{Val}
use Rattle.pgo_model.specs.Written.{default_init_value, self_name}
use Rattle.pgo_syntax.specs.declared.name.PlacedName.{PlacedName}
use Rattle.pgo_syntax.specs.declared.declaration.Definition.{Definition}
use Rattle.pgo_syntax.specs.declared.binding.Origin.{Origin}
use Rattle.pgo_syntax.specs.declared.binding.Origin.TheVariants.{Equals, In}
use Rattle.pgo_syntax.specs.declared.spec.Spec.{Spec}
pub use Rattle.pgo_syntax.specs.Defines.{define_of}
use Rattle.pgo_syntax.specs.PlacedNames.{names_of}

-- what the last entry of the name has, and before where there is none
abbrev pub latest : {A : Type 0} → Name → Option A → List (Name × A) → Option A
latest x before [] = before
latest x before (p ∷ ps) = latest x (if same_name x p.0 then Some p.1 else before) ps

-- the value that a constant is given
abbrev pub given_value : List (Name × Data) → Name → Option Data
given_value consts c = latest c None consts

-- a declared constant with its value
abbrev pub given_constant : List (Name × Data) → PlacedName → Option Defined
given_constant consts c = option_map (λ v. Given c.name (value_from v)) (given_value consts c.name)

abbrev pub meant : Definition → Defined
meant d = Means d.name.name (names_of d.params) d.body

abbrev pub default_definition : Defined
default_definition = Given default_init_value (value_from (model default_init_value))

-- the constants in the order of declaration with their values, `defaultInitValue`, the module's definitions, and those
-- of `define`
abbrev pub defs_of : Spec → List (Name × Data) → List Defined
defs_of s consts =
    filter_map (given_constant consts) s.constants ++ (default_definition ∷ []) ++ map meant s.definitions ++ map meant (define_of s.define)

-- the value of an expression that sees these definitions and these names, and no variable
abbrev pub value_with : List Defined → Names → Tree → Option Data
value_with ds names e = Val (map defined_view ds) e names [] None

-- the value of an expression that sees the definitions alone
abbrev pub closed_value : List Defined → Tree → Option Data
closed_value ds e = value_with ds [] e

-- the value of an expression that sees `self` as this identifier besides
abbrev pub value_at : List Defined → Data → Tree → Option Data
value_at ds id e = value_with ds ((self_name, Some id) ∷ []) e

-- what a variable starts with: it is missing where an expression has no value, or no set as its value; the set behind
-- `\in` may be empty; else the variable begins with a value
pub data Start : Type 0 where
  Missing : Start
  Empty : Start
  Begins : Data → Start

-- `= e`: the value itself
abbrev pub start_of_value : Option Data → Start
start_of_value None = Missing
start_of_value (Some v) = Begins v

-- `\in e`: the least member, which is the first in value order
abbrev pub start_of_members : Option (List Data) → Start
start_of_members None = Missing
start_of_members (Some []) = Empty
start_of_members (Some (m ∷ ms)) = Begins m

abbrev pub default_start : Start
default_start = Begins (model default_init_value)

-- `\in e`, where e sees the definitions alone
abbrev pub start_in : List Defined → Tree → Start
start_in ds e = start_of_members (option_and_then members_of (closed_value ds e))

-- a global's start
abbrev pub global_start : List Defined → Option Origin → Start
global_start ds None = default_start
global_start ds (Some (Equals e)) = start_of_value (closed_value ds e)
global_start ds (Some (In e)) = start_in ds e

-- a local's start at an identifier; the set of its `\in` does not see `self`
abbrev pub local_start : List Defined → Option Origin → Data → Start
local_start ds None id = default_start
local_start ds (Some (Equals e)) id = start_of_value (value_at ds id e)
local_start ds (Some (In e)) id = start_in ds e

-- a value parameter's start at an identifier
abbrev pub argument_start : List Defined → Tree → Data → Start
argument_start ds e id = start_of_value (value_at ds id e)

-- the value that a variable begins with; `defaultInitValue` where there is none, which is refused
abbrev pub beginning : Start → Data
beginning (Begins v) = v
beginning Missing = model default_init_value
beginning Empty = model default_init_value

abbrev pub is_empty : Start → Bool
is_empty Empty = true
is_empty Missing = false
is_empty (Begins v) = false

-- there is no value, or one that is deeper than the limit
abbrev pub is_unset : ℕ → Start → Bool
is_unset limit Missing = true
is_unset limit Empty = false
is_unset limit (Begins v) = nat_lt limit (depth v)
