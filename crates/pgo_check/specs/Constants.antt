-- Definitions that are the same in every state, and a list of definitions in which some of these are given by their values.
use Rattle.std.specs.Prelude.{◌≡◌, Bool, true, false, not, List, [], Option, Some, None}
use Rattle.pgo_base.specs.Data.{Data}
use Rattle.pgo_base.specs.Lookup.{Name, Names, Vars, find}
use Rattle.pgo_base.specs.Tree.{Tree, name, primed, call, unchanged}
use Rattle.pgo_model.specs.Val.{Defined, Given, Means, Val, call_def, meaning_of, meanings}
use Rattle.pgo_sections.specs.Plain.{Plain}

-- the name stands for the same in every state; `varies` tells the others
abbrev pub IsFixed : (Name → Bool) → Name → Type 0
IsFixed varies x = varies x ≡ false

abbrev pub IsAny : Name → Type 0
IsAny x = Unit {0}

-- the expression speaks of no state: it has no prime, and its names are fixed
abbrev pub IsConstant : (Name → Bool) → Tree → Type 0
IsConstant varies e = Plain (IsFixed varies) (IsFixed varies) IsAny e

-- the same of an expression apart from its operands
abbrev pub is_fixed : (Name → Bool) → Tree → Bool
is_fixed varies (name x) = not (varies x)
is_fixed varies (primed x) = false
is_fixed varies (call x ts) = not (varies x)
is_fixed varies (unchanged xs) = false
is_fixed varies _ = true

abbrev pub IsConstantDefinition : (Name → Bool) → Defined → Type 0
IsConstantDefinition varies (Given x v) = Unit {0}
IsConstantDefinition varies (Means x ps e) = IsConstant varies e

abbrev pub name_of : Defined → Name
name_of (Given x v) = x
name_of (Means x ps e) = x

-- the body has behind these definitions the value that it has where there are no variables
abbrev pub IsSameBody : List Defined → Vars → Option Vars → Defined → Type 0
IsSameBody before now next (Given x v) = Unit {0}
IsSameBody before now next (Means x ps e) = (names : Names) → Val before e names now next ≡ Val before e names [] None

-- where d's body has the same value in both, so has s's, and s means what d does
abbrev pub IsSame : List Defined → Defined → Defined → Type 0
IsSame before d s =
    (now : Vars) (next : Option Vars) → IsSameBody before now next d
    → IsSameBody before now next s × (meaning_of now next (meanings before now next) s ≡ meaning_of now next (meanings before now next) d)

-- the state has no other variables
abbrev pub IsOver : (Name → Bool) → Vars → Type 0
IsOver variables s = (x : Name) → variables x ≡ false → find x s ≡ None

-- in states over these variables what is made means what is written does, and what is fixed means there what it does where
-- there are no variables
pub record MeansSame (variables varies : Name → Bool) (made written : List Defined) : Type 0 where
  pub fixed : (x : Name) → IsFixed varies x → variables x ≡ false
  pub same : (now : Vars) (next : Option Vars) → IsOver variables now → meanings made now next ≡ meanings written now next
  pub calls : (now : Vars) (next : Option Vars) → IsOver variables now → (x : Name) (args : List Data) → IsFixed varies x → call_def x args (meanings made now next) ≡ call_def x args (meanings made [] None)
