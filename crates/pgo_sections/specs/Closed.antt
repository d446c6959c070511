-- When definitions name no variable.
use Rattle.std.specs.Prelude.{◌≡◌, false, List, [], ◌∷◌, Option, None}
use Rattle.pgo_base.specs.Data.{Data}
use Rattle.pgo_base.specs.Lookup.{Name, Vars, find}
use Rattle.pgo_model.specs.Val.{Defined, Given, Means, meanings, call_def}
use Rattle.pgo_model.specs.Names.{is_among}
use Rattle.pgo_sections.specs.Plain.{Plain}

-- x is none of these variables
abbrev pub Apart : List Name → Name → Type 0
Apart vs x = is_among x vs ≡ false

abbrev pub IsClosed : List Name → Defined → Type 0
IsClosed vs (Given x v) = Unit {0}
IsClosed vs (Means x ps e) = Plain (Apart vs) (Apart vs) (λ y. Unit {0}) e

-- no body has a prime, or names a variable
abbrev pub AreClosed : List Name → List Defined → Type 0
AreClosed vs [] = Unit {0}
AreClosed vs (d ∷ ds) = IsClosed vs d × AreClosed vs ds

-- they mean the same over any state of these variables as over none
abbrev pub ClosedAlike : Type 0
ClosedAlike = (vs : List Name) (ds : List Defined) (s : Vars) (t : Option Vars) → AreClosed vs ds
    → ((x : Name) → is_among x vs ≡ false → find x s ≡ None)
    → (x : Name) (args : List Data) → call_def x args (meanings ds s t) ≡ call_def x args (meanings ds [] None)
