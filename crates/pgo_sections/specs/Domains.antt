-- Which variables code uses, and how: code that changes a global that is bound by element by its elements alone, so that its
-- domain stays, and code that reads and writes none but given globals.
use Rattle.std.specs.Prelude.{◌≡◌, ℕ, Bool, true, false, List, Option, Some, None}
use Rattle.pgo_base.specs.Data.{Data}
use Rattle.pgo_base.specs.Lookup.{Name, same_name, find, Vars}
use Rattle.pgo_model.specs.Machine.{nth}
use Rattle.pgo_model.specs.System.{Touched}
use Rattle.pgo_model.specs.Variables.{IsFunctionOn}
use Rattle.pgo_model.specs.Written.{pc}
use Rattle.pgo_model.specs.Names.{is_among}
use Rattle.pgo_sections.specs.Code.{Place, Whole, Own, variable_of, Code, Empty, Skip, Let, Pick, Become, Set, Await, Assert, Print, If, Either, Seq, Goto, Yield, Read, Write, Codes, no_codes, more_codes}
use Rattle.pgo_sections.specs.Context.{Context}

-- each place that is assigned in the code meets P, and each mapped parameter that is read or written, with the name of its index,
-- meets M
module _ (P : Place → Type 0) (M : Name → Option Name → Type 0) where
  abbrev mutual
    pub Uses : Code → Type 0
    Uses Empty = Unit {0}
    Uses Skip = Unit {0}
    Uses (Let b w e c) = Uses c
    Uses (Pick b w e c) = Uses c
    Uses (Become p w) = P p
    Uses (Set b p e) = P p
    Uses (Await e) = Unit {0}
    Uses (Assert e) = Unit {0}
    Uses (Print e) = Unit {0}
    Uses (If e a b) = Uses a × Uses b
    Uses (Either cs) = AllUse cs
    Uses (Seq a b) = Uses a × Uses b
    Uses (Goto l) = Unit {0}
    Uses (Yield e) = Unit {0}
    Uses (Read w g i block c) = M g i × Uses c
    Uses (Write g i w block) = M g i

    pub AllUse : Codes → Type 0
    AllUse no_codes = Unit {0}
    AllUse (more_codes c cs) = Uses c × AllUse cs

-- by_element: which globals are bound by element. A mapped parameter of such a global has an index
abbrev pub HasIndex : (Name → Bool) → Name → Option Name → Type 0
HasIndex by_element g None = by_element g ≡ false
HasIndex by_element g (Some i) = Unit {0}

-- the code changes these globals by their elements alone
abbrev pub ByElements : (Name → Bool) → Code → Type 0
ByElements by_element c = Uses (λ p. by_element (variable_of p) ≡ false) (HasIndex by_element) c

-- where a global that is bound by element has changed so, it has the domain of its function at the start
abbrev pub HaveDomains : Context → Vars → Type 0
HaveDomains k ch =
    (g : Name) (ids : List Data) (v : Data) → k.by_element g ≡ true → IsFunctionOn ids (find g k.start) → find g ch ≡ Some v → IsFunctionOn ids (Some v)

-- a variable that a section can't give another domain: `pc`, one that is no global, or a global that is bound by element
pub data KeepsDomain (k : Context) (x : Name) : Type 0 where
  place : same_name x pc ≡ true → KeepsDomain k x
  own : is_among x k.globals ≡ false → KeepsDomain k x
  elements : k.by_element x ≡ true → KeepsDomain k x

-- a place is one of these globals as a whole, or no global
abbrev pub PlaceIn : Context → List Name → Place → Type 0
PlaceIn k gs (Whole g) = (is_among g gs ≡ true) × (k.by_element g ≡ false)
PlaceIn k gs (Own x) = Unit {0}

-- code whose parameters are of these globals alone
pub record UsesOnly (k : Context) (gs : List Name) (c : Code) : Type 0 where
  pub places : (x : Name) (p : Place) → find x k.places ≡ Some p → PlaceIn k gs p
  pub code : Uses (PlaceIn k gs) (λ g i. is_among g gs ≡ true) c

-- a global as a whole has no index; one that is bound by element has one in its domain
abbrev pub IsPart : Context → Name → Option Data → Type 0
IsPart k g None = k.by_element g ≡ false
IsPart k g (Some i) =
    (k.by_element g ≡ true) × ((ids : List Data) → IsFunctionOn ids (find g k.start) → (n : ℕ) × (nth ids n ≡ Some i))

-- a read or a write of one of these globals
abbrev pub IsEvent : Context → List Name → Touched → Type 0
IsEvent k gs c = (is_among c.0 gs ≡ true) × IsPart k c.0 c.1
