-- What must hold of the names in code, so that its expansion says the same.
use Rattle.std.specs.Prelude.{◌≡◌, ℕ, true, false, List, [], ◌∷◌, Option, Some, None, ◌⊎◌}
use Rattle.pgo_base.specs.Lookup.{Name, same_name, find}
use Rattle.pgo_base.specs.Tree.{Tree}
use Rattle.pgo_model.specs.Written.{self_name, made}
use Rattle.pgo_sections.specs.Code.{Place, Code, Empty, Skip, Let, Pick, Become, Set, Await, Assert, Print, If, Either, Seq, Goto, Yield, Read, Write, Codes, no_codes, more_codes, content_name, content_places, value_name}
use Rattle.pgo_model.specs.Names.{is_among}
use Rattle.pgo_sections.specs.Plain.{Plain}

-- x is no name that the expansion makes
abbrev pub NotMade : Name → Type 0
NotMade x = (b : Name) (m : ℕ) → same_name x (made b m) ≡ false

-- an index stands under a name that the code bound
abbrev pub KnownIndex : List Name → Option Name → Type 0
KnownIndex ws None = Unit {0}
KnownIndex ws (Some i) = is_among i ws ≡ true

-- vs: the written names of the variables
module _ (vs : List Name) where
  -- what an expression may bind: it hides no name that the expansion puts into it
  abbrev pub Bindable : Name → Type 0
  Bindable x = NotMade x × (is_among x vs ≡ false) × (same_name x self_name ≡ false)

  -- what may stand alone, where the code bound the names of ws: one of those, a parameter or local, or no variable
  abbrev pub Alone : List (Name × Place) → List Name → Name → Type 0
  Alone places ws x =
      NotMade x × ((is_among x ws ≡ true) ⊎ (((p : Place) × (find x places ≡ Some p)) ⊎ (is_among x vs ≡ false)))

  -- what may be applied: a definition or an operator
  abbrev pub Applied : List (Name × Place) → List Name → Name → Type 0
  Applied places ws x =
      NotMade x × (is_among x vs ≡ false) × (find x places ≡ None) × (is_among x ws ≡ false) × (same_name x self_name ≡ false)

  abbrev pub PlainTree : List (Name × Place) → List Name → Tree → Type 0
  PlainTree places ws e = Plain (Alone places ws) (Applied places ws) Bindable e

  abbrev mutual
    pub PlainCode : List Name → List (Name × Place) → List Name → Code → Type 0
    PlainCode gs ps ws Empty = Unit {0}
    PlainCode gs ps ws Skip = Unit {0}
    PlainCode gs ps ws (Let b w e c) = PlainTree ps ws e × PlainCode gs ps (w ∷ ws) c
    PlainCode gs ps ws (Pick b w e c) = PlainTree ps ws e × PlainCode gs ps (w ∷ ws) c
    PlainCode gs ps ws (Become p w) = is_among w ws ≡ true
    PlainCode gs ps ws (Set b p e) = PlainTree ps ws e
    PlainCode gs ps ws (Await e) = PlainTree ps ws e
    PlainCode gs ps ws (Assert e) = PlainTree ps ws e
    PlainCode gs ps ws (Print e) = PlainTree ps ws e
    PlainCode gs ps ws (If e a b) = PlainTree ps ws e × PlainCode gs ps ws a × PlainCode gs ps ws b
    PlainCode gs ps ws (Either cs) = PlainCodes gs ps ws cs
    PlainCode gs ps ws (Seq a b) = PlainCode gs ps ws a × PlainCode gs ps ws b
    PlainCode gs ps ws (Goto l) = Unit {0}
    PlainCode gs ps ws (Yield e) = PlainTree ps ws e
    PlainCode gs ps ws (Read w g i m c) =
        (is_among g gs ≡ true) × KnownIndex ws i × PlainCode (content_name ∷ []) content_places [] m × PlainCode gs ps (w ∷ ws) c
    PlainCode gs ps ws (Write g i w m) =
        (is_among g gs ≡ true) × KnownIndex ws i × (is_among w ws ≡ true) × PlainCode (content_name ∷ []) content_places (value_name ∷ []) m

    pub PlainCodes : List Name → List (Name × Place) → List Name → Codes → Type 0
    PlainCodes gs ps ws no_codes = Unit {0}
    PlainCodes gs ps ws (more_codes c cs) = PlainCode gs ps ws c × PlainCodes gs ps ws cs
