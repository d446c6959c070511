-- What a walk of `clap` makes of the words of options.
use Rattle.std.proofs.Common.{◌≡◌, ◌∙◌, inl, inr, ℕ, Bool, true, false, refl, sym, ap, subst, List, [], ◌∷◌, Option, Some, None, true≢false}
use Rattle.std.specs.List.{fold}
use Rattle.clap.specs.Lexer.{long_of}
use Rattle.clap.specs.Walk.{Row, Rule, Text, Walk, settled_rows, walked}
use Rattle.clap.specs.Faults.{settle_fault, walk_fault, turn_fault}
use Rattle.clap.specs.Kinds.{Kinds, or_else}
use Rattle.clap.specs.Simple.{Shape}
use Rattle.clap.specs.declared.error.kind.ErrorKind.TheVariants as kind
use Rattle.clap.specs.declared.error.kind.ErrorKind.{ErrorKind}
use Rattle.pgo_words.specs.Options.{is_one_of}
use Rattle.pgo_words.specs.Parts.{is_plain}
use Rattle.pgo_words.proofs.OptionSteps.{at, dashed, name_walked, value_walked, name_fault, unknown_fault, value_fault}
use Rattle.pgo_words.proofs.OptionRows.{option_rules, names_of, found, IsFound, IsNone, option_shape}

-- a name that `clap` reads whole, and a value that it takes for one
abbrev pub IsWritten : Text × Text → Type 0
IsWritten o = (x : ℕ) × (xs : Text) × (o.0 ≡ x ∷ xs) × (long_of (dashed o.0) ≡ Some (o.0, None)) × (is_plain o.1 ≡ true)

abbrev pub AreWritten : List (Text × Text) → Type 0
AreWritten [] = Unit {0}
AreWritten (o ∷ os) = IsWritten o × AreWritten os

abbrev pub AreKnown : List (Bool × Text) → List (Text × Text) → Type 0
AreKnown ps [] = Unit {0}
AreKnown ps (o ∷ os) = (is_one_of o.0 (names_of ps) ≡ true) × AreKnown ps os

-- the words of these options
abbrev pub words_of : List (Text × Text) → List Text
words_of [] = []
words_of (o ∷ os) = dashed o.0 ∷ (o.1 ∷ words_of os)

has : Kinds → Bool
has [] = false
has (k ∷ ks) = true

pub has_kind : {k : ErrorKind} {ks : Kinds} → k ∷ ks ≡ [] → ⊥
unfolding has
has_kind e = true≢false (ap has e)

pub nothing_first : (ks ms : Kinds) → or_else ks ms ≡ [] → ks ≡ []
nothing_first [] ms e = refl
nothing_first (k ∷ ks) ms e = e

pub nothing_then : (ks ms : Kinds) → or_else ks ms ≡ [] → ms ≡ []
nothing_then [] ms e = e
nothing_then (k ∷ ks) ms e = absurd (has_kind e)

pub or_else-assoc : (ks ms ns : Kinds) → or_else (or_else ks ms) ns ≡ or_else ks (or_else ms ns)
or_else-assoc [] ms ns = refl
or_else-assoc (k ∷ ks) ms ns = refl

module _ (name : Text) (ps : List (Bool × Text)) where
  abbrev s : Shape
  s = option_shape name ps

  abbrev c : List Rule
  c = option_rules ps

  abbrev next : List Row → Option (Text × List Text) → Text × Text → Walk
  next rows p o = at (settled_rows c p rows) (Some (o.0, o.1 ∷ []))

  -- what the walk comes to, and what may fail on the way, over the words of one option
  abbrev After : List Row → Option (Text × List Text) → Text × Text → List Text → Type 0
  After rows p o rest =
      (walk_fault s [] (at rows p) (dashed o.0 ∷ (o.1 ∷ rest)) ≡ or_else (settle_fault c false (at rows p).held) (walk_fault s [] (next rows p o) rest))
      × (fold (walked c []) (at rows p) (dashed o.0 ∷ (o.1 ∷ rest)) ≡ fold (walked c []) (next rows p o) rest)

  after_parts : (rows : List Row) (p : Option (Text × List Text)) (x : ℕ) (xs v : Text) (rest : List Text) → long_of (dashed (x ∷ xs)) ≡ Some (x ∷ xs, None)
      → is_plain v ≡ true → IsFound ps (x ∷ xs) → After rows p (x ∷ xs, v) rest
  unfolding walk_fault
  after_parts rows p x xs v rest long plain f =
      let one = name_walked c rows p x xs f.0 long f.2 in
      let two = value_walked c (settled_rows c p rows) (x ∷ xs) v f.0 plain f.3 in
      let first = name_fault s rows p x xs f.0 long f.2 in
      let second = value_fault s (settled_rows c p rows) (x ∷ xs) v f.0 plain f.3 in
      let both : walked c [] (walked c [] (at rows p) (dashed (x ∷ xs))) v ≡ next rows p (x ∷ xs, v) = ap (λ w. walked c [] w v) one ∙ two in (
        (λ i. or_else (first i) (or_else (turn_fault s [] (one i) v) (walk_fault s [] (both i) rest)))
            ∙ ap (λ ks. or_else (settle_fault c false (at rows p).held) (or_else ks (walk_fault s [] (next rows p (x ∷ xs, v)) rest))) second,
        ap (λ w. fold (walked c []) w rest) both,
      )

  after : (rows : List Row) (p : Option (Text × List Text)) (o : Text × Text) (rest : List Text) → IsWritten o → IsFound ps o.0 → After rows p o rest
  after rows p o rest w f =
      let is = w.2 in
      subst (λ n. long_of (dashed n) ≡ Some (n, None) → IsFound ps n → After rows p (n, o.1) rest) (sym is)
      (λ long g. after_parts rows p w.0 w.1 o.1 rest long w.4 g) w.3 f

  -- a name that the command doesn't have
  unknown_parts : (rows : List Row) (p : Option (Text × List Text)) (x : ℕ) (xs v : Text) (rest : List Text) → long_of (dashed (x ∷ xs)) ≡ Some (x ∷ xs, None)
      → IsNone ps (x ∷ xs) → walk_fault s [] (at rows p) (dashed (x ∷ xs) ∷ (v ∷ rest)) ≡ kind.UnknownArgument ∷ []
  unfolding walk_fault
  unknown_parts rows p x xs v rest long f =
      ap (λ ks. or_else ks (walk_fault s [] (walked c [] (at rows p) (dashed (x ∷ xs))) (v ∷ rest))) (unknown_fault s rows p x xs long f.1)

  unknown : (rows : List Row) (p : Option (Text × List Text)) (o : Text × Text) (rest : List Text) → IsWritten o → IsNone ps o.0
      → walk_fault s [] (at rows p) (dashed o.0 ∷ (o.1 ∷ rest)) ≡ kind.UnknownArgument ∷ []
  unknown rows p o rest w f =
      subst (λ n. long_of (dashed n) ≡ Some (n, None) → IsNone ps n → walk_fault s [] (at rows p) (dashed n ∷ (o.1 ∷ rest)) ≡ kind.UnknownArgument ∷ []) (sym w.2)
      (λ long g. unknown_parts rows p w.0 w.1 o.1 rest long g) w.3 f

  pub known : (n : Text) → is_one_of n (names_of ps) ≡ true → IsFound ps n
  known n e = elim (found ps n) [ inl f ↦ f | inr f ↦ absurd (true≢false (sym e ∙ f.0)) ]

  -- where nothing fails, the command has each name
  pub names_known : (rows : List Row) (p : Option (Text × List Text)) (os : List (Text × Text)) → AreWritten os → walk_fault s [] (at rows p) (words_of os) ≡ [] → AreKnown ps os
  names_known rows p [] w e = tt
  names_known rows p (o ∷ os) w e = elim (found ps o.0) [
    | inl f ↦ (f.1, names_known (settled_rows c p rows) (Some (o.0, o.1 ∷ [])) os w.1 (nothing_then _ _ (sym (after rows p o (words_of os) w.0 f).0 ∙ e)))
    | inr f ↦ absurd (has_kind (sym (unknown rows p o (words_of os) w.0 f) ∙ e))
  ]

  -- where a walk over options stands at the end, and what fails by then, the last option's use too
  unfoldable pub ends : List Row → Option (Text × List Text) → List (Text × Text) → Walk
  ends rows p [] = at rows p
  ends rows p (o ∷ os) = ends (settled_rows c p rows) (Some (o.0, o.1 ∷ [])) os

  unfoldable pub fails : List Row → Option (Text × List Text) → List (Text × Text) → Kinds
  fails rows p [] = settle_fault c false (at rows p).held
  fails rows p (o ∷ os) = or_else (settle_fault c false (at rows p).held) (fails (settled_rows c p rows) (Some (o.0, o.1 ∷ [])) os)

  pub walk_ends : (rows : List Row) (p : Option (Text × List Text)) (os : List (Text × Text)) → AreWritten os → AreKnown ps os
      → fold (walked c []) (at rows p) (words_of os) ≡ ends rows p os
  unfolding ends
  walk_ends rows p [] w k = refl
  walk_ends rows p (o ∷ os) w k = (after rows p o (words_of os) w.0 (known o.0 k.0)).1 ∙ walk_ends (settled_rows c p rows) (Some (o.0, o.1 ∷ [])) os w.1 k.1

  pub walk_fails : (rows : List Row) (p : Option (Text × List Text)) (os : List (Text × Text)) → AreWritten os → AreKnown ps os
      → or_else (walk_fault s [] (at rows p) (words_of os)) (settle_fault c false (ends rows p os).held) ≡ fails rows p os
  unfolding ends fails walk_fault
  walk_fails rows p [] w k = refl
  walk_fails rows p (o ∷ os) w k =
      ap (λ ks. or_else ks (settle_fault c false (ends rows p (o ∷ os)).held)) (after rows p o (words_of os) w.0 (known o.0 k.0)).0
      ∙ or_else-assoc (settle_fault c false (at rows p).held) (walk_fault s [] (next rows p o) (words_of os)) _
      ∙ ap (or_else (settle_fault c false (at rows p).held)) (walk_fails (settled_rows c p rows) (Some (o.0, o.1 ∷ [])) os w.1 k.1)

  pub still : (rows : List Row) (p : Option (Text × List Text)) (os : List (Text × Text)) → (ends rows p os).stopped ≡ None
  unfolding ends
  still rows p [] = refl
  still rows p (o ∷ os) = still (settled_rows c p rows) (Some (o.0, o.1 ∷ [])) os
