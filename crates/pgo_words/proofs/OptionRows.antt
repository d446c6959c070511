-- The rules of options, and the rows that their uses leave.
use Rattle.std.proofs.Common.{◌≡◌, ◌∙◌, ◌&&◌, ◌||◌, ◌==◌, ◌⊎◌, inl, inr, Bool, cond, true, false, not, refl, sym, ap, subst, arith, List, [], ◌∷◌, ◌++◌, Some, None, is_some, true≢false}
use Rattle.std.specs.List.{list_any, find, fold}
use Rattle.std.specs.Str.{bytes_eq}
use Rattle.clap.specs.Walk.{Row, Rule, Text, arg_by_id, arg_by_long, reading_by, settled_rows, has_row, first_of, used, with_default}
use Rattle.clap.specs.Faults.{settle_fault, defaults_fault, check_fault}
use Rattle.clap.specs.Takes.{is_given}
use Rattle.clap.specs.Kinds.{or_else}
use Rattle.clap.specs.Simple.{Shape, new_shape}
use Rattle.clap.specs.declared.parser.matches.ValueSource.TheVariants.{CommandLine}
use Rattle.clap.specs.declared.error.kind.ErrorKind.TheVariants as kind
use Rattle.pgo_model.specs.ValueText.{same_bytes}
use Rattle.pgo_model.specs.Names.{same_bytes-is, same_bytes-self}
use Rattle.pgo_words.specs.Options.{find_bytes, is_one_of}
use Rattle.pgo_words.proofs.OptionSteps.{option_rule, at, self_same}

-- ---- the rules

abbrev pub option_rules : List (Bool × Text) → List Rule
option_rules [] = []
option_rules (p ∷ ps) = option_rule p.0 p.1 ∷ option_rules ps

abbrev pub names_of : List (Bool × Text) → List Text
names_of [] = []
names_of (p ∷ ps) = p.1 ∷ names_of ps

-- two tests of one thing
pub bytes_same : (x y : Text) → bytes_eq x y ≡ same_bytes x y
bytes_same [] [] = refl
bytes_same [] (y ∷ ys) = refl
bytes_same (x ∷ xs) [] = refl
bytes_same (x ∷ xs) (y ∷ ys) = ap (λ b. (x == y) && b) (bytes_same xs ys)

pub swapped : (x y : Text) → same_bytes x y ≡ same_bytes y x
swapped [] [] = refl
swapped [] (y ∷ ys) = refl
swapped (x ∷ xs) [] = refl
swapped (x ∷ xs) (y ∷ ys) = let h = swapped xs ys in grind (arith, h)

abbrev pub IsFound : List (Bool × Text) → Text → Type 0
IsFound ps n = (r : Bool) × (is_one_of n (names_of ps) ≡ true) × (arg_by_long (option_rules ps) n ≡ Some (option_rule r n))
    × (arg_by_id (option_rules ps) n ≡ Some (option_rule r n))

abbrev pub IsNone : List (Bool × Text) → Text → Type 0
IsNone ps n = (is_one_of n (names_of ps) ≡ false) × (arg_by_long (option_rules ps) n ≡ None)

pub found : (ps : List (Bool × Text)) (n : Text) → IsFound ps n ⊎ IsNone ps n
found [] n = inr (refl, refl)
found (p ∷ ps) n = go (same_bytes n p.1) refl (found ps n)
  where
    go : (b : Bool) → same_bytes n p.1 ≡ b → IsFound ps n ⊎ IsNone ps n → IsFound (p ∷ ps) n ⊎ IsNone (p ∷ ps) n
    go true e rest =
        let is : n ≡ p.1 = same_bytes-is n p.1 e in
        subst (λ m. IsFound (p ∷ ps) m ⊎ IsNone (p ∷ ps) m) (sym is)
        (inl (p.0, rw (same_bytes-self p.1) refl, rw (self_same p.1) refl, rw (self_same p.1) refl))
    go false e rest =
        let other : bytes_eq p.1 n ≡ false = bytes_same p.1 n ∙ swapped p.1 n ∙ e in
        elim rest [
          | inl h ↦ inl (h.0, rw e h.1, rw other h.2, rw other h.3)
          | inr h ↦ inr (rw e h.0, rw other h.1)
        ]

-- ---- the rows

abbrev pub option_row : Text × Text → Row
option_row o = record { id = o.0; values = o.1 ∷ []; count = None; source = Some CommandLine; reading = reading_by (option_rule false []) }

abbrev pub option_rows : List (Text × Text) → List Row
option_rows [] = []
option_rows (o ∷ os) = option_row o ∷ option_rows os

pub rows_first : (n : Text) (os : List (Text × Text)) → first_of n (option_rows os) ≡ find_bytes n os
rows_first n [] = refl
rows_first n (o ∷ os) =
    let same : bytes_eq o.0 n ≡ same_bytes n o.0 = bytes_same o.0 n ∙ swapped o.0 n in
    rw same (go (same_bytes n o.0) (rows_first n os))
  where
    go : (b : Bool) → first_of n (option_rows os) ≡ find_bytes n os
        → Rattle.std.specs.Prelude.option_and_then (λ (r : Row). Rattle.std.specs.Prelude.slice_get r.values 0) (cond b (Some (option_row o)) (find (λ r. bytes_eq r.id n) (option_rows os))) ≡ cond b (Some o.1) (find_bytes n os)
    go true h = refl
    go false h = h

pub rows_given : (n : Text) (os : List (Text × Text)) → is_given n (option_rows os) ≡ is_some (find_bytes n os)
rows_given n [] = refl
rows_given n (o ∷ os) = rw (bytes_same o.0 n ∙ swapped o.0 n) (go (same_bytes n o.0) (rows_given n os))
  where
    go : (b : Bool) → is_given n (option_rows os) ≡ is_some (find_bytes n os)
        → Rattle.std.specs.Option.option_map_or (λ (r : Row). Rattle.clap.specs.Facts.explicit_source r.source) (cond b (Some (option_row o)) (find (λ r. bytes_eq r.id n) (option_rows os))) false ≡ is_some (cond b (Some o.1) (find_bytes n os))
    go true h = refl
    go false h = h

pub rows_has : (n : Text) (os : List (Text × Text)) → has_row n (option_rows os) ≡ is_some (find_bytes n os)
rows_has n [] = refl
rows_has n (o ∷ os) = rw (bytes_same o.0 n ∙ swapped o.0 n) (go (same_bytes n o.0) (rows_has n os))
  where
    go : (b : Bool) → has_row n (option_rows os) ≡ is_some (find_bytes n os) → (b || has_row n (option_rows os)) ≡ is_some (cond b (Some o.1) (find_bytes n os))
    go true h = refl
    go false h = h

-- a first use joins its row
rows_more : (n v : Text) (os : List (Text × Text)) → has_row n (option_rows os) ≡ false → used (option_rule false n) (v ∷ []) (option_rows os) ≡ option_rows (os ++ (n, v) ∷ [])
rows_more n v [] h = refl
rows_more n v (o ∷ os) h = go (bytes_eq o.0 n) refl h (rows_more n v os)
  where
    go : (b : Bool) → bytes_eq o.0 n ≡ b → (b || has_row n (option_rows os)) ≡ false
        → (has_row n (option_rows os) ≡ false → used (option_rule false n) (v ∷ []) (option_rows os) ≡ option_rows (os ++ (n, v) ∷ []))
        → used (option_rule false n) (v ∷ []) (option_row o ∷ option_rows os) ≡ option_row o ∷ option_rows (os ++ (n, v) ∷ [])
    go true e h rest = absurd (true≢false h)
    go false e h rest = rw e (rw e (ap (λ rs. option_row o ∷ rs) (rest h)))

-- what an option whose value has been read comes to
pub settles : (c : List Rule) (os : List (Text × Text)) (n v : Text) (r : Bool) → arg_by_id c n ≡ Some (option_rule r n) → has_row n (option_rows os) ≡ false
    → settled_rows c (Some (n, v ∷ [])) (option_rows os) ≡ option_rows (os ++ (n, v) ∷ [])
settles c os n v r found h = rw found (rows_more n v os h)

pub settle_fails : (c : List Rule) (os : List (Text × Text)) (n v : Text) (r : Bool) → arg_by_id c n ≡ Some (option_rule r n)
    → settle_fault c false (at (option_rows os) (Some (n, v ∷ []))).held ≡ cond (has_row n (option_rows os)) (kind.ArgumentConflict ∷ []) []
settle_fails c os n v r found = rw found (go (has_row n (option_rows os)))
  where
    go : (b : Bool) → or_else (cond (b && true) (kind.ArgumentConflict ∷ []) []) [] ≡ cond b (kind.ArgumentConflict ∷ []) []
    go true = refl
    go false = refl

-- ---- after the walk

pub no_default : (ps : List (Bool × Text)) (rows : List Row) → fold with_default rows (option_rules ps) ≡ rows
no_default [] rows = refl
no_default (p ∷ ps) rows = go (has_row p.1 rows) (no_default ps rows)
  where
    go : (b : Bool) → fold with_default rows (option_rules ps) ≡ rows → fold with_default (cond b rows rows) (option_rules ps) ≡ rows
    go true h = h
    go false h = h

pub no_default_fault : (ps : List (Bool × Text)) (rows : List Row) → defaults_fault rows (option_rules ps) ≡ []
unfolding defaults_fault
no_default_fault [] rows = refl
no_default_fault (p ∷ ps) rows = go (has_row p.1 rows) (no_default_fault ps rows)
  where
    go : (b : Bool) → defaults_fault rows (option_rules ps) ≡ [] → or_else (cond (b || true) [] []) (defaults_fault (cond b rows rows) (option_rules ps)) ≡ []
    go true h = h
    go false h = h

-- a required option isn't there
abbrev pub is_missing : List (Bool × Text) → List (Text × Text) → Bool
is_missing [] os = false
is_missing (p ∷ ps) os = (p.0 && not (is_some (find_bytes p.1 os))) || is_missing ps os

pub missing_rule : (ps : List (Bool × Text)) (os : List (Text × Text)) → list_any (λ a. a.required && not (is_given a.id (option_rows os))) (option_rules ps) ≡ is_missing ps os
missing_rule [] os = refl
missing_rule (p ∷ ps) os = λ i. (p.0 && not (rows_given p.1 os i)) || missing_rule ps os i

-- the command of these options, built
abbrev pub option_shape : Text → List (Bool × Text) → Shape
option_shape name ps = record (new_shape name) {
  rules = option_rules ps;
  no_binary_name = true;
  disable_help_flag = true;
  disable_help_subcommand = true;
  is_built = true;
}

pub check_is : (name : Text) (ps : List (Bool × Text)) (os : List (Text × Text))
    → check_fault (option_shape name ps) (option_rows os) false ≡ cond (is_missing ps os) (kind.MissingRequiredArgument ∷ []) []
check_is name ps os = ap (λ b. cond b (kind.MissingRequiredArgument ∷ []) []) (missing_rule ps os)
