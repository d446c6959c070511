-- Options as words have them, with dashes, and as a command of `clap` has them, without.
use Rattle.std.proofs.Common.{◌≡◌, ◌∙◌, ◌||◌, ◌==◌, ◌+◌, ℕ, Bool, cond, true, false, not, suc, refl, sym, ap, arith, List, [], ◌∷◌, ◌++◌, map, take, Option, Some, None, is_some, true≢false, eqb-true, codes, if◌then◌else◌}
use Rattle.std.proofs.lemmas.List.{append_cancel_left}
use Rattle.std.specs.List.{list_all, list_any, before_first, position_or_len}
use Rattle.std.proofs.lemmas.Bool.{and_parts}
use Rattle.clap.specs.Lexer.{long_of}
use Rattle.pgo_model.specs.ValueText.{same_bytes}
use Rattle.pgo_model.specs.Names.{same_bytes-is, same_bytes-self}
use Rattle.pgo_words.specs.Commands.{options_of}
use Rattle.pgo_words.specs.Options.{find_bytes, is_one_of, option_words, AreOptions}
use Rattle.pgo_words.specs.Settings.{run_options, step_options}
use Rattle.pgo_words.specs.Parts.{HasOptions, Pairs, Parts, are_options, are_plain, is_option_name, is_option, is_plain}
use Rattle.pgo_words.proofs.OptionCuts.{joined, one_cut}
use Rattle.pgo_words.proofs.OptionSteps.{dashed}
use Rattle.pgo_words.proofs.OptionRows.{names_of, is_missing}
use Rattle.pgo_words.proofs.OptionWalks.{AreWritten, words_of}

abbrev pub dashed_all : Pairs → Pairs
dashed_all [] = []
dashed_all (o ∷ os) = (dashed o.0, o.1) ∷ dashed_all os

abbrev pub dashed_names : List (List ℕ) → List (List ℕ)
dashed_names [] = []
dashed_names (n ∷ ns) = dashed n ∷ dashed_names ns

pub words_same : (os : Pairs) → option_words (dashed_all os) ≡ words_of os
words_same [] = refl
words_same (o ∷ os) = ap (λ ws. dashed o.0 ∷ (o.1 ∷ ws)) (words_same os)

pub values_same : (n : List ℕ) (os : Pairs) → find_bytes (dashed n) (dashed_all os) ≡ find_bytes n os
values_same n [] = refl
values_same n (o ∷ os) = ap (λ v. cond (same_bytes n o.0) (Some o.1) v) (values_same n os)

among_same : (n : List ℕ) (ns : List (List ℕ)) → is_one_of (dashed n) (dashed_names ns) ≡ is_one_of n ns
among_same n [] = refl
among_same n (m ∷ ns) = ap (λ b. same_bytes n m || b) (among_same n ns)

pub with_dashes : (ns : List (List ℕ)) (os : Pairs) → AreOptions ns os → AreOptions (dashed_names ns) (dashed_all os)
with_dashes ns [] h = tt
with_dashes ns (o ∷ os) h = (among_same o.0 ns ∙ h.0, values_same o.0 os ∙ h.1, with_dashes ns os h.2)

pub without_dashes : (ns : List (List ℕ)) (os : Pairs) → AreOptions (dashed_names ns) (dashed_all os) → AreOptions ns os
without_dashes ns [] h = tt
without_dashes ns (o ∷ os) h = (sym (among_same o.0 ns) ∙ h.0, sym (values_same o.0 os) ∙ h.1, without_dashes ns os h.2)

-- ---- the words that `clap` reads

whole : (xs : List ℕ) → list_any (λ y. y == 61) xs ≡ false → before_first (λ y. y == 61) xs ≡ xs
whole [] e = refl
whole (x ∷ xs) e = go (x == 61) refl e (whole xs)
  where
    go : (b : Bool) → (x == 61) ≡ b → (b || list_any (λ y. y == 61) xs) ≡ false → (list_any (λ y. y == 61) xs ≡ false → before_first (λ y. y == 61) xs ≡ xs)
        → before_first (λ y. y == 61) (x ∷ xs) ≡ x ∷ xs
    go true t e rest = absurd (true≢false e)
    go false t e rest =
        let one : 1 + position_or_len (λ y. y == 61) xs ≡ suc (position_or_len (λ y. y == 61) xs) = omega arith in
        rw t (ap (λ n. take n (x ∷ xs)) one ∙ ap (λ ys. x ∷ ys) (rest e))

is_not : (b : Bool) → not b ≡ true → b ≡ false
is_not true e = absurd (true≢false (sym e))
is_not false e = refl

long_is : (x : ℕ) (xs : List ℕ) → list_any (λ y. y == 61) (x ∷ xs) ≡ false → long_of (dashed (x ∷ xs)) ≡ Some (x ∷ xs, None)
long_is x xs e = (λ i. Some (whole (x ∷ xs) e i, cond (e i) (Some (Rattle.std.specs.List.after_first (λ y. y == 61) (x ∷ xs))) None))

abbrev Written : List ℕ → Type 0
Written w = (x : ℕ) × (xs : List ℕ) × (w ≡ dashed (x ∷ xs)) × (long_of (dashed (x ∷ xs)) ≡ Some (x ∷ xs, None))

written_name : (w : List ℕ) → is_option_name w ≡ true → Written w
written_name [] e = absurd (true≢false (sym e))
written_name (a ∷ []) e = absurd (true≢false (sym e))
written_name (a ∷ (b ∷ [])) e = absurd (true≢false (sym e))
written_name (a ∷ (b ∷ (x ∷ xs))) e =
    let p = and_parts (a == 45) _ e in
    let q = and_parts (b == 45) _ p.1 in
    let first : a ≡ 45 = eqb-true a 45 p.0 in
    let second : b ≡ 45 = eqb-true b 45 q.0 in
    (x, xs, (λ i. first i ∷ (second i ∷ (x ∷ xs))), long_is x xs (is_not _ q.1))

pub written : (os : Pairs) → are_options os ≡ true → (ps : Pairs) × (os ≡ dashed_all ps) × AreWritten ps
written [] e = ([], refl, tt)
written (o ∷ os) e =
    let p = and_parts (is_option o) _ e in
    let q = and_parts (is_option_name o.0) _ p.0 in
    let w = written_name o.0 q.0 in
    let rest = written os p.1 in
    ((w.0 ∷ w.1, o.1) ∷ rest.0, (λ i. (w.2 i, o.1) ∷ rest.1 i), ((w.0, w.1, refl, w.3, q.1), rest.2))

-- ---- options as the words of a command have them

pub among_passes : (p : List ℕ → Bool) (ns : List (List ℕ)) (n : List ℕ) → list_all p ns ≡ true → is_one_of n ns ≡ true → p n ≡ true
among_passes p [] n all e = absurd (true≢false (sym e))
among_passes p (m ∷ ns) n all e = go (same_bytes n m) refl e (among_passes p ns n (and_parts (p m) _ all).1)
  where
    go : (b : Bool) → same_bytes n m ≡ b → (b || is_one_of n ns) ≡ true → (is_one_of n ns ≡ true → p n ≡ true) → p n ≡ true
    go true t e rest = ap p (same_bytes-is n m t) ∙ (and_parts (p m) _ all).0
    go false t e rest = rest e

formed_by : (ns : List (List ℕ)) (os : Pairs) → list_all is_option_name ns ≡ true → AreOptions ns os → are_plain (map (λ o. o.1) os) ≡ true → are_options os ≡ true
formed_by ns [] names h v = refl
formed_by ns (o ∷ os) names h v =
    let p = and_parts (is_plain o.1) _ v in
    joined (is_option o) _ (joined (is_option_name o.0) _ (among_passes is_option_name ns o.0 names h.0) p.0) (formed_by ns os names h.2 p.1)

pub plain_values : (os : Pairs) → are_options os ≡ true → are_plain (map (λ o. o.1) os) ≡ true
plain_values [] e = refl
plain_values (o ∷ os) e =
    let p = and_parts (is_option o) _ e in
    joined (is_plain o.1) _ (and_parts (is_option_name o.0) _ p.0).1 (plain_values os p.1)

abbrev pub options_for : Bool → List (List ℕ)
options_for is_step = if is_step then step_options else run_options

names_formed : (is_step : Bool) → list_all is_option_name (options_for is_step) ≡ true
names_formed true = refl
names_formed false = refl

pub names_are : (is_step : Bool) → dashed_names (names_of (options_of is_step)) ≡ options_for is_step
names_are true = refl
names_are false = refl

pub parts_of : (is_step : Bool) (words : List (List ℕ)) (os : Pairs) (rest : List (List ℕ)) → HasOptions is_step words os rest → Parts words os rest
parts_of is_step words os rest h = record {
  words_are = h.words_are;
  formed = formed_by (options_for is_step) os (names_formed is_step) h.options_are h.values_plain;
  plain = h.rest_plain;
}

-- what must be there is `--turns` of `step`
pub turns_there : (is_step : Bool) (os : Pairs) → is_missing (options_of is_step) os ≡ false → is_step ≡ true → is_some (find_bytes (codes "--turns") (dashed_all os)) ≡ true
turns_there true os e t = ap is_some (values_same (codes "turns") os) ∙ go (is_some (find_bytes (codes "turns") os)) e
  where
    go : (b : Bool) → (not b || false) ≡ false → b ≡ true
    go true e = refl
    go false e = absurd (true≢false e)
turns_there false os e t = absurd (true≢false (sym t))

pub none_missing : (is_step : Bool) (os : Pairs) → (is_step ≡ true → is_some (find_bytes (codes "--turns") (dashed_all os)) ≡ true) → is_missing (options_of is_step) os ≡ false
none_missing true os h = go (is_some (find_bytes (codes "turns") os)) (sym (ap is_some (values_same (codes "turns") os)) ∙ h refl)
  where
    go : (b : Bool) → b ≡ true → (not b || false) ≡ false
    go true e = refl
    go false e = absurd (true≢false (sym e))
none_missing false os h = refl

-- ---- for callers

-- words have options of a command in one way
pub one_way : (is_step : Bool) (words : List (List ℕ)) (os qs : Pairs) (rest behind : List (List ℕ)) → HasOptions is_step words os rest
    → HasOptions is_step words qs behind → (qs ≡ os) × (behind ≡ rest)
one_way is_step words os qs rest behind h k =
    let same = one_cut words os qs rest behind (parts_of is_step words os rest h) (parts_of is_step words qs behind k) in
    (same, append_cancel_left (option_words os) behind rest (ap (λ xs. option_words xs ++ behind) (sym same) ∙ sym k.words_are ∙ h.words_are))

none_some : (v : List ℕ) → ◌≡◌ {A = Option (List ℕ)} None (Some v) → ⊥
none_some v e = true≢false (sym (ap is_some e))

-- where no name's value begins with `-`, no option's does
pub values_by_name : (names : List (List ℕ)) (os : Pairs) → AreOptions names os
    → ((n v : List ℕ) → is_one_of n names ≡ true → find_bytes n os ≡ Some v → is_plain v ≡ true) → are_plain (map (λ o. o.1) os) ≡ true
values_by_name names [] h each = refl
values_by_name names (o ∷ os) h each =
    let first : find_bytes o.0 (o ∷ os) ≡ Some o.1 = rw (same_bytes-self o.0) refl in
    joined (is_plain o.1) _ (each o.0 o.1 h.0 first) (values_by_name names os h.2 (λ n v among e. each n v among (later n v (same_bytes n o.0) refl e)))
  where
    later : (n v : List ℕ) (b : Bool) → same_bytes n o.0 ≡ b → find_bytes n os ≡ Some v → find_bytes n (o ∷ os) ≡ Some v
    later n v true t e = absurd (none_some v (sym h.1 ∙ ap (λ m. find_bytes m os) (sym (same_bytes-is n o.0 t)) ∙ e))
    later n v false t e = rw t e
