-- Expected bytes, counted bytes, and runs of bytes at the front of a text.
use Rattle.std.proofs.Common.{◌≡◌, ◌+◌, ℕ, suc, Bool, true, false, not, ◌&&◌, cond, nat_eq, List, [], ◌∷◌, ◌++◌, length, take, drop, Some, None, refl, sym, ◌∙◌, ap, arith}
use Rattle.std.specs.List.{prefix_len}
use Rattle.std.proofs.Math.Numerals.{one-add}
use Rattle.std.proofs.Math.Seq.{drop-append_seam, take-append_seam}
use Rattle.std.proofs.lemmas.Bool.{eq-eqb, eqb-true, and_parts, and_from}
use Rattle.std.proofs.lemmas.List.{take-append-drop}
use Rattle.std.proofs.lemmas.List.Folds.{prefix_len-append}
use Rattle.std.specs.Cmp.Lexicographic.{pointwise}
use Rattle.pgo_model.specs.ValueText.{is_word_byte, all_word_bytes}
use Rattle.pgo_value_text.specs.Parsers.{Outcome}
use Rattle.pgo_value_text.specs.Reading.{expect, begins, front, behind}
use Rattle.pgo_value_text.proofs.Steps.{if_some, cond_true, some_pair}

-- ---- expected bytes

pub expected : (w bs : List ℕ) (u : Unit {0}) (r : List ℕ) → expect w bs ≡ Some (u, r) → bs ≡ w ++ r
expected [] bs u r h = (some_pair tt u bs r h).1
expected (w ∷ ws) [] u r h = absurd (cc)
expected (w ∷ ws) (b ∷ bs) u r h =
    let ih = expected ws bs u r in
    if_some (nat_eq w b) _ _ (u, r) (b ∷ bs ≡ (w ∷ ws) ++ r) h
    (λ s e. let same : b ≡ w = sym (eqb-true w b s) in let left : bs ≡ ws ++ r = ih e in λ j. same j ∷ left j)
    (λ _ e. absurd (cc))

pub expects : (w r : List ℕ) → expect w (w ++ r) ≡ Some (tt, r)
expects [] r = refl
expects (w ∷ ws) r = cond_true (nat_eq w w) _ _ (eq-eqb w w refl) ∙ expects ws r

-- what does not begin so is refused
pub expects_none : (w bs : List ℕ) → ((r : List ℕ) → bs ≡ w ++ r → ⊥) → expect w bs ≡ None
expects_none w bs h = go (expect w bs) refl
  where
    go : (o : Outcome (Unit {0})) → expect w bs ≡ o → o ≡ None
    go (Some p) e = absurd (h p.1 (expected w bs p.0 p.1 e))
    go None e = refl

pub begins_so : (w r : List ℕ) → begins w (w ++ r) ≡ true
begins_so [] r = refl
begins_so (w ∷ ws) r = and_from (nat_eq w w) (begins ws (ws ++ r)) (eq-eqb w w refl) (begins_so ws r)

pub begun : (w bs : List ℕ) → begins w bs ≡ true → (r : List ℕ) × (bs ≡ w ++ r)
begun [] bs h = (bs, refl)
begun (w ∷ ws) [] h = absurd (cc)
begun (w ∷ ws) (b ∷ bs) h =
    let p = and_parts (nat_eq w b) (begins ws bs) h in
    let same : b ≡ w = sym (eqb-true w b p.0) in
    let q = begun ws bs p.1 in (q.0, λ j. same j ∷ q.1 j)

-- ---- runs

-- what stands behind a word: nothing, or a byte that is in no word
abbrev pub is_apart : List ℕ → Bool
is_apart [] = true
is_apart (b ∷ bs) = not (is_word_byte b)

-- the list is at its end, or its first item fails the test
abbrev pub Stops : (ℕ → Bool) → List ℕ → Type 0
Stops p [] = Unit {0}
Stops p (b ∷ bs) = p b ≡ false

-- a run goes on over an item that passes
pub prefix_goes : (p : ℕ → Bool) (b : ℕ) (bs : List ℕ) → p b ≡ true → prefix_len p (b ∷ bs) ≡ suc (prefix_len p bs)
prefix_goes p b bs h = (λ i. cond (h i) (1 + prefix_len p bs) 0) ∙ one-add (prefix_len p bs)

-- a run ends before an item that fails
pub prefix_ends : (p : ℕ → Bool) (b : ℕ) (bs : List ℕ) → p b ≡ false → prefix_len p (b ∷ bs) ≡ 0
prefix_ends p b bs h = λ i. cond (h i) (1 + prefix_len p bs) 0

none_there : (p : ℕ → Bool) (bs : List ℕ) → Stops p bs → prefix_len p bs ≡ 0
none_there p [] h = refl
none_there p (b ∷ bs) h = prefix_ends p b bs h

-- a list that passes as a whole, with nothing behind it that passes, is the run
run_length : (p : ℕ → Bool) (xs bs : List ℕ) → prefix_len p xs ≡ length xs → Stops p bs → prefix_len p (xs ++ bs) ≡ length xs
run_length p xs bs e h =
    prefix_len-append p xs bs ∙ (λ i. cond (eq-eqb (prefix_len p xs) (length xs) e i) (length xs + prefix_len p bs) (prefix_len p xs))
    ∙ (let z = none_there p bs h in omega arith)

pub run_front : (p : ℕ → Bool) (xs bs : List ℕ) → prefix_len p xs ≡ length xs → Stops p bs → front p (xs ++ bs) ≡ xs
run_front p xs bs e h = (λ i. take (run_length p xs bs e h i) (xs ++ bs)) ∙ take-append_seam xs bs

pub run_behind : (p : ℕ → Bool) (xs bs : List ℕ) → prefix_len p xs ≡ length xs → Stops p bs → behind p (xs ++ bs) ≡ bs
run_behind p xs bs e h = (λ i. drop (run_length p xs bs e h i) (xs ++ bs)) ∙ drop-append_seam xs bs

-- a run and what is behind it
pub front_behind : (p : ℕ → Bool) (bs r : List ℕ) → behind p bs ≡ r → bs ≡ front p bs ++ r
front_behind p bs r h = sym (take-append-drop (prefix_len p bs) bs) ∙ ap (λ l. front p bs ++ l) h

-- word bytes are a run as a whole
pub words_run : (w : List ℕ) → all_word_bytes w ≡ true → prefix_len is_word_byte w ≡ length w
words_run [] h = refl
words_run (b ∷ bs) h =
    let p = and_parts (is_word_byte b) (all_word_bytes bs) h in
    prefix_goes is_word_byte b bs p.0 ∙ ap suc (words_run bs p.1)

not_true : (b : Bool) → not b ≡ true → b ≡ false
not_true true h = sym h
not_true false h = refl

-- what is apart stops a word
pub apart_stops : (bs : List ℕ) → is_apart bs ≡ true → Stops is_word_byte bs
apart_stops [] h = tt
apart_stops (b ∷ bs) h = not_true (is_word_byte b) h

-- ---- what the library says of slices

pub starts_so : (w bs : List ℕ) → pointwise nat_eq w (take (length w) bs) ≡ begins w bs
starts_so [] bs = refl
starts_so (w ∷ ws) [] = refl
starts_so (w ∷ ws) (b ∷ bs) = ap (λ t. nat_eq w b && t) (starts_so ws bs)

pub stripped : (w bs x : List ℕ) → pointwise nat_eq (take (length w) bs) w ≡ true → x ≡ drop (length w) bs → expect w bs ≡ Some (tt, x)
stripped [] bs x h e = ap (λ l. Some (tt, l)) (sym e)
stripped (w ∷ ws) [] x h e = absurd (cc)
stripped (w ∷ ws) (b ∷ bs) x h e =
    let p = and_parts (nat_eq b w) (pointwise nat_eq (take (length ws) bs) ws) h in
    cond_true (nat_eq w b) _ _ (eq-eqb w b (sym (eqb-true b w p.0))) ∙ stripped ws bs x p.1 e

pub not_stripped : (w bs : List ℕ) → pointwise nat_eq (take (length w) bs) w ≡ false → expect w bs ≡ None
not_stripped w bs h = expects_none w bs (λ r e. differs w r (ap (λ l. pointwise nat_eq (take (length w) l) w) (sym e) ∙ h))
  where
    and_true : (a b : Bool) → a ≡ true → (a && b) ≡ b
    and_true true b h = refl
    and_true false b h = absurd (cc)

    differs : (w r : List ℕ) → pointwise nat_eq (take (length w) (w ++ r)) w ≡ false → ⊥
    differs [] r h = cc
    differs (w ∷ ws) r h = differs ws r (sym (and_true (nat_eq w w) _ (eq-eqb w w refl)) ∙ h)
