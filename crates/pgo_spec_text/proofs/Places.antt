-- The first place where a test holds: how the search goes on from byte to byte.
use Rattle.std.proofs.Common.{◌≡◌, ◌+◌, ◌<◌, ℕ, suc, Bool, true, false, ◌&&◌, nat_eq, get_or, List, [], ◌∷◌, length, drop, Option, Some, refl, sym, ◌∙◌, ap, subst, arith}
use Rattle.std.proofs.Math.Seq.{drop-cons}
use Rattle.pgo_lexer.specs.Symbols.{is_beginning}
use Rattle.pgo_lexer.proofs.Runs.{cond_true, cond_false}
use Rattle.pgo_spec_text.specs.Searching.{first_by}

pub found_here : (test : Bool → List ℕ → Bool) (next : Bool → ℕ → Bool) (s : Bool) (bs : List ℕ) (i : ℕ) → i < length bs → test s (drop i bs) ≡ true → first_by test next s (drop i bs) ≡ Some (drop i bs)
found_here test next s bs i below e =
    let at : drop i bs ≡ get_or bs i 0 ∷ drop (suc i) bs = drop-cons bs i 0 below in
    let P : List ℕ → Type 0 = λ x. test s x ≡ true → first_by test next s x ≡ Some x in
    let here : P (get_or bs i 0 ∷ drop (suc i) bs) = (λ h. cond_true (test s (get_or bs i 0 ∷ drop (suc i) bs)) _ _ h) in
    subst P (sym at) here e

pub found_over : (test : Bool → List ℕ → Bool) (next : Bool → ℕ → Bool) (s : Bool) (bs : List ℕ) (i : ℕ) → i < length bs → test s (drop i bs) ≡ false → first_by test next s (drop i bs) ≡ first_by test next (next s (get_or bs i 0)) (drop (i + 1) bs)
found_over test next s bs i below e =
    let at : drop i bs ≡ get_or bs i 0 ∷ drop (suc i) bs = drop-cons bs i 0 below in
    let one : suc i ≡ i + 1 = omega arith in
    let P : List ℕ → Type 0 = λ x. test s x ≡ false → first_by test next s x ≡ first_by test next (next s (get_or bs i 0)) (drop (suc i) bs) in
    let over : P (get_or bs i 0 ∷ drop (suc i) bs) = (λ h. cond_false (test s (get_or bs i 0 ∷ drop (suc i) bs)) _ _ h) in
    subst P (sym at) over e ∙ (λ j. first_by test next (next s (get_or bs i 0)) (drop (one j) bs))

-- the same for what the code compares: the rest r, and the test's answer t
pub found_at : (test : Bool → List ℕ → Bool) (next : Bool → ℕ → Bool) (s : Bool) (bs : List ℕ) (i : ℕ) (r : List ℕ) (t : Bool) (whole : Option (List ℕ)) → i < length bs → r ≡ drop i bs → t ≡ test s r → t ≡ true → whole ≡ first_by test next s (drop i bs) → Some r ≡ whole
found_at test next s bs i r t whole below e got is inv =
    let yes : test s (drop i bs) ≡ true = (λ j. test s (sym e j)) ∙ sym got ∙ is in
    ap Some e ∙ sym (found_here test next s bs i below yes) ∙ sym inv

pub passed_at : (test : Bool → List ℕ → Bool) (next : Bool → ℕ → Bool) (s : Bool) (bs : List ℕ) (i : ℕ) (r : List ℕ) (t : Bool) (whole : Option (List ℕ)) → i < length bs → r ≡ drop i bs → t ≡ test s r → t ≡ false → whole ≡ first_by test next s (drop i bs) → whole ≡ first_by test next (next s (get_or bs i 0)) (drop (i + 1) bs)
passed_at test next s bs i r t whole below e got is inv =
    let no : test s (drop i bs) ≡ false = (λ j. test s (sym e j)) ∙ sym got ∙ is in
    inv ∙ found_over test next s bs i below no

pub too_short : (front bytes : List ℕ) → length bytes < length front → is_beginning front bytes ≡ false
too_short [] bytes h = absurd (omega arith)
too_short (x ∷ xs) [] h = refl
too_short (x ∷ xs) (y ∷ ys) h = none (nat_eq x y) (is_beginning xs ys) (too_short xs ys (omega arith))
  where
    none : (a b : Bool) → b ≡ false → (a && b) ≡ false
    none true b h = h
    none false b h = refl
