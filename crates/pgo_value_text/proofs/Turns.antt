-- Parts behind a word, turn by turn, beside a loop that counts up.
use Rattle.std.proofs.Common.{◌≡◌, ℕ, zero, suc, ◌+◌, ◌-◌, ◌<◌, ◌≤◌, true, false, cond, List, [], ◌∷◌, ◌++◌, length, Some, refl, ap, sym, ◌∙◌, arith}
use Rattle.pgo_value_text.specs.Parsers.{Outcome, Parser, and_then}
use Rattle.pgo_value_text.specs.Reading.{begins, expect, followed, parted}
use Rattle.pgo_value_text.proofs.Steps.{then_at}

module _ {A : Type 0} (w : List ℕ) (p : Parser A) where
  pub one_left : (n : ℕ) (done : List A) (bs : List ℕ) → begins w bs ≡ true
      → followed w p (suc n) done bs ≡ and_then (expect w bs) (λ _ i. and_then (p i) (λ a. followed w p n (done ++ a ∷ [])))
  unfolding followed
  one_left n done bs b = λ j. cond (b j) (and_then (expect w bs) (λ _ i. and_then (p i) (λ a. followed w p n (done ++ a ∷ [])))) (Some (done, bs))

  -- no part is left
  pub none_next : (n : ℕ) (done : List A) (bs : List ℕ) → begins w bs ≡ false → followed w p n done bs ≡ Some (done, bs)
  unfolding followed
  none_next zero done bs b = λ j. Some (done, bs)
  none_next (suc n) done bs b = λ j. cond (b j) (and_then (expect w bs) (λ _ i. and_then (p i) (λ a. followed w p n (done ++ a ∷ [])))) (Some (done, bs))

  -- no turn is left
  pub all_read : (n at : ℕ) (done : List A) (bs : List ℕ) → n ≤ at → followed w p (n - at) done bs ≡ Some (done, bs)
  unfolding followed
  all_read n at done bs h = let none : n - at ≡ 0 = omega arith in ap (λ m. followed w p m done bs) none

  -- one part more
  pub one_more : {x : Outcome (List A)} (n at : ℕ) (done : List A) (bs : List ℕ) → x ≡ followed w p (n - at) done bs → at < n → begins w bs ≡ true
      → x ≡ and_then (expect w bs) (λ _ i. and_then (p i) (λ a. followed w p (n - (at + 1)) (done ++ a ∷ [])))
  one_more n at done bs e few b =
      let more : n - at ≡ suc (n - (at + 1)) = omega arith in
      e ∙ ap (λ m. followed w p m done bs) more ∙ one_left (n - (at + 1)) done bs b

  -- the first part is read
  pub first_read : (i : List ℕ) (a : A) (j : List ℕ) (n : ℕ) (done : List A) → p i ≡ Some (a, j) → n ≡ length j → done ≡ a ∷ [] → parted w p i ≡ followed w p (n - 0) done j
  unfolding parted
  first_read i a j n done h e d =
      let all : length j ≡ n - 0 = omega arith in
      then_at (p i) _ _ a j h refl ∙ (λ k. followed w p (all k) (sym d k) j)
