-- How many choices there are.
use Rattle.std.proofs.Common.{◌≡◌, ℕ, ◌<◌, ◌≤◌, ◌*◌, ◌+◌, List, [], ◌∷◌, length, get_or, drop, refl, ap, sym, ◌∙◌, arith, add-one}
use Rattle.std.proofs.Math.Nat.{mul_assoc, zero-mul, mul-zero, one-le-mul, le-mul_of_pos_right}
use Rattle.std.proofs.Math.Seq.{drop-cons}
use Rattle.std.proofs.lemmas.Bool.Decides.{nat_tests}
use Rattle.std.specs.Prelude.{true, false, not, nat_lt}
use Rattle.pgo_base.specs.Data.{Data}
use Rattle.pgo_base.specs.declared.bindings.BoundName.{BoundName}
use Rattle.pgo_model.specs.FunctionSets.{choice_count}
use Rattle.pgo_model.specs.Operators.{most_members}
use Rattle.pgo_eval.specs.Choices.{sets_of, has_empty, or_empty}

-- the first set has a member, and so has each other one
full_first : (b : BoundName) (bs : List BoundName) → has_empty (b ∷ bs) ≡ false → (1 ≤ length b.set) × (has_empty bs ≡ false)
full_first b bs h = go b.set refl
  where
    go : (ms : List Data) → b.set ≡ ms → (1 ≤ length b.set) × (has_empty bs ≡ false)
    go [] e = absurd (let k : true ≡ false = sym (ap (λ xs. or_empty xs (has_empty bs)) e) ∙ h in cc)
    go (m ∷ ms) e = (omega (arith, ap length e), sym (ap (λ xs. or_empty xs (has_empty bs)) e) ∙ h)

-- where each set has a member there is a choice
some_choice : (bs : List BoundName) → has_empty bs ≡ false → 1 ≤ choice_count (sets_of bs)
some_choice [] h = omega arith
some_choice (b ∷ bs) h = let f = full_first b bs h in one-le-mul f.0 (some_choice bs f.1)

-- one set more is counted
pub record Counted (bs : List BoundName) (i : ℕ) (b : BoundName) (count all : ℕ) : Type 0 where
  pub some : 1 ≤ length b.set
  pub full : has_empty (drop (i + 1) bs) ≡ false
  pub left : 1 ≤ choice_count (sets_of (drop (i + 1) bs))
  pub all_is : all ≡ (count * length b.set) * choice_count (sets_of (drop (i + 1) bs))

pub counted : (bs : List BoundName) (i : ℕ) (b : BoundName) (count all : ℕ) → i < length bs → b ≡ get_or bs i b → has_empty (drop i bs) ≡ false → all ≡ count * choice_count (sets_of (drop i bs)) → Counted bs i b count all
counted bs i b count all h e f a =
    let s : drop i bs ≡ b ∷ drop (i + 1) bs = drop-cons bs i b h ∙ (λ j. sym e j ∷ drop (sym (add-one i) j) bs) in
    let k = full_first b (drop (i + 1) bs) (ap has_empty (sym s) ∙ f) in
    record {
      some = k.0;
      full = k.1;
      left = some_choice (drop (i + 1) bs) k.1;
      all_is = a ∙ ap (λ xs. count * choice_count (sets_of xs)) s ∙ sym (mul_assoc count (length b.set) (choice_count (sets_of (drop (i + 1) bs))));
    }

-- more than the most
pub too_many : (count n rest all : ℕ) → 1 ≤ rest → most_members < count * n → all ≡ (count * n) * rest → false ≡ not (nat_lt most_members all)
too_many count n rest all h g e =
    let l : count * n ≤ (count * n) * rest = le-mul_of_pos_right (count * n) h in
    let m : most_members < all = omega arith in
    grind (arith, nat_tests)

-- more than the most in one set
pub too_large : (count n rest all : ℕ) → 1 ≤ count → 1 ≤ rest → most_members < n → all ≡ (count * n) * rest → false ≡ not (nat_lt most_members all)
too_large count n rest all k h g e =
    let l : n ≤ n * count = le-mul_of_pos_right n k in
    too_many count n rest all h (omega arith) e

count_empty : (bs : List BoundName) → has_empty bs ≡ true → choice_count (sets_of bs) ≡ 0
count_empty [] h = absurd (cc)
count_empty (b ∷ bs) h = go b.set refl (count_empty bs)
  where
    go : (ms : List Data) → b.set ≡ ms → (has_empty bs ≡ true → choice_count (sets_of bs) ≡ 0) → length b.set * choice_count (sets_of bs) ≡ 0
    go [] e ih = ap (λ ms. length ms * choice_count (sets_of bs)) e ∙ zero-mul (choice_count (sets_of bs))
    go (m ∷ ms) e ih = ap (λ n. length b.set * n) (ih (sym (ap (λ xs. or_empty xs (has_empty bs)) e) ∙ h)) ∙ mul-zero (length b.set)

-- where some set has no member there are few choices
pub few_empty : (bs : List BoundName) → has_empty bs ≡ true → true ≡ not (nat_lt most_members (choice_count (sets_of bs)))
few_empty bs h = ap (λ n. not (nat_lt most_members n)) (sym (count_empty bs h))
