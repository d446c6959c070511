-- The value of digits, cut at the largest number.
use Rattle.std.proofs.Common.{◌≡◌, ◌≤◌, ◌+◌, ◌-◌, ◌*◌, ℕ, suc, true, false, nat_lt, List, [], ◌∷◌, Some, None, refl, sym, ◌∙◌, arith, inl, inr}
use Rattle.std.proofs.lemmas.Bool.Decides.{leb_tells}
use Rattle.pgo_lexer.specs.Lexemes.{value_from, largest}
use Rattle.pgo_lexer.specs.Pieces.{number_from}
use Rattle.pgo_lexer.proofs.Runs.{if_some, no_some, cond_false}

not_below : (a b : ℕ) → b ≤ a → nat_lt a b ≡ false
not_below a b h = elim (leb_tells (suc a) b) [ inl k ↦ absurd (omega (arith, k.1)) | inr k ↦ k.0 ]

not_lt : (a b : ℕ) → nat_lt a b ≡ false → b ≤ a
not_lt a b e = elim (leb_tells (suc a) b) [ inl k ↦ absurd (let q : true ≡ false = sym k.0 ∙ e in cc) | inr k ↦ omega (arith, k.1) ]

pub value_grows : (n : ℕ) (bs : List ℕ) → n ≤ value_from n bs
value_grows n [] = omega arith
value_grows n (b ∷ bs) = let g = value_grows (n * 10 + (b - 48)) bs in omega (arith, g)

pub number_sound : (n v : ℕ) (bs : List ℕ) → n ≤ largest → number_from n bs ≡ Some v → (value_from n bs ≡ v) × (v ≤ largest)
number_sound n v [] small e = let same : n ≡ v = cc in (same, omega (arith, small, same))
number_sound n v (b ∷ bs) small e =
    let next = n * 10 + (b - 48) in
    if_some (nat_lt largest next) None (number_from next bs) v ((value_from next bs ≡ v) × (v ≤ largest)) e
    (λ _ e. no_some v _ e) (λ t e. number_sound next v bs (not_lt largest next t) e)

pub number_complete : (n : ℕ) (bs : List ℕ) → value_from n bs ≤ largest → number_from n bs ≡ Some (value_from n bs)
number_complete n [] small = refl
number_complete n (b ∷ bs) small =
    let next = n * 10 + (b - 48) in
    let g : next ≤ value_from next bs = value_grows next bs in
    cond_false (nat_lt largest next) None (number_from next bs) (not_below largest next (omega (arith, g, small))) ∙ number_complete next bs small
