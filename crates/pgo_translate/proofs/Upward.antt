-- The integers from one to another.
use Rattle.std.proofs.Common.{◌≡◌, ℕ, suc, ◌+◌, ◌-◌, ◌<◌, ltb, ℤ, pos, negsuc, ◌+ℤ◌, ◌-ℤ◌, int_lt, Bool, true, false, cond, nat_lt, refl, ap, sym, ◌∙◌, arith}
use Rattle.std.proofs.Math.IntN.{+ℤ-neg_ℤ_cancel, +ℤ_comm}
use Rattle.std.proofs.lemmas.Bool.Decides.{nat_tests}
use Rattle.std.specs.declared.cmp.Ordering.TheVariants.{Less, Equal, Greater}
use Rattle.std.proofs.lemmas.Map.Lookups.{exact_signed}
use Rattle.pgo_model.specs.Operators.{count_to, span}

-- an integer above another is so much above it
pub above : (z h : ℤ) → int_lt z h ≡ true → (d : ℕ) × (h ≡ z +ℤ pos (suc d))
above (pos a) (pos b) e = (b - suc a, ap pos (let k : nat_lt a b ≡ true = e in let l : a < b = grind (arith, nat_tests) in omega arith))
above (negsuc a) (pos b) e =
    let no : ltb (suc (a + b)) (suc a) ≡ false = grind (arith, nat_tests) in
    (a + b, ap pos (let k : b ≡ suc (a + b) - suc a = omega arith in k) ∙ sym (ap (λ t. cond t (negsuc (suc a - suc (suc (a + b)))) (pos (suc (a + b) - suc a))) no))
above (negsuc a) (negsuc b) e =
    let less : b < a = (let k : nat_lt b a ≡ true = e in grind (arith, nat_tests)) in
    let yes : ltb (suc (a - suc b)) (suc a) ≡ true = grind (arith, nat_tests) in
    (a - suc b, ap negsuc (let k : b ≡ suc a - suc (suc (a - suc b)) = omega arith in k) ∙ sym (ap (λ t. cond t (negsuc (suc a - suc (suc (a - suc b)))) (pos (suc (a - suc b) - suc a))) yes))
above (pos a) (negsuc b) e = absurd (cc)

pub span_above : (z : ℤ) (d : ℕ) → span z (z +ℤ pos d) ≡ suc d
span_above z d = ap count_to (ap (λ x. x -ℤ z) (+ℤ_comm z (pos d)) ∙ +ℤ-neg_ℤ_cancel (pos d) z)

-- what is more by some is not below
pub above_self : (n : ℕ) (z : ℤ) → int_lt (pos n +ℤ z) z ≡ false
above_self n (pos b) = let no : ltb (n + b) b ≡ false = grind (arith, nat_tests) in no
above_self n (negsuc b) = go (ltb n (suc b)) refl
  where
    go : (t : Bool) → ltb n (suc b) ≡ t → int_lt (cond t (negsuc (suc b - suc n)) (pos (n - suc b))) (negsuc b) ≡ false
    go true e = let no : nat_lt b (suc b - suc n) ≡ false = grind (arith, nat_tests) in no
    go false e = refl

pub neither_less : (n h : ℤ) → int_lt n h ≡ false → int_lt h n ≡ false → n ≡ h
neither_less n h e f = exact_signed n h (λ i. cond (e i) Less (cond (f i) Greater Equal))
