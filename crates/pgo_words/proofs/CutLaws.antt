-- A text is cut at a byte in one way, and numbers have none of the bytes that texts are cut at.
use Rattle.std.proofs.Common.{◌≡◌, ◌<◌, ◌≤◌, ◌^◌, ℕ, zero, suc, List, [], ◌∷◌, ◌++◌, decimal, refl, ap, arith, lit≤}
use Rattle.std.proofs.lemmas.Fmt.{decimal_is_IsNumeral}
use Rattle.std.specs.Char.{digit_value}
use Rattle.std.specs.Str.Parse.{AllDigits}
use Rattle.pgo_words.specs.Cuts.{Lacks}

lacks_tail : (b x : ℕ) (xs : List ℕ) → Lacks b (x ∷ xs) → Lacks b xs
lacks_tail b x xs h i lt e = h (suc i) (omega (arith, lt)) e

-- a text is cut at the first place of a byte in one way
pub same_cut : (b : ℕ) (xs ys us vs : List ℕ) → Lacks b xs → Lacks b us → xs ++ (b ∷ ys) ≡ us ++ (b ∷ vs) → (xs ≡ us) × (ys ≡ vs)
same_cut b [] ys [] vs h k e = (refl, cc)
same_cut b [] ys (u ∷ us) vs h k e = absurd (k 0 (omega arith) (let q : u ≡ b = cc in q))
same_cut b (x ∷ xs) ys [] vs h k e = absurd (h 0 (omega arith) (let q : x ≡ b = cc in q))
same_cut b (x ∷ xs) ys (u ∷ us) vs h k e =
    let first : x ≡ u = cc in let rest : xs ++ (b ∷ ys) ≡ us ++ (b ∷ vs) = cc in
    let r = same_cut b xs ys us vs (lacks_tail b x xs h) (lacks_tail b u us k) rest in
    (λ i. first i ∷ r.0 i, r.1)

-- a byte that stands in a text is not lacking
pub not_lacks : (b : ℕ) (xs ys : List ℕ) → Lacks b (xs ++ (b ∷ ys)) → ⊥
not_lacks b [] ys h = h 0 (omega arith) refl
not_lacks b (x ∷ xs) ys h = not_lacks b xs ys (lacks_tail b x (xs ++ (b ∷ ys)) h)

pub lacks-append : (b : ℕ) (xs ys : List ℕ) → Lacks b xs → Lacks b ys → Lacks b (xs ++ ys)
lacks-append b [] ys h k = k
lacks-append b (x ∷ xs) ys h k = go (lacks-append b xs ys (lacks_tail b x xs h) k)
  where
    go : Lacks b (xs ++ ys) → Lacks b (x ∷ (xs ++ ys))
    go r zero lt e = h 0 (omega arith) e
    go r (suc i) lt e = r i (omega (arith, lt)) e

pub lacks-cons : (b x : ℕ) (xs : List ℕ) → (x ≡ b → ⊥) → Lacks b xs → Lacks b (x ∷ xs)
lacks-cons b x xs n h zero lt e = n e
lacks-cons b x xs n h (suc i) lt e = h i (omega (arith, lt)) e

-- digits lack a byte that is none
digits_lack : (b : ℕ) (ds : List ℕ) → 10 ≤ digit_value b → AllDigits 10 ds → Lacks b ds
digits_lack b [] h d i lt e = omega (arith, lt)
digits_lack b (x ∷ ds) h d zero lt e = let k = d.0 in let f = ap digit_value e in omega (arith, h, k, f)
digits_lack b (x ∷ ds) h d (suc i) lt e = digits_lack b ds h d.1 i (omega (arith, lt)) e

pub decimal_lacks : (b n : ℕ) → 10 ≤ digit_value b → n < 2 ^ 64 → Lacks b (decimal n)
decimal_lacks b n h small = digits_lack b (decimal n) h (decimal_is_IsNumeral n small).0.1

pub comma : 10 ≤ digit_value 44
comma = lit≤ tt

pub wide : (k : ℕ) → k < 2 ^ 32 → k < 2 ^ 64
wide k h = omega arith
