-- Depths against a limit.
use Rattle.std.proofs.Common.{inl, inr, ◌≡◌, ℕ, suc, ◌-◌, ◌<◌, max, Bool, true, false, Option, sym, ◌∙◌, subst, arith, nat_le}
use Rattle.std.proofs.lemmas.Bool.{le-leb}
use Rattle.std.proofs.lemmas.Bool.Decides.{leb_tells}
use Rattle.pgo_mpcal_read.specs.DepthLimit.{Tells}

leb_false : (a b : ℕ) → b < a → nat_le a b ≡ false
leb_false a b h = elim (leb_tells a b) [ inl k ↦ absurd (let q = k.1 in omega (arith, q, h)) | inr k ↦ k.0 ]

pub deeper : (d limit : ℕ) → 0 < limit → nat_le (suc d) limit ≡ nat_le d (limit - 1)
deeper d limit h = elim (leb_tells d (limit - 1)) [ inl k ↦ le-leb (suc d) limit (let q = k.1 in omega (arith, q, h)) ∙ sym k.0 | inr k ↦ leb_false (suc d) limit (let q = k.1 in omega (arith, q, h)) ∙ sym k.0 ]

pub tells_deeper : (d limit : ℕ) (r : Option ℕ) → 0 < limit → Tells (nat_le d (limit - 1)) r → Tells (nat_le (suc d) limit) r
tells_deeper d limit r h t = let P : Bool → Type 0 = λ b. Tells b r in subst P (sym (deeper d limit h)) t

-- of two the deeper one decides
pub first_fits : (a b n : ℕ) → nat_le a n ≡ true → nat_le (max a b) n ≡ nat_le b n
first_fits a b n h = elim (leb_tells a n) [ inl k ↦ elim (leb_tells b n) [ inl m ↦ le-leb (max a b) n (let q = k.1 in let r = m.1 in omega (arith, q, r)) ∙ sym m.0 | inr m ↦ leb_false (max a b) n (let r = m.1 in omega (arith, r)) ∙ sym m.0 ] | inr k ↦ absurd (let q = sym h ∙ k.0 in cc) ]

pub first_is_too_deep : (a b n : ℕ) → nat_le a n ≡ false → nat_le (max a b) n ≡ false
first_is_too_deep a b n h = elim (leb_tells a n) [ inl k ↦ absurd (let q = sym h ∙ k.0 in cc) | inr k ↦ leb_false (max a b) n (let q = k.1 in omega (arith, q)) ]
