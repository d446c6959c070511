-- Made names with different numbers differ.
use Rattle.std.proofs.Common.{◌≡◌, ℕ, ◌<◌, ◌≤◌, ◌^◌, ◌-◌, Bool, true, false, List, [], ◌∷◌, ◌++◌, decimal, refl, sym, ap, ◌∙◌, subst, arith, lit≤, append_assoc}
use Rattle.std.proofs.lemmas.Fmt.{decimal_is_IsNumeral, decimal_injective}
use Rattle.std.specs.Char.{digit_value}
use Rattle.std.specs.Str.Parse.{AllDigits}
use Rattle.pgo_base.specs.Lookup.{Name, same_name}
use Rattle.pgo_model.specs.Names.{same_name-is}
use Rattle.pgo_model.specs.Written.{made, self_name}

abbrev Lacks : ℕ → List ℕ → Type 0
Lacks b [] = Unit {0}
Lacks b (x ∷ xs) = (x ≡ b → ⊥) × Lacks b xs

not_lacks : (b : ℕ) (xs ys : List ℕ) → Lacks b (xs ++ (b ∷ ys)) → ⊥
not_lacks b [] ys h = h.0 refl
not_lacks b (x ∷ xs) ys h = not_lacks b xs ys h.1

-- what stands behind the last place of a byte
last_cut : (b : ℕ) (xs ys us vs : List ℕ) → Lacks b ys → Lacks b vs → xs ++ (b ∷ ys) ≡ us ++ (b ∷ vs) → ys ≡ vs
last_cut b [] ys [] vs h k e = cc
last_cut b [] ys (u ∷ us) vs h k e = absurd (let q : ys ≡ us ++ (b ∷ vs) = cc in not_lacks b us vs (subst (Lacks b) q h))
last_cut b (x ∷ xs) ys [] vs h k e = absurd (let q : vs ≡ xs ++ (b ∷ ys) = cc in not_lacks b xs ys (subst (Lacks b) q k))
last_cut b (x ∷ xs) ys (u ∷ us) vs h k e = let q : xs ++ (b ∷ ys) ≡ us ++ (b ∷ vs) = cc in last_cut b xs ys us vs h k q

digits_lack : (b : ℕ) (ds : List ℕ) → 10 ≤ digit_value b → AllDigits 10 ds → Lacks b ds
digits_lack b [] h d = tt
digits_lack b (x ∷ ds) h d = (λ e. (let k = d.0 in let f = ap digit_value e in omega (arith, h, k, f)), digits_lack b ds h d.1)

underscore : 10 ≤ digit_value 95
underscore = lit≤ tt

pub apart : (b b' : Name) (m m' : ℕ) → m ≤ 2 ^ 64 - 1 → m' ≤ 2 ^ 64 - 1 → same_name (made b m) (made b' m') ≡ true → m ≡ m'
apart b b' m m' le le' e =
    let small : m < 2 ^ 64 = omega (arith, le) in
    let small' : m' < 2 ^ 64 = omega (arith, le') in
    let same = same_name-is (made b m) (made b' m') e in
    let cut : (b : Name) (n : ℕ) → made b n ≡ (b ++ (95 ∷ [])) ++ (95 ∷ decimal n) = λ b n. (append_assoc b (95 ∷ 95 ∷ []) (decimal n) ∙ sym (append_assoc b (95 ∷ []) (95 ∷ decimal n))) in
    decimal_injective m m' small small' (last_cut 95 (b ++ (95 ∷ [])) (decimal m) (b' ++ (95 ∷ [])) (decimal m') (digits_lack 95 (decimal m) underscore (decimal_is_IsNumeral m small).0.1) (digits_lack 95 (decimal m') underscore (decimal_is_IsNumeral m' small').0.1) (sym (cut b m) ∙ same ∙ cut b' m'))

pub self_not_made : (b : Name) (m : ℕ) → same_name self_name (made b m) ≡ false
self_not_made b m = go (same_name self_name (made b m)) refl
  where
    lacking : Lacks 95 self_name
    lacking = (λ e. omega (arith, e), (λ e. omega (arith, e), (λ e. omega (arith, e), (λ e. omega (arith, e), tt))))

    go : (t : Bool) → same_name self_name (made b m) ≡ t → same_name self_name (made b m) ≡ false
    go true e =
        absurd (let same : self_name ≡ (b ++ (95 ∷ [])) ++ (95 ∷ decimal m) = same_name-is self_name (made b m) e ∙ append_assoc b (95 ∷ 95 ∷ []) (decimal m) ∙ sym (append_assoc b (95 ∷ []) (95 ∷ decimal m)) in
        not_lacks 95 (b ++ (95 ∷ [])) (decimal m) (subst (Lacks 95) same lacking))
    go false e = e
