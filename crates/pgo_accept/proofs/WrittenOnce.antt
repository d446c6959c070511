-- Where no two names clash, each name is written at most once by what isn't bound.
use Rattle.std.proofs.Common.{◌≡◌, ◌≤◌, ℕ, ◌+◌, Bool, true, false, not, ◌&&◌, if◌then◌else◌, List, [], ◌∷◌, ◌++◌, refl, ap, sym, ◌∙◌, arith}
use Rattle.std.proofs.lemmas.Bool.{and_parts, not-true}
use Rattle.std.specs.Prelude.{nat_le}
use Rattle.pgo_base.specs.Lookup.{Name, same_name}
use Rattle.pgo_model.specs.Names.{same_name-self, same_name-is}
use Rattle.pgo_scope.specs.declared.errors.ScopeError.TheVariants as errors
use Rattle.pgo_scope.specs.declared.finding.Finding.{Finding}
use Rattle.pgo_scope.specs.declared.module_names.ModuleName.{ModuleName}
use Rattle.pgo_scope.specs.TextOrder.{in_place, in_text_order}
use Rattle.pgo_scope.specs.Clash.{clash, clash_with, clashes_from}
use Rattle.pgo_bound.specs.Among.{none_left, none_right}
use Rattle.pgo_accept.proofs.Counted.{one_if}

-- what isn't bound, and is written so
abbrev pub is_written : Name → ModuleName → Bool
is_written x t = not t.bound && same_name x t.written

abbrev pub writes : Name → List ModuleName → ℕ
writes x [] = 0
writes x (t ∷ ts) = one_if (is_written x t) + writes x ts

pub writes-append : (x : Name) (ts us : List ModuleName) → writes x (ts ++ us) ≡ writes x ts + writes x us
writes-append x [] us = omega arith
writes-append x (t ∷ ts) us = omega (arith, writes-append x ts us)

writes_in_place : (x : Name) (place : ModuleName → ℕ) (t : ModuleName) (us : List ModuleName) → writes x (in_place place t us) ≡ writes x (t ∷ us)
writes_in_place x place t [] = refl
writes_in_place x place t (u ∷ us) = go (nat_le (place t) (place u)) (writes_in_place x place t us)
  where
    go : (b : Bool) → writes x (in_place place t us) ≡ writes x (t ∷ us) → writes x (if b then t ∷ u ∷ us else u ∷ in_place place t us) ≡ writes x (t ∷ u ∷ us)
    go true r = refl
    go false r = omega (arith, r)

pub writes_in_order : (x : Name) (place : ModuleName → ℕ) (ts : List ModuleName) → writes x (in_text_order place ts) ≡ writes x ts
writes_in_order x place [] = refl
writes_in_order x place (t ∷ ts) = omega (arith, writes_in_place x place t (in_text_order place ts), writes_in_order x place ts)

-- ---- no clash

-- two that are written so clash
written_clash : (x : Name) (t u : ModuleName) → is_written x t ≡ true → is_written x u ≡ true → clash t u ≡ true
written_clash x t u h g =
    let p = and_parts (not t.bound) (same_name x t.written) h in
    let q = and_parts (not u.bound) (same_name x u.written) g in
    let e : t.written ≡ u.written = sym (same_name-is x t.written p.1) ∙ same_name-is x u.written q.1 in
    let s : same_name t.written u.written ≡ true = ap (same_name t.written) (sym e) ∙ same_name-self t.written in
    (λ i. s i && not (not-true t.bound p.0 i && u.bound))

pub found_none : (b : Bool) (f : Finding) (rest : List Finding) → (if b then f ∷ [] else rest) ≡ [] → (b ≡ false) × (rest ≡ [])
found_none true f rest h = absurd (cc)
found_none false f rest h = (refl, h)

-- where t clashes with none, none is written as t is
written_alone : (x : Name) (us : List ModuleName) (t : ModuleName) → clash_with us t ≡ [] → is_written x t ≡ true → writes x us ≡ 0
written_alone x [] t h g = refl
written_alone x (u ∷ us) t h g =
    let r = found_none (clash t u) (record { place = t.place; error = errors.NameClash u.shown t.shown }) (clash_with us t) h in
    go (is_written x u) refl r.0 (written_alone x us t r.1 g)
  where
    go : (b : Bool) → is_written x u ≡ b → clash t u ≡ false → writes x us ≡ 0 → one_if b + writes x us ≡ 0
    go true e n k = absurd (let c = written_clash x t u g e in cc)
    go false e n k = omega (arith, k)

pub written_once : (x : Name) (before ts : List ModuleName) → clashes_from before ts ≡ [] → writes x before ≤ 1 → writes x before + writes x ts ≤ 1
written_once x before [] h k = omega (arith, k)
written_once x before (t ∷ ts) h k =
    let c = none_left (clash_with before t) (clashes_from (before ++ t ∷ []) ts) h in
    let rest = none_right (clash_with before t) (clashes_from (before ++ t ∷ []) ts) h in
    let a = writes-append x before (t ∷ []) in
    go (is_written x t) refl c a (written_once x (before ++ t ∷ []) ts rest)
  where
    go : (b : Bool) → is_written x t ≡ b → clash_with before t ≡ [] → writes x (before ++ t ∷ []) ≡ writes x before + (one_if b + 0)
        → (writes x (before ++ t ∷ []) ≤ 1 → writes x (before ++ t ∷ []) + writes x ts ≤ 1) → writes x before + (one_if b + writes x ts) ≤ 1
    go true e c a r = let z = written_alone x before t c e in let q = r (omega (arith, a, z)) in omega (arith, a, q)
    go false e c a r = let q = r (omega (arith, a, k)) in omega (arith, a, q)
