-- Notes of all instances, each with its share.
use Rattle.std.proofs.Common.{◌≡◌, ◌≤◌, ◌<◌, ◌+◌, ◌*◌, ℕ, zero, suc, Bool, true, false, List, [], ◌∷◌, ◌++◌, length, refl, ap, ◌∙◌, subst, arith}
use Rattle.std.specs.Prelude.{if◌then◌else◌, nat_eq, nat_le, nat_lt, ◌&&◌}
use Rattle.std.proofs.lemmas.Bool.{and_parts}
use Rattle.pgo_model.specs.Machine.{Note}
use Rattle.pgo_workers.specs.View.{notes_of}
use Rattle.pgo_core.specs.ExclusiveRows.{are_of_all}

-- how many are of instances below m
abbrev below : ℕ → List Note → ℕ
below m [] = 0
below m (n ∷ ns) = if nat_lt n.instance m then suc (below m ns) else below m ns

below_none : (ns : List Note) → below 0 ns ≡ 0
below_none [] = refl
below_none (n ∷ ns) = go (nat_lt n.instance 0) refl (below_none ns)
  where
    go : (b : Bool) → nat_lt n.instance 0 ≡ b → below 0 ns ≡ 0 → (if b then suc (below 0 ns) else below 0 ns) ≡ 0
    go true e ih = absurd (grind (arith, e))
    go false e ih = ih

below_more : (m : ℕ) (ns : List Note) → below (suc m) ns ≡ below m ns + notes_of m ns
below_more m [] = omega arith
below_more m (n ∷ ns) = go (nat_lt n.instance (suc m)) (nat_lt n.instance m) (nat_eq n.instance m) refl refl refl (below_more m ns)
  where
    go : (a b c : Bool) → nat_lt n.instance (suc m) ≡ a → nat_lt n.instance m ≡ b → nat_eq n.instance m ≡ c → below (suc m) ns ≡ below m ns + notes_of m ns
        → (if a then suc (below (suc m) ns) else below (suc m) ns) ≡ (if b then suc (below m ns) else below m ns) + (if c then suc (notes_of m ns) else notes_of m ns)
    go true true true x y z ih = absurd (grind (arith, y, z))
    go true true false x y z ih = omega (arith, ih)
    go true false true x y z ih = omega (arith, ih)
    go true false false x y z ih = absurd (grind (arith, x, y, z))
    go false true c x y z ih = absurd (grind (arith, x, y))
    go false false true x y z ih = absurd (grind (arith, x, z))
    go false false false x y z ih = omega (arith, ih)

below_all : (m : ℕ) (ns : List Note) → are_of_all m ns ≡ true → below (suc m) ns ≡ length ns
below_all m [] h = refl
below_all m (n ∷ ns) h = let p = and_parts (nat_le n.instance m) (are_of_all m ns) h in go (nat_lt n.instance (suc m)) refl p.0 (below_all m ns p.1)
  where
    go : (b : Bool) → nat_lt n.instance (suc m) ≡ b → nat_le n.instance m ≡ true → below (suc m) ns ≡ length ns → (if b then suc (below (suc m) ns) else below (suc m) ns) ≡ suc (length ns)
    go true e h ih = ap (λ x. suc x) ih
    go false e h ih = absurd (grind (arith, e, h))

more : (s m : ℕ) → s * suc m ≡ s * m + s
more s m = grind arith

below_within : (s m : ℕ) (ns : List Note) → ((j : ℕ) → notes_of j ns ≤ s) → below m ns ≤ s * m
below_within s zero ns h = let z = below_none ns in omega (arith, z)
below_within s (suc m) ns h = let a = below_more m ns in let b = below_within s m ns h in let c = h m in let d = more s m in omega (arith, a, b, c, d)

-- where one has room left, all have
below_left : (s m k : ℕ) (ns : List Note) → ((j : ℕ) → notes_of j ns ≤ s) → k < m → notes_of k ns < s → below m ns < s * m
below_left s zero k ns h near left = absurd (omega (arith, near))
below_left s (suc m) k ns h near left = go (nat_eq k m) refl (λ far. below_left s m k ns h far left)
  where
    a : below (suc m) ns ≡ below m ns + notes_of m ns
    a = below_more m ns

    go : (b : Bool) → nat_eq k m ≡ b → (k < m → below m ns < s * m) → below (suc m) ns < s * suc m
    go true e ih =
        let same : k ≡ m = grind (arith, e) in let c : notes_of m ns < s = subst (λ j. notes_of j ns < s) same left in
        let b = below_within s m ns h in let d = more s m in omega (arith, a, b, c, d)
    go false e ih =
        let far : k < m = grind (arith, e, near) in
        let b = ih far in let c = h m in let d = more s m in omega (arith, a, b, c, d)

pub notes_left : (s m k : ℕ) (ns : List Note) → ((j : ℕ) → notes_of j ns ≤ s) → are_of_all m ns ≡ true → k ≤ m → notes_of k ns < s → length ns < s * suc m
notes_left s m k ns h all near left = subst (λ n. n < s * suc m) (below_all m ns all) (below_left s (suc m) k ns h (omega (arith, near)) left)

pub shares_push : (s k : ℕ) (ns : List Note) (n : Note) → n.instance ≡ k → notes_of k ns < s → ((j : ℕ) → notes_of j ns ≤ s) → (j : ℕ) → notes_of j (ns ++ n ∷ []) ≤ s
shares_push s k ns n is left h j = go (nat_eq n.instance j) refl
  where
    pushed : (ns : List Note) → notes_of j (ns ++ n ∷ []) ≡ notes_of j ns + (if nat_eq n.instance j then 1 else 0)
    pushed [] = by_case (nat_eq n.instance j)
      where
        by_case : (b : Bool) → (if b then suc 0 else 0) ≡ 0 + (if b then 1 else 0)
        by_case true = refl
        by_case false = refl
    pushed (x ∷ ns) = by_case (nat_eq x.instance j) (pushed ns)
      where
        by_case : (b : Bool) → notes_of j (ns ++ n ∷ []) ≡ notes_of j ns + (if nat_eq n.instance j then 1 else 0)
            → (if b then suc (notes_of j (ns ++ n ∷ [])) else notes_of j (ns ++ n ∷ [])) ≡ (if b then suc (notes_of j ns) else notes_of j ns) + (if nat_eq n.instance j then 1 else 0)
        by_case true e = omega (arith, e)
        by_case false e = e

    go : (b : Bool) → nat_eq n.instance j ≡ b → notes_of j (ns ++ n ∷ []) ≤ s
    go true e =
        let same : k ≡ j = grind (arith, e, is) in
        let c : notes_of j ns < s = subst (λ j. notes_of j ns < s) same left in
        let p = pushed ns ∙ ap (λ b. notes_of j ns + (if b then 1 else 0)) e in omega (arith, p, c)
    go false e = let p = pushed ns ∙ ap (λ b. notes_of j ns + (if b then 1 else 0)) e in let c = h j in omega (arith, p, c)

pub all_push : (m : ℕ) (ns : List Note) (n : Note) → are_of_all m ns ≡ true → nat_le n.instance m ≡ true → are_of_all m (ns ++ n ∷ []) ≡ true
all_push m [] n h near = ap (λ b. b && true) near
all_push m (x ∷ ns) n h near = let p = and_parts (nat_le x.instance m) (are_of_all m ns) h in (λ i. p.0 i && all_push m ns n p.1 near i)
