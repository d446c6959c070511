-- Laws of trying leaf after leaf.
use Rattle.std.proofs.Common.{◌≡◌, ◌≤◌, ◌<◌, ℕ, zero, suc, ◌+◌, ◌%◌, Bool, true, false, List, [], ◌∷◌, ◌++◌, map, Some, None, refl, sym, ap, ◌∙◌, subst, arith, ◌⊎◌, inl, inr, mod-lt, mod-eq_of_lt, zero-lt-suc}
use Rattle.std.specs.Prelude.{if◌then◌else◌, nat_eq}
use Rattle.pgo_model.specs.Choice.{pick}
use Rattle.pgo_model.specs.System.{Words}
use Rattle.pgo_tries.specs.Chosen.{Chosen, Ended, Chooses, Leaf, ahead, follow, round, around, turned_at, leaves_from, turned}

-- so many arms are left behind arm i, before that of word d comes round again
abbrev pub Left : ℕ → ℕ → ℕ → ℕ → Type 0
Left more s left i = (s ≤ more) × (i ≤ more) × (((s ≤ i) × (left + i ≡ more + s)) ⊎ ((i < s) × (suc (left + i) ≡ s)))

pub left_start : (more s : ℕ) → s ≤ more → Left more s more s
left_start more s h = (h, h, inl ((let e : s ≤ s = omega arith in e), refl))

pub left_next : (more s left i : ℕ) → Left more s (suc left) i → Left more s left (round more i) × ((nat_eq (round more i) s ≡ true) → ⊥)
left_next more s left i h = go (nat_eq i more) refl h.2
  where
    go : (b : Bool) → nat_eq i more ≡ b → ((s ≤ i) × (suc left + i ≡ more + s)) ⊎ ((i < s) × (suc (suc left + i) ≡ s)) → Left more s left (if b then 0 else suc i) × ((nat_eq (if b then 0 else suc i) s ≡ true) → ⊥)
    go true e (inl p) =
        let q : i ≡ more = grind (arith, e) in let a = p.1 in let b : suc left ≡ s = omega (arith, q, a) in
        ((h.0, (let z : 0 ≤ more = omega arith in z), inr ((let z : 0 < s = omega (arith, b) in z), (let z : suc (left + 0) ≡ s = omega (arith, b) in z))), (λ n. let z : 0 ≡ s = grind (arith, n) in omega (arith, z, b)))
    go true e (inr p) = let q : i ≡ more = grind (arith, e) in let a = p.0 in let b = h.0 in absurd (omega (arith, q, a, b))
    go false e (inl p) =
        let q : i ≡ more → ⊥ = (λ z. grind (arith, e, z)) in let a = p.1 in let b = h.1 in let c = p.0 in
        ((h.0, (let z : suc i ≤ more = (let y : i < more = lt_of i more b q in omega (arith, y)) in z), inl ((let z : s ≤ suc i = omega (arith, c) in z), (let z : left + suc i ≡ more + s = omega (arith, a) in z))), (λ n. let z : suc i ≡ s = grind (arith, n) in omega (arith, z, c)))
      where
        lt_of : (i m : ℕ) → i ≤ m → (i ≡ m → ⊥) → i < m
        lt_of i m h n = go2 (nat_eq i m) refl
          where
            go2 : (b : Bool) → nat_eq i m ≡ b → i < m
            go2 true e = absurd (n (grind (arith, e)))
            go2 false e = grind (arith, e, h)
    go false e (inr p) =
        let a = p.1 in let b = p.0 in let c = h.0 in
        ((h.0, (let z : suc i ≤ more = omega (arith, a, b, c) in z), inr ((let z : suc i < s = omega (arith, a) in z), (let z : suc (left + suc i) ≡ s = omega (arith, a) in z))), (λ n. let z : suc i ≡ s = grind (arith, n) in omega (arith, z, a)))

pub left_end : (more s i : ℕ) → Left more s 0 i → nat_eq (round more i) s ≡ true
left_end more s i h = go (nat_eq i more) refl h.2
  where
    go : (b : Bool) → nat_eq i more ≡ b → ((s ≤ i) × (0 + i ≡ more + s)) ⊎ ((i < s) × (suc (0 + i) ≡ s)) → nat_eq (if b then 0 else suc i) s ≡ true
    go true e (inl p) = let q : i ≡ more = grind (arith, e) in let a = p.1 in let z : 0 ≡ s = omega (arith, q, a) in grind (arith, z)
    go true e (inr p) = let q : i ≡ more = grind (arith, e) in let a = p.0 in let b = h.0 in absurd (omega (arith, q, a, b))
    go false e (inl p) = let a = p.1 in let b = h.1 in let z : i ≡ more = omega (arith, a, b) in absurd (grind (arith, z, e))
    go false e (inr p) = let a = p.1 in let z : suc i ≡ s = omega (arith, a) in grind (arith, z)

pub round_most : (more i : ℕ) → i ≤ more → round more i ≤ more
round_most more i h = go (nat_eq i more) refl
  where
    go : (b : Bool) → nat_eq i more ≡ b → (if b then 0 else suc i) ≤ more
    go true e = omega arith
    go false e = let n : i ≡ more → ⊥ = (λ z. grind (arith, e, z)) in grind (arith, e, h)

module _ {E : Type 0} where
  -- of leaves one after another: each path but the last is turned to the next, and the last can't be turned
  abbrev pub Chained : Words → ℕ → Chosen E → List (Leaf E) → Type 0
  Chained w d t [] = ⊥
  Chained w d t (l ∷ []) = turned w d l.0 ≡ None
  Chained w d t (l ∷ (m ∷ ls)) = ((q : List ℕ) × (turned w d l.0 ≡ Some q) × (follow w d q t ≡ m)) × Chained w d t (m ∷ ls)

  -- the leaves that lie from l on: they begin with l
  abbrev pub Begins : Leaf E → List (Leaf E) → Type 0
  Begins l [] = ⊥
  Begins l (m ∷ ls) = m ≡ l

  module _ (w : Words) (d more : ℕ) (arms : ℕ → Chosen E) where
    abbrev first : ℕ
    first = pick (w d) (suc more)

    abbrev at : ℕ → Leaf E
    at i = ahead more i (follow w (suc d) [] (arms i))

    -- what follows the leaves of arm i: none where all arms came, else those of the next arm
    abbrev Followed : ℕ → List (Leaf E) → Type 0
    Followed i b = ((b ≡ []) × (nat_eq (round more i) first ≡ true)) ⊎ (Chained w d (Chooses more arms) b × Begins (at (round more i)) b × (nat_eq (round more i) first ≡ false))

    stays : (i : ℕ) (p : List ℕ) → i ≤ more → follow w d (i ∷ p) (Chooses more arms) ≡ ahead more i (follow w (suc d) p (arms i))
    stays i p h = let z : i < suc more = omega (arith, h) in ap (λ j. ahead more j (follow w (suc d) p (arms j))) (mod-eq_of_lt z)

    chain_join : (i : ℕ) (l b : List (Leaf E)) → i ≤ more → round more i ≤ more → Chained w (suc d) (arms i) l → Followed i b → Chained w d (Chooses more arms) (map (ahead more i) l ++ b)
    chain_join i [] b v n h f = absurd h
    chain_join i (l ∷ []) b v n h (inl f) =
        subst (λ b. Chained w d (Chooses more arms) (ahead more i l ∷ b)) (sym f.0)
        (ap (turned_at first (record { count = suc more; taken = i })) h ∙ ap (λ (c : Bool). if c then None else Some (round more i ∷ [])) f.1)
    chain_join i (l ∷ []) [] v n h (inr f) = absurd f.0
    chain_join i (l ∷ []) (m ∷ b) v n h (inr f) =
        ((round more i ∷ [], ap (turned_at first (record { count = suc more; taken = i })) h ∙ ap (λ (c : Bool). if c then None else Some (round more i ∷ [])) f.2, stays (round more i) [] n ∙ sym f.1), f.0)
    chain_join i (l ∷ (m ∷ ls)) b v n h f =
        ((i ∷ h.0.0, ap (turned_at first (record { count = suc more; taken = i })) h.0.1, stays i h.0.0 v ∙ ap (ahead more i) h.0.2), chain_join i (m ∷ ls) b v n h.1 f)

    begins_join : (i : ℕ) (l b : List (Leaf E)) (x : Leaf E) → Begins x l → Begins (ahead more i x) (map (ahead more i) l ++ b)
    begins_join i [] b x h = absurd h
    begins_join i (l ∷ ls) b x h = ap (ahead more i) h

    chain_around : (f : ℕ → List (Leaf E)) → ((i : ℕ) → Chained w (suc d) (arms i) (f i) × Begins (follow w (suc d) [] (arms i)) (f i))
        → (left i : ℕ) → Left more first left i → Chained w d (Chooses more arms) (around f more (suc left) i) × Begins (at i) (around f more (suc left) i)
    chain_around f each zero i h =
        (chain_join i (f i) [] h.1 (round_most more i h.1) (each i).0 (inl (refl, left_end more first i h)), begins_join i (f i) [] (follow w (suc d) [] (arms i)) (each i).1)
    chain_around f each (suc left) i h =
        let n = left_next more first left i h in
        let r = chain_around f each left (round more i) n.0 in
        (chain_join i (f i) (around f more (suc left) (round more i)) h.1 n.0.1 (each i).0 (inr (r.0, r.1, not_true (nat_eq (round more i) first) n.1)), begins_join i (f i) (around f more (suc left) (round more i)) (follow w (suc d) [] (arms i)) (each i).1)
      where
        not_true : (b : Bool) → ((b ≡ true) → ⊥) → b ≡ false
        not_true true n = absurd (n refl)
        not_true false n = refl

    pub first_most : first ≤ more
    first_most = let e : first < suc more = mod_below (w d) more in omega (arith, e)
      where
        mod_below : (a n : ℕ) → a % suc n < suc n
        mod_below a n = mod-lt a (zero-lt-suc n)

  -- turning path after path visits all leaves, each once, in their order from the words on
  pub chained : (w : Words) (d : ℕ) (t : Chosen E) → Chained w d t (leaves_from w d t) × Begins (follow w d [] t) (leaves_from w d t)
  chained w d (Ended e) = (refl, refl)
  chained w d (Chooses more arms) = chain_around w d more arms (λ i. leaves_from w (suc d) (arms i)) (λ i. chained w (suc d) (arms i)) more (first w d more arms) (left_start more (first w d more arms) (first_most w d more arms))
