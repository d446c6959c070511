-- The leaves from any words on are the same, and as many.
use Rattle.std.proofs.Common.{◌≡◌, ◌≤◌, ◌<◌, ℕ, zero, suc, ◌+◌, Bool, true, false, List, [], ◌∷◌, ◌++◌, length, map, refl, sym, ap, ◌∙◌, subst, arith, ◌⊎◌, inl, inr, length-append, ap₂, ◌-◌}
use Rattle.std.specs.Prelude.{if◌then◌else◌, nat_eq, nat_le}
use Rattle.pgo_model.specs.Choice.{pick}
use Rattle.pgo_model.specs.System.{Words}
use Rattle.pgo_tries.specs.Chosen.{Chosen, Ended, Chooses, Leaf, ahead, follow, round, around, leaves_from, In, Here, There}
use Rattle.pgo_tries.specs.Tries.{Left, left_start, left_next, first_most}

abbrev pub total : (ℕ → ℕ) → ℕ → ℕ
total g zero = 0
total g (suc n) = total g n + g n

-- how many leaves there are
abbrev pub count : {E : Type 0} → Chosen E → ℕ
count (Ended e) = 1
count (Chooses more arms) = total (λ i. count (arms i)) (suc more)

length_map : {A B : Type 0} (f : A → B) (l : List A) → length (map f l) ≡ length l
length_map f [] = refl
length_map f (x ∷ l) = ap suc (length_map f l)

in_left : {A : Type 0} (x : A) (a b : List A) → In x a → In x (a ++ b)
in_left x [] b i = elim i [ ]
in_left x (y ∷ a) b (Here _) = Here (a ++ b)
in_left x (y ∷ a) b (There _ i) = There y (in_left x a b i)

in_right : {A : Type 0} (x : A) (a b : List A) → In x b → In x (a ++ b)
in_right x [] b i = i
in_right x (y ∷ a) b i = There y (in_right x a b i)

in_either : {A : Type 0} (x : A) (a b : List A) → In x (a ++ b) → In x a ⊎ In x b
in_either x [] b i = inr i
in_either x (y ∷ a) b (Here _) = inl (Here a)
in_either x (y ∷ a) b (There _ i) = go (in_either x a b i)
  where
    go : In x a ⊎ In x b → In x (y ∷ a) ⊎ In x b
    go (inl i) = inl (There y i)
    go (inr i) = inr i

in_map : {A B : Type 0} (g : A → B) (x : A) (a : List A) → In x a → In (g x) (map g a)
in_map g x [] i = elim i [ ]
in_map g x (y ∷ a) (Here _) = Here (map g a)
in_map g x (y ∷ a) (There _ i) = There (g y) (in_map g x a i)

of_map : {A B : Type 0} (g : A → B) (z : B) (a : List A) → In z (map g a) → (x : A) × In x a × (g x ≡ z)
of_map g z [] i = elim i [ ]
of_map g z (y ∷ a) (Here _) = (y, Here a, refl)
of_map g z (y ∷ a) (There _ i) = let r = of_map g z a i in (r.0, There y r.1, r.2)

same_left : (more s left i j : ℕ) → Left more s left i → Left more s left j → i ≡ j
same_left more s left i j h k = go h.2 k.2
  where
    go : ((s ≤ i) × (left + i ≡ more + s)) ⊎ ((i < s) × (suc (left + i) ≡ s)) → ((s ≤ j) × (left + j ≡ more + s)) ⊎ ((j < s) × (suc (left + j) ≡ s)) → i ≡ j
    go (inl p) (inl q) = let a = p.1 in let b = q.1 in omega (arith, a, b)
    go (inl p) (inr q) = let a = p.1 in let b = q.1 in let c = h.1 in absurd (omega (arith, a, b, c))
    go (inr p) (inl q) = let a = p.1 in let b = q.1 in let c = k.1 in absurd (omega (arith, a, b, c))
    go (inr p) (inr q) = let a = p.1 in let b = q.1 in omega (arith, a, b)

-- where an arm stands in the round
place : (more s i : ℕ) → s ≤ more → i ≤ more → (left : ℕ) × (left ≤ more) × Left more s left i
place more s i h k = go (nat_le s i) refl
  where
    go : (b : Bool) → nat_le s i ≡ b → (left : ℕ) × (left ≤ more) × Left more s left i
    go true e = let q : s ≤ i = grind (arith, e) in (more + s - i, (let z : more + s - i ≤ more = omega (arith, q) in z), (h, k, inl (q, (let z : more + s - i + i ≡ more + s = omega (arith, k) in z))))
    go false e = let q : i < s = grind (arith, e) in (s - suc i, (let z : s - suc i ≤ more = omega (arith, h) in z), (h, k, inr (q, (let z : suc (s - suc i + i) ≡ s = omega (arith, q) in z))))

module _ {E : Type 0} where
  -- the arms that are left behind arm i, and those before it
  abbrev Sum : (ℕ → List (Leaf E)) → (ℕ → ℕ) → ℕ → ℕ → ℕ → ℕ → Type 0
  Sum f g more s left i =
      ((s ≤ i) × (length (around f more (suc left) i) + total g i ≡ total g (suc more) + total g s)) ⊎ ((i < s) × (length (around f more (suc left) i) + total g i ≡ total g s))

  module _ (f : ℕ → List (Leaf E)) (g : ℕ → ℕ) (each : (i : ℕ) → length (f i) ≡ g i) (more s : ℕ) where
    one : (i : ℕ) (r : List (Leaf E)) → length (map (ahead more i) (f i) ++ r) ≡ g i + length r
    one i r = length-append (map (ahead more i) (f i)) r ∙ ap (λ m. m + length r) (length_map (ahead more i) (f i) ∙ each i)

    length_around : (left i : ℕ) → Left more s left i → Sum f g more s left i
    length_around zero i h = go h.2
      where
        go : ((s ≤ i) × (0 + i ≡ more + s)) ⊎ ((i < s) × (suc (0 + i) ≡ s)) → Sum f g more s 0 i
        go (inl p) =
            let a = p.1 in let b = h.1 in let z : s ≡ 0 = omega (arith, a, b) in let m : i ≡ more = omega (arith, a, b) in let o = one i [] in
            inl (p.0, (let q : length (map (ahead more i) (f i) ++ []) + total g i ≡ total g i + g i + 0 = omega (arith, o) in q ∙ ap₂ (λ n k. total g (suc n) + total g k) m (sym z)))
        go (inr p) =
            let a = p.1 in let m : suc i ≡ s = omega (arith, a) in let o = one i [] in
            inr (p.0, (let q : length (map (ahead more i) (f i) ++ []) + total g i ≡ total g i + g i = omega (arith, o) in q ∙ ap (total g) m))
    length_around (suc left) i h = go (length_around left (round more i) (left_next more s left i h).0) (nat_eq i more) refl h.2
      where
        o : length (around f more (suc (suc left)) i) ≡ g i + length (around f more (suc left) (round more i))
        o = one i (around f more (suc left) (round more i))

        up : (nat_eq i more ≡ false) → round more i ≡ suc i
        up e = ap (λ (b : Bool). if b then 0 else suc i) e

        back : (nat_eq i more ≡ true) → round more i ≡ 0
        back e = ap (λ (b : Bool). if b then 0 else suc i) e

        go : Sum f g more s left (round more i) → (b : Bool) → nat_eq i more ≡ b → ((s ≤ i) × (suc left + i ≡ more + s)) ⊎ ((i < s) × (suc (suc left + i) ≡ s)) → Sum f g more s (suc left) i
        go t true e (inl p) =
            let m : i ≡ more = grind (arith, e) in let a = p.1 in let c : suc left ≡ s = omega (arith, m, a) in
            let r = subst (λ j. Sum f g more s left j) (back e) t in
            let o' = o ∙ ap (λ j. g i + length (around f more (suc left) j)) (back e) in
            inl (p.0, wrap r c o' m)
          where
            wrap : Sum f g more s left 0 → suc left ≡ s → length (around f more (suc (suc left)) i) ≡ g i + length (around f more (suc left) 0) → i ≡ more
                → length (around f more (suc (suc left)) i) + total g i ≡ total g (suc more) + total g s
            wrap (inl r) c o' m = let z = r.0 in absurd (omega (arith, z, c))
            wrap (inr r) c o' m =
                let q = r.1 in
                (let x : length (around f more (suc (suc left)) i) + total g i ≡ total g i + g i + total g s = omega (arith, o', q) in x) ∙ ap (λ n. total g (suc n) + total g s) m
        go t true e (inr p) = let m : i ≡ more = grind (arith, e) in let a = p.0 in let b = h.0 in absurd (omega (arith, m, a, b))
        go t false e (inl p) =
            let r = subst (λ j. Sum f g more s left j) (up e) t in
            let o' = o ∙ ap (λ j. g i + length (around f more (suc left) j)) (up e) in
            inl (p.0, on r o')
          where
            on : Sum f g more s left (suc i) → length (around f more (suc (suc left)) i) ≡ g i + length (around f more (suc left) (suc i))
                → length (around f more (suc (suc left)) i) + total g i ≡ total g (suc more) + total g s
            on (inl r) o' = let q = r.1 in omega (arith, q, o')
            on (inr r) o' = let z = r.0 in let y = p.0 in absurd (omega (arith, z, y))
        go t false e (inr p) =
            let r = subst (λ j. Sum f g more s left j) (up e) t in
            let o' = o ∙ ap (λ j. g i + length (around f more (suc left) j)) (up e) in
            inr (p.0, on r o')
          where
            on : Sum f g more s left (suc i) → length (around f more (suc (suc left)) i) ≡ g i + length (around f more (suc left) (suc i))
                → length (around f more (suc (suc left)) i) + total g i ≡ total g s
            on (inl r) o' = let z = r.0 in let y = p.1 in absurd (omega (arith, z, y))
            on (inr r) o' = let q = r.1 in omega (arith, q, o')

    length_all : s ≤ more → length (around f more (suc more) s) ≡ total g (suc more)
    length_all h = go (length_around more s (left_start more s h))
      where
        go : Sum f g more s more s → length (around f more (suc more) s) ≡ total g (suc more)
        go (inl r) = let q = r.1 in omega (arith, q)
        go (inr r) = let z = r.0 in absurd (omega (arith, z))

  -- from whatever words on there are as many leaves
  pub as_many : (w : Words) (d : ℕ) (t : Chosen E) → length (leaves_from w d t) ≡ count t
  as_many w d (Ended e) = refl
  as_many w d (Chooses more arms) = length_all (λ i. leaves_from w (suc d) (arms i)) (λ i. count (arms i)) (λ i. as_many w (suc d) (arms i)) more (pick (w d) (suc more)) (first_most w d more arms)

  -- ---- which leaves

  -- a leaf of one of the arms
  abbrev OfArm : (ℕ → List (Leaf E)) → ℕ → Leaf E → Type 0
  OfArm f more l = (i : ℕ) × (i ≤ more) × In l (map (ahead more i) (f i))

  module _ (f : ℕ → List (Leaf E)) (more s : ℕ) (l : Leaf E) where
    around_has : (left i j k : ℕ) → Left more s left i → Left more s k j → k ≤ left → In l (map (ahead more j) (f j)) → In l (around f more (suc left) i)
    around_has zero i j k h g m a =
        let z : k ≡ 0 = omega (arith, m) in let e = same_left more s 0 i j h (subst (λ k. Left more s k j) z g) in
        in_left l (map (ahead more i) (f i)) [] (subst (λ j. In l (map (ahead more j) (f j))) (sym e) a)
    around_has (suc left) i j k h g m a = go (nat_eq k (suc left)) refl (λ z. around_has left (round more i) j k (left_next more s left i h).0 g z a)
      where
        go : (b : Bool) → nat_eq k (suc left) ≡ b → (k ≤ left → In l (around f more (suc left) (round more i))) → In l (around f more (suc (suc left)) i)
        go true e ih =
            let z : k ≡ suc left = grind (arith, e) in let e = same_left more s (suc left) i j h (subst (λ k. Left more s k j) z g) in
            in_left l (map (ahead more i) (f i)) (around f more (suc left) (round more i)) (subst (λ j. In l (map (ahead more j) (f j))) (sym e) a)
        go false e ih =
            let z : k ≤ left = less k left m e in
            in_right l (map (ahead more i) (f i)) (around f more (suc left) (round more i)) (ih z)
          where
            less : (k left : ℕ) → k ≤ suc left → nat_eq k (suc left) ≡ false → k ≤ left
            less k left m e = let n : k ≡ suc left → ⊥ = (λ z. grind (arith, e, z)) in grind (arith, e, m)

    around_of : (left i : ℕ) → Left more s left i → In l (around f more (suc left) i) → OfArm f more l
    around_of zero i h a = go (in_either l (map (ahead more i) (f i)) [] a)
      where
        go : In l (map (ahead more i) (f i)) ⊎ In l [] → OfArm f more l
        go (inl a) = (i, h.1, a)
        go (inr a) = elim a [ ]
    around_of (suc left) i h a = go (around_of left (round more i) (left_next more s left i h).0) (in_either l (map (ahead more i) (f i)) (around f more (suc left) (round more i)) a)
      where
        go : (In l (around f more (suc left) (round more i)) → OfArm f more l) → In l (map (ahead more i) (f i)) ⊎ In l (around f more (suc left) (round more i)) → OfArm f more l
        go ih (inl a) = (i, h.1, a)
        go ih (inr a) = ih a

  has_arm : (f : ℕ → List (Leaf E)) (more s i : ℕ) (l : Leaf E) → s ≤ more → i ≤ more → In l (map (ahead more i) (f i)) → In l (around f more (suc more) s)
  has_arm f more s i l h k a = let p = place more s i h k in around_has f more s l more s i p.0 (left_start more s h) p.2 p.1 a

  -- whatever words pick, it is one of the leaves
  pub is_leaf : (w v : Words) (d : ℕ) (t : Chosen E) → In (follow v d [] t) (leaves_from w d t)
  is_leaf w v d (Ended e) = Here []
  is_leaf w v d (Chooses more arms) =
      let i : ℕ = pick (v d) (suc more) in
      has_arm (λ i. leaves_from w (suc d) (arms i)) more (pick (w d) (suc more)) i (ahead more i (follow v (suc d) [] (arms i))) (first_most w d more arms) (first_most v d more arms)
      (in_map (ahead more i) (follow v (suc d) [] (arms i)) (leaves_from w (suc d) (arms i)) (is_leaf w v (suc d) (arms i)))

  -- from whatever words on they are the same leaves
  pub same_leaves : (w v : Words) (d : ℕ) (t : Chosen E) (l : Leaf E) → In l (leaves_from w d t) → In l (leaves_from v d t)
  same_leaves w v d (Ended e) l a = a
  same_leaves w v d (Chooses more arms) l a =
      let o = around_of (λ i. leaves_from w (suc d) (arms i)) more (pick (w d) (suc more)) l more (pick (w d) (suc more)) (left_start more (pick (w d) (suc more)) (first_most w d more arms)) a in
      let m = of_map (ahead more o.0) l (leaves_from w (suc d) (arms o.0)) o.2 in
      has_arm (λ i. leaves_from v (suc d) (arms i)) more (pick (v d) (suc more)) o.0 l (first_most v d more arms) o.1
      (subst (λ l. In l (map (ahead more o.0) (leaves_from v (suc d) (arms o.0)))) m.2 (in_map (ahead more o.0) m.0 (leaves_from v (suc d) (arms o.0)) (same_leaves w v (suc d) (arms o.0) m.0 m.1)))
