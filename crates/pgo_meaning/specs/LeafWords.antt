-- The leaves of a section are what its words of choice lead to.
use Rattle.std.proofs.Common.{◌≡◌, ◌≤◌, ◌<◌, ◌↔◌, ℕ, zero, suc, Bool, true, false, List, [], ◌∷◌, ◌++◌, map, refl, sym, ap, ◌∙◌, subst, arith, ◌⊎◌, inl, inr, mod-eq_of_lt}
use Rattle.std.specs.Prelude.{if◌then◌else◌, nat_eq}
use Rattle.pgo_base.specs.Lookup.{Vars}
use Rattle.pgo_model.specs.Choice.{pick}
use Rattle.pgo_model.specs.Machine.{put}
use Rattle.pgo_model.specs.Outcome.{Outcome, Section}
use Rattle.pgo_model.specs.System.{Words, Touched}
use Rattle.pgo_syntax.specs.declared.bound.Bound.{Bound}
use Rattle.pgo_tries.specs.Chosen.{Chosen, Ended, Chooses, Leaf, ahead, around, follow, leaves, leaves_from, round, In, Here, There}
use Rattle.pgo_tries.specs.Counts.{is_leaf}
use Rattle.pgo_tries.specs.Tries.{first_most, round_most}
use Rattle.pgo_meaning.specs.Attempt.{leaf_section}
use Rattle.pgo_meaning.specs.Enabled.{Leaves, SectTree, leaf_follows}
use Rattle.pgo_meaning.specs.Sect.{Sect}

in_map : {A B : Type 0} (g : A → B) (l : List A) (x : A) → In x l → In (g x) (map g l)
in_map g [] x i = elim i [ ]
in_map g (y ∷ l) _ (Here _) = Here (map g l)
in_map g (y ∷ l) x (There _ i) = There (g y) (in_map g l x i)

of_map : {A B : Type 0} (g : A → B) (l : List A) (z : B) → In z (map g l) → (x : A) × In x l × (g x ≡ z)
of_map g [] z i = elim i [ ]
of_map g (y ∷ l) _ (Here _) = (y, Here l, refl)
of_map g (y ∷ l) z (There _ i) = let r = of_map g l z i in (r.0, There y r.1, r.2)

in_either : {A : Type 0} (l m : List A) (x : A) → In x (l ++ m) → In x l ⊎ In x m
in_either [] m x i = inr i
in_either (y ∷ l) m _ (Here _) = inl (Here l)
in_either (y ∷ l) m x (There _ i) = go (in_either l m x i)
  where
    go : In x l ⊎ In x m → In x (y ∷ l) ⊎ In x m
    go (inl i) = inl (There y i)
    go (inr i) = inr i

put_behind : (d j : ℕ) (v : Words) (e : ℕ) → suc d ≤ e → put d j v e ≡ v e
put_behind d j v e l = let n : nat_eq e d ≡ false = (let x : e ≡ d → ⊥ = (λ z. omega (arith, l, z)) in grind (arith, x)) in ap (λ (b : Bool). if b then j else v e) n

module _ {E : Type 0} where
  -- a leaf of one of the arms
  abbrev OfArm : (ℕ → List (Leaf E)) → ℕ → Leaf E → Type 0
  OfArm f more l = (j : ℕ) × (j ≤ more) × (m : Leaf E) × In m (f j) × (ahead more j m ≡ l)

  of_arm : (f : ℕ → List (Leaf E)) (more left i : ℕ) (l : Leaf E) → i ≤ more → In l (around f more left i) → OfArm f more l
  of_arm f more zero i l h a = elim a [ ]
  of_arm f more (suc left) i l h a = go (in_either (map (ahead more i) (f i)) (around f more left (round more i)) l a) (λ a. of_arm f more left (round more i) l (round_most more i h) a)
    where
      go : In l (map (ahead more i) (f i)) ⊎ In l (around f more left (round more i)) → (In l (around f more left (round more i)) → OfArm f more l) → OfArm f more l
      go (inl a) ih = let m = of_map (ahead more i) (f i) l a in (i, h, m.0, m.1, m.2)
      go (inr a) ih = ih a

  -- words that are the same from word d on lead to the same
  follow_same : (u v : Words) (d : ℕ) (t : Chosen E) → ((e : ℕ) → d ≤ e → u e ≡ v e) → follow u d [] t ≡ follow v d [] t
  follow_same u v d (Ended e) h = refl
  follow_same u v d (Chooses more arms) h =
      ap (λ n. let i = pick n (suc more) in ahead more i (follow u (suc d) [] (arms i))) (h d (let z : d ≤ d = omega arith in z))
      ∙ ap (ahead more (pick (v d) (suc more))) (follow_same u v (suc d) (arms (pick (v d) (suc more))) (λ e l. h e (let z : d ≤ e = omega (arith, l) in z)))

  -- to each leaf some words lead
  words_to : (w : Words) (d : ℕ) (t : Chosen E) (l : Leaf E) → In l (leaves_from w d t) → (v : Words) × (follow v d [] t ≡ l)
  words_to w d (Ended e) _ (Here _) = (w, refl)
  words_to w d (Ended e) l (There _ i) = elim i [ ]
  words_to w d (Chooses more arms) l a =
      let r = of_arm (λ i. leaves_from w (suc d) (arms i)) more (suc more) (pick (w d) (suc more)) l (first_most w d more arms) a in
      let j = r.0 in
      let q = words_to w (suc d) (arms j) r.2 r.3 in
      let here : put d j q.0 d ≡ j = (let n : nat_eq d d ≡ true = grind arith in ap (λ (b : Bool). if b then j else q.0 d) n) in
      let picked : pick (put d j q.0 d) (suc more) ≡ j = ap (λ n. pick n (suc more)) here ∙ mod-eq_of_lt (let low = r.1 in let z : j < suc more = omega (arith, low) in z) in
      (put d j q.0, ap (λ i. ahead more i (follow (put d j q.0) (suc d) [] (arms i))) picked ∙ ap (ahead more j) (follow_same (put d j q.0) q.0 (suc d) (arms j) (λ e l. put_behind d j q.0 e l) ∙ q.1) ∙ r.4)

-- with all words a section ends as one of its leaves does, and each leaf is what some words lead to
pub leaf_words : (b : Bound) (k : ℕ) (s : Vars) (o : Outcome Vars) → In o (Leaves b k s) ↔ ((v : Words) × ((Sect b k s v).end ≡ o))
leaf_words b k s o = (words, λ h. subst (λ o. In o (Leaves b k s)) h.1 (leaf h.0))
  where
    end_is : (v : Words) → (Sect b k s v).end ≡ (follow v 0 [] (SectTree b k s)).1
    end_is v = ap (λ (x : Section Touched Vars). x.end) (sym (leaf_section b k s v)) ∙ ap (λ (l : Leaf (Outcome Vars)). l.1) (leaf_follows b k s v)

    words : In o (Leaves b k s) → (v : Words) × ((Sect b k s v).end ≡ o)
    words i =
        let l = of_map (λ (l : Leaf (Outcome Vars)). l.1) (leaves (SectTree b k s)) o i in
        let v = words_to (λ d. 0) 0 (SectTree b k s) l.0 l.1 in
        (v.0, end_is v.0 ∙ ap (λ (l : Leaf (Outcome Vars)). l.1) v.1 ∙ l.2)

    leaf : (v : Words) → In (Sect b k s v).end (Leaves b k s)
    leaf v =
        subst (λ o. In o (Leaves b k s)) (sym (end_is v))
        (in_map (λ (l : Leaf (Outcome Vars)). l.1) (leaves (SectTree b k s)) (follow v 0 [] (SectTree b k s)) (is_leaf (λ d. 0) v 0 (SectTree b k s)))
