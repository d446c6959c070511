-- What a turn does to the measure of what is still to be looked at.
use Rattle.std.proofs.lemmas.Bool.{le-leb}
use Rattle.std.proofs.Common.{◌≡◌, ◌∙◌, ℕ, suc, ◌+◌, ◌-◌, if◌then◌else◌, max, List, [], ◌∷◌, Option, Some, None, false, refl, ap, sym, arith}
use Rattle.std.specs.Prelude.{option_map}
use Rattle.pgo_base.specs.Lookup.{Name}
use Rattle.pgo_base.specs.Tree.{Tree}
use Rattle.pgo_expr_read.specs.Heights.{height}
use Rattle.pgo_model.specs.Options.{on}
use Rattle.pgo_sections.specs.Expansion.{Expansion, With, In, Skip, Await, Assert, Print, If, Either, End}
use Rattle.pgo_sections.specs.Nodes.{changes_nodes, nodes, tree_nodes}
use Rattle.pgo_sizes.specs.Left.{left_after}
use Rattle.pgo_measure.specs.Heights.{capped, join, action_height, end_height, items_of, label_height}
use Rattle.pgo_measure.specs.Measured.{Part, nodes_in, highest, measured}
use Rattle.pgo_measure.specs.Spots.{shift}
use Rattle.pgo_measure.specs.declared.spot.Spot.{Spot}
use Rattle.pgo_measure.specs.declared.tally.Tally.{Tally}
use Rattle.pgo_walk.specs.declared.event.Move.{Move}
use Rattle.pgo_walk.specs.declared.event.Move.TheVariants as moves
use Rattle.pgo_walk.specs.Emitted.{moved}
use Rattle.pgo_measure.specs.Looked.{looked, in_form, behind_item}
use Rattle.pgo_measure.specs.Pendings.{part, behind_tally}
use Rattle.pgo_measure.proofs.Capped.{all_joined_capped}

less_left : (l m n : ℕ) → left_after l m ≡ None → left_after l (m + n) ≡ None
less_left l m n h = grind (arith, h)

both_left : (l m n r : ℕ) → left_after l m ≡ Some r → left_after l (m + n) ≡ left_after r n
both_left l m n r h = grind (arith, h)

-- so much is spent, and then as much as m
pub left_after_sum : (l n m : ℕ) → left_after l (n + m) ≡ on None (left_after l n) (λ k. left_after k m)
left_after_sum l n m = go (left_after l n) refl
  where
    go : (o : Option ℕ) → left_after l n ≡ o → left_after l (n + m) ≡ on None o (λ k. left_after k m)
    go None e = less_left l n m e
    go (Some r) e = both_left l n m r e

-- what is looked at becomes other parts, and so many nodes are spent
pub measured_step : (vs gs : List Name) (l n h h' : ℕ) (ps qs : List Part) → nodes_in ps ≡ n + nodes_in qs
    → capped (max h (highest vs gs ps)) ≡ capped (max h' (highest vs gs qs))
    → measured vs gs l h ps ≡ on None (left_after l n) (λ k. measured vs gs k h' qs)
measured_step vs gs l n h h' ps qs e q =
    ap (λ m. option_map (λ k. (k, capped (max h (highest vs gs ps)))) (left_after l m)) e
    ∙ ap (λ c. option_map (λ k. (k, c)) (left_after l (n + nodes_in qs))) q
    ∙ ap (option_map (λ k. (k, capped (max h' (highest vs gs qs))))) (left_after_sum l n (nodes_in qs))
    ∙ go (left_after l n)
  where
    go : (o : Option ℕ) → option_map (λ k. (k, capped (max h' (highest vs gs qs)))) (on None o (λ k. left_after k (nodes_in qs))) ≡ on None o (λ k. measured vs gs k h' qs)
    go None = refl
    go (Some r) = refl

-- ---- heights

cap_max : (a b : ℕ) → capped (max a b) ≡ max (capped a) (capped b)
cap_max a b = omega arith

cap_twice : (a : ℕ) → capped (capped a) ≡ capped a
cap_twice a = omega arith

regroup : (h u v t : ℕ) → max h (max (max u v) t) ≡ max (max h u) (max v t)
regroup h u v t = omega arith

mixed : (h u u' v v' t : ℕ) → capped u ≡ capped u' → capped v ≡ capped v' → capped (max h (max (max u v) t)) ≡ capped (max (capped (max h u')) (max v' t))
mixed h u u' v v' t p q =
    cap_max h (max (max u v) t)
    ∙ ap (λ m. max (capped h) m) (cap_max (max u v) t ∙ ap (λ m. max m (capped t)) (cap_max u v ∙ (λ i. max (p i) (q i))))
    ∙ regroup (capped h) (capped u') (capped v') (capped t)
    ∙ sym (cap_max (capped (max h u')) (max v' t) ∙ (λ i. max ((cap_twice (max h u') ∙ cap_max h u') i) (cap_max v' t i)))

nested_parts : (d : ℕ) (b : Option ℕ) (g a : ℕ) → d + join b (suc (max g a)) ≡ max (d + join b (suc g)) (suc (d + shift b) + a)
nested_parts d None g a = omega arith
nested_parts d (Some x) g a = omega arith

item_capped : (d : ℕ) (b : Option ℕ) (g own : ℕ) → capped own ≡ capped g → capped (d + join b (suc g)) ≡ capped (d + join b (suc own))
item_capped d None g own e = omega (arith, e)
item_capped d (Some x) g own e = omega (arith, e)

-- a form in which an expansion of height a stands
pub nested_height : (h d : ℕ) (b : Option ℕ) (g own a t : ℕ) → capped own ≡ capped g
    → capped (max h (max (d + join b (suc (max g a))) t)) ≡ capped (max (capped (max h (d + join b (suc own)))) (max (capped (suc (d + shift b)) + a) t))
nested_height h d b g own a t e =
    ap (λ m. capped (max h (max m t))) (nested_parts d b g a)
    ∙ mixed h (d + join b (suc g)) (d + join b (suc own)) (suc (d + shift b) + a) (capped (suc (d + shift b)) + a) t (item_capped d b g own e) (omega arith)

-- a conjunction before which two heights are told apart up to the limit alone
pub action_capped : (vs gs : List Name) (a b : ℕ) (x : Expansion) → capped a ≡ capped b → capped (action_height vs gs (Some a) x) ≡ capped (action_height vs gs (Some b) x)
action_capped vs gs a b (With y e rest) p = omega (arith, p)
action_capped vs gs a b (In y e rest) p = omega (arith, p)
action_capped vs gs a b (Skip rest) p = action_capped vs gs a b rest p
action_capped vs gs a b (Await e rest) p = action_capped vs gs (join (Some a) (height e)) (join (Some b) (height e)) rest (omega (arith, p))
action_capped vs gs a b (Assert e rest) p = action_capped vs gs (join (Some a) (suc (max (height e) 1))) (join (Some b) (suc (max (height e) 1))) rest (omega (arith, p))
action_capped vs gs a b (Print e rest) p = action_capped vs gs (join (Some a) (suc (height e))) (join (Some b) (suc (height e))) rest (omega (arith, p))
action_capped vs gs a b (If e x y) p = omega (arith, p)
action_capped vs gs a b (Either arms) p = omega (arith, p)
action_capped vs gs a b (End changes label) p = all_joined_capped a b (items_of gs changes false vs) p

-- one item more before an expansion
pub item_height : (vs gs : List Name) (h d : ℕ) (b : Option ℕ) (g own t : ℕ) (x : Expansion) → capped own ≡ capped g
    → capped (max h (max (d + action_height vs gs (Some (join b g)) x) t)) ≡ capped (max h (max (d + action_height vs gs (Some (capped (join b own))) x) t))
item_height vs gs h d b g own t x e =
    let same : capped (action_height vs gs (Some (join b g)) x) ≡ capped (action_height vs gs (Some (capped (join b own))) x) =
    action_capped vs gs (join b g) (capped (join b own)) x (at_join b) in
    omega (arith, same)
  where
    at_join : (c : Option ℕ) → capped (join c g) ≡ capped (capped (join c own))
    at_join None = omega (arith, e)
    at_join (Some y) = omega (arith, e)

-- ---- statements

module _ (vs gs : List Name) (t : Tally) (ps : List Part) where
  in_form_law : (g n : ℕ) (x whole : Expansion) → nodes whole ≡ n + nodes x
      → action_height vs gs t.spot.before whole ≡ join t.spot.before (suc (max g (action_height vs gs None x)))
      → measured vs gs t.left t.height (part t.spot whole ∷ ps) ≡ behind_tally vs gs (in_form t g n) (λ s. part s.spot x ∷ ps)
  in_form_law g n x whole e q =
      measured_step vs gs t.left n t.height (capped (max t.height (t.spot.depth + join t.spot.before (suc g)))) (part t.spot whole ∷ ps)
      (part (record { before = None; depth = capped (suc (t.spot.depth + shift t.spot.before)) }) x ∷ ps) (omega (arith, e))
      (ap (λ m. capped (max t.height (max (t.spot.depth + m) (highest vs gs ps)))) q
      ∙ nested_height t.height t.spot.depth t.spot.before g g (action_height vs gs None x) (highest vs gs ps) refl)
      ∙ go (left_after t.left n)
    where
      go : (o : Option ℕ)
          → on None o (λ k. measured vs gs k (capped (max t.height (t.spot.depth + join t.spot.before (suc g)))) (part (record { before = None; depth = capped (suc (t.spot.depth + shift t.spot.before)) }) x ∷ ps))
          ≡ behind_tally vs gs (option_map (λ l. record { left = l; height = capped (max t.height (t.spot.depth + join t.spot.before (suc g))); spot = record { before = None; depth = capped (suc (t.spot.depth + shift t.spot.before)) } }) o) (λ s. part s.spot x ∷ ps)
      go None = refl
      go (Some l) = refl

  item_law : (g n : ℕ) (x whole : Expansion) → nodes whole ≡ n + nodes x
      → action_height vs gs t.spot.before whole ≡ action_height vs gs (Some (join t.spot.before g)) x
      → measured vs gs t.left t.height (part t.spot whole ∷ ps) ≡ behind_tally vs gs (behind_item t g n) (λ s. part s.spot x ∷ ps)
  item_law g n x whole e q =
      measured_step vs gs t.left n t.height t.height (part t.spot whole ∷ ps)
      (part (record { before = Some (capped (join t.spot.before g)); depth = t.spot.depth }) x ∷ ps) (omega (arith, e))
      (ap (λ m. capped (max t.height (max (t.spot.depth + m) (highest vs gs ps)))) q
      ∙ item_height vs gs t.height t.spot.depth t.spot.before g g (highest vs gs ps) x refl)
      ∙ go (left_after t.left n)
    where
      go : (o : Option ℕ)
          → on None o (λ k. measured vs gs k t.height (part (record { before = Some (capped (join t.spot.before g)); depth = t.spot.depth }) x ∷ ps))
          ≡ behind_tally vs gs (option_map (λ l. record { left = l; height = t.height; spot = record { before = Some (capped (join t.spot.before g)); depth = t.spot.depth } }) o) (λ s. part s.spot x ∷ ps)
      go None = refl
      go (Some l) = refl

  skip_law : (x : Expansion) → measured vs gs t.left t.height (part t.spot (Skip x) ∷ ps) ≡ behind_tally vs gs (looked t moves.Skip) (λ s. part s.spot x ∷ ps)
  skip_law x =
      measured_step vs gs t.left 1 t.height t.height (part t.spot (Skip x) ∷ ps) (part t.spot x ∷ ps) (omega arith) refl ∙ go (left_after t.left 1)
    where
      go : (o : Option ℕ) → on None o (λ k. measured vs gs k t.height (part t.spot x ∷ ps))
          ≡ behind_tally vs gs (option_map (λ l. record { left = l; height = t.height; spot = t.spot }) o) (λ s. part s.spot x ∷ ps)
      go None = refl
      go (Some l) = refl

  -- the measure before a statement is that of what follows, behind it
  pub looked_law : (m : Move) (x : Expansion) → measured vs gs t.left t.height (part t.spot (moved m x) ∷ ps) ≡ behind_tally vs gs (looked t m) (λ s. part s.spot x ∷ ps)
  looked_law (moves.With y e) x = in_form_law (suc (height e)) (suc (tree_nodes e)) x (With y e x) (omega arith) refl
  looked_law (moves.In y e) x = in_form_law (height e) (suc (tree_nodes e)) x (In y e x) (omega arith) refl
  looked_law moves.Skip x = skip_law x
  looked_law (moves.Await e) x = item_law (height e) (suc (tree_nodes e)) x (Await e x) (omega arith) refl
  looked_law (moves.Assert e) x = item_law (suc (max (height e) 1)) (suc (tree_nodes e)) x (Assert e x) (omega arith) refl
  looked_law (moves.Print e) x = item_law (suc (height e)) (suc (tree_nodes e)) x (Print e x) (omega arith) refl

  branches : (d a b n : ℕ) → max (d + max a b) n ≡ max (d + a) (max (d + b) n)
  branches d a b n = omega arith

  -- the measure before a test is that of both branches, behind it
  pub test_law : (e : Tree) (x y : Expansion) → measured vs gs t.left t.height (part t.spot (If e x y) ∷ ps)
      ≡ behind_tally vs gs (in_form t (height e) (suc (tree_nodes e))) (λ s. part s.spot x ∷ part s.spot y ∷ ps)
  test_law e x y =
      measured_step vs gs t.left (suc (tree_nodes e)) t.height high (part t.spot (If e x y) ∷ ps) (part below x ∷ part below y ∷ ps) (omega arith)
      (nested_height t.height t.spot.depth t.spot.before (height e) (height e) (max (action_height vs gs None x) (action_height vs gs None y)) (highest vs gs ps) refl
      ∙ ap (λ m. capped (max high m)) (branches (capped (suc (t.spot.depth + shift t.spot.before))) (action_height vs gs None x) (action_height vs gs None y) (highest vs gs ps)))
      ∙ go (left_after t.left (suc (tree_nodes e)))
    where
      high : ℕ
      high = capped (max t.height (t.spot.depth + join t.spot.before (suc (height e))))

      below : Spot
      below = record { before = None; depth = capped (suc (t.spot.depth + shift t.spot.before)) }

      go : (o : Option ℕ) → on None o (λ k. measured vs gs k high (part below x ∷ part below y ∷ ps))
          ≡ behind_tally vs gs (option_map (λ l. record { left = l; height = high; spot = below }) o) (λ s. part s.spot x ∷ part s.spot y ∷ ps)
      go None = refl
      go (Some l) = refl

  end_parts : (h d e n : ℕ) → capped (max h (max (d + e) n)) ≡ capped (max (capped (max h (d + capped e))) n)
  end_parts h d e n = omega arith

  -- the measure before an end
  pub end_law : (changes : List (Name × Name)) (label : Name) (high : ℕ) → high ≡ capped (max t.height (t.spot.depth + capped (end_height gs vs t.spot.before changes)))
      → measured vs gs t.left t.height (part t.spot (End changes label) ∷ ps) ≡ on None (left_after t.left (suc (changes_nodes changes))) (λ k. measured vs gs k high ps)
  end_law changes label high e =
      measured_step vs gs t.left (suc (changes_nodes changes)) t.height high (part t.spot (End changes label) ∷ ps) ps refl
      (end_parts t.height t.spot.depth (end_height gs vs t.spot.before changes) (highest vs gs ps) ∙ ap (λ m. capped (max m (highest vs gs ps))) (sym e))

-- ---- the whole

-- nothing is left to be looked at
pub measured_none : (vs gs : List Name) (l h : ℕ) → measured vs gs l h [] ≡ Some (l, capped h)
measured_none vs gs l h =
    ap (λ b. option_map {U = ℕ × ℕ} (λ k. (k, capped (max h 0))) (if b then Some (l - 0) else None)) (le-leb 0 l (omega arith))
    ∙ (λ i. Some ((let q : l - 0 ≡ l = omega arith in q) i, (let q : capped (max h 0) ≡ capped h = omega arith in q) i))

above : (a : ℕ) → capped (max 0 (max (0 + a) 0)) ≡ capped a
above a = omega arith

-- a section alone
pub measured_one : (vs gs : List Name) (l : ℕ) (x : Expansion)
    → measured vs gs l 0 (part (record { before = Some 3; depth = 0 }) x ∷ []) ≡ option_map {U = ℕ × ℕ} (λ k. (k, capped (label_height vs gs x))) (left_after l (nodes x))
measured_one vs gs l x =
    ap (λ n. option_map {U = ℕ × ℕ} (λ k. (k, capped (max 0 (max (0 + label_height vs gs x) 0)))) (left_after l n)) (let q : nodes x + 0 ≡ nodes x = omega arith in q)
    ∙ ap (λ h. option_map {U = ℕ × ℕ} (λ k. (k, h)) (left_after l (nodes x))) (above (label_height vs gs x))
