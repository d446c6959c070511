-- The arms of a choice, as parts that are still to be looked at.
use Rattle.std.proofs.Common.{◌≡◌, ◌∙◌, ℕ, suc, ◌+◌, ◌-◌, max, List, [], ◌∷◌, Option, Some, None, Bool, true, false, if◌then◌else◌, length, refl, ap, sym, arith}
use Rattle.std.proofs.Math.Dec.{eqb-suc-zero}
use Rattle.std.specs.Prelude.{option_map, map, ◌==◌}
use Rattle.pgo_base.specs.Lookup.{Name}
use Rattle.pgo_model.specs.Options.{on}
use Rattle.pgo_pluscal.specs.PartView.{expansions}
use Rattle.pgo_sections.specs.Expansion.{Expansion, Either}
use Rattle.pgo_sections.specs.Nodes.{nodes, arms_total}
use Rattle.pgo_sizes.specs.Left.{left_after}
use Rattle.pgo_measure.specs.Heights.{capped, join, action_height, either_height}
use Rattle.pgo_measure.specs.Measured.{Part, nodes_in, highest, measured}
use Rattle.pgo_measure.specs.Pendings.{part}
use Rattle.pgo_measure.specs.Spots.{shift}
use Rattle.pgo_measure.specs.declared.spot.Spot.{Spot}
use Rattle.pgo_measure.proofs.Measures.{left_after_sum}

-- more forms around an arm that is not the first
abbrev pub form_more : Bool → ℕ
form_more first = if first then 0 else 1

-- 1 where there is no arm
abbrev pub no_arm : List Expansion → ℕ
no_arm [] = 1
no_arm (x ∷ xs) = 0

-- the test of the code gives it, at arms that are seen through f
pub no_arm_now : {A : Type 0} (f : A → Expansion) (xs : List A) (k n : ℕ) (b : Bool) → k ≡ length xs → b ≡ (k == 0) → n ≡ (if b then 1 else 0) → n ≡ no_arm (map f xs)
no_arm_now f [] k n b p q r = r ∙ ap (λ c. if c then 1 else 0) (q ∙ ap (λ m. m == 0) p)
no_arm_now f (y ∷ ys) k n b p q r = r ∙ ap (λ c. if c then 1 else 0) (q ∙ ap (λ m. m == 0) p ∙ eqb-suc-zero (length ys))

pub no_item : {A : Type 0} (xs : List A) (k : ℕ) → k ≡ length xs → k ≡ 0 → xs ≡ []
no_item [] k p q = refl
no_item (y ∷ ys) k p q = absurd (suc_not_zero (length ys) (sym p ∙ q))
  where
    suc_not_zero : (n : ℕ) → suc n ≡ 0 → ⊥
    suc_not_zero n e = omega (arith, e)

pub fewer : (r b n m : ℕ) → r ≡ b - 1 → b ≡ n → n ≡ suc m → r ≡ m
fewer r b n m p q e = omega (arith, p, q, e)

module _ (vs gs : List Name) where
  -- how high these arms are, which are the last of a choice that stands in d forms; first: the choice has no arm before them
  abbrev pub arms_height : ℕ → Bool → List Expansion → ℕ
  arms_height d first [] = 0
  arms_height d first (x ∷ xs) = max (d + length xs + form_more first + action_height vs gs None x) (arms_height d false xs)

  -- the measure, with these arms and these parts still to be looked at
  abbrev pub arms_measured : ℕ → ℕ → ℕ → Bool → List Expansion → List Part → Option (ℕ × ℕ)
  arms_measured l h d first xs ps = option_map (λ m. (m, capped (max h (max (arms_height d first xs) (highest vs gs ps))))) (left_after l (arms_total (expansions xs) + nodes_in ps))

  next_higher : (d n a h r : ℕ) → max (d + n + suc (max a h)) r ≡ max (d + suc n + a) (max (d + n + 1 + h) r)
  next_higher d n a h r = omega arith

  -- the arms behind some arms of height a
  pub either_arms : (d a : ℕ) (xs : List Expansion) → d + either_height vs gs (Some a) (expansions xs) ≡ max (d + length xs + a) (arms_height d false xs)
  either_arms d a [] = omega arith
  either_arms d a (x ∷ xs) =
      either_arms d (suc (max a (action_height vs gs None x))) xs
      ∙ next_higher d (length xs) a (action_height vs gs None x) (arms_height d false xs)

  either_first : (d : ℕ) (x : Expansion) (xs : List Expansion) → d + either_height vs gs None (expansions (x ∷ xs)) ≡ arms_height d true (x ∷ xs)
  either_first d x xs = either_arms d (action_height vs gs None x) xs ∙ (omega arith)

  empty_capped : (h d t : ℕ) (b : Option ℕ) → capped (max h (max (d + join b 1) t)) ≡ capped (max (capped (max h (d + join b 1))) (max 0 t))
  empty_capped h d t b = omega arith

  some_capped : (h d e r t : ℕ) (b : Option ℕ) → d + shift b + e ≡ r → capped (max h (max (d + join b e) t)) ≡ capped (max (capped (max h (d + join b 0))) (max r t))
  some_capped h d e r t None q = omega (arith, q)
  some_capped h d e r t (Some a) q = omega (arith, q)

  choice_height : (h : ℕ) (s : Spot) (xs : List Expansion) (t : ℕ)
      → capped (max h (max (s.depth + join s.before (either_height vs gs None (expansions xs))) t))
      ≡ capped (max (capped (max h (s.depth + join s.before (no_arm xs)))) (max (arms_height (s.depth + shift s.before) true xs) t))
  choice_height h s [] t = empty_capped h s.depth t s.before
  choice_height h s (x ∷ xs) t =
      some_capped h s.depth (either_height vs gs None (expansions (x ∷ xs))) (arms_height (s.depth + shift s.before) true (x ∷ xs)) t s.before
      (either_first (s.depth + shift s.before) x xs)

  one_spent : (n m : ℕ) → suc n + m ≡ 1 + (n + m)
  one_spent n m = omega arith

  -- the measure before a choice is that of its arms, where its own node is spent
  pub choice_law : (l left h : ℕ) (s : Spot) (xs : List Expansion) (ps : List Part) → Some left ≡ left_after l 1
      → measured vs gs l h (part s (Either (expansions xs)) ∷ ps)
      ≡ arms_measured left (capped (max h (s.depth + join s.before (no_arm xs)))) (s.depth + shift s.before) true xs ps
  choice_law l left h s xs ps e =
      ap (λ c. option_map (λ m. (m, c)) (left_after l (suc (arms_total (expansions xs)) + nodes_in ps))) (choice_height h s xs (highest vs gs ps))
      ∙ ap (option_map pair) (ap (left_after l) (one_spent (arms_total (expansions xs)) (nodes_in ps)) ∙ left_after_sum l 1 (arms_total (expansions xs) + nodes_in ps))
      ∙ ap (λ o. option_map pair (on None o (λ k. left_after k (arms_total (expansions xs) + nodes_in ps)))) (sym e)
    where
      pair : ℕ → ℕ × ℕ
      pair m = (m, capped (max (capped (max h (s.depth + join s.before (no_arm xs)))) (max (arms_height (s.depth + shift s.before) true xs) (highest vs gs ps))))

  next_capped : (h d a r t : ℕ) → capped (max h (max (max (d + a) r) t)) ≡ capped (max h (max r (max (capped d + a) t)))
  next_capped h d a r t = omega arith

  next_nodes : (n m k : ℕ) → n + m + k ≡ m + (n + k)
  next_nodes n m k = omega arith

  -- the next arm becomes a part
  pub arm_law : (l h d depth : ℕ) (first : Bool) (x : Expansion) (xs : List Expansion) (ps : List Part)
      → depth ≡ capped (d + length xs + form_more first)
      → arms_measured l h d first (x ∷ xs) ps ≡ arms_measured l h d false xs (part (record { before = None; depth = depth }) x ∷ ps)
  arm_law l h d depth first x xs ps e =
      ap (λ c. option_map (λ m. (m, c)) (left_after l (nodes x + arms_total (expansions xs) + nodes_in ps)))
      (next_capped h (d + length xs + form_more first) (action_height vs gs None x) (arms_height d false xs) (highest vs gs ps))
      ∙ ap (λ n. option_map (λ m. (m, capped (max h (max (arms_height d false xs) (max (capped (d + length xs + form_more first) + action_height vs gs None x) (highest vs gs ps)))))) (left_after l n))
      (next_nodes (nodes x) (arms_total (expansions xs)) (nodes_in ps))
      ∙ ap (λ c. arms_measured l h d false xs (part (record { before = None; depth = c }) x ∷ ps)) (sym e)

  no_more_capped : (h t : ℕ) → capped (max h (max 0 t)) ≡ capped (max h t)
  no_more_capped h t = omega arith

  -- no arm is left
  pub arms_end : (l h d : ℕ) (first : Bool) (ps : List Part) → arms_measured l h d first [] ps ≡ measured vs gs l h ps
  arms_end l h d first ps =
      ap (λ c. option_map (λ m. (m, c)) (left_after l (0 + nodes_in ps))) (no_more_capped h (highest vs gs ps))
      ∙ ap (λ n. option_map (λ m. (m, capped (max h (highest vs gs ps)))) (left_after l n)) (omega arith)
