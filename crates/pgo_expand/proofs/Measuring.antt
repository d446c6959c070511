-- What is left behind trees, one after the other.
use Rattle.std.proofs.Common.{◌≡◌, ◌∙◌, ℕ, ◌+◌, ◌-◌, max, List, [], ◌∷◌, ◌++◌, map, replicate, length, Option, Some, None, refl, ap, sym, arith}
use Rattle.std.specs.Prelude.{option_map, if◌then◌else◌}
use Rattle.std.proofs.lemmas.Bool.{le-leb}
use Rattle.std.specs.List.{flat_map}
use Rattle.pgo_base.specs.Lookup.{Name}
use Rattle.pgo_model.specs.Options.{on}
use Rattle.pgo_syntax.specs.declared.process.Process.{Process}
use Rattle.pgo_syntax.specs.declared.spec.Spec.{Spec}
use Rattle.pgo_sections.specs.Expansion.{Expansion}
use Rattle.pgo_sections.specs.Nodes.{nodes}
use Rattle.pgo_meaning.specs.Expansions.{process_expansions}
use Rattle.pgo_sizes.specs.Left.{left_after}
use Rattle.pgo_measure.proofs.Measures.{left_after_sum}
use Rattle.pgo_measure.specs.Heights.{capped, label_height}
use Rattle.pgo_expand.specs.Module.{call_height, highest, joined, labels_height}
use Rattle.pgo_expand.specs.Limits.{nodes_in}
use Rattle.pgo_expand.specs.Measures.{measured_trees, measured_labels, measured_processes}

-- n nodes, of height g
abbrev pub spent : ℕ → ℕ → ℕ → ℕ → Option (ℕ × ℕ)
spent l h n g = option_map (λ m. (m, capped (max h g))) (left_after l n)

higher : (h g g' : ℕ) → capped (max h (max g g')) ≡ capped (max (capped (max h g)) g')
higher h g g' = omega arith

pub spent_step : (l h n g n' g' : ℕ) → spent l h (n + n') (max g g') ≡ on None (spent l h n g) (λ r. spent r.0 r.1 n' g')
spent_step l h n g n' g' =
    ap (option_map {U = ℕ × ℕ} (λ m. (m, capped (max h (max g g'))))) (left_after_sum l n n')
    ∙ go (left_after l n)
  where
    both : Option ℕ → Option (ℕ × ℕ)
    both o = option_map (λ m. (m, capped (max h (max g g')))) (on None o (λ k. left_after k n'))

    first : Option ℕ → Option (ℕ × ℕ)
    first o = option_map (λ m. (m, capped (max h g))) o

    go : (o : Option ℕ) → both o ≡ on None (first o) (λ r. spent r.0 r.1 n' g')
    go None = refl
    go (Some k) = ap (λ (x : ℕ). option_map {U = ℕ × ℕ} (λ m. (m, x)) (left_after k n')) (higher h g g')

pub trees_step : (vs gs : List Name) (l h : ℕ) (t : Name × Expansion) (ts : List (Name × Expansion))
    → measured_trees vs gs l h (t ∷ ts) ≡ on None (spent l h (nodes t.1) (label_height vs gs t.1)) (λ r. measured_trees vs gs r.0 r.1 ts)
trees_step vs gs l h t ts = spent_step l h (nodes t.1) (label_height vs gs t.1) (nodes_in ts) (highest (map (λ u. label_height vs gs u.1) ts))

-- ---- calls

pub calls_are : (ts : List (Name × Expansion)) → map (λ t. call_height) ts ≡ replicate (length ts) call_height
calls_are [] = refl
calls_are (t ∷ ts) = ap (λ cs. call_height ∷ cs) (calls_are ts)

before : (h j g : ℕ) → capped (max (max h (capped j)) g) ≡ capped (max h (max j g))
before h j g = omega arith

-- the calls are counted before
pub labels_are : (vs gs : List Name) (l h : ℕ) (ts : List (Name × Expansion)) (c : ℕ) → c ≡ capped (joined (map (λ t. call_height) ts))
    → measured_trees vs gs l (max h c) ts ≡ measured_labels vs gs l h ts
labels_are vs gs l h ts c e =
    ap (λ x. measured_trees vs gs l (max h x) ts) e
    ∙ ap (λ (x : ℕ). option_map {U = ℕ × ℕ} (λ m. (m, x)) (left_after l (nodes_in ts))) (before h (joined (map (λ t. call_height) ts)) (highest (map (λ t. label_height vs gs t.1) ts)))

-- ---- processes

pub nodes_in-append : (xs ys : List (Name × Expansion)) → nodes_in (xs ++ ys) ≡ nodes_in xs + nodes_in ys
nodes_in-append [] ys = omega arith
nodes_in-append (x ∷ xs) ys = omega (arith, nodes_in-append xs ys)

pub processes_step : (s : Spec) (l h : ℕ) (p : Process) (ps : List Process)
    → measured_processes s l h (p ∷ ps) ≡ on None (spent l h (nodes_in (process_expansions s p)) (labels_height s p)) (λ r. measured_processes s r.0 r.1 ps)
processes_step s l h p ps =
    ap (λ n. spent l h n (max (labels_height s p) (highest (map (labels_height s) ps)))) (nodes_in-append (process_expansions s p) (flat_map (process_expansions s) ps))
    ∙ spent_step l h (nodes_in (process_expansions s p)) (labels_height s p) (nodes_in (flat_map (process_expansions s) ps)) (highest (map (labels_height s) ps))

-- no tree
pub nothing_spent : (l h : ℕ) → spent l h 0 0 ≡ Some (l, capped h)
nothing_spent l h =
    ap (λ b. option_map {U = ℕ × ℕ} (λ k. (k, capped (max h 0))) (if b then Some (l - 0) else None)) (le-leb 0 l (omega arith))
    ∙ (λ i. Some ((let q : l - 0 ≡ l = omega arith in q) i, (let q : capped (max h 0) ≡ capped h = omega arith in q) i))

pub told : (l h n g : ℕ) → n ≡ l → g ≡ capped h → ◌≡◌ {A = Option (ℕ × ℕ)} (Some (l, capped h)) (Some (n, g))
told l h n g a b = (λ i. Some (sym a i, sym b i))

-- behind a tree of this size
pub spent_size : (o : Option ℕ) (h g a b : ℕ) → ◌≡◌ {A = Option (ℕ × ℕ)} (Some (a, b)) (option_map {U = ℕ × ℕ} (λ l. (l, capped g)) o) → option_map {U = ℕ × ℕ} (λ m. (m, capped (max h g))) o ≡ Some (a, capped (max h b))
spent_size None h g a b e = absurd (cc)
spent_size (Some m) h g a b e =
    let pair : ◌≡◌ {A = ℕ × ℕ} (a, b) (m, capped g) = cc in
    let one : m ≡ a = sym (ap (λ p. p.0) pair) in
    let two : capped g ≡ b = sym (ap (λ p. p.1) pair) in
    λ i. Some (one i, ((let q : capped (max h g) ≡ capped (max h (capped g)) = omega arith in q) ∙ ap (λ x. capped (max h x)) two) i)
