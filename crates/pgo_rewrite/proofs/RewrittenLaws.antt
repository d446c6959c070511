-- Where no parameter is mapped the walk puts what stands for a name in its place, and where nothing stands for a name it hoists.
use Rattle.std.proofs.Common.{◌≡◌, ℕ, Bool, true, false, List, [], ◌∷◌, ◌++◌, Option, Some, None, refl, ap, ◌∙◌}
use Rattle.std.specs.Prelude.{if◌then◌else◌}
use Rattle.pgo_base.specs.Lookup.{Name}
use Rattle.pgo_base.specs.Tree.{Tree, name, primed, number, text, truth, at, word, unary, binary, product, cond_of, case_of, case_other, let_in, quantified, choose, tuple, set_of, filter_of, image, fun_of, fun_set, record_of, record_set, except, index, field, call, unchanged, Trees, no_trees, more_trees, NamedTrees, no_named, more_named, TreePairs, no_arms, more_arms, BoundTrees, no_bound, more_bound, PathTrees, no_paths, more_paths}
use Rattle.pgo_syntax.specs.declared.bound.Binding.{Binding}
use Rattle.pgo_meaning.specs.Parameters.{all_mapped}
use Rattle.pgo_rewrite.specs.Scopes.{Groups, in_scope}
use Rattle.pgo_model.specs.Options.{on}
use Rattle.pgo_sections.specs.Access.{Mapped, MappedNames, MappedRead, pure, then_hoist, read_whole, read_element, index_tree, if_whole, if_element, name_alone, mapped_under, element_of, hoisted, hoisted_all, hoisted_arms, hoisted_fields, hoisted_let, hoisted_bound, hoisted_paths}
use Rattle.pgo_model.specs.Names.{is_among}
use Rattle.pgo_sections.specs.Bound.{names_of, names_bound, below}
use Rattle.pgo_sections.specs.Replaced.{replaced, replaced_all, replaced_arms, replaced_fields, replaced_let, replaced_bound, replaced_paths}
use Rattle.pgo_rewrite.specs.Rewritten.{replacement, rewritten, rewritten_all, rewritten_arms, rewritten_fields, rewritten_let, rewritten_bound, rewritten_paths}

abbrev no_mapped : Bool → Option Mapped
no_mapped b = if b then None else None

nothing_mapped : (under : List Name) (x : Name) → mapped_under [] under x ≡ None
nothing_mapped under x = go (is_among x under)
  where
    go : (b : Bool) → no_mapped b ≡ None
    go true = refl
    go false = refl

no_element : (under : List Name) (f : Tree) → element_of [] under f ≡ None
no_element under f = go (name_alone f)
  where
    go : (o : Option Name) → on None o (λ x. if_element (mapped_under [] under x)) ≡ None
    go None = refl
    go (Some x) = λ i. if_element (nothing_mapped under x i)

nothing_stands : (under : List Name) (x : Name) → replacement (λ y. None) under x ≡ name x
nothing_stands under x = go (is_among x under)
  where
    go : (b : Bool) → (if b then name x else name x) ≡ name x
    go true = refl
    go false = refl

module _ (stands : Name → Option Tree) where
  mutual
    pub plain : (under : List Name) (t : Tree) (k : ℕ) → rewritten stands [] under t k ≡ pure k (replaced (replacement stands) under t)
    plain under (name x) k = λ i. on (pure k (replacement stands under x)) (if_whole (nothing_mapped under x i)) (λ m. read_whole m k)
    plain under (primed x) k = refl
    plain under (number z) k = refl
    plain under (text s) k = refl
    plain under (truth b) k = refl
    plain under at k = refl
    plain under (word w) k = refl
    plain under (unary o a) k = λ i. then_hoist (plain under a k i) (λ a' k1. pure k1 (unary o a'))
    plain under (binary o a b) k = λ i. then_hoist (plain under a k i) (λ a' k1. then_hoist (plain under b k1 i) (λ b' k2. pure k2 (binary o a' b')))
    plain under (product ts) k = λ i. then_hoist (plain_all under ts k i) (λ us k1. pure k1 (product us))
    plain under (cond_of p a b) k = λ i. then_hoist (plain under p k i) (λ p' k1. then_hoist (plain under a k1 i) (λ a' k2. then_hoist (plain under b k2 i) (λ b' k3. pure k3 (cond_of p' a' b'))))
    plain under (case_of gs) k = λ i. then_hoist (plain_arms under gs k i) (λ gs' k1. pure k1 (case_of gs'))
    plain under (case_other gs e) k = λ i. then_hoist (plain_arms under gs k i) (λ gs' k1. then_hoist (plain under e k1 i) (λ e' k2. pure k2 (case_other gs' e')))
    plain under (let_in ds e) k = λ i. then_hoist (plain_let under ds k i) (λ ds' k1. then_hoist (plain (below (names_of ds) under) e k1 i) (λ e' k2. pure k2 (let_in ds' e')))
    plain under (quantified q bs p) k = λ i. then_hoist (plain_bound under bs k i) (λ bs' k1. then_hoist (plain (below (names_bound bs) under) p k1 i) (λ p' k2. pure k2 (quantified q bs' p')))
    plain under (choose x r p) k = λ i. then_hoist (plain under r k i) (λ r' k1. then_hoist (plain (x ∷ under) p k1 i) (λ p' k2. pure k2 (choose x r' p')))
    plain under (tuple ts) k = λ i. then_hoist (plain_all under ts k i) (λ us k1. pure k1 (tuple us))
    plain under (set_of ts) k = λ i. then_hoist (plain_all under ts k i) (λ us k1. pure k1 (set_of us))
    plain under (filter_of x r p) k = λ i. then_hoist (plain under r k i) (λ r' k1. then_hoist (plain (x ∷ under) p k1 i) (λ p' k2. pure k2 (filter_of x r' p')))
    plain under (image e x r) k = λ i. then_hoist (plain (x ∷ under) e k i) (λ e' k1. then_hoist (plain under r k1 i) (λ r' k2. pure k2 (image e' x r')))
    plain under (fun_of bs e) k = λ i. then_hoist (plain_bound under bs k i) (λ bs' k1. then_hoist (plain (below (names_bound bs) under) e k1 i) (λ e' k2. pure k2 (fun_of bs' e')))
    plain under (fun_set a b) k = λ i. then_hoist (plain under a k i) (λ a' k1. then_hoist (plain under b k1 i) (λ b' k2. pure k2 (fun_set a' b')))
    plain under (record_of ds) k = λ i. then_hoist (plain_fields under ds k i) (λ ds' k1. pure k1 (record_of ds'))
    plain under (record_set ds) k = λ i. then_hoist (plain_fields under ds k i) (λ ds' k1. pure k1 (record_set ds'))
    plain under (except f us) k = λ i. then_hoist (plain under f k i) (λ f' k1. then_hoist (plain_paths under us k1 i) (λ us' k2. pure k2 (except f' us')))
    plain under (index f ts) k = λ i. then_hoist (plain under f k i) (λ f' k1. then_hoist (plain_all under ts k1 i) (λ us k2. on (pure k2 (index f' us)) (no_element under f i) (λ m. read_element m (index_tree us) k2)))
    plain under (field r x) k = λ i. then_hoist (plain under r k i) (λ r' k1. pure k1 (field r' x))
    plain under (call x ts) k = λ i. then_hoist (plain_all under ts k i) (λ us k1. pure k1 (call x us))
    plain under (unchanged xs) k = refl

    pub plain_all : (under : List Name) (t : Trees) (k : ℕ) → rewritten_all stands [] under t k ≡ pure k (replaced_all (replacement stands) under t)
    plain_all under no_trees k = refl
    plain_all under (more_trees t ts) k = λ i. then_hoist (plain under t k i) (λ t' k1. then_hoist (plain_all under ts k1 i) (λ us k2. pure k2 (more_trees t' us)))

    pub plain_arms : (under : List Name) (t : TreePairs) (k : ℕ) → rewritten_arms stands [] under t k ≡ pure k (replaced_arms (replacement stands) under t)
    plain_arms under no_arms k = refl
    plain_arms under (more_arms g e gs) k = λ i. then_hoist (plain under g k i) (λ g' k1. then_hoist (plain under e k1 i) (λ e' k2. then_hoist (plain_arms under gs k2 i) (λ gs' k3. pure k3 (more_arms g' e' gs'))))

    pub plain_fields : (under : List Name) (t : NamedTrees) (k : ℕ) → rewritten_fields stands [] under t k ≡ pure k (replaced_fields (replacement stands) under t)
    plain_fields under no_named k = refl
    plain_fields under (more_named x t ts) k = λ i. then_hoist (plain under t k i) (λ t' k1. then_hoist (plain_fields under ts k1 i) (λ us k2. pure k2 (more_named x t' us)))

    pub plain_let : (under : List Name) (t : NamedTrees) (k : ℕ) → rewritten_let stands [] under t k ≡ pure k (replaced_let (replacement stands) under t)
    plain_let under no_named k = refl
    plain_let under (more_named x t ts) k = λ i. then_hoist (plain under t k i) (λ t' k1. then_hoist (plain_let (x ∷ under) ts k1 i) (λ us k2. pure k2 (more_named x t' us)))

    pub plain_bound : (under : List Name) (t : BoundTrees) (k : ℕ) → rewritten_bound stands [] under t k ≡ pure k (replaced_bound (replacement stands) under t)
    plain_bound under no_bound k = refl
    plain_bound under (more_bound xs r bs) k = λ i. then_hoist (plain under r k i) (λ r' k1. then_hoist (plain_bound under bs k1 i) (λ bs' k2. pure k2 (more_bound xs r' bs')))

    pub plain_paths : (under : List Name) (t : PathTrees) (k : ℕ) → rewritten_paths stands [] under t k ≡ pure k (replaced_paths (replacement stands) under t)
    plain_paths under no_paths k = refl
    plain_paths under (more_paths ps e us) k = λ i. then_hoist (plain_all under ps k i) (λ ps' k1. then_hoist (plain under e k1 i) (λ e' k2. then_hoist (plain_paths under us k2 i) (λ us' k3. pure k3 (more_paths ps' e' us'))))

  -- where no name is bound around it and no binding is there
  pub put_in : (scope : Groups) (t : Tree) (k : ℕ) (bindings : List Binding) → scope ≡ [] → bindings ≡ []
      → (rewritten stands (all_mapped bindings) (in_scope scope) t k).rest ≡ replaced (replacement stands) [] t
  put_in scope t k bindings s b = (λ i. (rewritten stands (all_mapped (b i)) (in_scope (s i)) t k).rest) ∙ ap (λ w. w.rest) (plain [] t k)

module _ (mapped : MappedNames) where
  mutual
    pub same : (under : List Name) (t : Tree) (k : ℕ) → rewritten (λ x. None) mapped under t k ≡ hoisted mapped under t k
    same under (name x) k = λ i. on (pure k (nothing_stands under x i)) (if_whole (mapped_under mapped under x)) (λ m. read_whole m k)
    same under (primed x) k = refl
    same under (number z) k = refl
    same under (text s) k = refl
    same under (truth b) k = refl
    same under at k = refl
    same under (word w) k = refl
    same under (unary o a) k = λ i. then_hoist (same under a k i) (λ a' k1. pure k1 (unary o a'))
    same under (binary o a b) k = λ i. then_hoist (same under a k i) (λ a' k1. then_hoist (same under b k1 i) (λ b' k2. pure k2 (binary o a' b')))
    same under (product ts) k = λ i. then_hoist (same_all under ts k i) (λ us k1. pure k1 (product us))
    same under (cond_of p a b) k = λ i. then_hoist (same under p k i) (λ p' k1. then_hoist (same under a k1 i) (λ a' k2. then_hoist (same under b k2 i) (λ b' k3. pure k3 (cond_of p' a' b'))))
    same under (case_of gs) k = λ i. then_hoist (same_arms under gs k i) (λ gs' k1. pure k1 (case_of gs'))
    same under (case_other gs e) k = λ i. then_hoist (same_arms under gs k i) (λ gs' k1. then_hoist (same under e k1 i) (λ e' k2. pure k2 (case_other gs' e')))
    same under (let_in ds e) k = λ i. then_hoist (same_let under ds k i) (λ ds' k1. then_hoist (same (below (names_of ds) under) e k1 i) (λ e' k2. pure k2 (let_in ds' e')))
    same under (quantified q bs p) k = λ i. then_hoist (same_bound under bs k i) (λ bs' k1. then_hoist (same (below (names_bound bs) under) p k1 i) (λ p' k2. pure k2 (quantified q bs' p')))
    same under (choose x r p) k = λ i. then_hoist (same under r k i) (λ r' k1. then_hoist (same (x ∷ under) p k1 i) (λ p' k2. pure k2 (choose x r' p')))
    same under (tuple ts) k = λ i. then_hoist (same_all under ts k i) (λ us k1. pure k1 (tuple us))
    same under (set_of ts) k = λ i. then_hoist (same_all under ts k i) (λ us k1. pure k1 (set_of us))
    same under (filter_of x r p) k = λ i. then_hoist (same under r k i) (λ r' k1. then_hoist (same (x ∷ under) p k1 i) (λ p' k2. pure k2 (filter_of x r' p')))
    same under (image e x r) k = λ i. then_hoist (same (x ∷ under) e k i) (λ e' k1. then_hoist (same under r k1 i) (λ r' k2. pure k2 (image e' x r')))
    same under (fun_of bs e) k = λ i. then_hoist (same_bound under bs k i) (λ bs' k1. then_hoist (same (below (names_bound bs) under) e k1 i) (λ e' k2. pure k2 (fun_of bs' e')))
    same under (fun_set a b) k = λ i. then_hoist (same under a k i) (λ a' k1. then_hoist (same under b k1 i) (λ b' k2. pure k2 (fun_set a' b')))
    same under (record_of ds) k = λ i. then_hoist (same_fields under ds k i) (λ ds' k1. pure k1 (record_of ds'))
    same under (record_set ds) k = λ i. then_hoist (same_fields under ds k i) (λ ds' k1. pure k1 (record_set ds'))
    same under (except f us) k = λ i. then_hoist (same under f k i) (λ f' k1. then_hoist (same_paths under us k1 i) (λ us' k2. pure k2 (except f' us')))
    same under (index f ts) k = λ i. then_hoist (same under f k i) (λ f' k1. then_hoist (same_all under ts k1 i) (λ us k2. on (pure k2 (index f' us)) (element_of mapped under f) (λ m. read_element m (index_tree us) k2)))
    same under (field r x) k = λ i. then_hoist (same under r k i) (λ r' k1. pure k1 (field r' x))
    same under (call x ts) k = λ i. then_hoist (same_all under ts k i) (λ us k1. pure k1 (call x us))
    same under (unchanged xs) k = refl

    pub same_all : (under : List Name) (t : Trees) (k : ℕ) → rewritten_all (λ x. None) mapped under t k ≡ hoisted_all mapped under t k
    same_all under no_trees k = refl
    same_all under (more_trees t ts) k = λ i. then_hoist (same under t k i) (λ t' k1. then_hoist (same_all under ts k1 i) (λ us k2. pure k2 (more_trees t' us)))

    pub same_arms : (under : List Name) (t : TreePairs) (k : ℕ) → rewritten_arms (λ x. None) mapped under t k ≡ hoisted_arms mapped under t k
    same_arms under no_arms k = refl
    same_arms under (more_arms g e gs) k = λ i. then_hoist (same under g k i) (λ g' k1. then_hoist (same under e k1 i) (λ e' k2. then_hoist (same_arms under gs k2 i) (λ gs' k3. pure k3 (more_arms g' e' gs'))))

    pub same_fields : (under : List Name) (t : NamedTrees) (k : ℕ) → rewritten_fields (λ x. None) mapped under t k ≡ hoisted_fields mapped under t k
    same_fields under no_named k = refl
    same_fields under (more_named x t ts) k = λ i. then_hoist (same under t k i) (λ t' k1. then_hoist (same_fields under ts k1 i) (λ us k2. pure k2 (more_named x t' us)))

    pub same_let : (under : List Name) (t : NamedTrees) (k : ℕ) → rewritten_let (λ x. None) mapped under t k ≡ hoisted_let mapped under t k
    same_let under no_named k = refl
    same_let under (more_named x t ts) k = λ i. then_hoist (same under t k i) (λ t' k1. then_hoist (same_let (x ∷ under) ts k1 i) (λ us k2. pure k2 (more_named x t' us)))

    pub same_bound : (under : List Name) (t : BoundTrees) (k : ℕ) → rewritten_bound (λ x. None) mapped under t k ≡ hoisted_bound mapped under t k
    same_bound under no_bound k = refl
    same_bound under (more_bound xs r bs) k = λ i. then_hoist (same under r k i) (λ r' k1. then_hoist (same_bound under bs k1 i) (λ bs' k2. pure k2 (more_bound xs r' bs')))

    pub same_paths : (under : List Name) (t : PathTrees) (k : ℕ) → rewritten_paths (λ x. None) mapped under t k ≡ hoisted_paths mapped under t k
    same_paths under no_paths k = refl
    same_paths under (more_paths ps e us) k = λ i. then_hoist (same_all under ps k i) (λ ps' k1. then_hoist (same under e k1 i) (λ e' k2. then_hoist (same_paths under us k2 i) (λ us' k3. pure k3 (more_paths ps' e' us'))))

  -- where no name is bound around it and no read comes before it
  pub hoists : (scope : Groups) (t : Tree) (k : ℕ) (before reads : List MappedRead) (rest : Tree) (used : ℕ) → scope ≡ [] → before ≡ []
      → rest ≡ (rewritten (λ x. None) mapped (in_scope scope) t k).rest → reads ≡ before ++ (rewritten (λ x. None) mapped (in_scope scope) t k).reads
      → used ≡ (rewritten (λ x. None) mapped (in_scope scope) t k).used → record { reads = reads; rest = rest; used = used } ≡ hoisted mapped [] t k
  hoists scope t k before reads rest used s b r n u =
      (λ i. record { reads = n i; rest = r i; used = u i })
      ∙ (λ i. let w = rewritten (λ x. None) mapped (in_scope (s i)) t k in record { reads = b i ++ w.reads; rest = w.rest; used = w.used })
      ∙ same [] t k
