-- An expression with others in the place of its names, and its mapped reads hoisted out of it: both in one walk.
use Rattle.std.specs.Prelude.{ℕ, if◌then◌else◌, List, ◌∷◌, Option, unwrap_or}
use Rattle.pgo_base.specs.Lookup.{Name}
use Rattle.pgo_base.specs.Tree.{Tree, name, primed, number, text, truth, at, word, unary, binary, product, cond_of, case_of, case_other, let_in, quantified, choose, tuple, set_of, filter_of, image, fun_of, fun_set, record_of, record_set, except, index, field, call, unchanged, Trees, no_trees, more_trees, NamedTrees, no_named, more_named, TreePairs, no_arms, more_arms, BoundTrees, no_bound, more_bound, PathTrees, no_paths, more_paths}
use Rattle.pgo_model.specs.Options.{on}
use Rattle.pgo_sections.specs.Access.{MappedNames, Hoisted, pure, then_hoist, read_whole, read_element, index_tree, if_whole, mapped_under, element_of}
use Rattle.pgo_model.specs.Names.{is_among}
use Rattle.pgo_sections.specs.Bound.{names_of, names_bound, below}

-- what stands for a name, where g says it and these names are bound around the name within the expression
abbrev pub replacement : (Name → Option Tree) → List Name → Name → Tree
replacement g under x = if is_among x under then name x else unwrap_or (g x) (name x)

-- as `hoisted`, but with what stands for a name in its place
module _ (stands : Name → Option Tree) (mapped : MappedNames) where
  abbrev mutual
    pub rewritten : List Name → Tree → ℕ → Hoisted Tree
    rewritten under (name x) k = on (pure k (replacement stands under x)) (if_whole (mapped_under mapped under x)) (λ m. read_whole m k)
    rewritten under (primed x) k = pure k (primed x)
    rewritten under (number z) k = pure k (number z)
    rewritten under (text s) k = pure k (text s)
    rewritten under (truth b) k = pure k (truth b)
    rewritten under at k = pure k at
    rewritten under (word w) k = pure k (word w)
    rewritten under (unary o a) k = then_hoist (rewritten under a k) (λ a' k1. pure k1 (unary o a'))
    rewritten under (binary o a b) k = then_hoist (rewritten under a k) (λ a' k1. then_hoist (rewritten under b k1) (λ b' k2. pure k2 (binary o a' b')))
    rewritten under (product ts) k = then_hoist (rewritten_all under ts k) (λ us k1. pure k1 (product us))
    rewritten under (cond_of p a b) k =
        then_hoist (rewritten under p k) (λ p' k1. then_hoist (rewritten under a k1) (λ a' k2. then_hoist (rewritten under b k2) (λ b' k3. pure k3 (cond_of p' a' b'))))
    rewritten under (case_of gs) k = then_hoist (rewritten_arms under gs k) (λ gs' k1. pure k1 (case_of gs'))
    rewritten under (case_other gs e) k = then_hoist (rewritten_arms under gs k) (λ gs' k1. then_hoist (rewritten under e k1) (λ e' k2. pure k2 (case_other gs' e')))
    rewritten under (let_in ds e) k = then_hoist (rewritten_let under ds k) (λ ds' k1. then_hoist (rewritten (below (names_of ds) under) e k1) (λ e' k2. pure k2 (let_in ds' e')))
    rewritten under (quantified q bs p) k =
        then_hoist (rewritten_bound under bs k) (λ bs' k1. then_hoist (rewritten (below (names_bound bs) under) p k1) (λ p' k2. pure k2 (quantified q bs' p')))
    rewritten under (choose x r p) k = then_hoist (rewritten under r k) (λ r' k1. then_hoist (rewritten (x ∷ under) p k1) (λ p' k2. pure k2 (choose x r' p')))
    rewritten under (tuple ts) k = then_hoist (rewritten_all under ts k) (λ us k1. pure k1 (tuple us))
    rewritten under (set_of ts) k = then_hoist (rewritten_all under ts k) (λ us k1. pure k1 (set_of us))
    rewritten under (filter_of x r p) k = then_hoist (rewritten under r k) (λ r' k1. then_hoist (rewritten (x ∷ under) p k1) (λ p' k2. pure k2 (filter_of x r' p')))
    rewritten under (image e x r) k = then_hoist (rewritten (x ∷ under) e k) (λ e' k1. then_hoist (rewritten under r k1) (λ r' k2. pure k2 (image e' x r')))
    rewritten under (fun_of bs e) k = then_hoist (rewritten_bound under bs k) (λ bs' k1. then_hoist (rewritten (below (names_bound bs) under) e k1) (λ e' k2. pure k2 (fun_of bs' e')))
    rewritten under (fun_set a b) k = then_hoist (rewritten under a k) (λ a' k1. then_hoist (rewritten under b k1) (λ b' k2. pure k2 (fun_set a' b')))
    rewritten under (record_of ds) k = then_hoist (rewritten_fields under ds k) (λ ds' k1. pure k1 (record_of ds'))
    rewritten under (record_set ds) k = then_hoist (rewritten_fields under ds k) (λ ds' k1. pure k1 (record_set ds'))
    rewritten under (except f us) k = then_hoist (rewritten under f k) (λ f' k1. then_hoist (rewritten_paths under us k1) (λ us' k2. pure k2 (except f' us')))
    rewritten under (index f ts) k =
        then_hoist (rewritten under f k) (λ f' k1. then_hoist (rewritten_all under ts k1) (λ us k2.
        on (pure k2 (index f' us)) (element_of mapped under f) (λ m. read_element m (index_tree us) k2)))
    rewritten under (field r x) k = then_hoist (rewritten under r k) (λ r' k1. pure k1 (field r' x))
    rewritten under (call x ts) k = then_hoist (rewritten_all under ts k) (λ us k1. pure k1 (call x us))
    rewritten under (unchanged xs) k = pure k (unchanged xs)

    pub rewritten_all : List Name → Trees → ℕ → Hoisted Trees
    rewritten_all under no_trees k = pure k no_trees
    rewritten_all under (more_trees t ts) k = then_hoist (rewritten under t k) (λ t' k1. then_hoist (rewritten_all under ts k1) (λ us k2. pure k2 (more_trees t' us)))

    pub rewritten_arms : List Name → TreePairs → ℕ → Hoisted TreePairs
    rewritten_arms under no_arms k = pure k no_arms
    rewritten_arms under (more_arms g e gs) k =
        then_hoist (rewritten under g k) (λ g' k1. then_hoist (rewritten under e k1) (λ e' k2. then_hoist (rewritten_arms under gs k2) (λ gs' k3. pure k3 (more_arms g' e' gs'))))

    pub rewritten_fields : List Name → NamedTrees → ℕ → Hoisted NamedTrees
    rewritten_fields under no_named k = pure k no_named
    rewritten_fields under (more_named x t ts) k = then_hoist (rewritten under t k) (λ t' k1. then_hoist (rewritten_fields under ts k1) (λ us k2. pure k2 (more_named x t' us)))

    -- the expression of a LET name sees the names before it
    pub rewritten_let : List Name → NamedTrees → ℕ → Hoisted NamedTrees
    rewritten_let under no_named k = pure k no_named
    rewritten_let under (more_named x t ts) k = then_hoist (rewritten under t k) (λ t' k1. then_hoist (rewritten_let (x ∷ under) ts k1) (λ us k2. pure k2 (more_named x t' us)))

    pub rewritten_bound : List Name → BoundTrees → ℕ → Hoisted BoundTrees
    rewritten_bound under no_bound k = pure k no_bound
    rewritten_bound under (more_bound xs r bs) k =
        then_hoist (rewritten under r k) (λ r' k1. then_hoist (rewritten_bound under bs k1) (λ bs' k2. pure k2 (more_bound xs r' bs')))

    pub rewritten_paths : List Name → PathTrees → ℕ → Hoisted PathTrees
    rewritten_paths under no_paths k = pure k no_paths
    rewritten_paths under (more_paths ps e us) k =
        then_hoist (rewritten_all under ps k) (λ ps' k1. then_hoist (rewritten under e k1) (λ e' k2. then_hoist (rewritten_paths under us k2) (λ us' k3. pure k3 (more_paths ps' e' us'))))
