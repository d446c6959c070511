-- The access rule: how a statement reads what stands in its expressions.
--
-- Before an expression is evaluated, its mapped occurrences are read in textual order, each index before its occurrence; then
-- each unmapped parameter that stands in what is left is read once, in the order of first occurrence; then what is left is
-- evaluated. The first of these is `hoisted`: a mapped read is an effect of its own, and its value stands in the place of the
-- occurrence. The second says no more than that a resource is read, and is `unmapped_reads`. A name that the
-- expression itself binds is no parameter where it is bound.
--
-- Source: this project's choice.
use Rattle.std.specs.Prelude.{ℕ, suc, Bool, if◌then◌else◌, List, [], ◌∷◌, ◌++◌, replicate, Option, Some, None}
use Rattle.pgo_base.specs.Lookup.{Name, find}
use Rattle.pgo_base.specs.Tree.{Tree, name, primed, number, text, truth, at, word, unary, binary, product, cond_of, case_of, case_other, let_in, quantified, choose, tuple, set_of, filter_of, image, fun_of, fun_set, record_of, record_set, except, index, field, call, unchanged, Trees, no_trees, more_trees, NamedTrees, no_named, more_named, TreePairs, no_arms, more_arms, BoundTrees, no_bound, more_bound, PathTrees, no_paths, more_paths}
use Rattle.pgo_model.specs.Options.{on}
use Rattle.pgo_model.specs.Occurrences.{first_occurrences}
use Rattle.pgo_model.specs.System.{Touched}
use Rattle.pgo_model.specs.Names.{is_among}
use Rattle.pgo_sections.specs.Bound.{names_of, names_bound, below}
use Rattle.pgo_sections.specs.FreeNames.{free_names}
use Rattle.pgo_sections.specs.Code.{Place, Whole, Own, Code, Let, Read, at_base}

-- ---- mapped reads

-- what a mapped parameter is: a global, whether by element, and the blocks that read and write it
pub record Mapped : Type 0 where
  pub global : Name
  pub by_element : Bool
  pub reads : Code
  pub writes : Code

abbrev pub MappedNames : Type 0
MappedNames = List (Name × Mapped)

-- where the k-th value of a statement stands until it is used: no identifier has the byte `#`
abbrev pub place : ℕ → Name
place k = replicate (suc k) 35

-- a read that comes before an expression: of what, at which index and where that stands, and where the value stands
pub record MappedRead : Type 0 where
  pub mapped : Mapped
  pub index : Option (Name × Tree)
  pub value : Name

-- an expression, or a part of one, with its mapped reads hoisted out of it: the reads in order; what is left, with their values in
-- the place of the occurrences; and how many places are in use
pub record Hoisted (A : Type 0) : Type 0 where
  pub reads : List MappedRead
  pub rest : A
  pub used : ℕ

abbrev pub pure : {A : Type 0} → ℕ → A → Hoisted A
pure k a = record { reads = []; rest = a; used = k }

abbrev pub then_hoist : {A B : Type 0} → Hoisted A → (A → ℕ → Hoisted B) → Hoisted B
then_hoist p f = let q = f p.rest p.used in record { reads = p.reads ++ q.reads; rest = q.rest; used = q.used }

abbrev pub read_whole : Mapped → ℕ → Hoisted Tree
read_whole m k = record { reads = record { mapped = m; index = None; value = place k } ∷ []; rest = name (place k); used = suc k }

-- the one index, or the tuple of several
abbrev pub index_tree : Trees → Tree
index_tree (more_trees t no_trees) = t
index_tree ts = tuple ts

abbrev pub read_element : Mapped → Tree → ℕ → Hoisted Tree
read_element m i k = record {
  reads = record { mapped = m; index = Some (place k, i); value = place (suc k) } ∷ [];
  rest = name (place (suc k));
  used = suc (suc k);
}

abbrev pub name_alone : Tree → Option Name
name_alone (name x) = Some x
name_alone _ = None

abbrev pub if_element : Option Mapped → Option Mapped
if_element None = None
if_element (Some m) = if m.by_element then Some m else None

abbrev pub if_whole : Option Mapped → Option Mapped
if_whole None = None
if_whole (Some m) = if m.by_element then None else Some m

-- the index that comes before a read, and then what f makes of the name that it stands under
abbrev pub read_first : Option (Name × Tree) → (Option Name → Code) → Code
read_first None f = f None
read_first (Some i) f = Let at_base i.0 i.1 (f (Some i.0))

-- these reads, and then c
abbrev pub after : List MappedRead → Code → Code
after [] c = c
after (b ∷ bs) c = read_first b.index (λ i. Read b.value b.mapped.global i b.mapped.reads (after bs c))

module _ (mapped : MappedNames) where
  -- the mapped parameter that a name is, where these names are bound around it within the expression
  abbrev pub mapped_under : List Name → Name → Option Mapped
  mapped_under under x = if is_among x under then None else find x mapped

  -- the mapped parameter whose element an index on this expression reads
  abbrev pub element_of : List Name → Tree → Option Mapped
  element_of under f = on None (name_alone f) (λ x. if_element (mapped_under under x))

  abbrev mutual
    pub hoisted : List Name → Tree → ℕ → Hoisted Tree
    hoisted under (name x) k = on (pure k (name x)) (if_whole (mapped_under under x)) (λ m. read_whole m k)
    hoisted under (primed x) k = pure k (primed x)
    hoisted under (number z) k = pure k (number z)
    hoisted under (text s) k = pure k (text s)
    hoisted under (truth b) k = pure k (truth b)
    hoisted under at k = pure k at
    hoisted under (word w) k = pure k (word w)
    hoisted under (unary o a) k = then_hoist (hoisted under a k) (λ a' k1. pure k1 (unary o a'))
    hoisted under (binary o a b) k = then_hoist (hoisted under a k) (λ a' k1. then_hoist (hoisted under b k1) (λ b' k2. pure k2 (binary o a' b')))
    hoisted under (product ts) k = then_hoist (hoisted_all under ts k) (λ us k1. pure k1 (product us))
    hoisted under (cond_of p a b) k =
        then_hoist (hoisted under p k) (λ p' k1. then_hoist (hoisted under a k1) (λ a' k2. then_hoist (hoisted under b k2) (λ b' k3. pure k3 (cond_of p' a' b'))))
    hoisted under (case_of gs) k = then_hoist (hoisted_arms under gs k) (λ gs' k1. pure k1 (case_of gs'))
    hoisted under (case_other gs e) k = then_hoist (hoisted_arms under gs k) (λ gs' k1. then_hoist (hoisted under e k1) (λ e' k2. pure k2 (case_other gs' e')))
    hoisted under (let_in ds e) k = then_hoist (hoisted_let under ds k) (λ ds' k1. then_hoist (hoisted (below (names_of ds) under) e k1) (λ e' k2. pure k2 (let_in ds' e')))
    hoisted under (quantified q bs p) k =
        then_hoist (hoisted_bound under bs k) (λ bs' k1. then_hoist (hoisted (below (names_bound bs) under) p k1) (λ p' k2. pure k2 (quantified q bs' p')))
    hoisted under (choose x r p) k = then_hoist (hoisted under r k) (λ r' k1. then_hoist (hoisted (x ∷ under) p k1) (λ p' k2. pure k2 (choose x r' p')))
    hoisted under (tuple ts) k = then_hoist (hoisted_all under ts k) (λ us k1. pure k1 (tuple us))
    hoisted under (set_of ts) k = then_hoist (hoisted_all under ts k) (λ us k1. pure k1 (set_of us))
    hoisted under (filter_of x r p) k = then_hoist (hoisted under r k) (λ r' k1. then_hoist (hoisted (x ∷ under) p k1) (λ p' k2. pure k2 (filter_of x r' p')))
    hoisted under (image e x r) k = then_hoist (hoisted (x ∷ under) e k) (λ e' k1. then_hoist (hoisted under r k1) (λ r' k2. pure k2 (image e' x r')))
    hoisted under (fun_of bs e) k = then_hoist (hoisted_bound under bs k) (λ bs' k1. then_hoist (hoisted (below (names_bound bs) under) e k1) (λ e' k2. pure k2 (fun_of bs' e')))
    hoisted under (fun_set a b) k = then_hoist (hoisted under a k) (λ a' k1. then_hoist (hoisted under b k1) (λ b' k2. pure k2 (fun_set a' b')))
    hoisted under (record_of ds) k = then_hoist (hoisted_fields under ds k) (λ ds' k1. pure k1 (record_of ds'))
    hoisted under (record_set ds) k = then_hoist (hoisted_fields under ds k) (λ ds' k1. pure k1 (record_set ds'))
    hoisted under (except f us) k = then_hoist (hoisted under f k) (λ f' k1. then_hoist (hoisted_paths under us k1) (λ us' k2. pure k2 (except f' us')))
    hoisted under (index f ts) k =
        then_hoist (hoisted under f k) (λ f' k1. then_hoist (hoisted_all under ts k1) (λ us k2.
        on (pure k2 (index f' us)) (element_of under f) (λ m. read_element m (index_tree us) k2)))
    hoisted under (field r x) k = then_hoist (hoisted under r k) (λ r' k1. pure k1 (field r' x))
    hoisted under (call x ts) k = then_hoist (hoisted_all under ts k) (λ us k1. pure k1 (call x us))
    hoisted under (unchanged xs) k = pure k (unchanged xs)

    pub hoisted_all : List Name → Trees → ℕ → Hoisted Trees
    hoisted_all under no_trees k = pure k no_trees
    hoisted_all under (more_trees t ts) k = then_hoist (hoisted under t k) (λ t' k1. then_hoist (hoisted_all under ts k1) (λ us k2. pure k2 (more_trees t' us)))

    pub hoisted_arms : List Name → TreePairs → ℕ → Hoisted TreePairs
    hoisted_arms under no_arms k = pure k no_arms
    hoisted_arms under (more_arms g e gs) k =
        then_hoist (hoisted under g k) (λ g' k1. then_hoist (hoisted under e k1) (λ e' k2. then_hoist (hoisted_arms under gs k2) (λ gs' k3. pure k3 (more_arms g' e' gs'))))

    pub hoisted_fields : List Name → NamedTrees → ℕ → Hoisted NamedTrees
    hoisted_fields under no_named k = pure k no_named
    hoisted_fields under (more_named x t ts) k = then_hoist (hoisted under t k) (λ t' k1. then_hoist (hoisted_fields under ts k1) (λ us k2. pure k2 (more_named x t' us)))

    -- the expression of a LET name sees the names before it
    pub hoisted_let : List Name → NamedTrees → ℕ → Hoisted NamedTrees
    hoisted_let under no_named k = pure k no_named
    hoisted_let under (more_named x t ts) k = then_hoist (hoisted under t k) (λ t' k1. then_hoist (hoisted_let (x ∷ under) ts k1) (λ us k2. pure k2 (more_named x t' us)))

    pub hoisted_bound : List Name → BoundTrees → ℕ → Hoisted BoundTrees
    hoisted_bound under no_bound k = pure k no_bound
    hoisted_bound under (more_bound xs r bs) k =
        then_hoist (hoisted under r k) (λ r' k1. then_hoist (hoisted_bound under bs k1) (λ bs' k2. pure k2 (more_bound xs r' bs')))

    pub hoisted_paths : List Name → PathTrees → ℕ → Hoisted PathTrees
    hoisted_paths under no_paths k = pure k no_paths
    hoisted_paths under (more_paths ps e us) k =
        then_hoist (hoisted_all under ps k) (λ ps' k1. then_hoist (hoisted under e k1) (λ e' k2. then_hoist (hoisted_paths under us k2) (λ us' k3. pure k3 (more_paths ps' e' us'))))

  -- the reads of e, and then what f makes of what is left
  abbrev pub evaluated : Tree → ℕ → (Tree → ℕ → Code) → Code
  evaluated e k f = let p = hoisted [] e k in after p.reads (f p.rest p.used)

-- ---- unmapped reads

abbrev pub touched_whole : Option Place → List Touched → List Touched
touched_whole None rest = rest
touched_whole (Some (Own x)) rest = rest
touched_whole (Some (Whole x)) rest = (x, None) ∷ rest

-- the names that stand for a global as a whole are the unmapped parameters; a local or a value parameter is no resource
abbrev pub reads_among : List (Name × Place) → List Name → List Touched
reads_among places [] = []
reads_among places (x ∷ xs) = touched_whole (find x places) (reads_among places xs)

abbrev pub unmapped_reads : List (Name × Place) → Tree → List Touched
unmapped_reads places e = reads_among places (first_occurrences (free_names [] e))
