-- Nothing of an expression is lost where its mapped reads are hoisted out of it.
use Rattle.std.proofs.Common.{◌≡◌, ◌≤◌, ℕ, suc, ◌+◌, Bool, true, false, if◌then◌else◌, List, [], ◌∷◌, ◌++◌, Option, Some, None, refl, arith}
use Rattle.pgo_base.specs.Lookup.{Name, find}
use Rattle.pgo_base.specs.Tree.{Tree, name, primed, number, text, truth, at, word, unary, binary, product, cond_of, case_of, case_other, let_in, quantified, choose, tuple, set_of, filter_of, image, fun_of, fun_set, record_of, record_set, except, index, field, call, unchanged, Trees, no_trees, more_trees, NamedTrees, no_named, more_named, TreePairs, no_arms, more_arms, BoundTrees, no_bound, more_bound, PathTrees, no_paths, more_paths}
use Rattle.pgo_model.specs.Options.{on}
use Rattle.pgo_sections.specs.Access.{Mapped, MappedNames, place, MappedRead, pure, read_whole, index_tree, read_element, name_alone, if_element, if_whole, mapped_under, element_of, hoisted, hoisted_all, hoisted_arms, hoisted_fields, hoisted_let, hoisted_bound, hoisted_paths, read_first, after, evaluated}
use Rattle.pgo_model.specs.Names.{is_among}
use Rattle.pgo_sections.specs.Bound.{names_of, names_bound, below}
use Rattle.pgo_sections.specs.Code.{Code, Read}
use Rattle.pgo_sections.specs.Nodes.{tree_nodes, trees_nodes, named_nodes, arms_nodes, bound_nodes, paths_nodes}
use Rattle.pgo_put_sizes.specs.Least.{yields, least}

-- the nodes of the indices that are evaluated before reads, and of the statements that bind them
abbrev index_nodes : Option (Name × Tree) → ℕ
index_nodes None = 0
index_nodes (Some i) = suc (tree_nodes i.1)

abbrev pub reads_nodes : List MappedRead → ℕ
reads_nodes [] = 0
reads_nodes (b ∷ bs) = index_nodes b.index + reads_nodes bs

-- each of these reads is by a block that yields
abbrev pub AllYield : List MappedRead → Type 0
AllYield [] = Unit {0}
AllYield (b ∷ bs) = (yields b.mapped.reads ≡ true) × AllYield bs

append_nodes : (rs ss : List MappedRead) → reads_nodes (rs ++ ss) ≡ reads_nodes rs + reads_nodes ss
append_nodes [] ss = omega arith
append_nodes (b ∷ bs) ss = omega (arith, append_nodes bs ss)

append_yield : (rs ss : List MappedRead) → AllYield rs → AllYield ss → AllYield (rs ++ ss)
append_yield [] ss h g = g
append_yield (b ∷ bs) ss h g = (h.0, append_yield bs ss h.1 g)

-- n nodes become r nodes behind these reads, and no fewer together
pub record Kept (n : ℕ) (rs : List MappedRead) (r : ℕ) : Type 0 where
  pub count : n ≤ reads_nodes rs + r
  pub yield : AllYield rs

kept_as : {n m r s : ℕ} {rs : List MappedRead} → m + r ≤ n + s → Kept n rs r → Kept m rs s
kept_as h k = record {
  count = let c = k.count in omega (arith, h, c);
  yield = k.yield;
}

kept_both : {n m r s : ℕ} {rs ss : List MappedRead} → Kept n rs r → Kept m ss s → Kept (n + m) (rs ++ ss) (r + s)
kept_both {n} {m} {r} {s} {rs} {ss} k l = record {
  count = let c = k.count in let d = l.count in let e = append_nodes rs ss in omega (arith, c, d, e);
  yield = append_yield rs ss k.yield l.yield;
}

none_kept : {n r : ℕ} → n ≤ r → Kept n [] r
none_kept h = record {
  count = omega (arith, h);
  yield = tt;
}

-- forms of one, two and three parts, and lists of them: what follows the last part has no reads
one_kept : {n r : ℕ} {rs : List MappedRead} → Kept n rs r → Kept (suc n) (rs ++ []) (suc r)
one_kept {n} {r} {rs} h = record {
  count = let c = h.count in let a = append_nodes rs [] in omega (arith, c, a);
  yield = append_yield rs [] h.yield tt;
}

pair_kept : {n m r s : ℕ} {rs ss : List MappedRead} → Kept n rs r → Kept m ss s → Kept (n + m) (rs ++ (ss ++ [])) (r + s)
pair_kept {n} {m} {r} {s} {rs} {ss} h g = record {
  count = let c = h.count in let d = g.count in let a = append_nodes rs (ss ++ []) in let b = append_nodes ss [] in omega (arith, c, d, a, b);
  yield = append_yield rs (ss ++ []) h.yield (append_yield ss [] g.yield tt);
}

two_kept : {n m r s : ℕ} {rs ss : List MappedRead} → Kept n rs r → Kept m ss s → Kept (suc (n + m)) (rs ++ (ss ++ [])) (suc (r + s))
two_kept {n} {m} {r} {s} {rs} {ss} h g = kept_as (omega arith) (pair_kept h g)

triple_kept : {n m l r s t : ℕ} {rs ss ts : List MappedRead} → Kept n rs r → Kept m ss s → Kept l ts t → Kept (n + (m + l)) (rs ++ (ss ++ (ts ++ []))) (r + (s + t))
triple_kept {n} {m} {l} {r} {s} {t} {rs} {ss} {ts} h g f = kept_both h (pair_kept g f)

three_kept : {n m l r s t : ℕ} {rs ss ts : List MappedRead} → Kept n rs r → Kept m ss s → Kept l ts t → Kept (suc (n + (m + l))) (rs ++ (ss ++ (ts ++ []))) (suc (r + (s + t)))
three_kept h g f = kept_as (omega arith) (triple_kept h g f)

module _ (mapped : MappedNames) where
  -- what has an element is a name, which is one node
  element_name : (u : List Name) (f : Tree) (m : Mapped) → element_of mapped u f ≡ Some m → tree_nodes f ≡ 1
  element_name u (name x) m h = refl
  element_name u (primed x) m h = absurd (grind (arith, h))
  element_name u (number z) m h = absurd (grind (arith, h))
  element_name u (text s) m h = absurd (grind (arith, h))
  element_name u (truth b) m h = absurd (grind (arith, h))
  element_name u at m h = absurd (grind (arith, h))
  element_name u (word w) m h = absurd (grind (arith, h))
  element_name u (unary o a) m h = absurd (grind (arith, h))
  element_name u (binary o a b) m h = absurd (grind (arith, h))
  element_name u (product ts) m h = absurd (grind (arith, h))
  element_name u (cond_of p a b) m h = absurd (grind (arith, h))
  element_name u (case_of gs) m h = absurd (grind (arith, h))
  element_name u (case_other gs e) m h = absurd (grind (arith, h))
  element_name u (let_in ds e) m h = absurd (grind (arith, h))
  element_name u (quantified q bs p) m h = absurd (grind (arith, h))
  element_name u (choose x r p) m h = absurd (grind (arith, h))
  element_name u (tuple ts) m h = absurd (grind (arith, h))
  element_name u (set_of ts) m h = absurd (grind (arith, h))
  element_name u (filter_of x r p) m h = absurd (grind (arith, h))
  element_name u (image e x r) m h = absurd (grind (arith, h))
  element_name u (fun_of bs e) m h = absurd (grind (arith, h))
  element_name u (fun_set a b) m h = absurd (grind (arith, h))
  element_name u (record_of ds) m h = absurd (grind (arith, h))
  element_name u (record_set ds) m h = absurd (grind (arith, h))
  element_name u (except f us) m h = absurd (grind (arith, h))
  element_name u (index f ts) m h = absurd (grind (arith, h))
  element_name u (field r x) m h = absurd (grind (arith, h))
  element_name u (call x ts) m h = absurd (grind (arith, h))
  element_name u (unchanged xs) m h = absurd (grind (arith, h))

  module _ (ok : (x : Name) (m : Mapped) → find x mapped ≡ Some m → yields m.reads ≡ true) where
    under_ok : (u : List Name) (x : Name) (m : Mapped) → mapped_under mapped u x ≡ Some m → yields m.reads ≡ true
    under_ok u x m h = go (is_among x u) h
      where
        go : (b : Bool) → (if b then None else find x mapped) ≡ Some m → yields m.reads ≡ true
        go true e = absurd (grind (arith, e))
        go false e = ok x m e

    whole_is : (o : Option Mapped) (m : Mapped) → if_whole o ≡ Some m → o ≡ Some m
    whole_is None m h = absurd (grind (arith, h))
    whole_is (Some q) m h = go q.by_element h
      where
        go : (b : Bool) → (if b then None else Some q) ≡ Some m → Some q ≡ Some m
        go true e = absurd (grind (arith, e))
        go false e = e

    element_is : (o : Option Mapped) (m : Mapped) → if_element o ≡ Some m → o ≡ Some m
    element_is None m h = absurd (grind (arith, h))
    element_is (Some q) m h = go q.by_element h
      where
        go : (b : Bool) → (if b then Some q else None) ≡ Some m → Some q ≡ Some m
        go true e = e
        go false e = absurd (grind (arith, e))

    element_ok : (u : List Name) (f : Tree) (m : Mapped) → element_of mapped u f ≡ Some m → yields m.reads ≡ true
    element_ok u f m h = go (name_alone f) h
      where
        go : (o : Option Name) → on None o (λ x. if_element (mapped_under mapped u x)) ≡ Some m → yields m.reads ≡ true
        go None e = absurd (grind (arith, e))
        go (Some x) e = under_ok u x m (element_is (mapped_under mapped u x) m e)

    name_kept : (u : List Name) (x : Name) (k : ℕ) (o : Option Mapped) → if_whole (mapped_under mapped u x) ≡ o
        → Kept 1 (on (pure k (name x)) o (λ m. read_whole m k)).reads (tree_nodes (on (pure k (name x)) o (λ m. read_whole m k)).rest)
    name_kept u x k None e = none_kept (omega arith)
    name_kept u x k (Some m) e = record { count = omega arith; yield = (under_ok u x m (whole_is (mapped_under mapped u x) m e), tt) }

    -- an index on what is left of f, with what is left of the indices: read, or as it is
    index_kept : (u : List Name) (f f' : Tree) (us : Trees) (n k d : ℕ) (rs ss : List MappedRead) (o : Option Mapped) → element_of mapped u f ≡ o
        → Kept (tree_nodes f) rs (tree_nodes f') → Kept n ss (trees_nodes us) → tree_nodes (index f' us) ≡ tree_nodes f' + trees_nodes us + d → tree_nodes (index_tree us) + 1 ≡ trees_nodes us + d
        → Kept (tree_nodes f + n + d) (rs ++ (ss ++ (on (pure k (index f' us)) o (λ m. read_element m (index_tree us) k)).reads)) (tree_nodes (on (pure k (index f' us)) o (λ m. read_element m (index_tree us) k)).rest)
    index_kept u f f' us n k d rs ss None e h g a b =
        record {
          count = let c = h.count in let c' = g.count in let r = append_nodes rs (ss ++ []) in let r' = append_nodes ss [] in omega (arith, c, c', r, r', a);
          yield = append_yield rs (ss ++ []) h.yield (append_yield ss [] g.yield tt);
        }
    index_kept u f f' us n k d rs ss (Some m) e h g a b =
        let q : MappedRead = record { mapped = m; index = Some (place k, index_tree us); value = place (suc k) } in
        record {
          count = let c = g.count in let r = append_nodes rs (ss ++ q ∷ []) in let r' = append_nodes ss (q ∷ []) in let s = element_name u f m e in omega (arith, c, r, r', b, s);
          yield = append_yield rs (ss ++ q ∷ []) h.yield (append_yield ss (q ∷ []) g.yield (element_ok u f m e, tt));
        }

    index_law : (u : List Name) (f : Tree) (ts : Trees) (k d : ℕ) → Kept (tree_nodes f) (hoisted mapped u f k).reads (tree_nodes (hoisted mapped u f k).rest)
        → Kept (trees_nodes ts) (hoisted_all mapped u ts (hoisted mapped u f k).used).reads (trees_nodes (hoisted_all mapped u ts (hoisted mapped u f k).used).rest)
        → tree_nodes (index f ts) ≡ tree_nodes f + trees_nodes ts + d
        → tree_nodes (index (hoisted mapped u f k).rest (hoisted_all mapped u ts (hoisted mapped u f k).used).rest) ≡ tree_nodes (hoisted mapped u f k).rest + trees_nodes (hoisted_all mapped u ts (hoisted mapped u f k).used).rest + d
        → tree_nodes (index_tree (hoisted_all mapped u ts (hoisted mapped u f k).used).rest) + 1 ≡ trees_nodes (hoisted_all mapped u ts (hoisted mapped u f k).used).rest + d
        → Kept (tree_nodes (index f ts)) (hoisted mapped u (index f ts) k).reads (tree_nodes (hoisted mapped u (index f ts) k).rest)
    index_law u f ts k d h g e a b =
        let p = hoisted mapped u f k in
        let q = hoisted_all mapped u ts p.used in
        kept_as (omega (arith, e)) (index_kept u f p.rest q.rest (trees_nodes ts) q.used d p.reads q.reads (element_of mapped u f) refl h g a b)

    mutual
      -- an expression's nodes are those of the indices before its reads and of what is left of it
      pub hoisted_kept : (u : List Name) (t : Tree) (k : ℕ) → Kept (tree_nodes t) (hoisted mapped u t k).reads (tree_nodes (hoisted mapped u t k).rest)
      hoisted_kept u (name x) k = name_kept u x k (if_whole (mapped_under mapped u x)) refl
      hoisted_kept u (primed x) k = none_kept (omega arith)
      hoisted_kept u (number z) k = none_kept (omega arith)
      hoisted_kept u (text s) k = none_kept (omega arith)
      hoisted_kept u (truth b) k = none_kept (omega arith)
      hoisted_kept u at k = none_kept (omega arith)
      hoisted_kept u (word w) k = none_kept (omega arith)
      hoisted_kept u (unchanged xs) k = none_kept (omega arith)
      hoisted_kept u (unary o a) k = one_kept (hoisted_kept u a k)
      hoisted_kept u (binary o a b) k = two_kept (hoisted_kept u a k) (hoisted_kept u b (hoisted mapped u a k).used)
      hoisted_kept u (product ts) k = one_kept (all_kept u ts k)
      hoisted_kept u (cond_of p a b) k = three_kept (hoisted_kept u p k) (hoisted_kept u a (hoisted mapped u p k).used) (hoisted_kept u b (hoisted mapped u a (hoisted mapped u p k).used).used)
      hoisted_kept u (case_of gs) k = one_kept (arms_kept u gs k)
      hoisted_kept u (case_other gs e) k = two_kept (arms_kept u gs k) (hoisted_kept u e (hoisted_arms mapped u gs k).used)
      hoisted_kept u (let_in ds e) k = two_kept (let_kept u ds k) (hoisted_kept (below (names_of ds) u) e (hoisted_let mapped u ds k).used)
      hoisted_kept u (quantified q bs p) k = two_kept (bound_kept u bs k) (hoisted_kept (below (names_bound bs) u) p (hoisted_bound mapped u bs k).used)
      hoisted_kept u (choose x r p) k = two_kept (hoisted_kept u r k) (hoisted_kept (x ∷ u) p (hoisted mapped u r k).used)
      hoisted_kept u (tuple ts) k = one_kept (all_kept u ts k)
      hoisted_kept u (set_of ts) k = one_kept (all_kept u ts k)
      hoisted_kept u (filter_of x r p) k = two_kept (hoisted_kept u r k) (hoisted_kept (x ∷ u) p (hoisted mapped u r k).used)
      hoisted_kept u (image e x r) k = two_kept (hoisted_kept (x ∷ u) e k) (hoisted_kept u r (hoisted mapped (x ∷ u) e k).used)
      hoisted_kept u (fun_of bs e) k = two_kept (bound_kept u bs k) (hoisted_kept (below (names_bound bs) u) e (hoisted_bound mapped u bs k).used)
      hoisted_kept u (fun_set a b) k = two_kept (hoisted_kept u a k) (hoisted_kept u b (hoisted mapped u a k).used)
      hoisted_kept u (record_of ds) k = one_kept (fields_kept u ds k)
      hoisted_kept u (record_set ds) k = one_kept (fields_kept u ds k)
      hoisted_kept u (except f us) k = two_kept (hoisted_kept u f k) (paths_kept u us (hoisted mapped u f k).used)
      hoisted_kept u (field r x) k = one_kept (hoisted_kept u r k)
      hoisted_kept u (call x ts) k = one_kept (all_kept u ts k)
      hoisted_kept u (index f no_trees) k = index_law u f no_trees k 2 (hoisted_kept u f k) (all_kept u no_trees (hoisted mapped u f k).used) (omega arith) (omega arith) (omega arith)
      hoisted_kept u (index f (more_trees t no_trees)) k =
          index_law u f (more_trees t no_trees) k 1 (hoisted_kept u f k) (all_kept u (more_trees t no_trees) (hoisted mapped u f k).used) (omega arith) (omega arith) (omega arith)
      hoisted_kept u (index f (more_trees t (more_trees v vs))) k =
          index_law u f (more_trees t (more_trees v vs)) k 2 (hoisted_kept u f k) (all_kept u (more_trees t (more_trees v vs)) (hoisted mapped u f k).used) (omega arith) (omega arith) (omega arith)

      pub all_kept : (u : List Name) (ts : Trees) (k : ℕ) → Kept (trees_nodes ts) (hoisted_all mapped u ts k).reads (trees_nodes (hoisted_all mapped u ts k).rest)
      all_kept u no_trees k = none_kept (omega arith)
      all_kept u (more_trees t ts) k = pair_kept (hoisted_kept u t k) (all_kept u ts (hoisted mapped u t k).used)

      pub arms_kept : (u : List Name) (ts : TreePairs) (k : ℕ) → Kept (arms_nodes ts) (hoisted_arms mapped u ts k).reads (arms_nodes (hoisted_arms mapped u ts k).rest)
      arms_kept u no_arms k = none_kept (omega arith)
      arms_kept u (more_arms g e gs) k = triple_kept (hoisted_kept u g k) (hoisted_kept u e (hoisted mapped u g k).used) (arms_kept u gs (hoisted mapped u e (hoisted mapped u g k).used).used)

      pub fields_kept : (u : List Name) (ts : NamedTrees) (k : ℕ) → Kept (named_nodes ts) (hoisted_fields mapped u ts k).reads (named_nodes (hoisted_fields mapped u ts k).rest)
      fields_kept u no_named k = none_kept (omega arith)
      fields_kept u (more_named x t ts) k = pair_kept (hoisted_kept u t k) (fields_kept u ts (hoisted mapped u t k).used)

      pub let_kept : (u : List Name) (ts : NamedTrees) (k : ℕ) → Kept (named_nodes ts) (hoisted_let mapped u ts k).reads (named_nodes (hoisted_let mapped u ts k).rest)
      let_kept u no_named k = none_kept (omega arith)
      let_kept u (more_named x t ts) k = pair_kept (hoisted_kept u t k) (let_kept (x ∷ u) ts (hoisted mapped u t k).used)

      pub bound_kept : (u : List Name) (ts : BoundTrees) (k : ℕ) → Kept (bound_nodes ts) (hoisted_bound mapped u ts k).reads (bound_nodes (hoisted_bound mapped u ts k).rest)
      bound_kept u no_bound k = none_kept (omega arith)
      bound_kept u (more_bound xs r bs) k = pair_kept (hoisted_kept u r k) (bound_kept u bs (hoisted mapped u r k).used)

      pub paths_kept : (u : List Name) (ts : PathTrees) (k : ℕ) → Kept (paths_nodes ts) (hoisted_paths mapped u ts k).reads (paths_nodes (hoisted_paths mapped u ts k).rest)
      paths_kept u no_paths k = none_kept (omega arith)
      paths_kept u (more_paths ps e us) k = triple_kept (all_kept u ps k) (hoisted_kept u e (hoisted_all mapped u ps k).used) (paths_kept u us (hoisted mapped u e (hoisted_all mapped u ps k).used).used)

    -- these reads, and then what follows
    after_law : (rs : List MappedRead) (c : Code) → AllYield rs → reads_nodes rs + least c ≤ least (after rs c)
    after_law [] c h = omega arith
    after_law (b ∷ bs) c h = first_law b.index (after_law bs c h.1)
      where
        read_is : (a : Bool) → a ≡ true → least (after bs c) ≡ (if a then least (after bs c) else 0)
        read_is true e = refl
        read_is false e = absurd (cc)

        first_law : (o : Option (Name × Tree)) → reads_nodes bs + least c ≤ least (after bs c)
            → index_nodes o + reads_nodes bs + least c ≤ least (read_first o (λ i. Read b.value b.mapped.global i b.mapped.reads (after bs c)))
        first_law None g = let e = read_is (yields b.mapped.reads) h.0 in omega (arith, g, e)
        first_law (Some i) g = let e = read_is (yields b.mapped.reads) h.0 in omega (arith, g, e)

    -- an expression that is evaluated, and what is done then, have its nodes
    pub evaluated_law : (e : Tree) (k m : ℕ) (f : Tree → ℕ → Code) → ((e' : Tree) (k' : ℕ) → tree_nodes e' + m ≤ least (f e' k')) → tree_nodes e + m ≤ least (evaluated mapped e k f)
    evaluated_law e k m f h =
        let p = hoisted mapped [] e k in
        let c = hoisted_kept [] e k in
        omega (arith, c.count, h p.rest p.used, after_law p.reads (f p.rest p.used) c.yield)
