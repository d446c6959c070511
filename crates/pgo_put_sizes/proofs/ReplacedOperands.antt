-- An expression with others in the place of its names keeps its form, and its operands are replaced one by one.
use Rattle.std.proofs.Common.{◌≡◌, ◌<◌, ◌+◌, ℕ, suc, true, false, nat_lt, List, [], ◌∷◌, ◌++◌, length, take, map, None, refl, ap, sym, ◌∙◌, append_assoc, arith}
use Rattle.std.specs.Prelude.{if◌then◌else◌}
use Rattle.std.proofs.lemmas.List.{length-append}
use Rattle.std.proofs.Math.Seq.{take-append_seam, take-length}
use Rattle.pgo_base.specs.Lookup.{Name}
use Rattle.pgo_base.specs.Tree.{Tree, name, case_of, case_other, let_in, quantified, product, tuple, set_of, fun_of, record_of, record_set, except, index, call, Trees, no_trees, more_trees, NamedTrees, no_named, more_named, TreePairs, no_arms, more_arms, BoundTrees, no_bound, more_bound, PathTrees, no_paths, more_paths}
use Rattle.std.proofs.lemmas.List.{map-append}
use Rattle.pgo_operands.specs.Operands.{operands, members, named_members, arm_members, bound_members, path_members}
use Rattle.pgo_rewrite.specs.Scoped.{names_by, count_bound, at_body, count_at, under_at}
use Rattle.pgo_sections.specs.Access.{name_alone}
use Rattle.pgo_sections.specs.Bound.{names_of, names_bound, below}
use Rattle.pgo_sections.specs.Replaced.{replaced, replaced_all, replaced_arms, replaced_fields, replaced_let, replaced_bound, replaced_paths}
use Rattle.pgo_sizes.specs.Tuples.{own_nodes}

below_more : (pre : List Name) (x : Name) (under : List Name) → below (pre ++ x ∷ []) under ≡ x ∷ below pre under
below_more [] x under = refl
below_more (y ∷ ys) x under = below_more ys x (y ∷ under)

is_below : (i n : ℕ) → i < n → nat_lt i n ≡ true
is_below i n h = grind (arith, h)

not_below : (n : ℕ) → nat_lt n n ≡ false
not_below n = grind arith

one_longer : (n : ℕ) (pre : List Name) (x : Name) → n ≡ length pre → suc n ≡ length (pre ++ x ∷ [])
one_longer n pre x k = omega (arith, k, length-append pre (x ∷ []))

around_at : (around : ℕ → List Name) (under ns pre rest : List Name) (i : ℕ) → ((j : ℕ) → around j ≡ below (take j ns) under) → ns ≡ pre ++ rest → i ≡ length pre → below pre under ≡ around i
around_at around under ns pre rest i is s n = sym (is i ∙ ap (λ l. below l under) ((λ z. take (n z) (s z)) ∙ take-append_seam pre rest))

module _ (f : List Name → Name → Tree) where
  -- operands, of which the first has the number i: around number i the names `around i` are bound
  abbrev pub each : (ℕ → List Name) → ℕ → List Tree → List Tree
  each around i [] = []
  each around i (t ∷ ts) = replaced f (around i) t ∷ each around (suc i) ts

  each_same : (under : List Name) (i : ℕ) (ts : List Tree) → map (replaced f under) ts ≡ each (λ j. under) i ts
  each_same under i [] = refl
  each_same under i (t ∷ ts) = ap (λ l. replaced f under t ∷ l) (each_same under (suc i) ts)

  all_members : (under : List Name) (ts : Trees) → members (replaced_all f under ts) ≡ map (replaced f under) (members ts)
  all_members under no_trees = refl
  all_members under (more_trees t ts) = ap (λ l. replaced f under t ∷ l) (all_members under ts)

  field_members : (under : List Name) (ds : NamedTrees) → named_members (replaced_fields f under ds) ≡ map (replaced f under) (named_members ds)
  field_members under no_named = refl
  field_members under (more_named x t ds) = ap (λ l. replaced f under t ∷ l) (field_members under ds)

  all_arms : (under : List Name) (gs : TreePairs) → arm_members (replaced_arms f under gs) ≡ map (replaced f under) (arm_members gs)
  all_arms under no_arms = refl
  all_arms under (more_arms g e gs) = ap (λ l. replaced f under g ∷ replaced f under e ∷ l) (all_arms under gs)

  all_paths : (under : List Name) (us : PathTrees) → path_members (replaced_paths f under us) ≡ map (replaced f under) (path_members us)
  all_paths under no_paths = refl
  all_paths under (more_paths ps e us) =
      (λ z. all_members under ps z ++ replaced f under e ∷ all_paths under us z) ∙ sym (map-append (replaced f under) (members ps) (e ∷ path_members us))

  with_other : (under : List Name) (gs : TreePairs) (e : Tree) → arm_members (replaced_arms f under gs) ++ replaced f under e ∷ [] ≡ map (replaced f under) (arm_members gs ++ e ∷ [])
  with_other under gs e = ap (λ l. l ++ replaced f under e ∷ []) (all_arms under gs) ∙ sym (map-append (replaced f under) (arm_members gs) (e ∷ []))

  all_bound : (around : ℕ → List Name) (under : List Name) (bs : BoundTrees) (p : Tree) (i n : ℕ) → ((j : ℕ) → j < n → under ≡ around j) → i + count_bound bs ≡ n
      → bound_members (replaced_bound f under bs) ++ replaced f (around n) p ∷ [] ≡ each around i (bound_members bs ++ p ∷ [])
  all_bound around under no_bound p i n same here =
      let e : n ≡ i = omega (arith, here) in
      ap (λ j. replaced f (around j) p ∷ []) e
  all_bound around under (more_bound xs r bs) p i n same here =
      let low : i < n = omega (arith, here) in
      λ z. replaced f (same i low z) r ∷ all_bound around under bs p (suc i) n same (omega (arith, here)) z

  at_body_is : (ns under : List Name) (m : ℕ) → below ns under ≡ below (take (at_body m (length ns) m) ns) under
  at_body_is ns under m = sym ((λ z. below (take (if not_below m z then 0 else length ns) ns) under) ∙ ap (λ l. below l under) (take-length ns))

  in_body : (under : List Name) (bs : BoundTrees) (p : Tree)
      → bound_members (replaced_bound f under bs) ++ replaced f (below (names_bound bs) under) p ∷ []
      ≡ each (λ i. below (take (at_body (count_bound bs) (length (names_bound bs)) i) (names_bound bs)) under) 0 (bound_members bs ++ p ∷ [])
  in_body under bs p =
      let ns = names_bound bs in
      let n = count_bound bs in
      ap (λ u. bound_members (replaced_bound f under bs) ++ replaced f u p ∷ []) (at_body_is ns under n)
      ∙ all_bound (λ i. below (take (at_body n (length ns) i) ns) under) under bs p 0 n
      (λ j low. sym (λ z. below (take (if is_below j n low z then 0 else length ns) ns) under)) (omega arith)

  all_let : (around : ℕ → List Name) (under ns pre : List Name) (ds : NamedTrees) (e : Tree) (i : ℕ)
      → ((j : ℕ) → around j ≡ below (take j ns) under) → ns ≡ pre ++ names_of ds → i ≡ length pre
      → named_members (replaced_let f (below pre under) ds) ++ replaced f (below (names_of ds) (below pre under)) e ∷ [] ≡ each around i (named_members ds ++ e ∷ [])
  all_let around under ns pre no_named e i is split at' = ap (λ u. replaced f u e ∷ []) (around_at around under ns pre [] i is split at')
  all_let around under ns pre (more_named x t ds) e i is split at' =
      let more = all_let around under ns (pre ++ x ∷ []) ds e (suc i) is (split ∙ sym (append_assoc pre (x ∷ []) (names_of ds))) (one_longer i pre x at') in
      ap (λ u. replaced f (below pre under) t ∷ (named_members (replaced_let f u ds) ++ replaced f (below (names_of ds) u) e ∷ [])) (sym (below_more pre x under))
      ∙ (λ z. replaced f (around_at around under ns pre (x ∷ names_of ds) i is split at' z) t ∷ more z)

  pub operands_each : (under : List Name) (t : Tree) → name_alone t ≡ None → operands (replaced f under t) ≡ each (under_at t (names_by t) under) 0 (operands t)
  operands_each under (name x) h = absurd (cc h)
  operands_each under (product ts) h = all_members under ts ∙ each_same under 0 (members ts)
  operands_each under (case_of gs) h = all_arms under gs ∙ each_same under 0 (arm_members gs)
  operands_each under (case_other gs e) h = with_other under gs e ∙ each_same under 0 (arm_members gs ++ e ∷ [])
  operands_each under (let_in ds e) h = all_let (under_at (let_in ds e) (names_of ds) under) under (names_of ds) [] ds e 0 (λ j. refl) refl refl
  operands_each under (quantified q bs p) h = in_body under bs p
  operands_each under (tuple ts) h = all_members under ts ∙ each_same under 0 (members ts)
  operands_each under (set_of ts) h = all_members under ts ∙ each_same under 0 (members ts)
  operands_each under (fun_of bs e) h = in_body under bs e
  operands_each under (record_of ds) h = field_members under ds ∙ each_same under 0 (named_members ds)
  operands_each under (record_set ds) h = field_members under ds ∙ each_same under 0 (named_members ds)
  operands_each under (except a us) h = ap (λ l. replaced f under a ∷ l) (all_paths under us) ∙ each_same under 0 (a ∷ path_members us)
  operands_each under (index a ts) h = ap (λ l. replaced f under a ∷ l) (all_members under ts) ∙ each_same under 0 (a ∷ members ts)
  operands_each under (call x ts) h = all_members under ts ∙ each_same under 0 (members ts)
  operands_each under t h = refl

  let_names : (under : List Name) (ds : NamedTrees) → names_of (replaced_let f under ds) ≡ names_of ds
  let_names under no_named = refl
  let_names under (more_named x t ds) = ap (λ l. x ∷ l) (let_names (x ∷ under) ds)

  bound_names : (under : List Name) (bs : BoundTrees) → names_bound (replaced_bound f under bs) ≡ names_bound bs
  bound_names under no_bound = refl
  bound_names under (more_bound xs r bs) = ap (λ l. xs ++ l) (bound_names under bs)

  bound_count : (under : List Name) (bs : BoundTrees) → count_bound (replaced_bound f under bs) ≡ count_bound bs
  bound_count under no_bound = refl
  bound_count under (more_bound xs r bs) = ap suc (bound_count under bs)

  names_same : (under : List Name) (t : Tree) → name_alone t ≡ None → names_by (replaced f under t) ≡ names_by t
  names_same under (name x) h = absurd (cc h)
  names_same under (let_in ds e) h = let_names under ds
  names_same under (quantified q bs p) h = bound_names under bs
  names_same under (fun_of bs e) h = bound_names under bs
  names_same under t h = refl

  count_same : (under : List Name) (t : Tree) (n i : ℕ) → name_alone t ≡ None → count_at (replaced f under t) n i ≡ count_at t n i
  count_same under (name x) n i h = absurd (cc h)
  count_same under (quantified q bs p) n i h = ap (λ m. at_body m n i) (bound_count under bs)
  count_same under (fun_of bs e) n i h = ap (λ m. at_body m n i) (bound_count under bs)
  count_same under t n i h = refl

  pub own_same : (under : List Name) (t : Tree) → name_alone t ≡ None → own_nodes (replaced f under t) ≡ own_nodes t
  own_same under (name x) h = absurd (cc h)
  own_same under (index a no_trees) h = refl
  own_same under (index a (more_trees t no_trees)) h = refl
  own_same under (index a (more_trees t (more_trees u us))) h = refl
  own_same under t h = refl

  pub still_none : (under : List Name) (t : Tree) → name_alone t ≡ None → name_alone (replaced f under t) ≡ None
  still_none under (name x) h = absurd (cc h)
  still_none under t h = refl

  pub around_same : (under : List Name) (t : Tree) → name_alone t ≡ None → (i : ℕ) → under_at (replaced f under t) (names_by (replaced f under t)) under i ≡ under_at t (names_by t) under i
  around_same under t h i = λ z. below (take (count_same under t (length (names_same under t h z)) i h z) (names_same under t h z)) under
