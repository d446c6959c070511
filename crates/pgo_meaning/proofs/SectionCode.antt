-- What holds of the code of statements, where it holds of its parts; so of the sections of a process.
use Rattle.std.proofs.Common.{◌≡◌, ℕ, suc, Bool, true, false, if◌then◌else◌, List, [], ◌∷◌, ◌++◌, Option, Some, None, refl, ap, subst}
use Rattle.std.specs.List.{AllByRecursion}
use Rattle.pgo_base.specs.Lookup.{Name, same_name, find}
use Rattle.pgo_base.specs.Tree.{Tree, name, primed, number, text, truth, at, word, unary, binary, product, cond_of, case_of, case_other, let_in, quantified, choose, tuple, set_of, filter_of, image, fun_of, fun_set, record_of, record_set, except, index, field, call, unchanged, Trees, no_trees, more_trees, NamedTrees, no_named, more_named, TreePairs, no_arms, more_arms, BoundTrees, no_bound, more_bound, PathTrees, no_paths, more_paths}
use Rattle.pgo_model.specs.Options.{on}
use Rattle.pgo_model.specs.Written.{done}
use Rattle.pgo_syntax.specs.Statement.{Statement, skip, assign, if_then, if_else, while_do, either_of, await_that, with_in, print_out, assert_that, go_to, call_macro, yield_as, block, Statements, no_statements, more_statements, LabeledStatements, no_labeled, more_labeled, GuardedStatements, no_guarded, more_guarded, labeled}
use Rattle.pgo_syntax.specs.declared.archetype.Archetype.{Archetype}
use Rattle.pgo_syntax.specs.declared.assignment.Assignment.{Assignment}
use Rattle.pgo_syntax.specs.declared.assignment.Step.{Step}
use Rattle.pgo_syntax.specs.declared.assignment.Step.TheVariants as step
use Rattle.pgo_syntax.specs.declared.binding.Origin.{Origin}
use Rattle.pgo_syntax.specs.declared.binding.Origin.TheVariants.{Equals, In}
use Rattle.pgo_syntax.specs.declared.binding.WithName.{WithName}
use Rattle.pgo_syntax.specs.declared.bound.Binding.{Binding}
use Rattle.pgo_syntax.specs.declared.bound.Mapping.{Mapping}
use Rattle.pgo_syntax.specs.declared.bound.Mapping.TheVariants as mappings
use Rattle.pgo_syntax.specs.declared.bound.Target.{Target}
use Rattle.pgo_syntax.specs.declared.bound.Target.TheVariants as targets
use Rattle.pgo_syntax.specs.declared.macros.Macro.{Macro}
use Rattle.pgo_syntax.specs.declared.name.PlacedName.{PlacedName}
use Rattle.pgo_sections.specs.Access.{Mapped, MappedNames, MappedRead, Hoisted, pure, then_hoist, place, name_alone, if_element, if_whole, mapped_under, element_of, index_tree, read_whole, read_element, hoisted, hoisted_all, hoisted_arms, hoisted_fields, hoisted_let, hoisted_bound, hoisted_paths, read_first, after, evaluated}
use Rattle.pgo_model.specs.Names.{is_among}
use Rattle.pgo_sections.specs.Bound.{names_of, names_bound, below}
use Rattle.pgo_sections.specs.Blocks.{AreBlocks, AllAreBlocks, IsBlock, HasBlocks}
use Rattle.pgo_sections.specs.Code.{Place, Whole, variable_of, Code, Empty, Skip, Let, Pick, Become, Set, Await, Assert, Print, If, Either, Seq, Goto, Yield, Read, Write, Codes, no_codes, more_codes, in_turn, content_name, at_base, old_base, val_base}
use Rattle.pgo_meaning.specs.Labels.{own, labelled, within, within_branches, within_arms, within_order}
use Rattle.pgo_meaning.specs.MacrosPlaced.{unmarked, placed_among, bodies}
use Rattle.pgo_meaning.specs.Parameters.{block_setting, block_code, reads_by, writes_by, by_element, mapped_of, all_mapped, setting_of}
use Rattle.pgo_meaning.specs.Sections.{sections_of}
use Rattle.pgo_meaning.specs.Statements.{Setting, Part, Index, Field, changed, label_of, alone, index_of, to_variable, assigned, steps, assign_all, assignment_code, bind_name, bind_names, code, branches, arms, in_order}

-- ---- what is read before an expression are mapped parameters
module _ (mapped : MappedNames) (P : Mapped → Type 0) (from : (x : Name) (m : Mapped) → find x mapped ≡ Some m → P m) where
  abbrev All : List MappedRead → Type 0
  All bs = AllByRecursion (λ b. P b.mapped) bs

  two : (xs ys : List MappedRead) → All xs → All ys → All (xs ++ ys)
  two [] ys f g = g
  two (x ∷ xs) ys f g = (f.0, two xs ys f.1 g)

  abbrev AllOf : {A : Type 0} → Hoisted A → Type 0
  AllOf p = All p.reads

  next : {A B : Type 0} (p : Hoisted A) (f : A → ℕ → Hoisted B) → AllOf p → ((a : A) (k : ℕ) → AllOf (f a k)) → AllOf (then_hoist p f)
  next p f h g = two p.reads (f p.rest p.used).reads h (g p.rest p.used)

  none : {A : Type 0} (k : ℕ) (a : A) → AllOf (pure k a)
  none k a = tt

  -- one part, and two
  one_part : {A B : Type 0} (p : Hoisted A) (f : A → B) → AllOf p → AllOf (then_hoist p (λ a k. pure k (f a)))
  one_part p f h = next p (λ a k. pure k (f a)) h (λ a k. tt)

  two_parts : {A B C : Type 0} (p : Hoisted A) (q : ℕ → Hoisted B) (f : A → B → C) → AllOf p → ((k : ℕ) → AllOf (q k)) → AllOf (then_hoist p (λ a k1. then_hoist (q k1) (λ b k2. pure k2 (f a b))))
  two_parts p q f h g =
      next p (λ a k1. then_hoist (q k1) (λ b k2. pure k2 (f a b))) h (λ a k1. one_part (q k1) (f a) (g k1))

  three_parts : {A B C D : Type 0} (p : Hoisted A) (q : ℕ → Hoisted B) (r : ℕ → Hoisted C) (f : A → B → C → D) → AllOf p → ((k : ℕ) → AllOf (q k)) → ((k : ℕ) → AllOf (r k)) → AllOf (then_hoist p (λ a k1. then_hoist (q k1) (λ b k2. then_hoist (r k2) (λ c k3. pure k3 (f a b c)))))
  three_parts p q r f h g i =
      next p (λ a k1. then_hoist (q k1) (λ b k2. then_hoist (r k2) (λ c k3. pure k3 (f a b c)))) h (λ a k1. two_parts (q k1) r (f a) (g k1) i)

  -- a name that is not bound around is one of the mapped parameters
  found : (x : Name) (b : Bool) (m : Mapped) → (if b then None else find x mapped) ≡ Some m → find x mapped ≡ Some m
  found x true m h = absurd (cc)
  found x false m h = h

  whole_there : (x : Name) (under : List Name) (o : Option Mapped) → mapped_under mapped under x ≡ o → (m : Mapped) → if_whole o ≡ Some m → P m
  whole_there x under None e m h = absurd (cc)
  whole_there x under (Some q) e m h = go q.by_element h
    where
      go : (b : Bool) → (if b then None else Some q) ≡ Some m → P m
      go true h = absurd (cc)
      go false h = let same : q ≡ m = ap (λ o. elim o [ None ↦ q | Some z ↦ z ]) h in subst P same (from x q (found x (is_among x under) q e))

  element_there : (x : Name) (under : List Name) (o : Option Mapped) → mapped_under mapped under x ≡ o → (m : Mapped) → if_element o ≡ Some m → P m
  element_there x under None e m h = absurd (cc)
  element_there x under (Some q) e m h = go q.by_element h
    where
      go : (b : Bool) → (if b then Some q else None) ≡ Some m → P m
      go false h = absurd (cc)
      go true h = let same : q ≡ m = ap (λ o. elim o [ None ↦ q | Some z ↦ z ]) h in subst P same (from x q (found x (is_among x under) q e))

  alone_there : (under : List Name) (o : Option Name) (m : Mapped) → on None o (λ x. if_element (mapped_under mapped under x)) ≡ Some m → P m
  alone_there under None m h = absurd (cc)
  alone_there under (Some x) m h = element_there x under (mapped_under mapped under x) refl m h

  name_all : (x : Name) (k : ℕ) (o : Option Mapped) → ((m : Mapped) → o ≡ Some m → P m) → AllOf (on (pure k (name x)) o (λ m. read_whole m k))
  name_all x k None h = tt
  name_all x k (Some m) h = (h m refl, tt)

  index_all : (t i : Tree) (k : ℕ) (o : Option Mapped) → ((m : Mapped) → o ≡ Some m → P m) → AllOf (on (pure k t) o (λ m. read_element m i k))
  index_all t i k None h = tt
  index_all t i k (Some m) h = (h m refl, tt)

  mutual
    tree_all : (under : List Name) (e : Tree) (k : ℕ) → AllOf (hoisted mapped under e k)
    tree_all under (name x) k = name_all x k (if_whole (mapped_under mapped under x)) (λ m h. whole_there x under (mapped_under mapped under x) refl m h)
    tree_all under (primed x) k = tt
    tree_all under (number z) k = tt
    tree_all under (text s) k = tt
    tree_all under (truth b) k = tt
    tree_all under at k = tt
    tree_all under (word w) k = tt
    tree_all under (unary o a) k = one_part (hoisted mapped under a k) (unary o) (tree_all under a k)
    tree_all under (binary o a b) k = two_parts (hoisted mapped under a k) (hoisted mapped under b) (binary o) (tree_all under a k) (tree_all under b)
    tree_all under (product ts) k = one_part (hoisted_all mapped under ts k) product (trees_all under ts k)
    tree_all under (cond_of p a b) k =
        three_parts (hoisted mapped under p k) (hoisted mapped under a) (hoisted mapped under b) cond_of (tree_all under p k) (tree_all under a) (tree_all under b)
    tree_all under (case_of gs) k = one_part (hoisted_arms mapped under gs k) case_of (arms_all under gs k)
    tree_all under (case_other gs e) k =
        two_parts (hoisted_arms mapped under gs k) (hoisted mapped under e) case_other (arms_all under gs k) (tree_all under e)
    tree_all under (let_in ds e) k = two_parts (hoisted_let mapped under ds k) (hoisted mapped (below (names_of ds) under) e) let_in (let_all under ds k) (tree_all (below (names_of ds) under) e)
    tree_all under (quantified q bs p) k =
        two_parts (hoisted_bound mapped under bs k) (hoisted mapped (below (names_bound bs) under) p) (quantified q) (bound_all under bs k) (tree_all (below (names_bound bs) under) p)
    tree_all under (choose x r p) k = two_parts (hoisted mapped under r k) (hoisted mapped (x ∷ under) p) (choose x) (tree_all under r k) (tree_all (x ∷ under) p)
    tree_all under (tuple ts) k = one_part (hoisted_all mapped under ts k) tuple (trees_all under ts k)
    tree_all under (set_of ts) k = one_part (hoisted_all mapped under ts k) set_of (trees_all under ts k)
    tree_all under (filter_of x r p) k = two_parts (hoisted mapped under r k) (hoisted mapped (x ∷ under) p) (filter_of x) (tree_all under r k) (tree_all (x ∷ under) p)
    tree_all under (image e x r) k =
        two_parts (hoisted mapped (x ∷ under) e k) (hoisted mapped under r) (λ e r. image e x r) (tree_all (x ∷ under) e k) (tree_all under r)
    tree_all under (fun_of bs e) k = two_parts (hoisted_bound mapped under bs k) (hoisted mapped (below (names_bound bs) under) e) fun_of (bound_all under bs k) (tree_all (below (names_bound bs) under) e)
    tree_all under (fun_set a b) k = two_parts (hoisted mapped under a k) (hoisted mapped under b) fun_set (tree_all under a k) (tree_all under b)
    tree_all under (record_of ds) k = one_part (hoisted_fields mapped under ds k) record_of (fields_all under ds k)
    tree_all under (record_set ds) k = one_part (hoisted_fields mapped under ds k) record_set (fields_all under ds k)
    tree_all under (except f us) k = two_parts (hoisted mapped under f k) (hoisted_paths mapped under us) except (tree_all under f k) (paths_all under us)
    tree_all under (index f ts) k =
        let last = λ (g : Tree) (us : Trees) (k2 : ℕ). on (pure k2 (index g us)) (element_of mapped under f) (λ m. read_element m (index_tree us) k2) in
        next (hoisted mapped under f k) (λ g k1. then_hoist (hoisted_all mapped under ts k1) (λ us k2. last g us k2)) (tree_all under f k) (λ g k1.
        next (hoisted_all mapped under ts k1) (λ us k2. last g us k2) (trees_all under ts k1) (λ us k2.
        index_all (index g us) (index_tree us) k2 (element_of mapped under f) (λ m h. alone_there under (name_alone f) m h)))
    tree_all under (field r x) k = one_part (hoisted mapped under r k) (λ r. field r x) (tree_all under r k)
    tree_all under (call x ts) k = one_part (hoisted_all mapped under ts k) (call x) (trees_all under ts k)
    tree_all under (unchanged xs) k = tt

    trees_all : (under : List Name) (ts : Trees) (k : ℕ) → AllOf (hoisted_all mapped under ts k)
    trees_all under no_trees k = tt
    trees_all under (more_trees t ts) k =
        two_parts (hoisted mapped under t k) (hoisted_all mapped under ts) more_trees (tree_all under t k) (trees_all under ts)

    arms_all : (under : List Name) (gs : TreePairs) (k : ℕ) → AllOf (hoisted_arms mapped under gs k)
    arms_all under no_arms k = tt
    arms_all under (more_arms g e gs) k =
        three_parts (hoisted mapped under g k) (hoisted mapped under e) (hoisted_arms mapped under gs) more_arms (tree_all under g k) (tree_all under e) (arms_all under gs)

    fields_all : (under : List Name) (ds : NamedTrees) (k : ℕ) → AllOf (hoisted_fields mapped under ds k)
    fields_all under no_named k = tt
    fields_all under (more_named x t ts) k =
        two_parts (hoisted mapped under t k) (hoisted_fields mapped under ts) (more_named x) (tree_all under t k) (fields_all under ts)

    let_all : (under : List Name) (ds : NamedTrees) (k : ℕ) → AllOf (hoisted_let mapped under ds k)
    let_all under no_named k = tt
    let_all under (more_named x t ts) k =
        two_parts (hoisted mapped under t k) (hoisted_let mapped (x ∷ under) ts) (more_named x) (tree_all under t k) (let_all (x ∷ under) ts)

    bound_all : (under : List Name) (bs : BoundTrees) (k : ℕ) → AllOf (hoisted_bound mapped under bs k)
    bound_all under no_bound k = tt
    bound_all under (more_bound xs r bs) k =
        two_parts (hoisted mapped under r k) (hoisted_bound mapped under bs) (more_bound xs) (tree_all under r k) (bound_all under bs)

    paths_all : (under : List Name) (us : PathTrees) (k : ℕ) → AllOf (hoisted_paths mapped under us k)
    paths_all under no_paths k = tt
    paths_all under (more_paths ps e us) k =
        three_parts (hoisted_all mapped under ps k) (hoisted mapped under e) (hoisted_paths mapped under us) more_paths (trees_all under ps k) (tree_all under e) (paths_all under us)

-- ---- statements

-- what is shown of all code that statements make
pub record Holds (s : Setting) (Good : Code → Type 0) (Arms : Codes → Type 0) : Type 0 where
  pub empty : Good Empty
  pub skips : Good Skip
  pub lets : (b w : Name) (e : Tree) (c : Code) → Good c → Good (Let b w e c)
  pub picks : (b w : Name) (e : Tree) (c : Code) → Good c → Good (Pick b w e c)
  pub becomes : (x : Name) (p : Place) (w : Name) → find x s.places ≡ Some p → Good (Become p w)
  pub sets : (b x : Name) (p : Place) (e : Tree) → find x s.places ≡ Some p → Good (Set b p e)
  pub contents : s.is_block ≡ true → (e : Tree) → Good (Set old_base (Whole content_name) e)
  pub awaits : (e : Tree) → Good (Await e)
  pub asserts : (e : Tree) → Good (Assert e)
  pub prints : (e : Tree) → Good (Print e)
  pub ifs : (e : Tree) (c d : Code) → Good c → Good d → Good (If e c d)
  pub eithers : (cs : Codes) → Arms cs → Good (Either cs)
  pub seqs : (c d : Code) → Good c → Good d → Good (Seq c d)
  pub gotos : (l : Name) → Good (Goto l)
  pub yields : (e : Tree) → Good (Yield e)
  pub reads : (x : Name) (m : Mapped) (w : Name) (i : Option Name) (c : Code) → find x s.mapped ≡ Some m → Good c → Good (Read w m.global i m.reads c)
  pub writes : (x : Name) (m : Mapped) (i : Option Name) (w : Name) → find x s.mapped ≡ Some m → Good (Write m.global i w m.writes)
  pub no_arms : Arms no_codes
  pub more_arms : (c : Code) (cs : Codes) → Good c → Arms cs → Arms (more_codes c cs)

module _ (s : Setting) (Good : Code → Type 0) (Arms : Codes → Type 0) (holds : Holds s Good Arms) where
  abbrev Here : Mapped → Type 0
  Here m = (x : Name) × (find x s.mapped ≡ Some m)

  first_good : (i : Option (Name × Tree)) (f : Option Name → Code) → ((j : Option Name) → Good (f j)) → Good (read_first i f)
  first_good None f h = h None
  first_good (Some i) f h = holds.lets at_base i.0 i.1 (f (Some i.0)) (h (Some i.0))

  after_good : (bs : List MappedRead) (c : Code) → AllByRecursion (λ b. Here b.mapped) bs → Good c → Good (after bs c)
  after_good [] c h g = g
  after_good (b ∷ bs) c h g =
      first_good b.index (λ i. Read b.value b.mapped.global i b.mapped.reads (after bs c)) (λ i. holds.reads h.0.0 b.mapped b.value i (after bs c) h.0.1 (after_good bs c h.1 g))

  evaluated_good : (e : Tree) (k : ℕ) (f : Tree → ℕ → Code) → ((e : Tree) (k : ℕ) → Good (f e k)) → Good (evaluated s.mapped e k f)
  evaluated_good e k f h =
      let p = hoisted s.mapped [] e k in
      after_good p.reads (f p.rest p.used) (tree_all s.mapped Here (λ x m h. (x, h)) [] e k) (h p.rest p.used)

  variable_good : (x : Name) (path : List Part) (w : Name) (p : Place) → find x s.places ≡ Some p → Good (to_variable s x path w p)
  variable_good x [] w p h = go s.is_block
    where
      go : (b : Bool) → Good (if b then Set old_base p (name w) else Become p w)
      go true = holds.sets old_base x p (name w) h
      go false = holds.becomes x p w h
  variable_good x (i ∷ path) w p h =
      holds.sets (if s.is_block then old_base else variable_of p) x p (changed x (i ∷ path) w) h

  assigned_good : (x : Name) (path : List Part) (w : Name) → Good (assigned s x path w)
  assigned_good x path w = go (find x s.mapped) refl (find x s.places) refl
    where
      place_good : (o : Option Place) → find x s.places ≡ o → Good (on Empty o (to_variable s x path w))
      place_good None e = holds.empty
      place_good (Some p) e = variable_good x path w p e

      go : (o : Option Mapped) → find x s.mapped ≡ o → (q : Option Place) → find x s.places ≡ q → Good (on (on Empty q (to_variable s x path w)) o (λ m. Write m.global (index_of path) w m.writes))
      go None e q f = place_good q f
      go (Some m) e q f = holds.writes x m (index_of path) w e

  steps_good : (path : List Step) (k : ℕ) (f : List Part → ℕ → Code) → ((ps : List Part) (k : ℕ) → Good (f ps k)) → Good (steps s path k f)
  steps_good [] k f h = h [] k
  steps_good (step.Index e ∷ path) k f h =
      evaluated_good e k (λ e' k'. Let at_base (place k') e' (steps s path (suc k') (λ parts. f (Index (place k') ∷ parts)))) (λ e' k'.
      holds.lets at_base (place k') e' (steps s path (suc k') (λ parts. f (Index (place k') ∷ parts))) (steps_good path (suc k') (λ parts. f (Index (place k') ∷ parts)) (λ ps j. h (Index (place k') ∷ ps) j)))
  steps_good (step.Field x ∷ path) k f h = steps_good path k (λ parts. f (Field x ∷ parts)) (λ ps j. h (Field x ∷ ps) j)

  in_turn_good : (cs : List Code) → AllByRecursion Good cs → Good (in_turn cs)
  in_turn_good [] h = holds.empty
  in_turn_good (c ∷ cs) h = holds.seqs c (in_turn cs) h.0 (in_turn_good cs h.1)

  last_good : (cs : List Code) (c : Code) → AllByRecursion Good cs → Good c → AllByRecursion Good (cs ++ c ∷ [])
  last_good [] c h g = (g, tt)
  last_good (d ∷ cs) c h g = (h.0, last_good cs c h.1 g)

  all_good : (as' : List Assignment) (k : ℕ) (then' : List Code) → AllByRecursion Good then' → Good (assign_all s as' k then')
  all_good [] k then' h = in_turn_good then' h
  all_good (a ∷ as') k then' h =
      let end = λ (path : List Part) (e : Tree) (k2 : ℕ). Let val_base (place k2) e (assign_all s as' (suc k2) (then' ++ assigned s a.left.name.name path (place k2) ∷ [])) in
      steps_good a.left.path k (λ path k1. evaluated s.mapped a.right k1 (end path)) (λ path k1.
      evaluated_good a.right k1 (end path) (λ e k2.
      let then2 = then' ++ assigned s a.left.name.name path (place k2) ∷ [] in
      holds.lets val_base (place k2) e (assign_all s as' (suc k2) then2) (all_good as' (suc k2) then2 (last_good then' (assigned s a.left.name.name path (place k2)) h (assigned_good a.left.name.name path (place k2))))))

  assignment_good : (as' : List Assignment) → Good (assignment_code s as')
  assignment_good as' = go s.is_block refl
    where
      one : (o : Option Tree) → s.is_block ≡ true → Good (on (assign_all s as' 0 []) o (λ e. Set old_base (Whole content_name) e))
      one None e = all_good as' 0 [] tt
      one (Some r) e = holds.contents e r

      go : (b : Bool) → s.is_block ≡ b → Good (on (assign_all s as' 0 []) (if b then alone as' else None) (λ e. Set old_base (Whole content_name) e))
      go true e = one (alone as') e
      go false e = all_good as' 0 [] tt

  name_good : (x : Name) (o : Origin) (c : Code) → Good c → Good (bind_name s x o c)
  name_good x (Equals e) c h = evaluated_good e 0 (λ e' k. Let (unmarked x) x e' c) (λ e' k. holds.lets (unmarked x) x e' c h)
  name_good x (In e) c h = evaluated_good e 0 (λ e' k. Pick (unmarked x) x e' c) (λ e' k. holds.picks (unmarked x) x e' c h)

  names_good : (ws : List WithName) (c : Code) → Good c → Good (bind_names s ws c)
  names_good [] c h = h
  names_good (w ∷ ws) c h = name_good w.name.name w.origin (bind_names s ws c) (names_good ws c h)

  mutual
    code_good : (t : Statement) (l : Name) → Good (code s l t)
    code_good (skip p) l = holds.skips
    code_good (assign p as') l = assignment_good as'
    code_good (if_then p bs) l = branches_good bs l Empty holds.empty
    code_good (if_else p bs t) l = branches_good bs l (code s l t) (code_good t l)
    code_good (while_do p e t) l =
        evaluated_good e 0 (λ e' k. If e' (Seq (code s l t) (Goto l)) Empty) (λ e' k.
        holds.ifs e' (Seq (code s l t) (Goto l)) Empty (holds.seqs (code s l t) (Goto l) (code_good t l) (holds.gotos l)) holds.empty)
    code_good (either_of p ts) l = holds.eithers (arms s l ts) (arms_good ts l)
    code_good (await_that p e) l = evaluated_good e 0 (λ e' k. Await e') (λ e' k. holds.awaits e')
    code_good (with_in p ws t) l = names_good ws (code s l t) (code_good t l)
    code_good (print_out p e) l = evaluated_good e 0 (λ e' k. Print e') (λ e' k. holds.prints e')
    code_good (assert_that p e) l = evaluated_good e 0 (λ e' k. Assert e') (λ e' k. holds.asserts e')
    code_good (go_to p x) l = holds.gotos (label_of s.process x.name)
    code_good (call_macro p m es) l = holds.empty
    code_good (yield_as p e) l = holds.yields e
    code_good (block p ls) l = order_good ls l

    branches_good : (bs : GuardedStatements) (l : Name) (c : Code) → Good c → Good (branches s l bs c)
    branches_good no_guarded l c h = h
    branches_good (more_guarded p e t bs) l c h =
        evaluated_good e 0 (λ e' k. If e' (code s l t) (branches s l bs c)) (λ e' k.
        holds.ifs e' (code s l t) (branches s l bs c) (code_good t l) (branches_good bs l c h))

    arms_good : (ts : Statements) (l : Name) → Arms (arms s l ts)
    arms_good no_statements l = holds.no_arms
    arms_good (more_statements t ts) l = holds.more_arms (code s l t) (arms s l ts) (code_good t l) (arms_good ts l)

    pub order_good : (ls : LabeledStatements) (l : Name) → Good (in_order s l ls)
    order_good no_labeled l = holds.empty
    order_good (more_labeled None t ls) l = holds.seqs (code s l t) (in_order s l ls) (code_good t l) (order_good ls l)
    order_good (more_labeled (Some y) t ls) l = holds.gotos (label_of s.process y.name)

  -- ---- sections
  abbrev pub AllGood : List (Name × Code) → Type 0
  AllGood cs = AllByRecursion (λ c. Good c.1) cs

  joined : (cs ds : List (Name × Code)) → AllGood cs → AllGood ds → AllGood (cs ++ ds)
  joined [] ds h g = g
  joined (c ∷ cs) ds h g = (h.0, joined cs ds h.1 g)

  own_good : (x : Option PlacedName) (t : Statement) (c : Code) → Good c → AllGood (own s x t c)
  own_good None t c h = tt
  own_good (Some x) t c h =
      (holds.seqs (code s (label_of s.process x.name) t) c (code_good t (label_of s.process x.name)) h, tt)

  mutual
    within_good : (t : Statement) (l : Name) (c : Code) → Good c → AllGood (within s l t c)
    within_good (skip p) l c h = tt
    within_good (assign p as') l c h = tt
    within_good (if_then p bs) l c h = within_branches_good bs l c h
    within_good (if_else p bs t) l c h =
        joined (within_branches s l bs c) (within s l t c) (within_branches_good bs l c h) (within_good t l c h)
    within_good (while_do p e t) l c h = within_good t l (Goto l) (holds.gotos l)
    within_good (either_of p ts) l c h = within_arms_good ts l c h
    within_good (await_that p e) l c h = tt
    within_good (with_in p ws t) l c h = within_good t l c h
    within_good (print_out p e) l c h = tt
    within_good (assert_that p e) l c h = tt
    within_good (go_to p x) l c h = tt
    within_good (call_macro p m es) l c h = tt
    within_good (yield_as p e) l c h = tt
    within_good (block p ls) l c h = within_order_good ls l c h

    within_branches_good : (bs : GuardedStatements) (l : Name) (c : Code) → Good c → AllGood (within_branches s l bs c)
    within_branches_good no_guarded l c h = tt
    within_branches_good (more_guarded p e t bs) l c h =
        joined (within s l t c) (within_branches s l bs c) (within_good t l c h) (within_branches_good bs l c h)

    within_arms_good : (ts : Statements) (l : Name) (c : Code) → Good c → AllGood (within_arms s l ts c)
    within_arms_good no_statements l c h = tt
    within_arms_good (more_statements t ts) l c h =
        joined (within s l t c) (within_arms s l ts c) (within_good t l c h) (within_arms_good ts l c h)

    pub within_order_good : (ls : LabeledStatements) (l : Name) (c : Code) → Good c → AllGood (within_order s l ls c)
    within_order_good no_labeled l c h = tt
    within_order_good (more_labeled x t ls) l c h =
        let rest = Seq (in_order s l ls) c in
        let rest_good = holds.seqs (in_order s l ls) c (order_good ls l) h in
        joined (own s x t rest ++ within s (labelled s l x) t rest) (within_order s l ls c) (joined (own s x t rest) (within s (labelled s l x) t rest) (own_good x t rest rest_good) (within_good t (labelled s l x) rest rest_good)) (within_order_good ls l c h)

-- of every section of a process
found_good : (Good : Code → Type 0) (cs : List (Name × Code)) (l : Name) (c : Code) → AllByRecursion (λ c. Good c.1) cs → find l cs ≡ Some c → Good c
found_good Good [] l c h e = absurd (cc)
found_good Good (x ∷ cs) l c h e = go (same_name l x.0) e (λ k. found_good Good cs l c h.1 k)
  where
    go : (b : Bool) → (if b then Some x.1 else find l cs) ≡ Some c → (find l cs ≡ Some c → Good c) → Good c
    go true e more = let same : x.1 ≡ c = ap (λ o. elim o [ None ↦ x.1 | Some z ↦ z ]) e in subst Good same h.0
    go false e more = more e

pub section_good : (Good : Code → Type 0) (Arms : Codes → Type 0) (ms : List Macro) (p : Name) (a : Archetype) (bs : List Binding) → Holds (setting_of p a bs) Good Arms → (l : Name) (c : Code) → find l (sections_of ms p a bs) ≡ Some c → Good c
section_good Good Arms ms p a bs h l c e =
    found_good Good (sections_of ms p a bs) l c (within_order_good (setting_of p a bs) Good Arms h (placed_among (bodies ms) (labeled a.body)) [] (Goto done) (h.gotos done)) e

-- ---- sections read and write mapped parameters by blocks, which have no mapped parameters
blocks_hold : (s : Setting) (B : Code → Type 0) → ((x : Name) (m : Mapped) → find x s.mapped ≡ Some m → B m.reads × B m.writes) → Holds s (AreBlocks B) (AllAreBlocks B)
blocks_hold s B from = record {
  empty = tt;
  skips = tt;
  lets = λ b w e c h. h;
  picks = λ b w e c h. h;
  becomes = λ x p w h. tt;
  sets = λ b x p e h. tt;
  contents = λ h e. tt;
  awaits = λ e. tt;
  asserts = λ e. tt;
  prints = λ e. tt;
  ifs = λ e c d h g. (h, g);
  eithers = λ cs h. h;
  seqs = λ c d h g. (h, g);
  gotos = λ l. tt;
  yields = λ e. tt;
  reads = λ x m w i c f h. ((from x m f).0, h);
  writes = λ x m i w f. (from x m f).1;
  no_arms = tt;
  more_arms = λ c cs h g. (h, g);
}

block_good : (b : List (Option PlacedName × Statement)) → IsBlock (block_code b)
block_good b =
    order_good block_setting (AreBlocks (λ c. ⊥)) (AllAreBlocks (λ c. ⊥)) (blocks_hold block_setting (λ c. ⊥) (λ x m h. absurd (let e : None ≡ Some m = h in cc))) (labeled b) []

reads_good : (m : Mapping) → IsBlock (reads_by m)
reads_good mappings.Identity = tt
reads_good (mappings.Macro m) = block_good m.read

writes_good : (m : Mapping) → IsBlock (writes_by m)
writes_good mappings.Identity = tt
writes_good (mappings.Macro m) = block_good m.write

mapped_good : (bs : List Binding) (x : Name) (m : Mapped) → find x (all_mapped bs) ≡ Some m → IsBlock m.reads × IsBlock m.writes
mapped_good [] x m h = absurd (cc)
mapped_good (b ∷ bs) x m h = target b.target h (λ k. mapped_good bs x m k)
  where
    target : (t : Target) → find x (mapped_of b.parameter t (all_mapped bs)) ≡ Some m → (find x (all_mapped bs) ≡ Some m → IsBlock m.reads × IsBlock m.writes) → IsBlock m.reads × IsBlock m.writes
    target (targets.Value e) h more = more h
    target (targets.Global g e None) h more = more h
    target (targets.Global g e (Some q)) h more = go (same_name x b.parameter) h
      where
        here : Mapped
        here = record { global = g; by_element = by_element e; reads = reads_by q; writes = writes_by q }

        go : (c : Bool) → (if c then Some here else find x (all_mapped bs)) ≡ Some m → IsBlock m.reads × IsBlock m.writes
        go true h =
            let same : here ≡ m = ap (λ o. elim o [ None ↦ here | Some z ↦ z ]) h in
            subst (λ (z : Mapped). IsBlock z.reads × IsBlock z.writes) same (reads_good q, writes_good q)
        go false h = more h

pub section_has_blocks : (ms : List Macro) (p : Name) (a : Archetype) (bs : List Binding) (l : Name) (c : Code) → find l (sections_of ms p a bs) ≡ Some c → HasBlocks c
section_has_blocks ms p a bs l c h =
    section_good HasBlocks (AllAreBlocks IsBlock) ms p a bs (blocks_hold (setting_of p a bs) IsBlock (mapped_good bs)) l c h
