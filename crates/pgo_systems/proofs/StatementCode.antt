-- The literals of sections are within limits, where those of the statements are.
use Rattle.std.proofs.Common.{◌≡◌, ℕ, suc, Bool, true, false, if◌then◌else◌, List, [], ◌∷◌, ◌++◌, map, Option, Some, None, refl, subst, option_map}
use Rattle.std.specs.Prelude.{IsTrue, unwrap_or}
use Rattle.std.specs.List.{AllByRecursion}
use Rattle.std.proofs.lemmas.Option.{same_Some}
use Rattle.pgo_base.specs.Lookup.{Name, same_name, find}
use Rattle.pgo_base.specs.Tree.{Tree, name, index, field, Trees, no_trees, more_trees, trees}
use Rattle.pgo_model.specs.Options.{on}
use Rattle.pgo_model.specs.Written.{done}
use Rattle.pgo_syntax.specs.Statement.{Statement, skip, assign, if_then, if_else, while_do, either_of, await_that, with_in, print_out, assert_that, go_to, call_macro, yield_as, block, Statements, no_statements, more_statements, LabeledStatements, no_labeled, more_labeled, GuardedStatements, no_guarded, more_guarded, labeled}
use Rattle.pgo_syntax.specs.declared.assignment.Assignment.{Assignment}
use Rattle.pgo_syntax.specs.declared.assignment.Left.{Left}
use Rattle.pgo_syntax.specs.declared.assignment.Step.{Step}
use Rattle.pgo_syntax.specs.declared.assignment.Step.TheVariants as step
use Rattle.pgo_syntax.specs.declared.binding.Origin.{Origin}
use Rattle.pgo_syntax.specs.declared.binding.Origin.TheVariants.{Equals, In}
use Rattle.pgo_syntax.specs.declared.binding.WithName.{WithName}
use Rattle.pgo_syntax.specs.declared.bound.Binding.{Binding}
use Rattle.pgo_syntax.specs.declared.bound.Bound.{Bound}
use Rattle.pgo_syntax.specs.declared.bound.Instance.{Instance}
use Rattle.pgo_syntax.specs.declared.bound.Mapping.{Mapping}
use Rattle.pgo_syntax.specs.declared.bound.Mapping.TheVariants as mapping
use Rattle.pgo_syntax.specs.declared.bound.Target.{Target}
use Rattle.pgo_syntax.specs.declared.bound.Target.TheVariants as targets
use Rattle.pgo_syntax.specs.declared.macros.Macro.{Macro}
use Rattle.pgo_syntax.specs.declared.name.PlacedName.{PlacedName}
use Rattle.pgo_sections.specs.Access.{Mapped, MappedRead, place, read_first, after, hoisted, evaluated}
use Rattle.pgo_model.specs.Names.{is_among}
use Rattle.pgo_sections.specs.Code.{Place, Whole, Code, Empty, Let, Pick, Become, Set, Await, Assert, Print, If, Seq, Goto, Read, Write, in_turn, content_name, at_base, old_base, val_base}
use Rattle.pgo_meaning.specs.Labels.{own, labelled, within, within_branches, within_arms, within_order}
use Rattle.pgo_meaning.specs.MacrosPlaced.{unmarked, Arguments, argument, put_tree, put_step, only, with_step, left_of, put_left, put_assignment, put_origin, with_marked, put_names, put, put_each, put_among, put_guarded, under_names, Body, Bodies, handed, walked, placed, placed_each, placed_among, placed_guarded, bodies_with, bodies}
use Rattle.pgo_meaning.specs.Parameters.{block_setting, reads_by, writes_by, mapped_of, all_mapped, by_element, setting_of}
use Rattle.pgo_meaning.specs.Statements.{Setting, label_of, Part, Index, Field, part_tree, index_of, alone, to_variable, assigned, steps, assign_all, assignment_code, bind_name, bind_names, code, branches, arms, in_order}
use Rattle.pgo_meaning.specs.TreesAgree.{sections_at}
use Rattle.pgo_values.proofs.Lists.{all_joined}
use Rattle.pgo_values.specs.Literals.{LiteralsWithin, TreesWithin}
use Rattle.pgo_systems.specs.Literals.{CodeWithin, AllCodeWithin, OriginWithin}
use Rattle.pgo_systems.specs.StatementLiterals.{StepWithin, AssignmentWithin, StatementWithin, StatementsWithin, LabeledWithin, GuardedWithin, MappingWithin, TargetWithin, TextWithin}
use Rattle.pgo_systems.proofs.Hoisting.{replaced_fits, IndexWithin, ReadsWithin, hoisted_fits}
use Rattle.pgo_values.specs.Limits.{Limits}

module _ (limits : Limits) where
  -- ---- macros in the place of their calls
  abbrev ArgumentsWithin : Arguments → Type 0
  ArgumentsWithin es = AllByRecursion (λ e. LiteralsWithin limits e.1) es

  found_fits : (es : Arguments) (x : Name) → ArgumentsWithin es → LiteralsWithin limits (unwrap_or (find x es) (name x))
  found_fits [] x h = tt
  found_fits (e ∷ es) x h = go (same_name x e.0) (found_fits es x h.1)
    where
      go : (b : Bool) → LiteralsWithin limits (unwrap_or (find x es) (name x)) → LiteralsWithin limits (unwrap_or (if b then Some e.1 else find x es) (name x))
      go true r = h.0
      go false r = r

  argument_fits : (es : Arguments) → ArgumentsWithin es → (under : List Name) (x : Name) → LiteralsWithin limits (argument es under x)
  argument_fits es h under x = go (is_among x under)
    where
      go : (b : Bool) → LiteralsWithin limits (if b then name x else unwrap_or (find x es) (name x))
      go true = tt
      go false = found_fits es x h

  put_tree_fits : (es : Arguments) → ArgumentsWithin es → (t : Tree) → LiteralsWithin limits t → LiteralsWithin limits (put_tree es t)
  put_tree_fits es h t l = replaced_fits limits (argument es) (argument_fits es h) [] t l

  abbrev PathWithin : List Step → Type 0
  PathWithin path = AllByRecursion (StepWithin limits) path

  put_step_fits : (es : Arguments) → ArgumentsWithin es → (st : Step) → StepWithin limits st → StepWithin limits (put_step es st)
  put_step_fits es h (step.Index e) l = put_tree_fits es h e l
  put_step_fits es h (step.Field x) l = l

  put_steps_fit : (es : Arguments) → ArgumentsWithin es → (path : List Step) → PathWithin path → PathWithin (map (put_step es) path)
  put_steps_fit es h [] l = tt
  put_steps_fit es h (st ∷ path) l = (put_step_fits es h st l.0, put_steps_fit es h path l.1)

  abbrev LeftWithin : Option Left → Type 0
  LeftWithin None = Unit {0}
  LeftWithin (Some l) = PathWithin l.path

  stepped_fits : (st : Step) (o : Option Left) → StepWithin limits st → LeftWithin o → LeftWithin (option_map (with_step st) o)
  stepped_fits st None s h = tt
  stepped_fits st (Some l) s h = all_joined (StepWithin limits) l.path (st ∷ []) h (s, tt)

  indexed_fits : (ts : Trees) (o : Option Left) → TreesWithin limits ts → LeftWithin o → LeftWithin (on None (only ts) (λ i. option_map (with_step (step.Index i)) o))
  indexed_fits no_trees o l h = tt
  indexed_fits (more_trees t no_trees) o l h = stepped_fits (step.Index t) o l.0 h
  indexed_fits (more_trees t (more_trees u us)) o l h = tt

  left_fits : (t : Tree) → LiteralsWithin limits t → LeftWithin (left_of t)
  left_fits (name x) l = tt
  left_fits (index f ts) l = indexed_fits ts (left_of f) l.1 (left_fits f l.0)
  left_fits (field r x) l = stepped_fits (step.Field x) (left_of r) l.0 (left_fits r l.1)
  left_fits _ l = tt

  put_left_fits : (es : Arguments) → ArgumentsWithin es → (l : Left) → PathWithin l.path → PathWithin (put_left es l).path
  put_left_fits es h l p = go (find l.name.name es) (found l.name.name es h)
    where
      path : PathWithin (map (put_step es) l.path)
      path = put_steps_fit es h l.path p

      found : (x : Name) (es : Arguments) → ArgumentsWithin es → LeftWithin (on None (find x es) left_of)
      found x [] h = tt
      found x (e ∷ es) h = at (same_name x e.0) (found x es h.1)
        where
          at : (b : Bool) → LeftWithin (on None (find x es) left_of) → LeftWithin (on None (if b then Some e.1 else find x es) left_of)
          at true r = left_fits e.1 h.0
          at false r = r

      made : (o : Option Left) → LeftWithin o → PathWithin (on {B = Left} (record { name = l.name; path = map (put_step es) l.path }) o (λ m. record { name = m.name; path = m.path ++ map (put_step es) l.path })).path
      made None f = path
      made (Some m) f = all_joined (StepWithin limits) m.path (map (put_step es) l.path) f path

      go : (o : Option Tree) → LeftWithin (on None o left_of) → PathWithin (on {B = Left} (record { name = l.name; path = map (put_step es) l.path }) (on None o left_of) (λ m. record { name = m.name; path = m.path ++ map (put_step es) l.path })).path
      go o f = made (on None o left_of) f

  put_assignments_fit : (es : Arguments) → ArgumentsWithin es → (as' : List Assignment) → AllByRecursion (AssignmentWithin limits) as' → AllByRecursion (AssignmentWithin limits) (map (put_assignment es) as')
  put_assignments_fit es h [] l = tt
  put_assignments_fit es h (a ∷ as') l = ((put_left_fits es h a.left l.0.0, put_tree_fits es h a.right l.0.1), put_assignments_fit es h as' l.1)

  put_origin_fits : (es : Arguments) → ArgumentsWithin es → (o : Origin) → OriginWithin limits o → OriginWithin limits (put_origin es o)
  put_origin_fits es h (Equals e) l = put_tree_fits es h e l
  put_origin_fits es h (In e) l = put_tree_fits es h e l

  put_names_fit : (es : Arguments) → ArgumentsWithin es → (ws : List WithName) → AllByRecursion (λ w. OriginWithin limits w.origin) ws → AllByRecursion (λ w. OriginWithin limits w.origin) (put_names es ws)
  put_names_fit es h [] l = tt
  put_names_fit es h (w ∷ ws) l = (put_origin_fits es h w.origin l.0, put_names_fit (with_marked w es) (tt, h) ws l.1)

  under_fit : (es : Arguments) → ArgumentsWithin es → (ws : List WithName) → ArgumentsWithin (under_names es ws)
  under_fit es h [] = h
  under_fit es h (w ∷ ws) = under_fit (with_marked w es) (tt, h) ws

  mutual
    put_fits : (es : Arguments) (s : Statement) → ArgumentsWithin es → StatementWithin limits s → StatementWithin limits (put es s)
    put_fits es (skip p) h l = tt
    put_fits es (assign p as') h l = put_assignments_fit es h as' l
    put_fits es (if_then p bs) h l = put_guarded_fit es bs h l
    put_fits es (if_else p bs s) h l = (put_guarded_fit es bs h l.0, put_fits es s h l.1)
    put_fits es (while_do p e s) h l = (put_tree_fits es h e l.0, put_fits es s h l.1)
    put_fits es (either_of p ss) h l = put_each_fit es ss h l
    put_fits es (await_that p e) h l = put_tree_fits es h e l
    put_fits es (with_in p ws s) h l = (put_names_fit es h ws l.0, put_fits (under_names es ws) s (under_fit es h ws) l.1)
    put_fits es (print_out p e) h l = put_tree_fits es h e l
    put_fits es (assert_that p e) h l = put_tree_fits es h e l
    put_fits es (go_to p x) h l = tt
    put_fits es (call_macro p m ts) h l = l
    put_fits es (yield_as p e) h l = put_tree_fits es h e l
    put_fits es (block p ls) h l = put_labeled_fit es ls h l

    put_each_fit : (es : Arguments) (ss : Statements) → ArgumentsWithin es → StatementsWithin limits ss → StatementsWithin limits (put_each es ss)
    put_each_fit es no_statements h l = tt
    put_each_fit es (more_statements s ss) h l = (put_fits es s h l.0, put_each_fit es ss h l.1)

    put_labeled_fit : (es : Arguments) (ls : LabeledStatements) → ArgumentsWithin es → LabeledWithin limits ls → LabeledWithin limits (put_among es ls)
    put_labeled_fit es no_labeled h l = tt
    put_labeled_fit es (more_labeled y s ls) h l = (put_fits es s h l.0, put_labeled_fit es ls h l.1)

    put_guarded_fit : (es : Arguments) (bs : GuardedStatements) → ArgumentsWithin es → GuardedWithin limits bs → GuardedWithin limits (put_guarded es bs)
    put_guarded_fit es no_guarded h l = tt
    put_guarded_fit es (more_guarded p e s bs) h l = (put_tree_fits es h e l.0, put_fits es s h l.1, put_guarded_fit es bs h l.2)

  abbrev BodiesWithin : Bodies → Type 0
  BodiesWithin ms = AllByRecursion (λ m. StatementWithin limits m.1.statement) ms

  body_fits : (ms : Bodies) (x : Name) (b : Body) → BodiesWithin ms → find x ms ≡ Some b → StatementWithin limits b.statement
  body_fits [] x b h e = absurd (cc)
  body_fits (m ∷ ms) x b h e = go (same_name x m.0) e (λ k. body_fits ms x b h.1 k)
    where
      go : (q : Bool) → (if q then Some m.1 else find x ms) ≡ Some b → (find x ms ≡ Some b → StatementWithin limits b.statement) → StatementWithin limits b.statement
      go true e more = subst (λ (z : Body). StatementWithin limits z.statement) (same_Some m.1 b e) h.0
      go false e more = more e

  handed_fit : (xs : List Name) (ts : List Tree) → AllByRecursion (LiteralsWithin limits) ts → ArgumentsWithin (handed xs ts)
  handed_fit [] ts h = tt
  handed_fit (x ∷ xs) [] h = tt
  handed_fit (x ∷ xs) (t ∷ ts) h = (h.0, handed_fit xs ts h.1)

  module _ (ms : Bodies) (h : BodiesWithin ms) where
    call_fits : (p : ℕ) (m : PlacedName) (ts : List Tree) → AllByRecursion (LiteralsWithin limits) ts → (o : Option Body) → find m.name ms ≡ o → StatementWithin limits (on (call_macro p m ts) o (λ b. walked p (put (handed b.parameters ts) b.statement)))
    call_fits p m ts l None e = l
    call_fits p m ts l (Some b) e = (tt, (put_fits (handed b.parameters ts) b.statement (handed_fit b.parameters ts l) (body_fits ms m.name b h e), tt))

    mutual
      placed_fits : (s : Statement) → StatementWithin limits s → StatementWithin limits (placed ms s)
      placed_fits (skip p) l = tt
      placed_fits (assign p as') l = l
      placed_fits (if_then p bs) l = placed_guarded_fit bs l
      placed_fits (if_else p bs s) l = (placed_guarded_fit bs l.0, placed_fits s l.1)
      placed_fits (while_do p e s) l = (l.0, placed_fits s l.1)
      placed_fits (either_of p ss) l = placed_each_fit ss l
      placed_fits (await_that p e) l = l
      placed_fits (with_in p ws s) l = (l.0, placed_fits s l.1)
      placed_fits (print_out p e) l = l
      placed_fits (assert_that p e) l = l
      placed_fits (go_to p x) l = tt
      placed_fits (call_macro p m ts) l = call_fits p m ts l (find m.name ms) refl
      placed_fits (yield_as p e) l = l
      placed_fits (block p ls) l = placed_labeled_fit ls l

      placed_each_fit : (ss : Statements) → StatementsWithin limits ss → StatementsWithin limits (placed_each ms ss)
      placed_each_fit no_statements l = tt
      placed_each_fit (more_statements s ss) l = (placed_fits s l.0, placed_each_fit ss l.1)

      placed_labeled_fit : (ls : LabeledStatements) → LabeledWithin limits ls → LabeledWithin limits (placed_among ms ls)
      placed_labeled_fit no_labeled l = tt
      placed_labeled_fit (more_labeled y s ls) l = (placed_fits s l.0, placed_labeled_fit ls l.1)

      placed_guarded_fit : (bs : GuardedStatements) → GuardedWithin limits bs → GuardedWithin limits (placed_guarded ms bs)
      placed_guarded_fit no_guarded l = tt
      placed_guarded_fit (more_guarded p e s bs) l = (l.0, placed_fits s l.1, placed_guarded_fit bs l.2)

  bodies_fit : (before : Bodies) (ms : List Macro) → BodiesWithin before → AllByRecursion (λ m. LabeledWithin limits (labeled m.body)) ms → BodiesWithin (bodies_with before ms)
  bodies_fit before [] h g = h
  bodies_fit before (m ∷ ms) h g =
      bodies_fit ((m.name.name, record { parameters = map (λ p. p.name) m.params; statement = placed before (block 0 (labeled m.body)) }) ∷ before) ms (placed_fits before h (block 0 (labeled m.body)) g.0, h) g.1

  -- ---- code
  module _ (s : Setting) (blocks : (x : Name) (m : Mapped) → find x s.mapped ≡ Some m → CodeWithin limits m.reads × CodeWithin limits m.writes) where
    first_fits : (i : Option (Name × Tree)) (f : Option Name → Code) → IndexWithin limits i → ((j : Option Name) → CodeWithin limits (f j)) → CodeWithin limits (read_first i f)
    first_fits None f l h = h None
    first_fits (Some i) f l h = (l, h (Some i.0))

    after_fits : (bs : List MappedRead) (c : Code) → ReadsWithin limits bs → CodeWithin limits c → CodeWithin limits (after bs c)
    after_fits [] c l h = h
    after_fits (b ∷ bs) c l h = first_fits b.index (λ i. Read b.value b.mapped.global i b.mapped.reads (after bs c)) l.0.0 (λ i. (l.0.1, after_fits bs c l.1 h))

    evaluated_fits : (e : Tree) (k : ℕ) (f : Tree → ℕ → Code) → LiteralsWithin limits e → ((e : Tree) (k : ℕ) → LiteralsWithin limits e → CodeWithin limits (f e k)) → CodeWithin limits (evaluated s.mapped e k f)
    evaluated_fits e k f l h =
        let p = hoisted s.mapped [] e k in
        let q = hoisted_fits limits s.mapped (λ x m e. (blocks x m e).0) [] e k l in
        after_fits p.reads (f p.rest p.used) q.0 (h p.rest p.used q.1)

    -- the fields of a path are within the limits
    abbrev PartWithin : Part → Type 0
    PartWithin (Index i) = Unit {0}
    PartWithin (Field x) = IsTrue (limits.text x)

    abbrev PartsWithin : List Part → Type 0
    PartsWithin path = AllByRecursion PartWithin path

    parts_fit : (path : List Part) → PartsWithin path → TreesWithin limits (trees (map part_tree path))
    parts_fit [] h = tt
    parts_fit (Index i ∷ path) h = (tt, parts_fit path h.1)
    parts_fit (Field x ∷ path) h = (h.0, parts_fit path h.1)

    variable_fits : (x : Name) (path : List Part) → PartsWithin path → (w : Name) (p : Place) → CodeWithin limits (to_variable s x path w p)
    variable_fits x [] h w p = go s.is_block
      where
        go : (b : Bool) → CodeWithin limits (if b then Set old_base p (name w) else Become p w)
        go true = tt
        go false = tt
    variable_fits x (i ∷ path) h w p = (tt, (parts_fit (i ∷ path) h, tt, tt))

    assigned_fits : (x : Name) (path : List Part) → PartsWithin path → (w : Name) → CodeWithin limits (assigned s x path w)
    assigned_fits x path h w = go (find x s.mapped) refl (find x s.places)
      where
        go : (o : Option Mapped) → find x s.mapped ≡ o → (q : Option Place) → CodeWithin limits (on (on Empty q (to_variable s x path w)) o (λ m. Write m.global (index_of path) w m.writes))
        go None e None = tt
        go None e (Some p) = variable_fits x path h w p
        go (Some m) e q = (blocks x m e).1

    steps_fit : (path : List Step) (k : ℕ) (f : List Part → ℕ → Code) → PathWithin path → ((ps : List Part) (k : ℕ) → PartsWithin ps → CodeWithin limits (f ps k)) → CodeWithin limits (steps s path k f)
    steps_fit [] k f l h = h [] k tt
    steps_fit (step.Index e ∷ path) k f l h =
        evaluated_fits e k (λ e' k'. Let at_base (place k') e' (steps s path (suc k') (λ parts. f (Index (place k') ∷ parts)))) l.0 (λ e' k' g.
        (g, steps_fit path (suc k') (λ parts. f (Index (place k') ∷ parts)) l.1 (λ ps j o. h (Index (place k') ∷ ps) j (tt, o))))
    steps_fit (step.Field x ∷ path) k f l h = steps_fit path k (λ parts. f (Field x ∷ parts)) l.1 (λ ps j o. h (Field x ∷ ps) j (l.0, o))

    abbrev CodesWithin : List Code → Type 0
    CodesWithin cs = AllByRecursion (λ c. CodeWithin limits c) cs

    in_turn_fits : (cs : List Code) → CodesWithin cs → CodeWithin limits (in_turn cs)
    in_turn_fits [] h = tt
    in_turn_fits (c ∷ cs) h = (h.0, in_turn_fits cs h.1)

    all_assigned : (as' : List Assignment) (k : ℕ) (then' : List Code) → AllByRecursion (AssignmentWithin limits) as' → CodesWithin then' → CodeWithin limits (assign_all s as' k then')
    all_assigned [] k then' l h = in_turn_fits then' h
    all_assigned (a ∷ as') k then' l h =
        let end = λ (path : List Part) (e : Tree) (k2 : ℕ). Let val_base (place k2) e (assign_all s as' (suc k2) (then' ++ assigned s a.left.name.name path (place k2) ∷ [])) in
        steps_fit a.left.path k (λ path k1. evaluated s.mapped a.right k1 (end path)) l.0.0 (λ path k1 o.
        evaluated_fits a.right k1 (end path) l.0.1 (λ e k2 g.
        (g, all_assigned as' (suc k2) (then' ++ assigned s a.left.name.name path (place k2) ∷ []) l.1 (all_joined (CodeWithin limits) then' (assigned s a.left.name.name path (place k2) ∷ []) h (assigned_fits a.left.name.name path o (place k2), tt)))))

    abbrev TreeWithin : Option Tree → Type 0
    TreeWithin None = Unit {0}
    TreeWithin (Some e) = LiteralsWithin limits e

    alone_fits : (as' : List Assignment) → AllByRecursion (AssignmentWithin limits) as' → TreeWithin (alone as')
    alone_fits [] l = tt
    alone_fits (a ∷ []) l = go a.left.path
      where
        go : (path : List Step) → TreeWithin (elim path as (λ p. Option Tree) [ [] ↦ Some a.right | st ∷ path ↦ None ])
        go [] = l.0.1
        go (st ∷ path) = tt
    alone_fits (a ∷ b ∷ as') l = tt

    assignment_fits : (as' : List Assignment) → AllByRecursion (AssignmentWithin limits) as' → CodeWithin limits (assignment_code s as')
    assignment_fits as' l = go s.is_block
      where
        one : (o : Option Tree) → TreeWithin o → CodeWithin limits (on (assign_all s as' 0 []) o (λ e. Set old_base (Whole content_name) e))
        one None f = all_assigned as' 0 [] l tt
        one (Some r) f = f

        go : (b : Bool) → CodeWithin limits (on (assign_all s as' 0 []) (if b then alone as' else None) (λ e. Set old_base (Whole content_name) e))
        go true = one (alone as') (alone_fits as' l)
        go false = all_assigned as' 0 [] l tt

    name_fits : (x : Name) (o : Origin) (c : Code) → OriginWithin limits o → CodeWithin limits c → CodeWithin limits (bind_name s x o c)
    name_fits x (Equals e) c l h = evaluated_fits e 0 (λ e' k. Let (unmarked x) x e' c) l (λ e' k g. (g, h))
    name_fits x (In e) c l h = evaluated_fits e 0 (λ e' k. Pick (unmarked x) x e' c) l (λ e' k g. (g, h))

    names_fit : (ws : List WithName) (c : Code) → AllByRecursion (λ w. OriginWithin limits w.origin) ws → CodeWithin limits c → CodeWithin limits (bind_names s ws c)
    names_fit [] c l h = h
    names_fit (w ∷ ws) c l h = name_fits w.name.name w.origin (bind_names s ws c) l.0 (names_fit ws c l.1 h)

    mutual
      code_fits : (t : Statement) (l : Name) → StatementWithin limits t → CodeWithin limits (code s l t)
      code_fits (skip p) l h = tt
      code_fits (assign p as') l h = assignment_fits as' h
      code_fits (if_then p bs) l h = branches_fit bs l Empty h tt
      code_fits (if_else p bs t) l h = branches_fit bs l (code s l t) h.0 (code_fits t l h.1)
      code_fits (while_do p e t) l h = evaluated_fits e 0 (λ e' k. If e' (Seq (code s l t) (Goto l)) Empty) h.0 (λ e' k g. (g, (code_fits t l h.1, tt), tt))
      code_fits (either_of p ts) l h = arms_fit ts l h
      code_fits (await_that p e) l h = evaluated_fits e 0 (λ e' k. Await e') h (λ e' k g. g)
      code_fits (with_in p ws t) l h = names_fit ws (code s l t) h.0 (code_fits t l h.1)
      code_fits (print_out p e) l h = evaluated_fits e 0 (λ e' k. Print e') h (λ e' k g. g)
      code_fits (assert_that p e) l h = evaluated_fits e 0 (λ e' k. Assert e') h (λ e' k g. g)
      code_fits (go_to p x) l h = tt
      code_fits (call_macro p m es) l h = tt
      code_fits (yield_as p e) l h = h
      code_fits (block p ls) l h = order_fits ls l h

      branches_fit : (bs : GuardedStatements) (l : Name) (c : Code) → GuardedWithin limits bs → CodeWithin limits c → CodeWithin limits (branches s l bs c)
      branches_fit no_guarded l c h g = g
      branches_fit (more_guarded p e t bs) l c h g = evaluated_fits e 0 (λ e' k. If e' (code s l t) (branches s l bs c)) h.0 (λ e' k f. (f, code_fits t l h.1, branches_fit bs l c h.2 g))

      arms_fit : (ts : Statements) (l : Name) → StatementsWithin limits ts → AllCodeWithin limits (arms s l ts)
      arms_fit no_statements l h = tt
      arms_fit (more_statements t ts) l h = (code_fits t l h.0, arms_fit ts l h.1)

      order_fits : (ls : LabeledStatements) (l : Name) → LabeledWithin limits ls → CodeWithin limits (in_order s l ls)
      order_fits no_labeled l h = tt
      order_fits (more_labeled None t ls) l h = (code_fits t l h.0, order_fits ls l h.1)
      order_fits (more_labeled (Some y) t ls) l h = tt

    abbrev Sections : List (Name × Code) → Type 0
    Sections cs = AllByRecursion (λ c. CodeWithin limits c.1) cs

    own_fits : (x : Option PlacedName) (t : Statement) (c : Code) → StatementWithin limits t → CodeWithin limits c → Sections (own s x t c)
    own_fits None t c h g = tt
    own_fits (Some x) t c h g = ((code_fits t (label_of s.process x.name) h, g), tt)

    mutual
      within_fits : (t : Statement) (l : Name) (c : Code) → StatementWithin limits t → CodeWithin limits c → Sections (within s l t c)
      within_fits (skip p) l c h g = tt
      within_fits (assign p as') l c h g = tt
      within_fits (if_then p bs) l c h g = within_branches_fit bs l c h g
      within_fits (if_else p bs t) l c h g = all_joined _ (within_branches s l bs c) (within s l t c) (within_branches_fit bs l c h.0 g) (within_fits t l c h.1 g)
      within_fits (while_do p e t) l c h g = within_fits t l (Goto l) h.1 tt
      within_fits (either_of p ts) l c h g = within_arms_fit ts l c h g
      within_fits (await_that p e) l c h g = tt
      within_fits (with_in p ws t) l c h g = within_fits t l c h.1 g
      within_fits (print_out p e) l c h g = tt
      within_fits (assert_that p e) l c h g = tt
      within_fits (go_to p x) l c h g = tt
      within_fits (call_macro p m es) l c h g = tt
      within_fits (yield_as p e) l c h g = tt
      within_fits (block p ls) l c h g = within_order_fits ls l c h g

      within_branches_fit : (bs : GuardedStatements) (l : Name) (c : Code) → GuardedWithin limits bs → CodeWithin limits c → Sections (within_branches s l bs c)
      within_branches_fit no_guarded l c h g = tt
      within_branches_fit (more_guarded p e t bs) l c h g = all_joined _ (within s l t c) (within_branches s l bs c) (within_fits t l c h.1 g) (within_branches_fit bs l c h.2 g)

      within_arms_fit : (ts : Statements) (l : Name) (c : Code) → StatementsWithin limits ts → CodeWithin limits c → Sections (within_arms s l ts c)
      within_arms_fit no_statements l c h g = tt
      within_arms_fit (more_statements t ts) l c h g = all_joined _ (within s l t c) (within_arms s l ts c) (within_fits t l c h.0 g) (within_arms_fit ts l c h.1 g)

      within_order_fits : (ls : LabeledStatements) (l : Name) (c : Code) → LabeledWithin limits ls → CodeWithin limits c → Sections (within_order s l ls c)
      within_order_fits no_labeled l c h g = tt
      within_order_fits (more_labeled x t ls) l c h g =
          let rest = Seq (in_order s l ls) c in
          let rest_fits : CodeWithin limits rest = (order_fits ls l h.1, g) in
          all_joined _ (own s x t rest ++ within s (labelled s l x) t rest) (within_order s l ls c)
          (all_joined _ (own s x t rest) (within s (labelled s l x) t rest) (own_fits x t rest h.0 rest_fits) (within_fits t (labelled s l x) rest h.0 rest_fits))
          (within_order_fits ls l c h.1 g)

  -- ---- mapping macros
  no_blocks : (x : Name) (m : Mapped) → None ≡ Some m → CodeWithin limits m.reads × CodeWithin limits m.writes
  no_blocks x m e = absurd (cc)

  reads_fit : (m : Mapping) → MappingWithin limits m → CodeWithin limits (reads_by m)
  reads_fit mapping.Identity h = tt
  reads_fit (mapping.Macro m) h = order_fits block_setting no_blocks (labeled m.read) [] h.0

  writes_fit : (m : Mapping) → MappingWithin limits m → CodeWithin limits (writes_by m)
  writes_fit mapping.Identity h = tt
  writes_fit (mapping.Macro m) h = order_fits block_setting no_blocks (labeled m.write) [] h.1

  mapped_fit : (bs : List Binding) → AllByRecursion (λ x. TargetWithin limits x.target) bs → (x : Name) (m : Mapped) → find x (all_mapped bs) ≡ Some m → CodeWithin limits m.reads × CodeWithin limits m.writes
  mapped_fit [] h x m e = absurd (cc)
  mapped_fit (b ∷ bs) h x m e = go b.target h.0 e (λ k. mapped_fit bs h.1 x m k)
    where
      found : (q : Mapped) → CodeWithin limits q.reads × CodeWithin limits q.writes → (c : Bool) → (if c then Some q else find x (all_mapped bs)) ≡ Some m → (find x (all_mapped bs) ≡ Some m → CodeWithin limits m.reads × CodeWithin limits m.writes) → CodeWithin limits m.reads × CodeWithin limits m.writes
      found q f true k more = subst (λ (z : Mapped). CodeWithin limits z.reads × CodeWithin limits z.writes) (same_Some q m k) f
      found q f false k more = more k

      go : (t : Target) → TargetWithin limits t → find x (mapped_of b.parameter t (all_mapped bs)) ≡ Some m → (find x (all_mapped bs) ≡ Some m → CodeWithin limits m.reads × CodeWithin limits m.writes) → CodeWithin limits m.reads × CodeWithin limits m.writes
      go (targets.Value e) f k more = more k
      go (targets.Global g e None) f k more = more k
      go (targets.Global g e (Some q)) f k more =
          found (record { global = g; by_element = by_element e; reads = reads_by q; writes = writes_by q }) (reads_fit q f, writes_fit q f) (same_name x b.parameter) k more

  -- ---- the sections of an instance
  module _ (b : Bound) (i : Instance) (fit : TextWithin limits b i) where
    all_fit : AllByRecursion (λ c. CodeWithin limits c.1) (sections_at b i)
    all_fit =
        within_order_fits (setting_of i.process i.archetype i.bindings) (mapped_fit i.bindings fit.mappings) (placed_among (bodies b.spec.macros) (labeled i.archetype.body)) [] (Goto done)
        (placed_labeled_fit (bodies b.spec.macros) (bodies_fit [] b.spec.macros tt fit.macros) (labeled i.archetype.body) fit.body) tt

    pub sections_fit : (l : Name) (c : Code) → find l (sections_at b i) ≡ Some c → CodeWithin limits c
    sections_fit l c e = found (sections_at b i) all_fit e
      where
        found : (cs : List (Name × Code)) → AllByRecursion (λ c. CodeWithin limits c.1) cs → find l cs ≡ Some c → CodeWithin limits c
        found [] h e = absurd (cc)
        found (x ∷ cs) h e = go (same_name l x.0) e (λ k. found cs h.1 k)
          where
            go : (q : Bool) → (if q then Some x.1 else find l cs) ≡ Some c → (find l cs ≡ Some c → CodeWithin limits c) → CodeWithin limits c
            go true e more = subst (CodeWithin limits) (same_Some x.1 c e) h.0
            go false e more = more e
