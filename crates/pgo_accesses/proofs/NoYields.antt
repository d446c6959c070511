-- Where no `yield` stands in a process's statements, none stands in its sections.
use Rattle.std.proofs.Common.{◌≡◌, ℕ, suc, Bool, true, false, List, [], ◌∷◌, ◌++◌, Option, Some, None}
use Rattle.std.specs.Prelude.{if◌then◌else◌}
use Rattle.std.specs.List.{AllByRecursion}
use Rattle.pgo_base.specs.Lookup.{Name, find}
use Rattle.pgo_base.specs.Tree.{Tree, name}
use Rattle.pgo_model.specs.Options.{on}
use Rattle.pgo_model.specs.Written.{done}
use Rattle.pgo_syntax.specs.Statement.{Statement, skip, assign, if_then, if_else, while_do, either_of, await_that, with_in, print_out, assert_that, go_to, call_macro, yield_as, block, labeled, Statements, no_statements, more_statements, LabeledStatements, no_labeled, more_labeled, GuardedStatements, no_guarded, more_guarded}
use Rattle.pgo_syntax.specs.declared.archetype.Archetype.{Archetype}
use Rattle.pgo_syntax.specs.declared.assignment.Assignment.{Assignment}
use Rattle.pgo_syntax.specs.declared.assignment.Step.{Step}
use Rattle.pgo_syntax.specs.declared.assignment.Step.TheVariants as step
use Rattle.pgo_syntax.specs.declared.binding.Origin.{Origin}
use Rattle.pgo_syntax.specs.declared.binding.Origin.TheVariants.{Equals, In}
use Rattle.pgo_syntax.specs.declared.binding.WithName.{WithName}
use Rattle.pgo_syntax.specs.declared.bound.Binding.{Binding}
use Rattle.pgo_syntax.specs.declared.macros.Macro.{Macro}
use Rattle.pgo_syntax.specs.declared.name.PlacedName.{PlacedName}
use Rattle.pgo_sections.specs.Access.{MappedRead, Mapped, place, evaluated, hoisted, read_first, after}
use Rattle.pgo_sections.specs.Code.{Place, Whole, Code, Empty, Let, Pick, Become, Set, If, Seq, Goto, Read, Write, in_turn, content_name, at_base, old_base, val_base, Await, Print, Assert}
use Rattle.pgo_meaning.specs.Labels.{own, labelled, within, within_branches, within_arms, within_order}
use Rattle.pgo_meaning.specs.MacrosPlaced.{bodies, placed_among, unmarked}
use Rattle.pgo_meaning.specs.Parameters.{setting_of}
use Rattle.pgo_meaning.specs.Sections.{sections_of}
use Rattle.pgo_meaning.specs.Statements.{Setting, Part, Index, Field, alone, index_of, label_of, to_variable, assigned, steps, assign_all, assignment_code, bind_name, bind_names, code, branches, arms, in_order}
use Rattle.pgo_accesses.specs.Assigned.{NeverYields, NoneYields}
use Rattle.pgo_accesses.specs.WithoutYield.{WithoutYield, EachWithout, LabeledWithout, GuardedWithout}
use Rattle.pgo_accesses.proofs.SectionForms.{found_all}

module _ (s : Setting) where
  first_without : (i : Option (Name × Tree)) (f : Option Name → Code) → ((j : Option Name) → NeverYields (f j)) → NeverYields (read_first i f)
  first_without None f h = h None
  first_without (Some i) f h = h (Some i.0)

  after_without : (bs : List MappedRead) (c : Code) → NeverYields c → NeverYields (after bs c)
  after_without [] c h = h
  after_without (b ∷ bs) c h = first_without b.index (λ i. Read b.value b.mapped.global i b.mapped.reads (after bs c)) (λ i. after_without bs c h)

  evaluated_without : (e : Tree) (k : ℕ) (f : Tree → ℕ → Code) → ((e : Tree) (k : ℕ) → NeverYields (f e k)) → NeverYields (evaluated s.mapped e k f)
  evaluated_without e k f h = let p = hoisted s.mapped [] e k in after_without p.reads (f p.rest p.used) (h p.rest p.used)

  variable_without : (x : Name) (path : List Part) (w : Name) (p : Place) → NeverYields (to_variable s x path w p)
  variable_without x [] w p = go s.is_block
    where
      go : (b : Bool) → NeverYields (if b then Set old_base p (name w) else Become p w)
      go true = tt
      go false = tt
  variable_without x (i ∷ path) w p = tt

  assigned_without : (x : Name) (path : List Part) (w : Name) → NeverYields (assigned s x path w)
  assigned_without x path w = go (find x s.mapped) (find x s.places)
    where
      place_without : (o : Option Place) → NeverYields (on Empty o (to_variable s x path w))
      place_without None = tt
      place_without (Some p) = variable_without x path w p

      go : (o : Option Mapped) (q : Option Place) → NeverYields (on (on Empty q (to_variable s x path w)) o (λ m. Write m.global (index_of path) w m.writes))
      go None q = place_without q
      go (Some m) q = tt

  steps_without : (path : List Step) (k : ℕ) (f : List Part → ℕ → Code) → ((ps : List Part) (k : ℕ) → NeverYields (f ps k)) → NeverYields (steps s path k f)
  steps_without [] k f h = h [] k
  steps_without (step.Index e ∷ path) k f h =
      evaluated_without e k (λ e' k'. Let at_base (place k') e' (steps s path (suc k') (λ parts. f (Index (place k') ∷ parts)))) (λ e' k'.
      steps_without path (suc k') (λ parts. f (Index (place k') ∷ parts)) (λ ps j. h (Index (place k') ∷ ps) j))
  steps_without (step.Field x ∷ path) k f h = steps_without path k (λ parts. f (Field x ∷ parts)) (λ ps j. h (Field x ∷ ps) j)

  in_turn_without : (cs : List Code) → AllByRecursion NeverYields cs → NeverYields (in_turn cs)
  in_turn_without [] h = tt
  in_turn_without (c ∷ cs) h = (h.0, in_turn_without cs h.1)

  last_without : (cs : List Code) (c : Code) → AllByRecursion NeverYields cs → NeverYields c → AllByRecursion NeverYields (cs ++ c ∷ [])
  last_without [] c h g = (g, tt)
  last_without (d ∷ cs) c h g = (h.0, last_without cs c h.1 g)

  all_without : (as' : List Assignment) (k : ℕ) (then' : List Code) → AllByRecursion NeverYields then' → NeverYields (assign_all s as' k then')
  all_without [] k then' h = in_turn_without then' h
  all_without (a ∷ as') k then' h =
      let end = λ (path : List Part) (e : Tree) (k2 : ℕ). Let val_base (place k2) e (assign_all s as' (suc k2) (then' ++ assigned s a.left.name.name path (place k2) ∷ [])) in
      steps_without a.left.path k (λ path k1. evaluated s.mapped a.right k1 (end path)) (λ path k1.
      evaluated_without a.right k1 (end path) (λ e k2.
      all_without as' (suc k2) (then' ++ assigned s a.left.name.name path (place k2) ∷ []) (last_without then' (assigned s a.left.name.name path (place k2)) h (assigned_without a.left.name.name path (place k2)))))

  assignment_without : (as' : List Assignment) → NeverYields (assignment_code s as')
  assignment_without as' = go (if s.is_block then alone as' else None)
    where
      go : (o : Option Tree) → NeverYields (on (assign_all s as' 0 []) o (λ e. Set old_base (Whole content_name) e))
      go None = all_without as' 0 [] tt
      go (Some e) = tt

  name_without : (x : Name) (o : Origin) (c : Code) → NeverYields c → NeverYields (bind_name s x o c)
  name_without x (Equals e) c h = evaluated_without e 0 (λ e' k. Let (unmarked x) x e' c) (λ e' k. h)
  name_without x (In e) c h = evaluated_without e 0 (λ e' k. Pick (unmarked x) x e' c) (λ e' k. h)

  names_without : (ws : List WithName) (c : Code) → NeverYields c → NeverYields (bind_names s ws c)
  names_without [] c h = h
  names_without (w ∷ ws) c h = name_without w.name.name w.origin (bind_names s ws c) (names_without ws c h)

  mutual
    code_without : (t : Statement) (l : Name) → WithoutYield t → NeverYields (code s l t)
    code_without (skip p) l h = tt
    code_without (assign p as') l h = assignment_without as'
    code_without (if_then p bs) l h = branches_without bs l Empty h tt
    code_without (if_else p bs t) l h = branches_without bs l (code s l t) h.0 (code_without t l h.1)
    code_without (while_do p e t) l h = evaluated_without e 0 (λ e' k. If e' (Seq (code s l t) (Goto l)) Empty) (λ e' k. ((code_without t l h, tt), tt))
    code_without (either_of p ts) l h = arms_without ts l h
    code_without (await_that p e) l h = evaluated_without e 0 (λ e' k. Await e') (λ e' k. tt)
    code_without (with_in p ws t) l h = names_without ws (code s l t) (code_without t l h)
    code_without (print_out p e) l h = evaluated_without e 0 (λ e' k. Print e') (λ e' k. tt)
    code_without (assert_that p e) l h = evaluated_without e 0 (λ e' k. Assert e') (λ e' k. tt)
    code_without (go_to p x) l h = tt
    code_without (call_macro p m es) l h = tt
    code_without (yield_as p e) l h = absurd h
    code_without (block p ls) l h = order_without ls l h

    branches_without : (bs : GuardedStatements) (l : Name) (c : Code) → GuardedWithout bs → NeverYields c → NeverYields (branches s l bs c)
    branches_without no_guarded l c h g = g
    branches_without (more_guarded p e t bs) l c h g = evaluated_without e 0 (λ e' k. If e' (code s l t) (branches s l bs c)) (λ e' k. (code_without t l h.0, branches_without bs l c h.1 g))

    arms_without : (ts : Statements) (l : Name) → EachWithout ts → NoneYields (arms s l ts)
    arms_without no_statements l h = tt
    arms_without (more_statements t ts) l h = (code_without t l h.0, arms_without ts l h.1)

    order_without : (ls : LabeledStatements) (l : Name) → LabeledWithout ls → NeverYields (in_order s l ls)
    order_without no_labeled l h = tt
    order_without (more_labeled None t ls) l h = (code_without t l h.0, order_without ls l h.1)
    order_without (more_labeled (Some y) t ls) l h = tt

  -- ---- sections
  abbrev All : List (Name × Code) → Type 0
  All cs = AllByRecursion (λ c. NeverYields c.1) cs

  joined : (cs ds : List (Name × Code)) → All cs → All ds → All (cs ++ ds)
  joined [] ds h g = g
  joined (c ∷ cs) ds h g = (h.0, joined cs ds h.1 g)

  own_without : (x : Option PlacedName) (t : Statement) (c : Code) → WithoutYield t → NeverYields c → All (own s x t c)
  own_without None t c h g = tt
  own_without (Some x) t c h g = ((code_without t (label_of s.process x.name) h, g), tt)

  mutual
    within_without : (t : Statement) (l : Name) (c : Code) → WithoutYield t → NeverYields c → All (within s l t c)
    within_without (skip p) l c h g = tt
    within_without (assign p as') l c h g = tt
    within_without (if_then p bs) l c h g = within_branches_without bs l c h g
    within_without (if_else p bs t) l c h g = joined (within_branches s l bs c) (within s l t c) (within_branches_without bs l c h.0 g) (within_without t l c h.1 g)
    within_without (while_do p e t) l c h g = within_without t l (Goto l) h tt
    within_without (either_of p ts) l c h g = within_arms_without ts l c h g
    within_without (await_that p e) l c h g = tt
    within_without (with_in p ws t) l c h g = within_without t l c h g
    within_without (print_out p e) l c h g = tt
    within_without (assert_that p e) l c h g = tt
    within_without (go_to p x) l c h g = tt
    within_without (call_macro p m es) l c h g = tt
    within_without (yield_as p e) l c h g = tt
    within_without (block p ls) l c h g = within_order_without ls l c h g

    within_branches_without : (bs : GuardedStatements) (l : Name) (c : Code) → GuardedWithout bs → NeverYields c → All (within_branches s l bs c)
    within_branches_without no_guarded l c h g = tt
    within_branches_without (more_guarded p e t bs) l c h g = joined (within s l t c) (within_branches s l bs c) (within_without t l c h.0 g) (within_branches_without bs l c h.1 g)

    within_arms_without : (ts : Statements) (l : Name) (c : Code) → EachWithout ts → NeverYields c → All (within_arms s l ts c)
    within_arms_without no_statements l c h g = tt
    within_arms_without (more_statements t ts) l c h g = joined (within s l t c) (within_arms s l ts c) (within_without t l c h.0 g) (within_arms_without ts l c h.1 g)

    within_order_without : (ls : LabeledStatements) (l : Name) (c : Code) → LabeledWithout ls → NeverYields c → All (within_order s l ls c)
    within_order_without no_labeled l c h g = tt
    within_order_without (more_labeled x t ls) l c h g =
        let rest = Seq (in_order s l ls) c in
        let rest_without : NeverYields (Seq (in_order s l ls) c) = (order_without ls l h.1, g) in
        joined (own s x t rest ++ within s (labelled s l x) t rest) (within_order s l ls c)
        (joined (own s x t rest) (within s (labelled s l x) t rest) (own_without x t rest h.0 rest_without) (within_without t (labelled s l x) rest h.0 rest_without)) (within_order_without ls l c h.1 g)

pub section_without : (ms : List Macro) (p : Name) (a : Archetype) (bs : List Binding) (l : Name) (c : Code) → LabeledWithout (placed_among (bodies ms) (labeled a.body)) → find l (sections_of ms p a bs) ≡ Some c → NeverYields c
section_without ms p a bs l c h e =
    found_all NeverYields (sections_of ms p a bs) l c (within_order_without (setting_of p a bs) (placed_among (bodies ms) (labeled a.body)) [] (Goto done) h tt) e
