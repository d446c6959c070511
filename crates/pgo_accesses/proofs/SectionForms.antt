-- Every section ends at a label, and assigns by name only what it bound.
use Rattle.std.proofs.Common.{◌≡◌, ℕ, suc, Bool, true, false, ◌||◌, List, [], ◌∷◌, ◌++◌, Option, Some, None, refl, ap, subst, arith}
use Rattle.std.specs.Prelude.{if◌then◌else◌}
use Rattle.std.specs.List.{AllByRecursion}
use Rattle.pgo_base.specs.Lookup.{Name, same_name, find}
use Rattle.pgo_base.specs.Tree.{Tree, name}
use Rattle.pgo_model.specs.Names.{same_name-self, is_among}
use Rattle.pgo_model.specs.Options.{on}
use Rattle.pgo_model.specs.Written.{done}
use Rattle.pgo_syntax.specs.Statement.{Statement, skip, assign, if_then, if_else, while_do, either_of, await_that, with_in, print_out, assert_that, go_to, call_macro, yield_as, block, labeled, Statements, no_statements, more_statements, LabeledStatements, no_labeled, more_labeled, GuardedStatements, no_guarded, more_guarded}
use Rattle.pgo_syntax.specs.declared.archetype.Archetype.{Archetype}
use Rattle.pgo_syntax.specs.declared.assignment.Assignment.{Assignment}
use Rattle.pgo_syntax.specs.declared.assignment.Step.{Step}
use Rattle.pgo_syntax.specs.declared.assignment.Step.TheVariants as step
use Rattle.pgo_syntax.specs.declared.binding.Origin.{Origin}
use Rattle.pgo_syntax.specs.declared.binding.Origin.TheVariants.{Equals, In}
use Rattle.pgo_syntax.specs.declared.binding.WithName.{WithName}
use Rattle.pgo_syntax.specs.declared.bound.Binding.{Binding}
use Rattle.pgo_syntax.specs.declared.macros.Macro.{Macro}
use Rattle.pgo_syntax.specs.declared.name.PlacedName.{PlacedName}
use Rattle.pgo_sections.specs.Access.{MappedRead, Mapped, place, evaluated, hoisted, read_first, after}
use Rattle.pgo_sections.specs.Code.{Place, Whole, Code, Empty, Let, Pick, Become, Set, If, Seq, Goto, Read, Write, in_turn, content_name, at_base, old_base, val_base, Await, Print, Assert}
use Rattle.pgo_meaning.specs.Labels.{own, labelled, within, within_branches, within_arms, within_order}
use Rattle.pgo_meaning.specs.MacrosPlaced.{bodies, placed_among, unmarked}
use Rattle.pgo_meaning.specs.Parameters.{setting_of}
use Rattle.pgo_meaning.specs.Sections.{sections_of}
use Rattle.pgo_meaning.specs.Statements.{Setting, Part, Index, Field, alone, index_of, label_of, to_variable, assigned, steps, assign_all, assignment_code, bind_name, bind_names, code, branches, arms, in_order}
use Rattle.pgo_accesses.specs.Assigned.{AssignsBound, AllAssign, JumpsAtEnd}

-- of every section of a list
pub found_all : (P : Code → Type 0) (cs : List (Name × Code)) (l : Name) (c : Code) → AllByRecursion (λ c. P c.1) cs → find l cs ≡ Some c → P c
found_all P [] l c h e = absurd (grind (arith, e))
found_all P (x ∷ cs) l c h e = go (same_name l x.0) e (λ k. found_all P cs l c h.1 k)
  where
    go : (b : Bool) → (if b then Some x.1 else find l cs) ≡ Some c → (find l cs ≡ Some c → P c) → P c
    go true e more = let same : x.1 ≡ c = cc in subst P same h.0
    go false e more = more e

module _ (s : Setting) (P : Code → Type 0) (seqs : (c d : Code) → P d → P (Seq c d)) (gotos : (l : Name) → P (Goto l)) where
  abbrev All : List (Name × Code) → Type 0
  All cs = AllByRecursion (λ c. P c.1) cs

  joined : (cs ds : List (Name × Code)) → All cs → All ds → All (cs ++ ds)
  joined [] ds h g = g
  joined (c ∷ cs) ds h g = (h.0, joined cs ds h.1 g)

  own_all : (x : Option PlacedName) (t : Statement) (c : Code) → P c → All (own s x t c)
  own_all None t c h = tt
  own_all (Some x) t c h = (seqs (code s (label_of s.process x.name) t) c h, tt)

  mutual
    within_all : (t : Statement) (l : Name) (c : Code) → P c → All (within s l t c)
    within_all (skip p) l c h = tt
    within_all (assign p as') l c h = tt
    within_all (if_then p bs) l c h = within_branches_all bs l c h
    within_all (if_else p bs t) l c h = joined (within_branches s l bs c) (within s l t c) (within_branches_all bs l c h) (within_all t l c h)
    within_all (while_do p e t) l c h = within_all t l (Goto l) (gotos l)
    within_all (either_of p ts) l c h = within_arms_all ts l c h
    within_all (await_that p e) l c h = tt
    within_all (with_in p ws t) l c h = within_all t l c h
    within_all (print_out p e) l c h = tt
    within_all (assert_that p e) l c h = tt
    within_all (go_to p x) l c h = tt
    within_all (call_macro p m es) l c h = tt
    within_all (yield_as p e) l c h = tt
    within_all (block p ls) l c h = within_order_all ls l c h

    within_branches_all : (bs : GuardedStatements) (l : Name) (c : Code) → P c → All (within_branches s l bs c)
    within_branches_all no_guarded l c h = tt
    within_branches_all (more_guarded p e t bs) l c h = joined (within s l t c) (within_branches s l bs c) (within_all t l c h) (within_branches_all bs l c h)

    within_arms_all : (ts : Statements) (l : Name) (c : Code) → P c → All (within_arms s l ts c)
    within_arms_all no_statements l c h = tt
    within_arms_all (more_statements t ts) l c h = joined (within s l t c) (within_arms s l ts c) (within_all t l c h) (within_arms_all ts l c h)

    within_order_all : (ls : LabeledStatements) (l : Name) (c : Code) → P c → All (within_order s l ls c)
    within_order_all no_labeled l c h = tt
    within_order_all (more_labeled x t ls) l c h =
        let rest = Seq (in_order s l ls) c in
        let rest_all = seqs (in_order s l ls) c h in
        joined (own s x t rest ++ within s (labelled s l x) t rest) (within_order s l ls c) (joined (own s x t rest) (within s (labelled s l x) t rest) (own_all x t rest rest_all) (within_all t (labelled s l x) rest rest_all)) (within_order_all ls l c h)

-- a section ends at a label
pub section_jumps : (ms : List Macro) (p : Name) (a : Archetype) (bs : List Binding) (l : Name) (c : Code) → find l (sections_of ms p a bs) ≡ Some c → JumpsAtEnd c
section_jumps ms p a bs l c e =
    found_all JumpsAtEnd (sections_of ms p a bs) l c (within_order_all (setting_of p a bs) JumpsAtEnd (λ c d h. h) (λ l. tt) (placed_among (bodies ms) (labeled a.body)) [] (Goto done) tt) e

-- ---- what is assigned by name

-- under all names that have those of vs
abbrev Over : List Name → Code → Type 0
Over vs c = (ws : List Name) → ((x : Name) → is_among x vs ≡ true → is_among x ws ≡ true) → AssignsBound ws c

more_names : (w : Name) (vs ws : List Name) → ((x : Name) → is_among x vs ≡ true → is_among x ws ≡ true) → (x : Name) → is_among x (w ∷ vs) ≡ true → is_among x (w ∷ ws) ≡ true
more_names w vs ws inc x h = go (same_name x w) h
  where
    go : (b : Bool) → b || is_among x vs ≡ true → b || is_among x ws ≡ true
    go true h = refl
    go false h = inc x h

weaker : (w : Name) (vs : List Name) (c : Code) → Over vs c → Over (w ∷ vs) c
weaker w vs c h ws inc = h ws (λ x m. inc x (more x m (same_name x w)))
  where
    more : (x : Name) → is_among x vs ≡ true → (b : Bool) → b || is_among x vs ≡ true
    more x m true = refl
    more x m false = m

with_let : (b w : Name) (e : Tree) (vs : List Name) (c : Code) → Over (w ∷ vs) c → Over vs (Let b w e c)
with_let b w e vs c h ws inc = h (w ∷ ws) (more_names w vs ws inc)

with_read : (w g : Name) (i : Option Name) (m : Code) (vs : List Name) (c : Code) → Over (w ∷ vs) c → Over vs (Read w g i m c)
with_read w g i m vs c h ws inc = h (w ∷ ws) (more_names w vs ws inc)

module _ (s : Setting) where
  first_over : (i : Option (Name × Tree)) (f : Option Name → Code) (vs : List Name) → ((j : Option Name) → Over vs (f j)) → Over vs (read_first i f)
  first_over None f vs h = h None
  first_over (Some i) f vs h = with_let at_base i.0 i.1 vs (f (Some i.0)) (weaker i.0 vs (f (Some i.0)) (h (Some i.0)))

  after_over : (bs : List MappedRead) (vs : List Name) (c : Code) → Over vs c → Over vs (after bs c)
  after_over [] vs c h = h
  after_over (b ∷ bs) vs c h =
      first_over b.index (λ i. Read b.value b.mapped.global i b.mapped.reads (after bs c)) vs (λ i.
      with_read b.value b.mapped.global i b.mapped.reads vs (after bs c) (weaker b.value vs (after bs c) (after_over bs vs c h)))

  evaluated_over : (e : Tree) (k : ℕ) (f : Tree → ℕ → Code) (vs : List Name) → ((e : Tree) (k : ℕ) → Over vs (f e k)) → Over vs (evaluated s.mapped e k f)
  evaluated_over e k f vs h = let p = hoisted s.mapped [] e k in after_over p.reads vs (f p.rest p.used) (h p.rest p.used)

  variable_over : (x : Name) (path : List Part) (w : Name) (p : Place) (vs : List Name) → is_among w vs ≡ true → Over vs (to_variable s x path w p)
  variable_over x [] w p vs m = go s.is_block
    where
      go : (b : Bool) → Over vs (if b then Set old_base p (name w) else Become p w)
      go true = λ ws inc. tt
      go false = λ ws inc. inc w m
  variable_over x (i ∷ path) w p vs m = λ ws inc. tt

  assigned_over : (x : Name) (path : List Part) (w : Name) (vs : List Name) → is_among w vs ≡ true → Over vs (assigned s x path w)
  assigned_over x path w vs m = go (find x s.mapped) (find x s.places)
    where
      place_over : (o : Option Place) → Over vs (on Empty o (to_variable s x path w))
      place_over None = λ ws inc. tt
      place_over (Some p) = variable_over x path w p vs m

      go : (o : Option Mapped) (q : Option Place) → Over vs (on (on Empty q (to_variable s x path w)) o (λ m. Write m.global (index_of path) w m.writes))
      go None q = place_over q
      go (Some m) q = λ ws inc. tt

  steps_over : (path : List Step) (k : ℕ) (f : List Part → ℕ → Code) (vs : List Name) → ((ps : List Part) (k : ℕ) → Over vs (f ps k)) → Over vs (steps s path k f)
  steps_over [] k f vs h = h [] k
  steps_over (step.Index e ∷ path) k f vs h =
      evaluated_over e k (λ e' k'. Let at_base (place k') e' (steps s path (suc k') (λ parts. f (Index (place k') ∷ parts)))) vs (λ e' k'.
      let c = steps s path (suc k') (λ parts. f (Index (place k') ∷ parts)) in
      with_let at_base (place k') e' vs c (weaker (place k') vs c (steps_over path (suc k') (λ parts. f (Index (place k') ∷ parts)) vs (λ ps j. h (Index (place k') ∷ ps) j))))
  steps_over (step.Field x ∷ path) k f vs h = steps_over path k (λ parts. f (Field x ∷ parts)) vs (λ ps j. h (Field x ∷ ps) j)

  in_turn_over : (cs : List Code) (vs : List Name) → AllByRecursion (Over vs) cs → Over vs (in_turn cs)
  in_turn_over [] vs h = λ ws inc. tt
  in_turn_over (c ∷ cs) vs h = λ ws inc. (h.0 ws inc, in_turn_over cs vs h.1 ws inc)

  all_weaker : (w : Name) (vs : List Name) (cs : List Code) → AllByRecursion (Over vs) cs → AllByRecursion (Over (w ∷ vs)) cs
  all_weaker w vs [] h = tt
  all_weaker w vs (c ∷ cs) h = (weaker w vs c h.0, all_weaker w vs cs h.1)

  last_over : (cs : List Code) (c : Code) (vs : List Name) → AllByRecursion (Over vs) cs → Over vs c → AllByRecursion (Over vs) (cs ++ c ∷ [])
  last_over [] c vs h g = (g, tt)
  last_over (d ∷ cs) c vs h g = (h.0, last_over cs c vs h.1 g)

  all_over : (as' : List Assignment) (k : ℕ) (then' : List Code) (vs : List Name) → AllByRecursion (Over vs) then' → Over vs (assign_all s as' k then')
  all_over [] k then' vs h = in_turn_over then' vs h
  all_over (a ∷ as') k then' vs h =
      let end = λ (path : List Part) (e : Tree) (k2 : ℕ). Let val_base (place k2) e (assign_all s as' (suc k2) (then' ++ assigned s a.left.name.name path (place k2) ∷ [])) in
      steps_over a.left.path k (λ path k1. evaluated s.mapped a.right k1 (end path)) vs (λ path k1.
      evaluated_over a.right k1 (end path) vs (λ e k2.
      let then2 = then' ++ assigned s a.left.name.name path (place k2) ∷ [] in
      with_let val_base (place k2) e vs (assign_all s as' (suc k2) then2)
      (all_over as' (suc k2) then2 (place k2 ∷ vs) (last_over then' (assigned s a.left.name.name path (place k2)) (place k2 ∷ vs) (all_weaker (place k2) vs then' h)
      (assigned_over a.left.name.name path (place k2) (place k2 ∷ vs) (ap (λ b. b || is_among (place k2) vs) (same_name-self (place k2))))))))

  assignment_over : (as' : List Assignment) → Over [] (assignment_code s as')
  assignment_over as' = go (if s.is_block then alone as' else None)
    where
      go : (o : Option Tree) → Over [] (on (assign_all s as' 0 []) o (λ e. Set old_base (Whole content_name) e))
      go None = all_over as' 0 [] [] tt
      go (Some e) = λ ws inc. tt

  no_names : (c : Code) → Over [] c → AssignsBound [] c
  no_names c h = h [] (λ x m. m)

  name_over : (x : Name) (o : Origin) (c : Code) → Over [] c → Over [] (bind_name s x o c)
  name_over x (Equals e) c h = evaluated_over e 0 (λ e' k. Let (unmarked x) x e' c) [] (λ e' k. with_let (unmarked x) x e' [] c (weaker x [] c h))
  name_over x (In e) c h = evaluated_over e 0 (λ e' k. Pick (unmarked x) x e' c) [] (λ e' k ws inc. no_names c h)

  names_over : (ws : List WithName) (c : Code) → Over [] c → Over [] (bind_names s ws c)
  names_over [] c h = h
  names_over (w ∷ ws) c h = name_over w.name.name w.origin (bind_names s ws c) (names_over ws c h)

  mutual
    code_over : (t : Statement) (l : Name) → Over [] (code s l t)
    code_over (skip p) l = λ ws inc. tt
    code_over (assign p as') l = assignment_over as'
    code_over (if_then p bs) l = branches_over bs l Empty (λ ws inc. tt)
    code_over (if_else p bs t) l = branches_over bs l (code s l t) (code_over t l)
    code_over (while_do p e t) l = evaluated_over e 0 (λ e' k. If e' (Seq (code s l t) (Goto l)) Empty) [] (λ e' k ws inc. ((code_over t l ws inc, tt), tt))
    code_over (either_of p ts) l = λ ws inc. arms_over ts l ws inc
    code_over (await_that p e) l = evaluated_over e 0 (λ e' k. Await e') [] (λ e' k ws inc. tt)
    code_over (with_in p ws t) l = names_over ws (code s l t) (code_over t l)
    code_over (print_out p e) l = evaluated_over e 0 (λ e' k. Print e') [] (λ e' k ws inc. tt)
    code_over (assert_that p e) l = evaluated_over e 0 (λ e' k. Assert e') [] (λ e' k ws inc. tt)
    code_over (go_to p x) l = λ ws inc. tt
    code_over (call_macro p m es) l = λ ws inc. tt
    code_over (yield_as p e) l = λ ws inc. tt
    code_over (block p ls) l = order_over ls l

    branches_over : (bs : GuardedStatements) (l : Name) (c : Code) → Over [] c → Over [] (branches s l bs c)
    branches_over no_guarded l c h = h
    branches_over (more_guarded p e t bs) l c h =
        evaluated_over e 0 (λ e' k. If e' (code s l t) (branches s l bs c)) [] (λ e' k ws inc. (code_over t l ws inc, branches_over bs l c h ws inc))

    arms_over : (ts : Statements) (l : Name) (ws : List Name) → ((x : Name) → is_among x [] ≡ true → is_among x ws ≡ true) → AllAssign ws (arms s l ts)
    arms_over no_statements l ws inc = tt
    arms_over (more_statements t ts) l ws inc = (code_over t l ws inc, arms_over ts l ws inc)

    order_over : (ls : LabeledStatements) (l : Name) → Over [] (in_order s l ls)
    order_over no_labeled l = λ ws inc. tt
    order_over (more_labeled None t ls) l = λ ws inc. (code_over t l ws inc, order_over ls l ws inc)
    order_over (more_labeled (Some y) t ls) l = λ ws inc. tt

  -- ---- sections
  abbrev AllOver : List (Name × Code) → Type 0
  AllOver cs = AllByRecursion (λ c. Over [] c.1) cs

  over_joined : (cs ds : List (Name × Code)) → AllOver cs → AllOver ds → AllOver (cs ++ ds)
  over_joined [] ds h g = g
  over_joined (c ∷ cs) ds h g = (h.0, over_joined cs ds h.1 g)

  own_over : (x : Option PlacedName) (t : Statement) (c : Code) → Over [] c → AllOver (own s x t c)
  own_over None t c h = tt
  own_over (Some x) t c h = ((λ ws inc. (code_over t (label_of s.process x.name) ws inc, h ws inc)), tt)

  mutual
    within_over : (t : Statement) (l : Name) (c : Code) → Over [] c → AllOver (within s l t c)
    within_over (skip p) l c h = tt
    within_over (assign p as') l c h = tt
    within_over (if_then p bs) l c h = within_branches_over bs l c h
    within_over (if_else p bs t) l c h = over_joined (within_branches s l bs c) (within s l t c) (within_branches_over bs l c h) (within_over t l c h)
    within_over (while_do p e t) l c h = within_over t l (Goto l) (λ ws inc. tt)
    within_over (either_of p ts) l c h = within_arms_over ts l c h
    within_over (await_that p e) l c h = tt
    within_over (with_in p ws t) l c h = within_over t l c h
    within_over (print_out p e) l c h = tt
    within_over (assert_that p e) l c h = tt
    within_over (go_to p x) l c h = tt
    within_over (call_macro p m es) l c h = tt
    within_over (yield_as p e) l c h = tt
    within_over (block p ls) l c h = within_order_over ls l c h

    within_branches_over : (bs : GuardedStatements) (l : Name) (c : Code) → Over [] c → AllOver (within_branches s l bs c)
    within_branches_over no_guarded l c h = tt
    within_branches_over (more_guarded p e t bs) l c h = over_joined (within s l t c) (within_branches s l bs c) (within_over t l c h) (within_branches_over bs l c h)

    within_arms_over : (ts : Statements) (l : Name) (c : Code) → Over [] c → AllOver (within_arms s l ts c)
    within_arms_over no_statements l c h = tt
    within_arms_over (more_statements t ts) l c h = over_joined (within s l t c) (within_arms s l ts c) (within_over t l c h) (within_arms_over ts l c h)

    within_order_over : (ls : LabeledStatements) (l : Name) (c : Code) → Over [] c → AllOver (within_order s l ls c)
    within_order_over no_labeled l c h = tt
    within_order_over (more_labeled x t ls) l c h =
        let rest = Seq (in_order s l ls) c in
        let rest_over : Over [] (Seq (in_order s l ls) c) = λ ws inc. (order_over ls l ws inc, h ws inc) in
        over_joined (own s x t rest ++ within s (labelled s l x) t rest) (within_order s l ls c) (over_joined (own s x t rest) (within s (labelled s l x) t rest) (own_over x t rest rest_over) (within_over t (labelled s l x) rest rest_over)) (within_order_over ls l c h)

-- a section assigns by name only what it bound
pub section_assigns : (ms : List Macro) (p : Name) (a : Archetype) (bs : List Binding) (l : Name) (c : Code) → find l (sections_of ms p a bs) ≡ Some c → AssignsBound [] c
section_assigns ms p a bs l c e =
    found_all (Over []) (sections_of ms p a bs) l c (within_order_over (setting_of p a bs) (placed_among (bodies ms) (labeled a.body)) [] (Goto done) (λ ws inc. tt)) e [] (λ x m. m)
