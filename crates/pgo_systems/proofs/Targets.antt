-- Sections end at labels of their process or at Done, where each `goto` names one.
use Rattle.std.proofs.Common.{◌≡◌, ◌⊎◌, ℕ, suc, Bool, true, false, if◌then◌else◌, List, [], ◌∷◌, ◌++◌, map, Option, Some, None, refl, ap, ◌∙◌, subst, inl, inr}
use Rattle.std.specs.List.{AllByRecursion}
use Rattle.std.proofs.lemmas.Option.{same_Some}
use Rattle.pgo_base.specs.Lookup.{Name, same_name, find}
use Rattle.pgo_base.specs.Tree.{Tree, name}
use Rattle.pgo_model.specs.Names.{same_name-self}
use Rattle.pgo_model.specs.Options.{on}
use Rattle.pgo_model.specs.Written.{done, written}
use Rattle.pgo_syntax.specs.Statement.{Statement, skip, assign, if_then, if_else, while_do, either_of, await_that, with_in, print_out, assert_that, go_to, call_macro, yield_as, block, Statements, no_statements, more_statements, LabeledStatements, no_labeled, more_labeled, GuardedStatements, no_guarded, more_guarded, labeled}
use Rattle.pgo_syntax.specs.declared.assignment.Assignment.{Assignment}
use Rattle.pgo_syntax.specs.declared.assignment.Step.{Step}
use Rattle.pgo_syntax.specs.declared.assignment.Step.TheVariants as step
use Rattle.pgo_syntax.specs.declared.binding.Origin.{Origin}
use Rattle.pgo_syntax.specs.declared.binding.Origin.TheVariants.{Equals, In}
use Rattle.pgo_syntax.specs.declared.binding.WithName.{WithName}
use Rattle.pgo_syntax.specs.declared.bound.Bound.{Bound}
use Rattle.pgo_syntax.specs.declared.bound.Instance.{Instance}
use Rattle.pgo_syntax.specs.declared.macros.Macro.{Macro}
use Rattle.pgo_syntax.specs.declared.name.PlacedName.{PlacedName}
use Rattle.pgo_bound.specs.Among.{IsAmong, among_left, among_right, nth_among}
use Rattle.pgo_bound.specs.Sound.{IsLabel, labels_in, labels_each, labels_among, labels_guarded}
use Rattle.pgo_sections.specs.Access.{Mapped, MappedRead, place, read_first, after, hoisted, evaluated}
use Rattle.pgo_sections.specs.Code.{Place, Whole, Code, Empty, Let, Pick, Become, Set, Await, Assert, Print, If, Seq, Goto, Read, Write, in_turn, content_name, at_base, old_base, val_base}
use Rattle.pgo_meaning.specs.LabelSections.{AreUnlabelled}
use Rattle.pgo_meaning.specs.Labels.{within, within_branches, within_arms, within_order}
use Rattle.pgo_meaning.specs.MacrosPlaced.{unmarked, Arguments, put, put_each, put_among, put_guarded, under_names, Body, Bodies, handed, walked, placed, placed_each, placed_among, placed_guarded, bodies_with, bodies}
use Rattle.pgo_meaning.specs.Parameters.{setting_of}
use Rattle.pgo_meaning.specs.Statements.{Setting, label_of, Part, Index, Field, index_of, alone, to_variable, assigned, steps, assign_all, assignment_code, bind_name, bind_names, code, branches, arms, in_order}
use Rattle.pgo_meaning.specs.TreesAgree.{sections_at}
use Rattle.pgo_systems.specs.Gotos.{NoBareWhile, NoneEach, NoneAmong, NoneGuarded, gotos_in, gotos_each, gotos_among, gotos_guarded, GotosKnown}
use Rattle.pgo_systems.specs.Premises.{Jumps, AllJump, EndsAtLabels}

-- ---- statements whose labels and targets meet R
module _ (R : Name → Type 0) where
  abbrev LabelMeets : Option PlacedName → Type 0
  LabelMeets None = Unit {0}
  LabelMeets (Some y) = R y.name

  abbrev mutual
    Meets : Statement → Type 0
    Meets (skip p) = Unit {0}
    Meets (assign p x) = Unit {0}
    Meets (if_then p bs) = AllGuarded bs
    Meets (if_else p bs s) = AllGuarded bs × Meets s
    Meets (while_do p e s) = Meets s
    Meets (either_of p ss) = AllMeet ss
    Meets (await_that p e) = Unit {0}
    Meets (with_in p ns s) = Meets s
    Meets (print_out p e) = Unit {0}
    Meets (assert_that p e) = Unit {0}
    Meets (go_to p l) = R l.name
    Meets (call_macro p m es) = Unit {0}
    Meets (yield_as p e) = Unit {0}
    Meets (block p ls) = AllLabeled ls

    AllMeet : Statements → Type 0
    AllMeet no_statements = Unit {0}
    AllMeet (more_statements s ss) = Meets s × AllMeet ss

    AllLabeled : LabeledStatements → Type 0
    AllLabeled no_labeled = Unit {0}
    AllLabeled (more_labeled l s ls) = LabelMeets l × Meets s × AllLabeled ls

    AllGuarded : GuardedStatements → Type 0
    AllGuarded no_guarded = Unit {0}
    AllGuarded (more_guarded p e s bs) = Meets s × AllGuarded bs

  abbrev Each : List Name → Type 0
  Each xs = (x : Name) → IsAmong x xs → R x

  left : (xs ys : List Name) → Each (xs ++ ys) → Each xs
  left xs ys h x m = h x (among_left x xs ys m)

  right : (xs ys : List Name) → Each (xs ++ ys) → Each ys
  right xs ys h x m = h x (among_right x xs ys m)

  label_meets : (l : Option PlacedName) → Each (on [] l (λ x. x.name ∷ [])) → LabelMeets l
  label_meets None h = tt
  label_meets (Some y) h = h y.name (inl refl)

  mutual
    meets : (s : Statement) → Each (labels_in s) → Each (gotos_in s) → Meets s
    meets (skip p) l g = tt
    meets (assign p x) l g = tt
    meets (if_then p bs) l g = guarded_meet bs l g
    meets (if_else p bs s) l g =
        (guarded_meet bs (left (labels_guarded bs) (labels_in s) l) (left (gotos_guarded bs) (gotos_in s) g), meets s (right (labels_guarded bs) (labels_in s) l) (right (gotos_guarded bs) (gotos_in s) g))
    meets (while_do p e s) l g = meets s l g
    meets (either_of p ss) l g = each_meet ss l g
    meets (await_that p e) l g = tt
    meets (with_in p ns s) l g = meets s l g
    meets (print_out p e) l g = tt
    meets (assert_that p e) l g = tt
    meets (go_to p x) l g = g x.name (inl refl)
    meets (call_macro p m es) l g = tt
    meets (yield_as p e) l g = tt
    meets (block p ls) l g = labeled_meet ls l g

    each_meet : (ss : Statements) → Each (labels_each ss) → Each (gotos_each ss) → AllMeet ss
    each_meet no_statements l g = tt
    each_meet (more_statements s ss) l g =
        (meets s (left (labels_in s) (labels_each ss) l) (left (gotos_in s) (gotos_each ss) g), each_meet ss (right (labels_in s) (labels_each ss) l) (right (gotos_in s) (gotos_each ss) g))

    labeled_meet : (ls : LabeledStatements) → Each (labels_among ls) → Each (gotos_among ls) → AllLabeled ls
    labeled_meet no_labeled l g = tt
    labeled_meet (more_labeled y s ls) l g =
        let own = on [] y (λ x. x.name ∷ []) in
        let front = left (own ++ labels_in s) (labels_among ls) l in
        (label_meets y (left own (labels_in s) front), meets s (right own (labels_in s) front) (left (gotos_in s) (gotos_among ls) g), labeled_meet ls (right (own ++ labels_in s) (labels_among ls) l) (right (gotos_in s) (gotos_among ls) g))

    guarded_meet : (bs : GuardedStatements) → Each (labels_guarded bs) → Each (gotos_guarded bs) → AllGuarded bs
    guarded_meet no_guarded l g = tt
    guarded_meet (more_guarded p e s bs) l g =
        (meets s (left (labels_in s) (labels_guarded bs) l) (left (gotos_in s) (gotos_guarded bs) g), guarded_meet bs (right (labels_in s) (labels_guarded bs) l) (right (gotos_in s) (gotos_guarded bs) g))

  -- ---- macros in the place of their calls
  mutual
    put_meets : (es : Arguments) (s : Statement) → Meets s → Meets (put es s)
    put_meets es (skip p) h = tt
    put_meets es (assign p x) h = tt
    put_meets es (if_then p bs) h = put_guarded_meet es bs h
    put_meets es (if_else p bs s) h = (put_guarded_meet es bs h.0, put_meets es s h.1)
    put_meets es (while_do p e s) h = put_meets es s h
    put_meets es (either_of p ss) h = put_each_meet es ss h
    put_meets es (await_that p e) h = tt
    put_meets es (with_in p ns s) h = put_meets (under_names es ns) s h
    put_meets es (print_out p e) h = tt
    put_meets es (assert_that p e) h = tt
    put_meets es (go_to p x) h = h
    put_meets es (call_macro p m ts) h = tt
    put_meets es (yield_as p e) h = tt
    put_meets es (block p ls) h = put_labeled_meet es ls h

    put_each_meet : (es : Arguments) (ss : Statements) → AllMeet ss → AllMeet (put_each es ss)
    put_each_meet es no_statements h = tt
    put_each_meet es (more_statements s ss) h = (put_meets es s h.0, put_each_meet es ss h.1)

    put_labeled_meet : (es : Arguments) (ls : LabeledStatements) → AllLabeled ls → AllLabeled (put_among es ls)
    put_labeled_meet es no_labeled h = tt
    put_labeled_meet es (more_labeled y s ls) h = (h.0, put_meets es s h.1, put_labeled_meet es ls h.2)

    put_guarded_meet : (es : Arguments) (bs : GuardedStatements) → AllGuarded bs → AllGuarded (put_guarded es bs)
    put_guarded_meet es no_guarded h = tt
    put_guarded_meet es (more_guarded p e s bs) h = (put_meets es s h.0, put_guarded_meet es bs h.1)

  abbrev BodiesMeet : Bodies → Type 0
  BodiesMeet ms = AllByRecursion (λ m. Meets m.1.statement) ms

  body_meets : (ms : Bodies) (x : Name) (b : Body) → BodiesMeet ms → find x ms ≡ Some b → Meets b.statement
  body_meets [] x b h e = absurd (cc)
  body_meets (m ∷ ms) x b h e = go (same_name x m.0) e (λ k. body_meets ms x b h.1 k)
    where
      go : (q : Bool) → (if q then Some m.1 else find x ms) ≡ Some b → (find x ms ≡ Some b → Meets b.statement) → Meets b.statement
      go true e more = subst (λ (z : Body). Meets z.statement) (same_Some m.1 b e) h.0
      go false e more = more e

  module _ (ms : Bodies) (h : BodiesMeet ms) where
    call_meets : (p : ℕ) (m : PlacedName) (ts : List Tree) (o : Option Body) → find m.name ms ≡ o → Meets (on (call_macro p m ts) o (λ b. walked p (put (handed b.parameters ts) b.statement)))
    call_meets p m ts None e = tt
    call_meets p m ts (Some b) e = (tt, tt, (tt, put_meets (handed b.parameters ts) b.statement (body_meets ms m.name b h e), tt))

    mutual
      placed_meets : (s : Statement) → Meets s → Meets (placed ms s)
      placed_meets (skip p) k = tt
      placed_meets (assign p x) k = tt
      placed_meets (if_then p bs) k = placed_guarded_meet bs k
      placed_meets (if_else p bs s) k = (placed_guarded_meet bs k.0, placed_meets s k.1)
      placed_meets (while_do p e s) k = placed_meets s k
      placed_meets (either_of p ss) k = placed_each_meet ss k
      placed_meets (await_that p e) k = tt
      placed_meets (with_in p ns s) k = placed_meets s k
      placed_meets (print_out p e) k = tt
      placed_meets (assert_that p e) k = tt
      placed_meets (go_to p x) k = k
      placed_meets (call_macro p m ts) k = call_meets p m ts (find m.name ms) refl
      placed_meets (yield_as p e) k = tt
      placed_meets (block p ls) k = placed_labeled_meet ls k

      placed_each_meet : (ss : Statements) → AllMeet ss → AllMeet (placed_each ms ss)
      placed_each_meet no_statements k = tt
      placed_each_meet (more_statements s ss) k = (placed_meets s k.0, placed_each_meet ss k.1)

      placed_labeled_meet : (ls : LabeledStatements) → AllLabeled ls → AllLabeled (placed_among ms ls)
      placed_labeled_meet no_labeled k = tt
      placed_labeled_meet (more_labeled y s ls) k = (k.0, placed_meets s k.1, placed_labeled_meet ls k.2)

      placed_guarded_meet : (bs : GuardedStatements) → AllGuarded bs → AllGuarded (placed_guarded ms bs)
      placed_guarded_meet no_guarded k = tt
      placed_guarded_meet (more_guarded p e s bs) k = (placed_meets s k.0, placed_guarded_meet bs k.1)

  none_meet : (xs : List Name) → xs ≡ [] → Each xs
  none_meet xs e x m = absurd (subst (IsAmong x) e m)

  bodies_meet : (before : Bodies) (ms : List Macro) → BodiesMeet before → AreUnlabelled ms → AllByRecursion (λ m. (gotos_among (labeled m.body) ≡ []) × NoneAmong (labeled m.body)) ms → BodiesMeet (bodies_with before ms)
  bodies_meet before [] h u g = h
  bodies_meet before (m ∷ ms) h u g =
      bodies_meet ((m.name.name, record { parameters = map (λ p. p.name) m.params; statement = placed before (block 0 (labeled m.body)) }) ∷ before) ms (placed_meets before h (block 0 (labeled m.body)) (labeled_meet (labeled m.body) (none_meet (labels_among (labeled m.body)) u.0) (none_meet (gotos_among (labeled m.body)) g.0.0)), h) u.1 g.1

-- ---- statements without a bare `while`
mutual
  put_none : (es : Arguments) (s : Statement) → NoBareWhile s → NoBareWhile (put es s)
  put_none es (skip p) h = tt
  put_none es (assign p x) h = tt
  put_none es (if_then p bs) h = put_guarded_none es bs h
  put_none es (if_else p bs s) h = (put_guarded_none es bs h.0, put_none es s h.1)
  put_none es (while_do p e s) h = absurd h
  put_none es (either_of p ss) h = put_each_none es ss h
  put_none es (await_that p e) h = tt
  put_none es (with_in p ns s) h = put_none (under_names es ns) s h
  put_none es (print_out p e) h = tt
  put_none es (assert_that p e) h = tt
  put_none es (go_to p x) h = tt
  put_none es (call_macro p m ts) h = tt
  put_none es (yield_as p e) h = tt
  put_none es (block p ls) h = put_among_none es ls h

  put_each_none : (es : Arguments) (ss : Statements) → NoneEach ss → NoneEach (put_each es ss)
  put_each_none es no_statements h = tt
  put_each_none es (more_statements s ss) h = (put_none es s h.0, put_each_none es ss h.1)

  put_among_none : (es : Arguments) (ls : LabeledStatements) → NoneAmong ls → NoneAmong (put_among es ls)
  put_among_none es no_labeled h = tt
  put_among_none es (more_labeled None s ls) h = (put_none es s h.0, put_among_none es ls h.1)
  put_among_none es (more_labeled (Some y) s ls) h = put_among_none es ls h

  put_guarded_none : (es : Arguments) (bs : GuardedStatements) → NoneGuarded bs → NoneGuarded (put_guarded es bs)
  put_guarded_none es no_guarded h = tt
  put_guarded_none es (more_guarded p e s bs) h = (put_none es s h.0, put_guarded_none es bs h.1)

abbrev NoneInBodies : Bodies → Type 0
NoneInBodies ms = AllByRecursion (λ m. NoBareWhile m.1.statement) ms

body_none : (ms : Bodies) (x : Name) (b : Body) → NoneInBodies ms → find x ms ≡ Some b → NoBareWhile b.statement
body_none [] x b h e = absurd (cc)
body_none (m ∷ ms) x b h e = go (same_name x m.0) e (λ k. body_none ms x b h.1 k)
  where
    go : (q : Bool) → (if q then Some m.1 else find x ms) ≡ Some b → (find x ms ≡ Some b → NoBareWhile b.statement) → NoBareWhile b.statement
    go true e more = subst (λ (z : Body). NoBareWhile z.statement) (same_Some m.1 b e) h.0
    go false e more = more e

module _ (ms : Bodies) (h : NoneInBodies ms) where
  call_none : (p : ℕ) (m : PlacedName) (ts : List Tree) (o : Option Body) → find m.name ms ≡ o → NoBareWhile (on (call_macro p m ts) o (λ b. walked p (put (handed b.parameters ts) b.statement)))
  call_none p m ts None e = tt
  call_none p m ts (Some b) e = (tt, (put_none (handed b.parameters ts) b.statement (body_none ms m.name b h e), tt))

  mutual
    placed_none : (s : Statement) → NoBareWhile s → NoBareWhile (placed ms s)
    placed_none (skip p) k = tt
    placed_none (assign p x) k = tt
    placed_none (if_then p bs) k = placed_guarded_none bs k
    placed_none (if_else p bs s) k = (placed_guarded_none bs k.0, placed_none s k.1)
    placed_none (while_do p e s) k = absurd k
    placed_none (either_of p ss) k = placed_each_none ss k
    placed_none (await_that p e) k = tt
    placed_none (with_in p ns s) k = placed_none s k
    placed_none (print_out p e) k = tt
    placed_none (assert_that p e) k = tt
    placed_none (go_to p x) k = tt
    placed_none (call_macro p m ts) k = call_none p m ts (find m.name ms) refl
    placed_none (yield_as p e) k = tt
    placed_none (block p ls) k = placed_among_none ls k

    placed_each_none : (ss : Statements) → NoneEach ss → NoneEach (placed_each ms ss)
    placed_each_none no_statements k = tt
    placed_each_none (more_statements s ss) k = (placed_none s k.0, placed_each_none ss k.1)

    placed_among_none : (ls : LabeledStatements) → NoneAmong ls → NoneAmong (placed_among ms ls)
    placed_among_none no_labeled k = tt
    placed_among_none (more_labeled None s ls) k = (placed_none s k.0, placed_among_none ls k.1)
    placed_among_none (more_labeled (Some y) s ls) k = placed_among_none ls k

    placed_guarded_none : (bs : GuardedStatements) → NoneGuarded bs → NoneGuarded (placed_guarded ms bs)
    placed_guarded_none no_guarded k = tt
    placed_guarded_none (more_guarded p e s bs) k = (placed_none s k.0, placed_guarded_none bs k.1)

bodies_none : (before : Bodies) (ms : List Macro) → NoneInBodies before → AllByRecursion (λ m. (gotos_among (labeled m.body) ≡ []) × NoneAmong (labeled m.body)) ms → NoneInBodies (bodies_with before ms)
bodies_none before [] h g = h
bodies_none before (m ∷ ms) h g =
    bodies_none ((m.name.name, record { parameters = map (λ p. p.name) m.params; statement = placed before (block 0 (labeled m.body)) }) ∷ before) ms (placed_none before h (block 0 (labeled m.body)) g.0.1, h) g.1

part : {A B C : Type 0} → (B → C) → A ⊎ B → A ⊎ C
part f (inl a) = inl a
part f (inr b) = inr (f b)

-- ---- code
module _ (s : Setting) (P : Name → Type 0) where
  first_jumps : (i : Option (Name × Tree)) (f : Option Name → Code) → ((j : Option Name) → Jumps P (f j)) → Jumps P (read_first i f)
  first_jumps None f h = h None
  first_jumps (Some i) f h = h (Some i.0)

  after_jumps : (bs : List MappedRead) (c : Code) → Jumps P c → Jumps P (after bs c)
  after_jumps [] c h = h
  after_jumps (b ∷ bs) c h = first_jumps b.index (λ i. Read b.value b.mapped.global i b.mapped.reads (after bs c)) (λ i. after_jumps bs c h)

  evaluated_jumps : (e : Tree) (k : ℕ) (f : Tree → ℕ → Code) → ((e : Tree) (k : ℕ) → Jumps P (f e k)) → Jumps P (evaluated s.mapped e k f)
  evaluated_jumps e k f h = let p = hoisted s.mapped [] e k in after_jumps p.reads (f p.rest p.used) (h p.rest p.used)

  variable_jumps : (x : Name) (path : List Part) (w : Name) (p : Place) → Jumps P (to_variable s x path w p)
  variable_jumps x [] w p = go s.is_block
    where
      go : (b : Bool) → Jumps P (if b then Set old_base p (name w) else Become p w)
      go true = tt
      go false = tt
  variable_jumps x (i ∷ path) w p = tt

  assigned_jumps : (x : Name) (path : List Part) (w : Name) → Jumps P (assigned s x path w)
  assigned_jumps x path w = go (find x s.mapped) (find x s.places)
    where
      go : (o : Option Mapped) (q : Option Place) → Jumps P (on (on Empty q (to_variable s x path w)) o (λ m. Write m.global (index_of path) w m.writes))
      go None None = tt
      go None (Some p) = variable_jumps x path w p
      go (Some m) q = tt

  steps_jumps : (path : List Step) (k : ℕ) (f : List Part → ℕ → Code) → ((ps : List Part) (k : ℕ) → Jumps P (f ps k)) → Jumps P (steps s path k f)
  steps_jumps [] k f h = h [] k
  steps_jumps (step.Index e ∷ path) k f h =
      evaluated_jumps e k (λ e' k'. Let at_base (place k') e' (steps s path (suc k') (λ parts. f (Index (place k') ∷ parts)))) (λ e' k'.
      steps_jumps path (suc k') (λ parts. f (Index (place k') ∷ parts)) (λ ps j. h (Index (place k') ∷ ps) j))
  steps_jumps (step.Field x ∷ path) k f h = steps_jumps path k (λ parts. f (Field x ∷ parts)) (λ ps j. h (Field x ∷ ps) j)

  abbrev Each' : List Code → Type 0
  Each' cs = AllByRecursion (λ c. Jumps P c) cs

  in_turn_jumps : (cs : List Code) → Each' cs → Jumps P (in_turn cs)
  in_turn_jumps [] h = tt
  in_turn_jumps (c ∷ cs) h = (h.0, in_turn_jumps cs h.1)

  last_jumps : (cs : List Code) (c : Code) → Each' cs → Jumps P c → Each' (cs ++ c ∷ [])
  last_jumps [] c h g = (g, tt)
  last_jumps (d ∷ cs) c h g = (h.0, last_jumps cs c h.1 g)

  all_jump : (as' : List Assignment) (k : ℕ) (then' : List Code) → Each' then' → Jumps P (assign_all s as' k then')
  all_jump [] k then' h = in_turn_jumps then' h
  all_jump (a ∷ as') k then' h =
      let end = λ (path : List Part) (e : Tree) (k2 : ℕ). Let val_base (place k2) e (assign_all s as' (suc k2) (then' ++ assigned s a.left.name.name path (place k2) ∷ [])) in
      steps_jumps a.left.path k (λ path k1. evaluated s.mapped a.right k1 (end path)) (λ path k1.
      evaluated_jumps a.right k1 (end path) (λ e k2.
      all_jump as' (suc k2) (then' ++ assigned s a.left.name.name path (place k2) ∷ []) (last_jumps then' (assigned s a.left.name.name path (place k2)) h (assigned_jumps a.left.name.name path (place k2)))))

  assignment_jumps : (as' : List Assignment) → Jumps P (assignment_code s as')
  assignment_jumps as' = go (if s.is_block then alone as' else None)
    where
      go : (o : Option Tree) → Jumps P (on (assign_all s as' 0 []) o (λ e. Set old_base (Whole content_name) e))
      go None = all_jump as' 0 [] tt
      go (Some r) = tt

  name_jumps : (x : Name) (o : Origin) (c : Code) → Jumps P c → Jumps P (bind_name s x o c)
  name_jumps x (Equals e) c h = evaluated_jumps e 0 (λ e' k. Let (unmarked x) x e' c) (λ e' k. h)
  name_jumps x (In e) c h = evaluated_jumps e 0 (λ e' k. Pick (unmarked x) x e' c) (λ e' k. h)

  names_jump : (ws : List WithName) (c : Code) → Jumps P c → Jumps P (bind_names s ws c)
  names_jump [] c h = h
  names_jump (w ∷ ws) c h = name_jumps w.name.name w.origin (bind_names s ws c) (names_jump ws c h)

  abbrev R : Name → Type 0
  R x = P (label_of s.process x)

  mutual
    code_jumps : (t : Statement) (l : Name) → P l ⊎ NoBareWhile t → Meets R t → Jumps P (code s l t)
    code_jumps (skip p) l q h = tt
    code_jumps (assign p as') l q h = assignment_jumps as'
    code_jumps (if_then p bs) l q h = branches_jump bs l Empty q h tt
    code_jumps (if_else p bs t) l q h = branches_jump bs l (code s l t) (part (λ b. b.0) q) h.0 (code_jumps t l (part (λ b. b.1) q) h.1)
    code_jumps (while_do p e t) l (inl q) h = evaluated_jumps e 0 (λ e' k. If e' (Seq (code s l t) (Goto l)) Empty) (λ e' k. ((code_jumps t l (inl q) h, q), tt))
    code_jumps (while_do p e t) l (inr b) h = absurd b
    code_jumps (either_of p ts) l q h = arms_jump ts l q h
    code_jumps (await_that p e) l q h = evaluated_jumps e 0 (λ e' k. Await e') (λ e' k. tt)
    code_jumps (with_in p ws t) l q h = names_jump ws (code s l t) (code_jumps t l q h)
    code_jumps (print_out p e) l q h = evaluated_jumps e 0 (λ e' k. Print e') (λ e' k. tt)
    code_jumps (assert_that p e) l q h = evaluated_jumps e 0 (λ e' k. Assert e') (λ e' k. tt)
    code_jumps (go_to p x) l q h = h
    code_jumps (call_macro p m es) l q h = tt
    code_jumps (yield_as p e) l q h = tt
    code_jumps (block p ls) l q h = order_jumps ls l q h

    branches_jump : (bs : GuardedStatements) (l : Name) (c : Code) → P l ⊎ NoneGuarded bs → AllGuarded R bs → Jumps P c → Jumps P (branches s l bs c)
    branches_jump no_guarded l c q h g = g
    branches_jump (more_guarded p e t bs) l c q h g =
        evaluated_jumps e 0 (λ e' k. If e' (code s l t) (branches s l bs c)) (λ e' k. (code_jumps t l (part (λ b. b.0) q) h.0, branches_jump bs l c (part (λ b. b.1) q) h.1 g))

    arms_jump : (ts : Statements) (l : Name) → P l ⊎ NoneEach ts → AllMeet R ts → AllJump P (arms s l ts)
    arms_jump no_statements l q h = tt
    arms_jump (more_statements t ts) l q h = (code_jumps t l (part (λ b. b.0) q) h.0, arms_jump ts l (part (λ b. b.1) q) h.1)

    order_jumps : (ls : LabeledStatements) (l : Name) → P l ⊎ NoneAmong ls → AllLabeled R ls → Jumps P (in_order s l ls)
    order_jumps no_labeled l q h = tt
    order_jumps (more_labeled None t ls) l q h = (code_jumps t l (part (λ b. b.0) q) h.1, order_jumps ls l (part (λ b. b.1) q) h.2)
    order_jumps (more_labeled (Some y) t ls) l q h = h.0

  abbrev Sections : List (Name × Code) → Type 0
  Sections cs = AllByRecursion (λ c. Jumps P c.1) cs

  joined : (cs ds : List (Name × Code)) → Sections cs → Sections ds → Sections (cs ++ ds)
  joined [] ds h g = g
  joined (c ∷ cs) ds h g = (h.0, joined cs ds h.1 g)

  mutual
    within_jumps : (t : Statement) (l : Name) (c : Code) → P l ⊎ NoBareWhile t → Meets R t → Jumps P c → Sections (within s l t c)
    within_jumps (skip p) l c q h g = tt
    within_jumps (assign p as') l c q h g = tt
    within_jumps (if_then p bs) l c q h g = within_branches_jump bs l c q h g
    within_jumps (if_else p bs t) l c q h g =
        joined (within_branches s l bs c) (within s l t c) (within_branches_jump bs l c (part (λ b. b.0) q) h.0 g) (within_jumps t l c (part (λ b. b.1) q) h.1 g)
    within_jumps (while_do p e t) l c (inl q) h g = within_jumps t l (Goto l) (inl q) h q
    within_jumps (while_do p e t) l c (inr b) h g = absurd b
    within_jumps (either_of p ts) l c q h g = within_arms_jump ts l c q h g
    within_jumps (await_that p e) l c q h g = tt
    within_jumps (with_in p ws t) l c q h g = within_jumps t l c q h g
    within_jumps (print_out p e) l c q h g = tt
    within_jumps (assert_that p e) l c q h g = tt
    within_jumps (go_to p x) l c q h g = tt
    within_jumps (call_macro p m es) l c q h g = tt
    within_jumps (yield_as p e) l c q h g = tt
    within_jumps (block p ls) l c q h g = within_order_jumps ls l c q h g

    within_branches_jump : (bs : GuardedStatements) (l : Name) (c : Code) → P l ⊎ NoneGuarded bs → AllGuarded R bs → Jumps P c → Sections (within_branches s l bs c)
    within_branches_jump no_guarded l c q h g = tt
    within_branches_jump (more_guarded p e t bs) l c q h g =
        joined (within s l t c) (within_branches s l bs c) (within_jumps t l c (part (λ b. b.0) q) h.0 g) (within_branches_jump bs l c (part (λ b. b.1) q) h.1 g)

    within_arms_jump : (ts : Statements) (l : Name) (c : Code) → P l ⊎ NoneEach ts → AllMeet R ts → Jumps P c → Sections (within_arms s l ts c)
    within_arms_jump no_statements l c q h g = tt
    within_arms_jump (more_statements t ts) l c q h g =
        joined (within s l t c) (within_arms s l ts c) (within_jumps t l c (part (λ b. b.0) q) h.0 g) (within_arms_jump ts l c (part (λ b. b.1) q) h.1 g)

    within_order_jumps : (ls : LabeledStatements) (l : Name) (c : Code) → P l ⊎ NoneAmong ls → AllLabeled R ls → Jumps P c → Sections (within_order s l ls c)
    within_order_jumps no_labeled l c q h g = tt
    within_order_jumps (more_labeled None t ls) l c q h g =
        let rest = Seq (in_order s l ls) c in
        let rest_jumps : Jumps P rest = (order_jumps ls l (part (λ b. b.1) q) h.2, g) in
        joined (within s l t rest) (within_order s l ls c) (within_jumps t l rest (part (λ b. b.0) q) h.1 rest_jumps) (within_order_jumps ls l c (part (λ b. b.1) q) h.2 g)
    within_order_jumps (more_labeled (Some y) t ls) l c q h g =
        let rest = Seq (in_order s l ls) c in
        let rest_jumps : Jumps P rest = (order_jumps ls l q h.2, g) in
        let m = label_of s.process y.name in
        ((code_jumps t m (inl h.0) h.1, rest_jumps), joined (within s m t rest) (within_order s l ls c) (within_jumps t m rest (inl h.0) h.1 rest_jumps) (within_order_jumps ls l c q h.2 g))

-- ---- of an instance
module _ (b : Bound) (i : Instance) (known : GotosKnown b i) where
  abbrev IsEnd : Name → Type 0
  IsEnd l = (l ≡ done) ⊎ IsLabel i l

  abbrev IsKnown : Name → Type 0
  IsKnown x = IsEnd (label_of i.process x)

  is_known : (x : Name) → (x ≡ done) ⊎ IsAmong x (labels_among (labeled i.archetype.body)) → IsKnown x
  is_known x (inl e) = inl (ap (λ q. if q then done else written i.process x) (ap (λ z. same_name z done) e ∙ same_name-self done))
  is_known x (inr m) = go (same_name x done)
    where
      go : (q : Bool) → IsEnd (if q then done else written i.process x)
      go true = inl refl
      go false = let n = nth_among x (labels_among (labeled i.archetype.body)) m in inr (n.0, x, n.1, refl)

  all_jump_known : AllByRecursion (λ c. Jumps (λ m. (m ≡ done) ⊎ IsLabel i m) c.1) (sections_at b i)
  all_jump_known =
      within_order_jumps (setting_of i.process i.archetype i.bindings) IsEnd (placed_among (bodies b.spec.macros) (labeled i.archetype.body)) [] (Goto done)
      (inr (placed_among_none (bodies b.spec.macros) (bodies_none [] b.spec.macros tt known.macros) (labeled i.archetype.body) known.whiles))
      (placed_labeled_meet IsKnown (bodies b.spec.macros) (bodies_meet IsKnown [] b.spec.macros tt known.unlabelled known.macros) (labeled i.archetype.body) (labeled_meet IsKnown (labeled i.archetype.body) (λ x m. is_known x (inr m)) (λ x m. is_known x (known.body x m))))
      (inl refl)

  -- sections end at labels
  pub ends_known : EndsAtLabels b i
  ends_known l c e = found (sections_at b i) all_jump_known e
    where
      found : (cs : List (Name × Code)) → AllByRecursion (λ c. Jumps (λ m. (m ≡ done) ⊎ IsLabel i m) c.1) cs → find l cs ≡ Some c → Jumps (λ m. (m ≡ done) ⊎ IsLabel i m) c
      found [] h e = absurd (cc)
      found (x ∷ cs) h e = go (same_name l x.0) e (λ k. found cs h.1 k)
        where
          go : (q : Bool) → (if q then Some x.1 else find l cs) ≡ Some c → (find l cs ≡ Some c → Jumps (λ m. (m ≡ done) ⊎ IsLabel i m) c) → Jumps (λ m. (m ≡ done) ⊎ IsLabel i m) c
          go true e more = subst (Jumps (λ m. (m ≡ done) ⊎ IsLabel i m)) (same_Some x.1 c e) h.0
          go false e more = more e
