-- The code of well-formed statements is well formed, and so are the sections of their labels.
use Rattle.std.proofs.Common.{◌≡◌, ◌<◌, ℕ, suc, Bool, true, false, ◌||◌, ◌⊎◌, inl, inr, if◌then◌else◌, List, [], ◌∷◌, ◌++◌, map, Option, Some, None, refl, ap, sym, subst, arith}
use Rattle.std.specs.List.{AllByRecursion}
use Rattle.pgo_base.specs.Lookup.{Name, same_name, find}
use Rattle.pgo_base.specs.Tree.{Tree, name, trees}
use Rattle.pgo_model.specs.Names.{is_among}
use Rattle.pgo_model.specs.Options.{on}
use Rattle.pgo_model.specs.Written.{done, written}
use Rattle.pgo_expr_write.specs.WellFormed.{IsName, AreNames}
use Rattle.pgo_syntax.specs.Statement.{Statement, skip, assign, if_then, if_else, while_do, either_of, await_that, with_in, print_out, assert_that, go_to, call_macro, yield_as, block, Statements, no_statements, more_statements, LabeledStatements, no_labeled, more_labeled, GuardedStatements, no_guarded, more_guarded}
use Rattle.pgo_syntax.specs.declared.assignment.Assignment.{Assignment}
use Rattle.pgo_syntax.specs.declared.assignment.Step.{Step}
use Rattle.pgo_syntax.specs.declared.assignment.Step.TheVariants as step
use Rattle.pgo_syntax.specs.declared.binding.Origin.{Origin}
use Rattle.pgo_syntax.specs.declared.binding.Origin.TheVariants.{Equals, In}
use Rattle.pgo_syntax.specs.declared.binding.WithName.{WithName}
use Rattle.pgo_syntax.specs.declared.name.PlacedName.{PlacedName}
use Rattle.pgo_sections.specs.Access.{Mapped, place, MappedRead, read_first, after, hoisted, evaluated}
use Rattle.pgo_sections.specs.Code.{Place, Whole, variable_of, Code, Empty, Let, Pick, Become, Set, Await, Assert, Print, If, Seq, Goto, Read, Write, in_turn, content_name, at_base, old_base, val_base}
use Rattle.pgo_meaning.specs.Labels.{own, labelled, within, within_branches, within_arms, within_order}
use Rattle.pgo_meaning.specs.MacrosPlaced.{unmarked}
use Rattle.pgo_meaning.specs.Statements.{Setting, Part, Index, Field, part_tree, index_of, label_of, alone, to_variable, assigned, steps, assign_all, assignment_code, bind_name, bind_names, code, branches, arms, in_order}
use Rattle.pgo_meaning.proofs.Traces.{among_first}
use Rattle.pgo_agrees.proofs.GoodCode.{less_or_same}
use Rattle.pgo_agrees.proofs.Stands.{Above, or_second}
use Rattle.pgo_agrees.proofs.EachToken.{all_joined, one_more}
use Rattle.pgo_written.specs.Formed.{Formed, AllFormed, SomeFormed, RangeFormed}
use Rattle.pgo_sections.specs.WellFormed.{KnownIndex}
use Rattle.pgo_written.specs.FormedCode.{IsShort, IsBase, IsText, Alone, CodeFormed, CodesFormed}
use Rattle.pgo_written.specs.FormedStatements.{Known, OriginFormed, PathFormed, AssignmentsFormed, WithsFormed, in_with, AreIdentifiers, LabelFormed, StatementFormed, EachFormed, LabeledFormed, GuardedFormed}
use Rattle.pgo_written.proofs.FormedTrees.{weaker, bound_name}
use Rattle.pgo_written.proofs.FormedReads.{MappedFormed, AllMapped, InScope, lower, ReadWhole, ReadElement, ReadsFrom, hoist, range_hoist}
use Rattle.pgo_written.proofs.WrittenNames.{short_base, base_name, written_base, written_text}

-- ---- names that are bound

above_here : (ws : List Name) → Above ws ws
above_here ws x h = h

in_front : (y : Name) (ws : List Name) → Above ws (y ∷ ws)
in_front y ws x h = or_second (same_name x y) (is_among x ws) h

alone_more : (ps : List (Name × Place)) (ws us : List Name) (x : Name) → Above ws us → Alone ps ws x → Alone ps us x
alone_more ps ws us x a (inl n) = inl n
alone_more ps ws us x a (inr (inl h)) = inr (inl (a x h))
alone_more ps ws us x a (inr (inr p)) = inr (inr p)

pub one_of : {A B C : Type 0} → A ⊎ B → (A → C) → (B → C) → C
one_of (inl a) f g = f a
one_of (inr b) f g = g b

-- the parts of a path: indices stand under names that are bound
abbrev PartsIn : List Name → List Part → Type 0
PartsIn ws [] = Unit {0}
PartsIn ws (Index i ∷ ps) = (is_among i ws ≡ true) × PartsIn ws ps
PartsIn ws (Field x ∷ ps) = IsText x × PartsIn ws ps

parts_more : (ws us : List Name) (ps : List Part) → Above ws us → PartsIn ws ps → PartsIn us ps
parts_more ws us [] a h = tt
parts_more ws us (Index i ∷ ps) a h = (a i h.0, parts_more ws us ps a h.1)
parts_more ws us (Field x ∷ ps) a h = (h.0, parts_more ws us ps a h.1)

index_there : (ws : List Name) (ps : List Part) → PartsIn ws ps → KnownIndex ws (index_of ps)
index_there ws [] h = tt
index_there ws (Index i ∷ []) h = h.0
index_there ws (Index i ∷ (p ∷ ps)) h = tt
index_there ws (Field x ∷ ps) h = tt

-- where a label is
pub label_text : (p x : Name) → IsText p → IsShort x → IsText (label_of p x)
label_text p x h g = go (same_name x done)
  where
    go : (b : Bool) → IsText (if b then done else written p x)
    go true = refl
    go false = written_text p x h g

pub label_name : (p x : Name) → IsShort p → IsShort x → IsName (label_of p x)
label_name p x h g = go (same_name x done)
  where
    go : (b : Bool) → IsName (if b then done else written p x)
    go true = (refl, omega arith)
    go false = base_name (written p x) (written_base p x h g)

-- what the names of statements are
pub record SettingFormed (st : Setting) : Type 0 where
  pub process : IsText st.process
  pub mapped : AllMapped st.mapped
  pub places : (x : Name) (p : Place) → st.is_block ≡ false → find x st.places ≡ Some p → IsBase (variable_of p)

module _ (st : Setting) (r : SettingFormed st) where
  abbrev Scope : List Name → List Name → ℕ → Type 0
  Scope ns ws k = InScope st.places (Known ns) ws k

  abbrev Good : List Name → Code → Type 0
  Good ws c = CodeFormed st.places ws c

  with_place : (ns ws : List Name) (j : ℕ) → Scope ns ws j → Scope ns (place j ∷ ws) (suc j)
  with_place ns ws j s = record {
    names = λ x h. alone_more st.places ws (place j ∷ ws) x (in_front (place j) ws) (s.names x h);
    places = λ i h. go i (less_or_same i j h);
  }
    where
      go : (i : ℕ) → (i < j) ⊎ (i ≡ j) → is_among (place i) (place j ∷ ws) ≡ true
      go i (inl l) = in_front (place j) ws (place i) (s.places i l)
      go i (inr e) = subst (λ n. is_among (place n) (place j ∷ ws) ≡ true) (sym e) (among_first (place j) ws)

  fresh : (ns ws : List Name) (k : ℕ) → Scope ns ws k → Scope ns ws 0
  fresh ns ws k s = lower st.places (Known ns) ws 0 k (omega arith) s

  with_name : (ns ws : List Name) (k : ℕ) (x : Name) → Scope ns ws k → Scope (x ∷ ns) (x ∷ ws) 0
  with_name ns ws k x s = record {
    names = names;
    places = λ j h. absurd (omega (arith, h));
  }
    where
      names : (y : Name) → Known (x ∷ ns) y → Alone st.places (x ∷ ws) y
      names y (inl n) = inl n
      names y (inr h) = go (same_name y x) refl h
        where
          go : (b : Bool) → same_name y x ≡ b → b || is_among y ns ≡ true → Alone st.places (x ∷ ws) y
          go true e k = inr (inl (ap (λ b. b || is_among y ws) e))
          go false e k = alone_more st.places ws (x ∷ ws) y (in_front x ws) (s.names y (inr k))

  -- ---- reads before an expression
  abbrev starts : MappedRead → List MappedRead → Code → Option (Name × Tree) → Name → Code
  starts b bs c o v = read_first o (λ i. Read v b.mapped.global i b.mapped.reads (after bs c))

  after_good : (ns : List Name) (rs : List MappedRead) (k l : ℕ) → ReadsFrom st.mapped st.places (Known ns) k rs l → (ws : List Name) → Scope ns ws k → (c : Code) → ((us : List Name) → Scope ns us l → Above ws us → Good us c) → Good ws (after rs c)
  after_good ns [] k l h ws s c f = f ws (subst (Scope ns ws) h s) (above_here ws)
  after_good ns (b ∷ bs) k l h ws s c f = go h.2 (λ us. after_good ns bs h.0 l h.3 us)
    where
      m : MappedFormed b.mapped
      m = h.1

      go : (ReadWhole st.mapped st.places (Known ns) k b h.0 ⊎ ReadElement st.mapped st.places (Known ns) k b h.0)
          → ((us : List Name) → Scope ns us h.0 → (c : Code) → ((zs : List Name) → Scope ns zs l → Above us zs → Good zs c) → Good us (after bs c)) → Good ws (starts b bs c b.index b.value)
      go (inl w) more =
          let us = place k ∷ ws in
          let rest = more us (subst (Scope ns us) (sym w.next) (with_place ns ws k s)) c (λ zs z a. f zs z (λ x g. a x (in_front (place k) ws x g))) in
          subst (λ o. Good ws (starts b bs c o b.value)) (sym w.index) (subst (λ v. Good ws (starts b bs c None v)) (sym w.value) (m.global, tt, m.reads, rest))
      go (inr w) more =
          let zs = place k ∷ ws in
          let us = place (suc k) ∷ zs in
          let rest = more us (subst (Scope ns us) (sym w.next) (with_place ns zs (suc k) (with_place ns ws k s))) c (λ ys y a. f ys y (λ x g. a x (in_front (place (suc k)) zs x (in_front (place k) ws x g)))) in
          subst (λ o. Good ws (starts b bs c o b.value)) (sym w.index) (subst (λ v. Good ws (starts b bs c (Some (place k, w.tree)) v)) (sym w.value) ((refl, omega arith), w.formed ws s, (m.global, among_first (place k) ws, m.reads, rest)))

  evaluated_good : (ns ws : List Name) (e : Tree) (k : ℕ) (f : Tree → ℕ → Code) → Formed (Known ns) e → Scope ns ws k
      → ((us : List Name) (t : Tree) (l : ℕ) → Scope ns us l → Above ws us → Formed (Alone st.places us) t → Good us (f t l)) → Good ws (evaluated st.mapped e k f)
  evaluated_good ns ws e k f g s h =
      let p = hoist st.mapped st.places (Known ns) r.mapped [] e k g in
      let q = hoisted st.mapped [] e k in
      after_good ns q.reads k q.used p.reads ws s (f q.rest q.used) (λ us z a. h us q.rest q.used z a (p.formed us z))

  range_good : (ns ws : List Name) (e : Tree) (k : ℕ) (f : Tree → ℕ → Code) → RangeFormed (Known ns) e → Scope ns ws k
      → ((us : List Name) (t : Tree) (l : ℕ) → Scope ns us l → Above ws us → RangeFormed (Alone st.places us) t → Good us (f t l)) → Good ws (evaluated st.mapped e k f)
  range_good ns ws e k f g s h =
      let p = range_hoist st.mapped st.places (Known ns) r.mapped [] e k g in
      let q = hoisted st.mapped [] e k in
      after_good ns q.reads k q.used p.reads ws s (f q.rest q.used) (λ us z a. h us q.rest q.used z a (p.formed us z))

  -- ---- assignments

  -- good wherever more names are bound
  abbrev Lasting : List Name → List Name → Code → Type 0
  Lasting ns ws c = (us : List Name) (k : ℕ) → Scope ns us k → Above ws us → Good us c

  abbrev AllLasting : List Name → List Name → List Code → Type 0
  AllLasting ns ws cs = AllByRecursion (Lasting ns ws) cs

  lasting_more : (ns ws us : List Name) (cs : List Code) → Above ws us → AllLasting ns ws cs → AllLasting ns us cs
  lasting_more ns ws us [] a h = tt
  lasting_more ns ws us (c ∷ cs) a h = (λ zs k s b. h.0 zs k s (λ x g. b x (a x g)), lasting_more ns ws us cs a h.1)

  in_turn_good : (ns ws : List Name) (k : ℕ) (cs : List Code) → Scope ns ws k → AllLasting ns ws cs → Good ws (in_turn cs)
  in_turn_good ns ws k [] s h = tt
  in_turn_good ns ws k (c ∷ cs) s h = (h.0 ws k s (above_here ws), in_turn_good ns ws k cs s h.1)

  steps_good : (ns ws : List Name) (path : List Step) (k : ℕ) (f : List Part → ℕ → Code) → PathFormed ns path → Scope ns ws k
      → ((us : List Name) (ps : List Part) (l : ℕ) → PartsIn us ps → Scope ns us l → Above ws us → Good us (f ps l)) → Good ws (steps st path k f)
  steps_good ns ws [] k f g s h = h ws [] k tt s (above_here ws)
  steps_good ns ws (step.Index e ∷ path) k f g s h =
      evaluated_good ns ws e k (λ e' k'. Let at_base (place k') e' (steps st path (suc k') (λ ps. f (Index (place k') ∷ ps)))) g.0 s (λ us t l z a p.
      let rest = steps_good ns (place l ∷ us) path (suc l) (λ ps. f (Index (place l) ∷ ps)) g.1 (with_place ns us l z) (λ ys ps n i y b. h ys (Index (place l) ∷ ps) n (b (place l) (among_first (place l) us), i) y (λ x c. b x (in_front (place l) us x (a x c)))) in
      ((refl, omega arith), p, rest))
  steps_good ns ws (step.Field x ∷ path) k f g s h =
      steps_good ns ws path k (λ ps. f (Field x ∷ ps)) g.1 s (λ us ps l i z a. h us (Field x ∷ ps) l (g.0, i) z a)

  parts_formed : (ws : List Name) (ps : List Part) → PartsIn ws ps → AllFormed (Alone st.places ws) (trees (map part_tree ps))
  parts_formed ws [] h = tt
  parts_formed ws (Index i ∷ ps) h = (inr (inl h.0), parts_formed ws ps h.1)
  parts_formed ws (Field x ∷ ps) h = (h.0, parts_formed ws ps h.1)

  path_formed : (ws : List Name) (i : Part) (ps : List Part) → PartsIn ws (i ∷ ps) → SomeFormed (Alone st.places ws) (trees (map part_tree (i ∷ ps)))
  path_formed ws (Index i) ps h = (inr (inl h.0), parts_formed ws ps h.1)
  path_formed ws (Field x) ps h = (h.0, parts_formed ws ps h.1)

  variable_good : (us : List Name) (x : Name) (ps : List Part) (w : Name) (p : Place) → find x st.places ≡ Some p → is_among w us ≡ true → PartsIn us ps → Good us (to_variable st x ps w p)
  variable_good us x [] w p f h i = go st.is_block
    where
      go : (b : Bool) → Good us (if b then Set old_base p (name w) else Become p w)
      go true = ((refl, omega arith), inr (inl h))
      go false = tt
  variable_good us x (i ∷ ps) w p f h g = (go st.is_block refl, (inr (inr (p, f)), (path_formed us i ps g, inr (inl h), tt)))
    where
      go : (b : Bool) → st.is_block ≡ b → IsBase (if b then old_base else variable_of p)
      go true e = (refl, omega arith)
      go false e = r.places x p e f

  assigned_lasting : (ns ws : List Name) (x : Name) (ps : List Part) (w : Name) → PartsIn ws ps → is_among w ws ≡ true → Lasting ns ws (assigned st x ps w)
  assigned_lasting ns ws x ps w i h us k s a = go (find x st.mapped) refl
    where
      parts : PartsIn us ps
      parts = parts_more ws us ps a i

      unmapped : (o : Option Place) → find x st.places ≡ o → Good us (on Empty o (to_variable st x ps w))
      unmapped None e = tt
      unmapped (Some p) e = variable_good us x ps w p e (a w h) parts

      go : (o : Option Mapped) → find x st.mapped ≡ o → Good us (on (on Empty (find x st.places) (to_variable st x ps w)) o (λ m. Write m.global (index_of ps) w m.writes))
      go None e = unmapped (find x st.places) refl
      go (Some z) e = let m = r.mapped x z e in (m.global, index_there us ps parts, a w h, m.writes)

  assign_good : (ns ws : List Name) (as' : List Assignment) (k : ℕ) (cs : List Code) → AssignmentsFormed ns as' → Scope ns ws k → AllLasting ns ws cs → Good ws (assign_all st as' k cs)
  assign_good ns ws [] k cs g s h = in_turn_good ns ws k cs s h
  assign_good ns ws (a ∷ as') k cs g s h =
      steps_good ns ws a.left.path k (λ ps k1. evaluated st.mapped a.right k1 (λ e k2. Let val_base (place k2) e (assign_all st as' (suc k2) (cs ++ assigned st a.left.name.name ps (place k2) ∷ [])))) g.0 s (λ us ps l i z b.
      evaluated_good ns us a.right l (λ e k2. Let val_base (place k2) e (assign_all st as' (suc k2) (cs ++ assigned st a.left.name.name ps (place k2) ∷ []))) g.1 z (λ ys t n y d p.
      let here = place n ∷ ys in
      let up : Above ws here = λ x c. in_front (place n) ys x (d x (b x c)) in
      let from : Above us here = λ x c. in_front (place n) ys x (d x c) in
      let rest = assign_good ns here as' (suc n) (cs ++ assigned st a.left.name.name ps (place n) ∷ []) g.2 (with_place ns ys n y) (one_more (Lasting ns here) cs (assigned st a.left.name.name ps (place n)) (lasting_more ns ws here cs up h) (assigned_lasting ns here a.left.name.name ps (place n) (parts_more us here ps from i) (among_first (place n) ys))) in
      ((refl, omega arith), p, rest)))

  -- an expression that is not evaluated so
  as_it_is : (ns ws : List Name) (k : ℕ) (e : Tree) → Scope ns ws k → Formed (Known ns) e → Formed (Alone st.places ws) e
  as_it_is ns ws k e s g = weaker (Known ns) (Alone st.places ws) s.names e g

  assignment_good : (ns ws : List Name) (as' : List Assignment) → AssignmentsFormed ns as' → Scope ns ws 0 → Good ws (assignment_code st as')
  assignment_good ns ws as' g s = go st.is_block
    where
      all : Good ws (assign_all st as' 0 [])
      all = assign_good ns ws as' 0 [] g s tt

      by_itself : (bs : List Assignment) → AssignmentsFormed ns bs → Good ws (assign_all st as' 0 []) → Good ws (on (assign_all st as' 0 []) (alone bs) (λ e. Set old_base (Whole content_name) e))
      by_itself [] h whole = whole
      by_itself (a ∷ []) h whole = one a.left.path
        where
          one : (path : List Step) → Good ws (on (assign_all st as' 0 []) (elim path [ [] ↦ Some a.right | s ∷ path ↦ None ]) (λ e. Set old_base (Whole content_name) e))
          one [] = ((refl, omega arith), as_it_is ns ws 0 a.right s h.1)
          one (p ∷ path) = whole
      by_itself (a ∷ (c ∷ bs)) h whole = whole

      go : (b : Bool) → Good ws (on (assign_all st as' 0 []) (if b then alone as' else None) (λ e. Set old_base (Whole content_name) e))
      go true = by_itself as' g all
      go false = all

  -- ---- statements

  bind_good : (ns ws : List Name) (x : Name) (o : Origin) (c : Code) → IsShort (unmarked x) → OriginFormed ns o → Scope ns ws 0 → ((us : List Name) → Scope (x ∷ ns) (x ∷ us) 0 → Good (x ∷ us) c) → Good ws (bind_name st x o c)
  bind_good ns ws x (Equals e) c w g s h =
      evaluated_good ns ws e 0 (λ e' k. Let (unmarked x) x e' c) g s (λ us t l z a p. (short_base (unmarked x) w, p, h us (with_name ns us l x z)))
  bind_good ns ws x (In e) c w g s h =
      range_good ns ws e 0 (λ e' k. Pick (unmarked x) x e' c) g s (λ us t l z a p. (short_base (unmarked x) w, p, h us (with_name ns us l x z)))

  binds_good : (ns ws : List Name) (xs : List WithName) (c : Code) → WithsFormed ns xs → Scope ns ws 0 → ((us : List Name) → Scope (in_with ns xs) us 0 → Good us c) → Good ws (bind_names st xs c)
  binds_good ns ws [] c g s h = h ws s
  binds_good ns ws (x ∷ xs) c g s h =
      bind_good ns ws x.name.name x.origin (bind_names st xs c) g.0 g.1 s (λ us z. binds_good (x.name.name ∷ ns) (x.name.name ∷ us) xs c g.2 z h)

  mutual
    pub code_good : (t : Statement) (c b : Bool) (ns ws : List Name) (l : Name) → IsText l → StatementFormed c b ns t → Scope ns ws 0 → Good ws (code st l t)
    code_good (skip p) c b ns ws l m g s = tt
    code_good (assign p as') c b ns ws l m g s = assignment_good ns ws as' g s
    code_good (if_then p bs) c b ns ws l m g s = branches_good bs c b ns ws l m Empty g s (λ us z a. tt)
    code_good (if_else p bs t) c b ns ws l m g s =
        branches_good bs c b ns ws l m (code st l t) g.0 s (λ us z a. code_good t c b ns us l m g.1 z)
    code_good (while_do p e t) c b ns ws l m g s =
        evaluated_good ns ws e 0 (λ e' k. If e' (Seq (code st l t) (Goto l)) Empty) g.0 s (λ us e' k z a p. (p, (code_good t c b ns us l m g.1 (fresh ns us k z), m), tt))
    code_good (either_of p ts) c b ns ws l m g s = arms_good ts c b ns ws l m g s
    code_good (await_that p e) c b ns ws l m g s = evaluated_good ns ws e 0 (λ e' k. Await e') g s (λ us e' k z a p. p)
    code_good (with_in p xs t) c b ns ws l m g s =
        binds_good ns ws xs (code st l t) g.0 s (λ us z. one_of g.1 (λ h. code_good t c b (in_with ns xs) us l m h.1 z) (λ h. code_good t c false (in_with ns xs) us l m h z))
    code_good (print_out p e) c b ns ws l m g s = evaluated_good ns ws e 0 (λ e' k. Print e') g s (λ us e' k z a p. p)
    code_good (assert_that p e) c b ns ws l m g s = evaluated_good ns ws e 0 (λ e' k. Assert e') g s (λ us e' k z a p. p)
    code_good (go_to p x) c b ns ws l m g s = label_text st.process x.name r.process g
    code_good (call_macro p n es) c b ns ws l m g s = tt
    code_good (yield_as p e) c b ns ws l m g s = as_it_is ns ws 0 e s g
    code_good (block p ls) c b ns ws l m g s = order_good ls c b ns ws l m g s

    branches_good : (bs : GuardedStatements) (c b : Bool) (ns ws : List Name) (l : Name) → IsText l → (d : Code) → GuardedFormed c b ns bs → Scope ns ws 0 → ((us : List Name) → Scope ns us 0 → Above ws us → Good us d) → Good ws (branches st l bs d)
    branches_good no_guarded c b ns ws l m d g s h = h ws s (above_here ws)
    branches_good (more_guarded p e t bs) c b ns ws l m d g s h =
        evaluated_good ns ws e 0 (λ e' k. If e' (code st l t) (branches st l bs d)) g.0 s (λ us e' k z a q.
        (q, code_good t c b ns us l m g.1 (fresh ns us k z), branches_good bs c b ns us l m d g.2 (fresh ns us k z) (λ ys y v. h ys y (λ x w. v x (a x w)))))

    arms_good : (ts : Statements) (c b : Bool) (ns ws : List Name) (l : Name) → IsText l → EachFormed c b ns ts → Scope ns ws 0 → CodesFormed st.places ws (arms st l ts)
    arms_good no_statements c b ns ws l m g s = tt
    arms_good (more_statements t ts) c b ns ws l m g s = (code_good t c b ns ws l m g.0 s, arms_good ts c b ns ws l m g.1 s)

    pub order_good : (ls : LabeledStatements) (c b : Bool) (ns ws : List Name) (l : Name) → IsText l → LabeledFormed c b ns ls → Scope ns ws 0 → Good ws (in_order st l ls)
    order_good no_labeled c b ns ws l m g s = tt
    order_good (more_labeled None t ls) c b ns ws l m g s = (code_good t c b ns ws l m g.1 s, order_good ls c b ns ws l m g.2 s)
    order_good (more_labeled (Some y) t ls) c b ns ws l m g s = label_text st.process y.name r.process g.0.1

  -- ---- sections

  module _ (short : IsShort st.process) where
    -- a section stands under an identifier, and its code is well formed
    abbrev pub AllGood : List (Name × Code) → Type 0
    AllGood cs = AllByRecursion (λ c. IsName c.0 × Good [] c.1) cs

    nothing_bound : (ns : List Name) → AreNames ns → Scope ns [] 0
    nothing_bound ns a = record { names = λ x h. one_of h (λ n. inl n) (λ e. inl (bound_name x ns a e)); places = λ j h. absurd (omega (arith, h)) }

    names_with : (ns : List Name) (ws : List WithName) → AreNames ns → AreIdentifiers ws → AreNames (in_with ns ws)
    names_with ns [] a h = a
    names_with ns (w ∷ ws) a h = names_with (w.name.name ∷ ns) ws (h.0, a) h.1

    label_is : (x : PlacedName) → IsShort x.name → IsText (label_of st.process x.name)
    label_is x h = label_text st.process x.name r.process h

    own_good : (ns : List Name) → AreNames ns → (x : Option PlacedName) (t : Statement) (c b : Bool) (d : Code) → LabelFormed b x → StatementFormed c b ns t → Good [] d → AllGood (own st x t d)
    own_good ns a None t c b d m g h = tt
    own_good ns a (Some x) t c b d m g h =
        ((label_name st.process x.name short m.1, (code_good t c b ns [] (label_of st.process x.name) (label_is x m.1) g (nothing_bound ns a), h)), tt)

    labelled_text : (l : Name) → IsText l → (b : Bool) (x : Option PlacedName) → LabelFormed b x → IsText (labelled st l x)
    labelled_text l m b None h = m
    labelled_text l m b (Some x) h = label_is x h.1

    never : {A : Type 0} → false ≡ true → A
    never h = absurd (cc)

    -- without labels there is no section
    mutual
      within_none : (t : Statement) (c : Bool) (ns : List Name) (l : Name) (d : Code) → StatementFormed c false ns t → AllGood (within st l t d)
      within_none (skip p) c ns l d g = tt
      within_none (assign p as') c ns l d g = tt
      within_none (if_then p bs) c ns l d g = branches_none bs c ns l d g
      within_none (if_else p bs t) c ns l d g = all_joined _ (within_branches st l bs d) (within st l t d) (branches_none bs c ns l d g.0) (within_none t c ns l d g.1)
      within_none (while_do p e t) c ns l d g = within_none t c ns l (Goto l) g.1
      within_none (either_of p ts) c ns l d g = arms_none ts c ns l d g
      within_none (await_that p e) c ns l d g = tt
      within_none (with_in p xs t) c ns l d g = one_of g.1 (λ h. within_none t c (in_with ns xs) l d h.1) (λ h. within_none t c (in_with ns xs) l d h)
      within_none (print_out p e) c ns l d g = tt
      within_none (assert_that p e) c ns l d g = tt
      within_none (go_to p x) c ns l d g = tt
      within_none (call_macro p m es) c ns l d g = tt
      within_none (yield_as p e) c ns l d g = tt
      within_none (block p ls) c ns l d g = order_none ls c ns l d g

      branches_none : (bs : GuardedStatements) (c : Bool) (ns : List Name) (l : Name) (d : Code) → GuardedFormed c false ns bs → AllGood (within_branches st l bs d)
      branches_none no_guarded c ns l d g = tt
      branches_none (more_guarded p e t bs) c ns l d g = all_joined _ (within st l t d) (within_branches st l bs d) (within_none t c ns l d g.1) (branches_none bs c ns l d g.2)

      arms_none : (ts : Statements) (c : Bool) (ns : List Name) (l : Name) (d : Code) → EachFormed c false ns ts → AllGood (within_arms st l ts d)
      arms_none no_statements c ns l d g = tt
      arms_none (more_statements t ts) c ns l d g = all_joined _ (within st l t d) (within_arms st l ts d) (within_none t c ns l d g.0) (arms_none ts c ns l d g.1)

      order_none : (ls : LabeledStatements) (c : Bool) (ns : List Name) (l : Name) (d : Code) → LabeledFormed c false ns ls → AllGood (within_order st l ls d)
      order_none no_labeled c ns l d g = tt
      order_none (more_labeled None t ls) c ns l d g =
          all_joined _ (within st l t (Seq (in_order st l ls) d)) (within_order st l ls d) (within_none t c ns l (Seq (in_order st l ls) d) g.1) (order_none ls c ns l d g.2)
      order_none (more_labeled (Some x) t ls) c ns l d g = never g.0.0

    mutual
      within_good : (t : Statement) (c b : Bool) (ns : List Name) → AreNames ns → (l : Name) → IsText l → (d : Code) → StatementFormed c b ns t → Good [] d → AllGood (within st l t d)
      within_good (skip p) c b ns a l m d g h = tt
      within_good (assign p as') c b ns a l m d g h = tt
      within_good (if_then p bs) c b ns a l m d g h = within_branches_good bs c b ns a l m d g h
      within_good (if_else p bs t) c b ns a l m d g h =
          all_joined _ (within_branches st l bs d) (within st l t d) (within_branches_good bs c b ns a l m d g.0 h) (within_good t c b ns a l m d g.1 h)
      within_good (while_do p e t) c b ns a l m d g h = within_good t c b ns a l m (Goto l) g.1 m
      within_good (either_of p ts) c b ns a l m d g h = within_arms_good ts c b ns a l m d g h
      within_good (await_that p e) c b ns a l m d g h = tt
      within_good (with_in p xs t) c b ns a l m d g h =
          one_of g.1 (λ k. within_good t c b (in_with ns xs) (names_with ns xs a k.0) l m d k.1 h) (λ k. within_none t c (in_with ns xs) l d k)
      within_good (print_out p e) c b ns a l m d g h = tt
      within_good (assert_that p e) c b ns a l m d g h = tt
      within_good (go_to p x) c b ns a l m d g h = tt
      within_good (call_macro p n es) c b ns a l m d g h = tt
      within_good (yield_as p e) c b ns a l m d g h = tt
      within_good (block p ls) c b ns a l m d g h = within_order_good ls c b ns a l m d g h

      within_branches_good : (bs : GuardedStatements) (c b : Bool) (ns : List Name) → AreNames ns → (l : Name) → IsText l → (d : Code) → GuardedFormed c b ns bs → Good [] d → AllGood (within_branches st l bs d)
      within_branches_good no_guarded c b ns a l m d g h = tt
      within_branches_good (more_guarded p e t bs) c b ns a l m d g h =
          all_joined _ (within st l t d) (within_branches st l bs d) (within_good t c b ns a l m d g.1 h) (within_branches_good bs c b ns a l m d g.2 h)

      within_arms_good : (ts : Statements) (c b : Bool) (ns : List Name) → AreNames ns → (l : Name) → IsText l → (d : Code) → EachFormed c b ns ts → Good [] d → AllGood (within_arms st l ts d)
      within_arms_good no_statements c b ns a l m d g h = tt
      within_arms_good (more_statements t ts) c b ns a l m d g h =
          all_joined _ (within st l t d) (within_arms st l ts d) (within_good t c b ns a l m d g.0 h) (within_arms_good ts c b ns a l m d g.1 h)

      pub within_order_good : (ls : LabeledStatements) (c b : Bool) (ns : List Name) → AreNames ns → (l : Name) → IsText l → (d : Code) → LabeledFormed c b ns ls → Good [] d → AllGood (within_order st l ls d)
      within_order_good no_labeled c b ns a l m d g h = tt
      within_order_good (more_labeled x t ls) c b ns a l m d g h =
          let next = Seq (in_order st l ls) d in
          let rest : Good [] next = (order_good ls c b ns [] l m g.2 (nothing_bound ns a), h) in
          all_joined _ (own st x t next ++ within st (labelled st l x) t next) (within_order st l ls d) (all_joined _ (own st x t next) (within st (labelled st l x) t next) (own_good ns a x t c b next g.0 g.1 rest) (within_good t c b ns a (labelled st l x) (labelled_text l m b x g.0) next g.1 rest)) (within_order_good ls c b ns a l m d g.2 h)

    -- the sections of statements, behind which an instance is done
    pub sections_good : (ls : LabeledStatements) (c b : Bool) → LabeledFormed c b [] ls → AllGood (within_order st [] ls (Goto done))
    sections_good ls c b g = within_order_good ls c b [] tt [] refl (Goto done) g refl
