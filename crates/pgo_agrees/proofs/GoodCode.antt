-- The code of statements in which names stand so has well-formed names, and changes element-bound globals by their elements alone.
use Rattle.std.proofs.Common.{◌≡◌, ◌<◌, ℕ, zero, suc, Bool, true, false, if◌then◌else◌, List, [], ◌∷◌, ◌++◌, map, Option, Some, None, refl, ap, sym, subst, inl, inr, arith}
use Rattle.std.specs.Prelude.{◌⊎◌}
use Rattle.std.specs.List.{AllByRecursion}
use Rattle.std.proofs.lemmas.Bool.{or_from}
use Rattle.pgo_base.specs.Lookup.{Name, same_name, find}
use Rattle.pgo_base.specs.Tree.{Tree, name, trees}
use Rattle.pgo_model.specs.Names.{is_among}
use Rattle.pgo_model.specs.Options.{on}
use Rattle.pgo_model.specs.Written.{done}
use Rattle.pgo_syntax.specs.declared.assignment.Assignment.{Assignment}
use Rattle.pgo_syntax.specs.declared.assignment.Step.{Step}
use Rattle.pgo_syntax.specs.declared.assignment.Step.TheVariants as step
use Rattle.pgo_syntax.specs.declared.binding.Origin.{Origin}
use Rattle.pgo_syntax.specs.declared.binding.Origin.TheVariants.{Equals, In}
use Rattle.pgo_syntax.specs.declared.binding.WithName.{WithName}
use Rattle.pgo_syntax.specs.declared.name.PlacedName.{PlacedName}
use Rattle.pgo_syntax.specs.Statement.{Statement, skip, assign, if_then, if_else, while_do, either_of, await_that, with_in, print_out, assert_that, go_to, call_macro, yield_as, block, Statements, no_statements, more_statements, LabeledStatements, no_labeled, more_labeled, GuardedStatements, no_guarded, more_guarded}
use Rattle.pgo_uses.specs.StatementUses.{shape_of, origin_tree}
use Rattle.pgo_uses.specs.declared.uses.Shape.{Shape}
use Rattle.pgo_uses.specs.declared.uses.Shape.TheVariants.{OneIndex}
use Rattle.pgo_sections.specs.Access.{Mapped, place, MappedRead, read_first, after, hoisted, evaluated}
use Rattle.pgo_sections.specs.Code.{Place, Whole, variable_of, Code, Empty, Let, Pick, Become, Set, Await, Assert, Print, If, Seq, Goto, Read, Write, in_turn, content_name, content_places, value_name, at_base, old_base, val_base}
use Rattle.pgo_sections.specs.Domains.{AllUse, HasIndex, ByElements}
use Rattle.pgo_sections.specs.Plain.{PlainAll}
use Rattle.pgo_sections.specs.WellFormed.{NotMade, Bindable, Alone, Applied, PlainTree, KnownIndex, PlainCode, PlainCodes}
use Rattle.pgo_meaning.specs.Labels.{own, labelled, within, within_branches, within_arms, within_order}
use Rattle.pgo_meaning.specs.MacrosPlaced.{unmarked}
use Rattle.pgo_meaning.specs.Statements.{Setting, Part, Index, Field, part_tree, index_of, label_of, alone, to_variable, assigned, steps, assign_all, assignment_code, bind_name, bind_names, code, branches, arms, in_order}
use Rattle.pgo_meaning.proofs.Traces.{among_first}
use Rattle.pgo_agrees.proofs.Fine.{in_with, Expr, PathFine, AssignsFine, WithsFine, Fine, EachFine, LabeledFine, GuardedFine}
use Rattle.pgo_agrees.proofs.Hoist.{place_single, never, InScope, lower, Base, Hoistable, ReadWhole, ReadElement, ReadsFrom, hoist}
use Rattle.pgo_agrees.proofs.Stands.{Above, or_in, or_first, or_second}
use Rattle.pgo_agrees.proofs.Weaker.{plain}
use Rattle.pgo_agrees.proofs.EachToken.{all_joined, one_more}

in_front : (x y : Name) (ws : List Name) → is_among x ws ≡ true → is_among x (y ∷ ws) ≡ true
in_front x y ws h = or_second (same_name x y) (is_among x ws) h

pub less_or_same : (i j : ℕ) → i < suc j → (i < j) ⊎ (i ≡ j)
less_or_same zero zero h = inr refl
less_or_same zero (suc j) h = inl (omega arith)
less_or_same (suc i) zero h = absurd (omega (arith, h))
less_or_same (suc i) (suc j) h = go (less_or_same i j (omega (arith, h)))
  where
    go : (i < j) ⊎ (i ≡ j) → (suc i < suc j) ⊎ (suc i ≡ suc j)
    go (inl l) = inl (omega (arith, l))
    go (inr e) = inr (ap suc e)

-- a path of parts goes on as the path of steps that it is made of
abbrev pub PartsOf : List Step → List Part → Type 0
PartsOf [] [] = Unit {0}
PartsOf [] (p ∷ ps) = ⊥
PartsOf (s ∷ ss) [] = ⊥
PartsOf (step.Index e ∷ ss) (Index i ∷ ps) = PartsOf ss ps
PartsOf (step.Index e ∷ ss) (Field x ∷ ps) = ⊥
PartsOf (step.Field y ∷ ss) (Index i ∷ ps) = ⊥
PartsOf (step.Field y ∷ ss) (Field x ∷ ps) = PartsOf ss ps

abbrev pub PartsIn : List Name → List Part → Type 0
PartsIn ws [] = Unit {0}
PartsIn ws (Index i ∷ ps) = (is_among i ws ≡ true) × NotMade i × PartsIn ws ps
PartsIn ws (Field x ∷ ps) = PartsIn ws ps

parts_more : (ws vs : List Name) (ps : List Part) → Above ws vs → PartsIn ws ps → PartsIn vs ps
parts_more ws vs [] a h = tt
parts_more ws vs (Index i ∷ ps) a h = (a i h.0, h.1, parts_more ws vs ps a h.2)
parts_more ws vs (Field x ∷ ps) a h = parts_more ws vs ps a h

-- one index alone
one_index : (ss : List Step) (ps : List Part) → PartsOf ss ps → shape_of ss ≡ OneIndex → (i : Name) × (ps ≡ Index i ∷ [])
one_index [] [] h e = absurd (cc)
one_index [] (p ∷ ps) h e = absurd h
one_index (s ∷ ss) [] h e = absurd h
one_index (step.Index t ∷ []) (Index i ∷ []) h e = (i, refl)
one_index (step.Index t ∷ []) (Index i ∷ (p ∷ ps)) h e = absurd h
one_index (step.Index t ∷ (s ∷ ss)) (Index i ∷ ps) h e = absurd (cc)
one_index (step.Index t ∷ ss) (Field x ∷ ps) h e = absurd h
one_index (step.Field y ∷ ss) (Index i ∷ ps) h e = absurd h
one_index (step.Field y ∷ ss) (Field x ∷ ps) h e = absurd (cc)

module _ (vs gs : List Name) (st : Setting) (by : Name → Bool) (N : List Name → Bool → Bool → Name → Type 0) (C B W : Name → Type 0) (A : List Name → Shape → Name → Type 0) (M : List Name → PlacedName → List Tree → Type 0) (Y : Type 0) where
  pub record CodeRules : Type 0 where
    pub hoistable : (ns : List Name) → Hoistable vs st.mapped st.places ns (N ns) C B
    pub assigned_element : (ns : List Name) (h : Shape) (x : Name) (m : Mapped) → A ns h x → find x st.mapped ≡ Some m → m.by_element ≡ true → h ≡ OneIndex
    pub assigned_single : (ns : List Name) (h : Shape) (x : Name) → A ns h x → NotMade x
    pub mapped_global : (x : Name) (m : Mapped) → find x st.mapped ≡ Some m → is_among m.global gs ≡ true
    pub mapped_whole : (x : Name) (m : Mapped) → find x st.mapped ≡ Some m → m.by_element ≡ false → by m.global ≡ false
    pub mapped_reads : (x : Name) (m : Mapped) → find x st.mapped ≡ Some m → PlainCode vs (content_name ∷ []) content_places [] m.reads
    pub mapped_writes : (x : Name) (m : Mapped) → find x st.mapped ≡ Some m → PlainCode vs (content_name ∷ []) content_places (value_name ∷ []) m.writes
    pub places : (x : Name) (p : Place) → find x st.places ≡ Some p → by (variable_of p) ≡ false
    pub with_apart : (x y : Name) → W x → C y → same_name y x ≡ false
    pub place_apart : (j : ℕ) (y : Name) → C y → same_name y (place j) ≡ false
    pub yields : Y → (x : Name) → find x st.mapped ≡ None
    pub block : st.is_block ≡ true → (x : Name) → find x st.mapped ≡ None
    pub content : st.is_block ≡ true → by content_name ≡ false

  module _ (r : CodeRules) where
    abbrev Good : List Name → Code → Type 0
    Good ws c = PlainCode vs gs st.places ws c × ByElements by c

    abbrev Scope : List Name → List Name → ℕ → Type 0
    Scope ns ws k = InScope ns C ws k

    above_here : (ws : List Name) → Above ws ws
    above_here ws x h = h

    with_place : (ns ws : List Name) (j : ℕ) → Scope ns ws j → Scope ns (place j ∷ ws) (suc j)
    with_place ns ws j s = record {
      names = λ x h. in_front x (place j) ws (s.names x h);
      places = λ i h. go i (less_or_same i j h);
      apart = λ x c. or_from (same_name x (place j)) (is_among x ws) (r.place_apart j x c) (s.apart x c);
    }
      where
        go : (i : ℕ) → (i < j) ⊎ (i ≡ j) → is_among (place i) (place j ∷ ws) ≡ true
        go i (inl l) = in_front (place i) (place j) ws (s.places i l)
        go i (inr e) = subst (λ n. is_among (place n) (place j ∷ ws) ≡ true) (sym e) (among_first (place j) ws)

    fresh : (ns ws : List Name) (k : ℕ) → Scope ns ws k → Scope ns ws 0
    fresh ns ws k s = lower ns C ws 0 k (omega arith) s

    with_name : (ns ws : List Name) (k : ℕ) (x : Name) → W x → Scope ns ws k → Scope (x ∷ ns) (x ∷ ws) 0
    with_name ns ws k x w s = record {
      names = λ y h. go y (or_in (same_name y x) (is_among y ns) h);
      places = λ j h. absurd (omega (arith, h));
      apart = λ y c. or_from (same_name y x) (is_among y ws) (r.with_apart x y w c) (s.apart y c);
    }
      where
        go : (y : Name) → (same_name y x ≡ true) ⊎ (is_among y ns ≡ true) → is_among y (x ∷ ws) ≡ true
        go y (inl e) = or_first (same_name y x) (is_among y ws) e
        go y (inr e) = in_front y x ws (s.names y e)

    -- ---- reads before an expression
    abbrev starts : MappedRead → List MappedRead → Code → Option (Name × Tree) → Name → Code
    starts b bs c o v = read_first o (λ i. Read v b.mapped.global i b.mapped.reads (after bs c))

    after_good : (ns : List Name) (rs : List MappedRead) (k l : ℕ) → ReadsFrom vs st.mapped st.places ns (N ns) C B k rs l → (ws : List Name) → Scope ns ws k → (c : Code) → ((us : List Name) → Scope ns us l → Above ws us → Good us c) → Good ws (after rs c)
    after_good ns [] k l h ws s c f = f ws (subst (Scope ns ws) h s) (above_here ws)
    after_good ns (b ∷ bs) k l h ws s c f = go h.1 (λ us. after_good ns bs h.0 l h.2 us)
      where
        go : (ReadWhole vs st.mapped st.places ns (N ns) C B k b h.0 ⊎ ReadElement vs st.mapped st.places ns (N ns) C B k b h.0)
            → ((us : List Name) → Scope ns us h.0 → (c : Code) → ((zs : List Name) → Scope ns zs l → Above us zs → Good zs c) → Good us (after bs c)) → Good ws (starts b bs c b.index b.value)
        go (inl w) more =
            let us = place k ∷ ws in
            let rest = more us (subst (Scope ns us) (sym w.next) (with_place ns ws k s)) c (λ zs z a. f zs z (λ x g. a x (in_front x (place k) ws g))) in
            subst (λ o. Good ws (starts b bs c o b.value)) (sym w.index) (subst (λ v. Good ws (starts b bs c None v)) (sym w.value) ((r.mapped_global w.name b.mapped w.is, tt, r.mapped_reads w.name b.mapped w.is, rest.0), (r.mapped_whole w.name b.mapped w.is w.whole, rest.1)))
        go (inr w) more =
            let zs = place k ∷ ws in
            let us = place (suc k) ∷ zs in
            let rest = more us (subst (Scope ns us) (sym w.next) (with_place ns zs (suc k) (with_place ns ws k s))) c (λ ys y a. f ys y (λ x g. a x (in_front x (place (suc k)) zs (in_front x (place k) ws g)))) in
            subst (λ o. Good ws (starts b bs c o b.value)) (sym w.index) (subst (λ v. Good ws (starts b bs c (Some (place k, w.tree)) v)) (sym w.value) ((w.plain ws s, (r.mapped_global w.name b.mapped w.is, among_first (place k) ws, r.mapped_reads w.name b.mapped w.is, rest.0)), (tt, rest.1)))

    evaluated_good : (ns ws : List Name) (e : Tree) (k : ℕ) (f : Tree → ℕ → Code) → Expr N C B W A M Y ns e → Scope ns ws k
        → ((us : List Name) (t : Tree) (l : ℕ) → Scope ns us l → Above ws us → PlainTree vs st.places us t → Good us (f t l)) → Good ws (evaluated st.mapped e k f)
    evaluated_good ns ws e k f g s h =
        let p = hoist vs st.mapped st.places ns (N ns) C B (r.hoistable ns) [] false false e k (λ x z. never z) g never in
        let q = hoisted st.mapped [] e k in
        after_good ns q.reads k q.used p.reads ws s (f q.rest q.used) (λ us z a. h us q.rest q.used z a (p.plain us z))

    -- ---- an expression that is not evaluated so, where nothing is mapped
    base_alone : (ns ws : List Name) (k : ℕ) (x : Name) → Scope ns ws k → Base vs st.mapped st.places ns (N ns) C B x → Alone vs st.places ws x
    base_alone ns ws k x s h = (h.0, go h.1)
      where
        go : (is_among x ns ≡ true) ⊎ (((p : Place) × (find x st.places ≡ Some p)) ⊎ (is_among x vs ≡ false)) → (is_among x ws ≡ true) ⊎ (((p : Place) × (find x st.places ≡ Some p)) ⊎ (is_among x vs ≡ false))
        go (inl e) = inl (s.names x e)
        go (inr e) = inr e

    as_it_is : (ns ws : List Name) (k : ℕ) (e : Tree) → ((x : Name) → find x st.mapped ≡ None) → Scope ns ws k → Expr N C B W A M Y ns e → PlainTree vs st.places ws e
    as_it_is ns ws k e none s g =
        let o = r.hoistable ns in
        plain (N ns) C B (Alone vs st.places ws) (Applied vs st.places ws) (Bindable vs) (λ h i x n. base_alone ns ws k x s (o.none h i x n (none x))) (λ x c. (let a = o.applied x c in (a.0, a.1, a.2, s.apart x c, a.3))) (λ x b. o.bound x b) (λ x b. (let d = o.bound x b in (d.0, inr (inr d.1)))) [] false false e (λ x z. never z) g

    -- ---- assignments

    -- good wherever more names are bound
    abbrev Lasting : List Name → List Name → Code → Type 0
    Lasting ns ws c = (us : List Name) (k : ℕ) → Scope ns us k → Above ws us → Good us c

    abbrev AllLasting : List Name → List Name → List Code → Type 0
    AllLasting ns ws cs = AllByRecursion (Lasting ns ws) cs

    lasting_more : (ns ws us : List Name) (cs : List Code) → Above ws us → AllLasting ns ws cs → AllLasting ns us cs
    lasting_more ns ws us [] a h = tt
    lasting_more ns ws us (c ∷ cs) a h = (λ zs k s b. h.0 zs k s (λ x g. b x (a x g)), lasting_more ns ws us cs a h.1)

    in_turn_good : (ns ws : List Name) (k : ℕ) (cs : List Code) → Scope ns ws k → AllLasting ns ws cs → Good ws (in_turn cs)
    in_turn_good ns ws k [] s h = (tt, tt)
    in_turn_good ns ws k (c ∷ cs) s h =
        let a = h.0 ws k s (above_here ws) in let b = in_turn_good ns ws k cs s h.1 in ((a.0, b.0), (a.1, b.1))

    steps_good : (ns ws : List Name) (path : List Step) (k : ℕ) (f : List Part → ℕ → Code) → PathFine N C B W A M Y ns path → Scope ns ws k
        → ((us : List Name) (ps : List Part) (l : ℕ) → PartsOf path ps → PartsIn us ps → Scope ns us l → Above ws us → Good us (f ps l)) → Good ws (steps st path k f)
    steps_good ns ws [] k f g s h = h ws [] k tt tt s (above_here ws)
    steps_good ns ws (step.Index e ∷ path) k f g s h =
        evaluated_good ns ws e k (λ e' k'. Let at_base (place k') e' (steps st path (suc k') (λ ps. f (Index (place k') ∷ ps)))) g.0 s (λ us t l z a p.
        let rest = steps_good ns (place l ∷ us) path (suc l) (λ ps. f (Index (place l) ∷ ps)) g.1 (with_place ns us l z) (λ ys ps n q i y b. h ys (Index (place l) ∷ ps) n q (b (place l) (among_first (place l) us), place_single l, i) y (λ x c. b x (in_front x (place l) us (a x c)))) in
        ((p, rest.0), rest.1))
    steps_good ns ws (step.Field x ∷ path) k f g s h =
        steps_good ns ws path k (λ ps. f (Field x ∷ ps)) g s (λ us ps l q i z a. h us (Field x ∷ ps) l q i z a)

    parts_plain : (ws : List Name) (ps : List Part) → PartsIn ws ps → PlainAll (Alone vs st.places ws) (Applied vs st.places ws) (Bindable vs) (trees (map part_tree ps))
    parts_plain ws [] h = tt
    parts_plain ws (Index i ∷ ps) h = ((h.1, inl h.0), parts_plain ws ps h.2)
    parts_plain ws (Field x ∷ ps) h = (tt, parts_plain ws ps h)

    index_there : (ws : List Name) (ps : List Part) → PartsIn ws ps → KnownIndex ws (index_of ps)
    index_there ws [] h = tt
    index_there ws (Index i ∷ []) h = h.0
    index_there ws (Index i ∷ (p ∷ ps)) h = tt
    index_there ws (Field x ∷ ps) h = tt

    variable_good : (us : List Name) (x : Name) (ps : List Part) (w : Name) (p : Place) → find x st.places ≡ Some p → NotMade x → NotMade w → is_among w us ≡ true → PartsIn us ps → Good us (to_variable st x ps w p)
    variable_good us x [] w p f n m h i = go st.is_block
      where
        go : (b : Bool) → Good us (if b then Set old_base p (name w) else Become p w)
        go true = ((m, inl h), r.places x p f)
        go false = (h, r.places x p f)
    variable_good us x (q ∷ ps) w p f n m h i = (((n, inr (inl (p, f))), (parts_plain us (q ∷ ps) i, (m, inl h), tt)), r.places x p f)

    assigned_lasting : (ns ws : List Name) (x : Name) (path : List Step) (ps : List Part) (w : Name) → A ns (shape_of path) x → PartsOf path ps → PartsIn ws ps → NotMade w → is_among w ws ≡ true → Lasting ns ws (assigned st x ps w)
    assigned_lasting ns ws x path ps w g q i m h us k s a = go (find x st.mapped) refl
      where
        here : is_among w us ≡ true
        here = a w h

        parts : PartsIn us ps
        parts = parts_more ws us ps a i

        unmapped : (o : Option Place) → find x st.places ≡ o → Good us (on Empty o (to_variable st x ps w))
        unmapped None e = (tt, tt)
        unmapped (Some p) e = variable_good us x ps w p e (r.assigned_single ns (shape_of path) x g) m here parts

        indexed : (z : Mapped) → find x st.mapped ≡ Some z → (b : Bool) → z.by_element ≡ b → HasIndex by z.global (index_of ps)
        indexed z e true f = let o = one_index path ps q (r.assigned_element ns (shape_of path) x z g e f) in subst (λ ys. HasIndex by z.global (index_of ys)) (sym o.1) tt
        indexed z e false f = whole (index_of ps)
          where
            whole : (o : Option Name) → HasIndex by z.global o
            whole None = r.mapped_whole x z e f
            whole (Some y) = tt

        go : (o : Option Mapped) → find x st.mapped ≡ o → Good us (on (on Empty (find x st.places) (to_variable st x ps w)) o (λ m. Write m.global (index_of ps) w m.writes))
        go None e = unmapped (find x st.places) refl
        go (Some z) e = ((r.mapped_global x z e, index_there us ps parts, here, r.mapped_writes x z e), indexed z e z.by_element refl)

    assign_good : (ns ws : List Name) (as' : List Assignment) (k : ℕ) (cs : List Code) → AssignsFine N C B W A M Y ns as' → Scope ns ws k → AllLasting ns ws cs → Good ws (assign_all st as' k cs)
    assign_good ns ws [] k cs g s h = in_turn_good ns ws k cs s h
    assign_good ns ws (a ∷ as') k cs g s h =
        steps_good ns ws a.left.path k (λ ps k1. evaluated st.mapped a.right k1 (λ e k2. Let val_base (place k2) e (assign_all st as' (suc k2) (cs ++ assigned st a.left.name.name ps (place k2) ∷ [])))) g.1 s (λ us ps l q i z b.
        evaluated_good ns us a.right l (λ e k2. Let val_base (place k2) e (assign_all st as' (suc k2) (cs ++ assigned st a.left.name.name ps (place k2) ∷ []))) g.2 z (λ ys t n y d p.
        let here = place n ∷ ys in
        let up : Above ws here = λ x c. in_front x (place n) ys (d x (b x c)) in
        let from : Above us here = λ x c. in_front x (place n) ys (d x c) in
        let rest = assign_good ns here as' (suc n) (cs ++ assigned st a.left.name.name ps (place n) ∷ []) g.3 (with_place ns ys n y) (one_more (Lasting ns here) cs (assigned st a.left.name.name ps (place n)) (lasting_more ns ws here cs up h) (assigned_lasting ns here a.left.name.name a.left.path ps (place n) g.0 q (parts_more us here ps from i) (place_single n) (among_first (place n) ys))) in
        ((p, rest.0), rest.1)))

    assignment_good : (ns ws : List Name) (as' : List Assignment) → AssignsFine N C B W A M Y ns as' → Scope ns ws 0 → Good ws (assignment_code st as')
    assignment_good ns ws as' g s = go st.is_block refl
      where
        all : Good ws (assign_all st as' 0 [])
        all = assign_good ns ws as' 0 [] g s tt

        by_itself : (bs : List Assignment) → AssignsFine N C B W A M Y ns bs → st.is_block ≡ true → Good ws (assign_all st as' 0 []) → Good ws (on (assign_all st as' 0 []) (alone bs) (λ e. Set old_base (Whole content_name) e))
        by_itself [] h b whole = whole
        by_itself (a ∷ []) h b whole = one a.left.path
          where
            one : (path : List Step) → Good ws (on (assign_all st as' 0 []) (elim path [ [] ↦ Some a.right | s ∷ path ↦ None ]) (λ e. Set old_base (Whole content_name) e))
            one [] = (as_it_is ns ws 0 a.right (r.block b) s h.2, r.content b)
            one (p ∷ path) = whole
        by_itself (a ∷ (c ∷ bs)) h b whole = whole

        go : (b : Bool) → st.is_block ≡ b → Good ws (on (assign_all st as' 0 []) (if b then alone as' else None) (λ e. Set old_base (Whole content_name) e))
        go true e = by_itself as' g e all
        go false e = all

    -- ---- statements

    bind_good : (ns ws : List Name) (x : Name) (o : Origin) (c : Code) → W x → Expr N C B W A M Y ns (origin_tree o) → Scope ns ws 0 → ((us : List Name) → Scope (x ∷ ns) (x ∷ us) 0 → Good (x ∷ us) c) → Good ws (bind_name st x o c)
    bind_good ns ws x (Equals e) c w g s h =
        evaluated_good ns ws e 0 (λ e' k. Let (unmarked x) x e' c) g s (λ us t l z a p. let b = h us (with_name ns us l x w z) in ((p, b.0), b.1))
    bind_good ns ws x (In e) c w g s h =
        evaluated_good ns ws e 0 (λ e' k. Pick (unmarked x) x e' c) g s (λ us t l z a p. let b = h us (with_name ns us l x w z) in ((p, b.0), b.1))

    binds_good : (ns ws : List Name) (xs : List WithName) (c : Code) → WithsFine N C B W A M Y ns xs → Scope ns ws 0 → ((us : List Name) → Scope (in_with ns xs) us 0 → Good us c) → Good ws (bind_names st xs c)
    binds_good ns ws [] c g s h = h ws s
    binds_good ns ws (x ∷ xs) c g s h =
        bind_good ns ws x.name.name x.origin (bind_names st xs c) g.0 g.1 s (λ us z. binds_good (x.name.name ∷ ns) (x.name.name ∷ us) xs c g.2 z h)

    mutual
      pub code_good : (t : Statement) (b : Bool) (ns ws : List Name) (l : Name) → Fine N C B W A M Y b ns t → Scope ns ws 0 → Good ws (code st l t)
      code_good (skip p) b ns ws l g s = (tt, tt)
      code_good (assign p as') b ns ws l g s = assignment_good ns ws as' g s
      code_good (if_then p bs) b ns ws l g s = branches_good bs b ns ws l Empty g s (λ us z a. (tt, tt))
      code_good (if_else p bs t) b ns ws l g s =
          branches_good bs b ns ws l (code st l t) g.0 s (λ us z a. code_good t b ns us l g.1 z)
      code_good (while_do p e t) b ns ws l g s =
          evaluated_good ns ws e 0 (λ e' k. If e' (Seq (code st l t) (Goto l)) Empty) g.0 s (λ us e' k z a p. let c = code_good t b ns us l g.1 (fresh ns us k z) in ((p, (c.0, tt), tt), ((c.1, tt), tt)))
      code_good (either_of p ts) b ns ws l g s = arms_good ts b ns ws l g s
      code_good (await_that p e) b ns ws l g s = evaluated_good ns ws e 0 (λ e' k. Await e') g s (λ us e' k z a p. (p, tt))
      code_good (with_in p xs t) b ns ws l g s =
          binds_good ns ws xs (code st l t) g.0 s (λ us z. code_good t false (in_with ns xs) us l g.1 z)
      code_good (print_out p e) b ns ws l g s = evaluated_good ns ws e 0 (λ e' k. Print e') g s (λ us e' k z a p. (p, tt))
      code_good (assert_that p e) b ns ws l g s = evaluated_good ns ws e 0 (λ e' k. Assert e') g s (λ us e' k z a p. (p, tt))
      code_good (go_to p x) b ns ws l g s = (tt, tt)
      code_good (call_macro p m es) b ns ws l g s = (tt, tt)
      code_good (yield_as p e) b ns ws l g s = (as_it_is ns ws 0 e (r.yields g.0) s g.1, tt)
      code_good (block p ls) b ns ws l g s = order_good ls b ns ws l g s

      branches_good : (bs : GuardedStatements) (b : Bool) (ns ws : List Name) (l : Name) (c : Code) → GuardedFine N C B W A M Y b ns bs → Scope ns ws 0 → ((us : List Name) → Scope ns us 0 → Above ws us → Good us c) → Good ws (branches st l bs c)
      branches_good no_guarded b ns ws l c g s h = h ws s (above_here ws)
      branches_good (more_guarded p e t bs) b ns ws l c g s h =
          evaluated_good ns ws e 0 (λ e' k. If e' (code st l t) (branches st l bs c)) g.0 s (λ us e' k z a q.
          let d = code_good t b ns us l g.1 (fresh ns us k z) in
          let f = branches_good bs b ns us l c g.2 (fresh ns us k z) (λ ys y v. h ys y (λ x w. v x (a x w))) in
          ((q, d.0, f.0), (d.1, f.1)))

      arms_good : (ts : Statements) (b : Bool) (ns ws : List Name) (l : Name) → EachFine N C B W A M Y b ns ts → Scope ns ws 0 → PlainCodes vs gs st.places ws (arms st l ts) × AllUse (λ p. by (variable_of p) ≡ false) (HasIndex by) (arms st l ts)
      arms_good no_statements b ns ws l g s = (tt, tt)
      arms_good (more_statements t ts) b ns ws l g s =
          let c = code_good t b ns ws l g.0 s in let d = arms_good ts b ns ws l g.1 s in ((c.0, d.0), (c.1, d.1))

      pub order_good : (ls : LabeledStatements) (b : Bool) (ns ws : List Name) (l : Name) → LabeledFine N C B W A M Y b ns ls → Scope ns ws 0 → Good ws (in_order st l ls)
      order_good no_labeled b ns ws l g s = (tt, tt)
      order_good (more_labeled None t ls) b ns ws l g s =
          let c = code_good t b ns ws l g.1 s in let d = order_good ls b ns ws l g.2 s in ((c.0, d.0), (c.1, d.1))
      order_good (more_labeled (Some y) t ls) b ns ws l g s = (tt, tt)

    -- ---- sections

    abbrev pub AllGood : List (Name × Code) → Type 0
    AllGood cs = AllByRecursion (λ c. Good [] c.1) cs

    nothing_bound : Scope [] [] 0
    nothing_bound = record { names = λ x h. never h; places = λ j h. absurd (omega (arith, h)); apart = λ x c. refl }

    both : (c d : Code) → Good [] c → Good [] d → Good [] (Seq c d)
    both c d h g = ((h.0, g.0), (h.1, g.1))

    own_good : (x : Option PlacedName) (t : Statement) (b : Bool) (c : Code) → Fine N C B W A M Y b [] t → Good [] c → AllGood (own st x t c)
    own_good None t b c g h = tt
    own_good (Some x) t b c g h = (both (code st (label_of st.process x.name) t) c (code_good t b [] [] (label_of st.process x.name) g nothing_bound) h, tt)

    -- without labels there is no section
    mutual
      within_none : (t : Statement) (ns : List Name) (l : Name) (c : Code) → Fine N C B W A M Y false ns t → AllGood (within st l t c)
      within_none (skip p) ns l c g = tt
      within_none (assign p as') ns l c g = tt
      within_none (if_then p bs) ns l c g = branches_none bs ns l c g
      within_none (if_else p bs t) ns l c g = all_joined _ (within_branches st l bs c) (within st l t c) (branches_none bs ns l c g.0) (within_none t ns l c g.1)
      within_none (while_do p e t) ns l c g = within_none t ns l (Goto l) g.1
      within_none (either_of p ts) ns l c g = arms_none ts ns l c g
      within_none (await_that p e) ns l c g = tt
      within_none (with_in p xs t) ns l c g = within_none t (in_with ns xs) l c g.1
      within_none (print_out p e) ns l c g = tt
      within_none (assert_that p e) ns l c g = tt
      within_none (go_to p x) ns l c g = tt
      within_none (call_macro p m es) ns l c g = tt
      within_none (yield_as p e) ns l c g = tt
      within_none (block p ls) ns l c g = order_none ls ns l c g

      branches_none : (bs : GuardedStatements) (ns : List Name) (l : Name) (c : Code) → GuardedFine N C B W A M Y false ns bs → AllGood (within_branches st l bs c)
      branches_none no_guarded ns l c g = tt
      branches_none (more_guarded p e t bs) ns l c g = all_joined _ (within st l t c) (within_branches st l bs c) (within_none t ns l c g.1) (branches_none bs ns l c g.2)

      arms_none : (ts : Statements) (ns : List Name) (l : Name) (c : Code) → EachFine N C B W A M Y false ns ts → AllGood (within_arms st l ts c)
      arms_none no_statements ns l c g = tt
      arms_none (more_statements t ts) ns l c g = all_joined _ (within st l t c) (within_arms st l ts c) (within_none t ns l c g.0) (arms_none ts ns l c g.1)

      order_none : (ls : LabeledStatements) (ns : List Name) (l : Name) (c : Code) → LabeledFine N C B W A M Y false ns ls → AllGood (within_order st l ls c)
      order_none no_labeled ns l c g = tt
      order_none (more_labeled None t ls) ns l c g =
          all_joined _ (within st l t (Seq (in_order st l ls) c)) (within_order st l ls c) (within_none t ns l (Seq (in_order st l ls) c) g.1) (order_none ls ns l c g.2)
      order_none (more_labeled (Some x) t ls) ns l c g = never g.0

    mutual
      within_good : (t : Statement) (l : Name) (c : Code) → Fine N C B W A M Y true [] t → Good [] c → AllGood (within st l t c)
      within_good (skip p) l c g h = tt
      within_good (assign p as') l c g h = tt
      within_good (if_then p bs) l c g h = within_branches_good bs l c g h
      within_good (if_else p bs t) l c g h = all_joined _ (within_branches st l bs c) (within st l t c) (within_branches_good bs l c g.0 h) (within_good t l c g.1 h)
      within_good (while_do p e t) l c g h = within_good t l (Goto l) g.1 (tt, tt)
      within_good (either_of p ts) l c g h = within_arms_good ts l c g h
      within_good (await_that p e) l c g h = tt
      within_good (with_in p xs t) l c g h = within_none t (in_with [] xs) l c g.1
      within_good (print_out p e) l c g h = tt
      within_good (assert_that p e) l c g h = tt
      within_good (go_to p x) l c g h = tt
      within_good (call_macro p m es) l c g h = tt
      within_good (yield_as p e) l c g h = tt
      within_good (block p ls) l c g h = within_order_good ls l c g h

      within_branches_good : (bs : GuardedStatements) (l : Name) (c : Code) → GuardedFine N C B W A M Y true [] bs → Good [] c → AllGood (within_branches st l bs c)
      within_branches_good no_guarded l c g h = tt
      within_branches_good (more_guarded p e t bs) l c g h = all_joined _ (within st l t c) (within_branches st l bs c) (within_good t l c g.1 h) (within_branches_good bs l c g.2 h)

      within_arms_good : (ts : Statements) (l : Name) (c : Code) → EachFine N C B W A M Y true [] ts → Good [] c → AllGood (within_arms st l ts c)
      within_arms_good no_statements l c g h = tt
      within_arms_good (more_statements t ts) l c g h = all_joined _ (within st l t c) (within_arms st l ts c) (within_good t l c g.0 h) (within_arms_good ts l c g.1 h)

      pub within_order_good : (ls : LabeledStatements) (l : Name) (c : Code) → LabeledFine N C B W A M Y true [] ls → Good [] c → AllGood (within_order st l ls c)
      within_order_good no_labeled l c g h = tt
      within_order_good (more_labeled x t ls) l c g h =
          let next = Seq (in_order st l ls) c in
          let rest = both (in_order st l ls) c (order_good ls true [] [] l g.2 nothing_bound) h in
          all_joined _ (own st x t next ++ within st (labelled st l x) t next) (within_order st l ls c) (all_joined _ (own st x t next) (within st (labelled st l x) t next) (own_good x t true next g.1 rest) (within_good t (labelled st l x) next g.1 rest)) (within_order_good ls l c g.2 h)

    pub section_good : (ls : LabeledStatements) → LabeledFine N C B W A M Y true [] ls → (l : Name) (c : Code) → find l (within_order st [] ls (Goto done)) ≡ Some c → Good [] c
    section_good ls g l c e = found (within_order st [] ls (Goto done)) (within_order_good ls [] (Goto done) g (tt, tt)) e
      where
        found : (cs : List (Name × Code)) → AllGood cs → find l cs ≡ Some c → Good [] c
        found [] h k = absurd (cc)
        found (x ∷ cs) h k = go (same_name l x.0) k (found cs h.1)
          where
            go : (b : Bool) → (if b then Some x.1 else find l cs) ≡ Some c → (find l cs ≡ Some c → Good [] c) → Good [] c
            go true k more = let same : x.1 ≡ c = cc in subst (Good []) same h.0
            go false k more = more k
