-- A macro's body in the place of its call: names stand in it as they do where the call stands.
use Rattle.std.proofs.Common.{◌≡◌, ℕ, Bool, true, false, ◌&&◌, ◌||◌, nat_eq, if◌then◌else◌, List, [], ◌∷◌, ◌++◌, map, Option, Some, None, refl, ap, sym, ◌∙◌, subst, inl, inr}
use Rattle.std.specs.Prelude.{◌⊎◌, unwrap_or}
use Rattle.pgo_base.specs.Lookup.{Name, same_name, find}
use Rattle.pgo_base.specs.Tree.{Tree, name}
use Rattle.pgo_model.specs.Names.{same_name-self, same_name-is, is_among}
use Rattle.pgo_model.specs.Options.{on}
use Rattle.pgo_syntax.specs.declared.assignment.Assignment.{Assignment}
use Rattle.pgo_syntax.specs.declared.assignment.Left.{Left}
use Rattle.pgo_syntax.specs.declared.assignment.Step.{Step}
use Rattle.pgo_syntax.specs.declared.assignment.Step.TheVariants as step
use Rattle.pgo_syntax.specs.declared.binding.Origin.{Origin}
use Rattle.pgo_syntax.specs.declared.binding.Origin.TheVariants.{Equals, In}
use Rattle.pgo_syntax.specs.declared.binding.WithName.{WithName}
use Rattle.pgo_syntax.specs.declared.name.PlacedName.{PlacedName}
use Rattle.pgo_syntax.specs.Statement.{Statement, skip, assign, if_then, if_else, while_do, either_of, await_that, with_in, print_out, assert_that, go_to, call_macro, yield_as, block, Statements, no_statements, more_statements, LabeledStatements, no_labeled, more_labeled, GuardedStatements, no_guarded, more_guarded}
use Rattle.pgo_uses.specs.StatementUses.{shape_of, origin_tree}
use Rattle.pgo_uses.specs.declared.uses.Shape.{Shape}
use Rattle.pgo_uses.specs.declared.uses.Shape.TheVariants.{Bare, OneIndex, Further}
use Rattle.pgo_scope.specs.Underscores.{has_double}
use Rattle.pgo_scope.specs.Usage.{join}
use Rattle.pgo_scope.specs.declared.usage.Usage.{Usage}
use Rattle.pgo_meaning.specs.MacrosPlaced.{marked, Arguments, argument, put_tree, put_step, left_of, put_left, put_assignment, put_origin, with_marked, put_names, under_names, put, put_each, put_among, put_guarded, Body, Bodies, handed, walked, placed, placed_each, placed_among, placed_guarded}
use Rattle.pgo_agrees.proofs.Fine.{in_with, MayLabel, PathFine, AssignsFine, WithsFine, Fine, EachFine, LabeledFine, GuardedFine}
use Rattle.pgo_agrees.proofs.Hoist.{never}
use Rattle.pgo_agrees.proofs.Replaced as replacing
use Rattle.pgo_agrees.proofs.Stands.{Stands, Meet, Above, or_first, or_second}
use Rattle.pgo_agrees.proofs.Weaker.{weaker}
use Rattle.pgo_agrees.proofs.Names.{one_mark, or_right}

-- ---- ways in which a parameter stands
abbrev pub reads_so : Usage → Bool → Bool → Bool
reads_so w false false = w.plain
reads_so w false true = w.indexed
reads_so w true false = w.hidden
reads_so w true true = w.hidden_indexed

abbrev pub writes_so : Usage → Shape → Bool
writes_so w Bare = w.bare
writes_so w OneIndex = w.one_index
writes_so w Further = w.further

-- ---- shapes
pub shape_append : (ss ts : List Step) → shape_of (ss ++ ts) ≡ join (shape_of ss) (shape_of ts)
shape_append [] ts = refl
shape_append (step.Index e ∷ []) [] = refl
shape_append (step.Index e ∷ []) (step.Index f ∷ []) = refl
shape_append (step.Index e ∷ []) (step.Index f ∷ (t ∷ ts)) = refl
shape_append (step.Index e ∷ []) (step.Field x ∷ ts) = refl
shape_append (step.Index e ∷ (s ∷ ss)) ts = refl
shape_append (step.Field x ∷ ss) ts = refl

shape_put : (es : Arguments) (ss : List Step) → shape_of (map (put_step es) ss) ≡ shape_of ss
shape_put es [] = refl
shape_put es (step.Index e ∷ []) = refl
shape_put es (step.Index e ∷ (s ∷ ss)) = refl
shape_put es (step.Field x ∷ ss) = refl

-- ---- marked names
abbrev pub has_bang : Name → Bool
has_bang [] = false
has_bang (b ∷ bs) = nat_eq b 33 || has_bang bs

pub marked_bang : (x : Name) → has_bang (marked x) ≡ true
marked_bang [] = refl
marked_bang (b ∷ bs) = or_second (nat_eq b 33) (has_bang (marked bs)) (marked_bang bs)

keeps_single : (p q r : Bool) → p || q ≡ false → r ≡ false → p || r ≡ false
keeps_single true q r h g = absurd (cc)
keeps_single false q r h g = g

pub marked_single : (x : Name) → has_double x ≡ false → has_double (marked x) ≡ false
marked_single [] h = refl
marked_single (b ∷ []) h = one_mark (nat_eq b 95)
marked_single (b ∷ (c ∷ cs)) h =
    let two = nat_eq b 95 && nat_eq c 95 in
    keeps_single two (has_double (c ∷ cs)) (has_double (marked (c ∷ cs))) h (marked_single (c ∷ cs) (or_right two (has_double (c ∷ cs)) h))

pub bang_apart : (x y : Name) → has_bang x ≡ true → has_bang y ≡ false → same_name y x ≡ false
bang_apart x y h g = go (same_name y x) refl
  where
    go : (b : Bool) → same_name y x ≡ b → same_name y x ≡ false
    go false e = e
    go true e = absurd (let q : true ≡ false = sym h ∙ sym (ap has_bang (same_name-is y x e)) ∙ g in cc)

module _ (C B Common : Name → Type 0) where
  -- what a `with` may bind
  abbrev pub Declared : Name → Type 0
  Declared x = (has_double x ≡ false) × ((y : Name) → C y → same_name y x ≡ false)

  -- in a macro's body, with the names of its parameters and the ways in which they stand
  abbrev pub MacroName : List Name → (Name → Usage) → List Name → Bool → Bool → Name → Type 0
  MacroName qs w ns h i x =
      ((is_among x ns ≡ true) × Declared x) ⊎ (((is_among x qs ≡ true) × (reads_so (w x) h i ≡ true)) ⊎ Common x)

  abbrev pub MacroAssigned : List Name → (Name → Usage) → List Name → Shape → Name → Type 0
  MacroAssigned qs w ns h x = (is_among x qs ≡ true) × (writes_so (w x) h ≡ true)

  abbrev pub MacroWith : List Name → Name → Type 0
  MacroWith qs x = Declared x × (is_among x qs ≡ false)

  module _ (N : List Name → Bool → Bool → Name → Type 0) (W : Name → Type 0) (A : List Name → Shape → Name → Type 0) (Y : Type 0) where
    abbrev pub AnyCall : List Name → PlacedName → List Tree → Type 0
    AnyCall ns m ts = Unit {0}

    -- what is asked of where a body is put
    pub record Target : Type 0 where
      pub more_names : (z x : Name) (ns : List Name) (h i : Bool) → N ns h i x → N (z ∷ ns) h i x
      pub more_assigned : (z x : Name) (ns : List Name) (h : Shape) → A ns h x → A (z ∷ ns) h x
      pub marked_names : (x : Name) (ns : List Name) (h i : Bool) → Declared x → is_among (marked x) ns ≡ true → N ns h i (marked x)
      pub marked_with : (x : Name) → Declared x → W (marked x)
      pub common : (x : Name) (ns : List Name) (h i : Bool) → Common x → N ns h i x

    abbrev pub PathOk : List Name → List Step → Type 0
    PathOk ns ss = PathFine N C B W A AnyCall Y ns ss

    -- an argument where its parameter is assigned, and this follows
    abbrev pub LeftGood : List Name → Shape → Tree → Type 0
    LeftGood ns h t = (l : Left) × (left_of t ≡ Some l) × A ns (join (shape_of l.path) h) l.name.name × PathOk ns l.path

    -- an argument in the ways in which its parameter stands
    pub record Handed (ns : List Name) (w : Usage) (t : Tree) : Type 0 where
      pub reads : (h i : Bool) → reads_so w h i ≡ true → Stands (N ns) C B [] h i t
      pub writes : (h : Shape) → writes_so w h ≡ true → LeftGood ns h t

    module _ (ok : Target) where
      same_above : (u : List Name) → Above u u
      same_above u x h = h

      path_more : (z : Name) (ns : List Name) (ss : List Step) → PathOk ns ss → PathOk (z ∷ ns) ss
      path_more z ns [] h = tt
      path_more z ns (step.Index e ∷ ss) h =
          (weaker (N ns) C B (N (z ∷ ns)) C B (λ h i x n. ok.more_names z x ns h i n) (λ x c. c) (λ x b. b) [] [] false false e (same_above []) h.0, path_more z ns ss h.1)
      path_more z ns (step.Field x ∷ ss) h = path_more z ns ss h

      handed_more : (z : Name) (ns : List Name) (w : Usage) (t : Tree) → Handed ns w t → Handed (z ∷ ns) w t
      handed_more z ns w t g = record {
        reads = λ h i e. weaker (N ns) C B (N (z ∷ ns)) C B (λ h i x n. ok.more_names z x ns h i n) (λ x c. c) (λ x b. b) [] [] h i t (same_above []) (g.reads h i e);
        writes = λ h e. (let l = g.writes h e in (l.0, l.1, ok.more_assigned z l.0.name.name ns (join (shape_of l.0.path) h) l.2, path_more z ns l.0.path l.3));
      }

      module _ (qs : List Name) (w : Name → Usage) where
        -- what stands for the names of the body
        pub record Standing (es : Arguments) (ns ms : List Name) : Type 0 where
          pub with' : (x : Name) → is_among x ns ≡ true → (find x es ≡ Some (name (marked x))) × (is_among (marked x) ms ≡ true) × Declared x × (is_among x qs ≡ false)
          pub parameter : (x : Name) → is_among x ns ≡ false → is_among x qs ≡ true → (t : Tree) × (find x es ≡ Some t) × Handed ms (w x) t
          pub other : (x : Name) → is_among x ns ≡ false → is_among x qs ≡ false → find x es ≡ None
          pub apart : (x : Name) → Common x → is_among x qs ≡ false

        with_name : (es : Arguments) (ns ms : List Name) (x : WithName) → MacroWith qs x.name.name → Standing es ns ms → Standing (with_marked x es) (x.name.name ∷ ns) (marked x.name.name ∷ ms)
        with_name es ns ms v d g = record {
          with' = λ y h. go y (same_name y v.name.name) refl h;
          parameter = λ y h k.
              (let p = g.parameter y (behind y h) k in
              (p.0, ap (λ b. if b then Some (name (marked v.name.name)) else find y es) (front y h) ∙ p.1, handed_more (marked v.name.name) ms (w y) p.0 p.2));
          other = λ y h k. ap (λ b. if b then Some (name (marked v.name.name)) else find y es) (front y h) ∙ g.other y (behind y h) k;
          apart = g.apart;
        }
          where
            front : (y : Name) → is_among y (v.name.name ∷ ns) ≡ false → same_name y v.name.name ≡ false
            front y h = by (same_name y v.name.name) h
              where
                by : (b : Bool) → b || is_among y ns ≡ false → b ≡ false
                by true e = e
                by false e = refl

            behind : (y : Name) → is_among y (v.name.name ∷ ns) ≡ false → is_among y ns ≡ false
            behind y h = by (same_name y v.name.name) h
              where
                by : (b : Bool) → b || is_among y ns ≡ false → is_among y ns ≡ false
                by true e = absurd (cc)
                by false e = e

            go : (y : Name) (b : Bool) → same_name y v.name.name ≡ b → b || is_among y ns ≡ true → ((if b then Some (name (marked v.name.name)) else find y es) ≡ Some (name (marked y))) × (is_among (marked y) (marked v.name.name ∷ ms) ≡ true) × Declared y × (is_among y qs ≡ false)
            go y true e h =
                let s = same_name-is y v.name.name e in (
                  ap (λ z. Some (name (marked z))) (sym s),
                  or_first (same_name (marked y) (marked v.name.name)) (is_among (marked y) ms) (ap (λ z. same_name (marked z) (marked v.name.name)) s ∙ same_name-self (marked v.name.name)),
                  subst Declared (sym s) d.0,
                  ap (λ z. is_among z qs) s ∙ d.1,
                )
            go y false e h =
                let p = g.with' y h in (p.0, or_second (same_name (marked y) (marked v.name.name)) (is_among (marked y) ms) p.1, p.2, p.3)

        -- ---- names
        name_put : (es : Arguments) (ns ms : List Name) → Standing es ns ms → (u : List Name) (h i : Bool) (x : Name) → Meet B u → (is_among x u ≡ true) ⊎ MacroName qs w ns h i x → Stands (N ms) C B u h i (argument es u x)
        name_put es ns ms g u h i x m k = go (is_among x u) refl
          where
            outside : (is_among x u ≡ true) ⊎ MacroName qs w ns h i x → is_among x u ≡ false → MacroName qs w ns h i x
            outside (inl e) f = absurd (let q : true ≡ false = sym e ∙ f in cc)
            outside (inr n) f = n

            above : Above [] u
            above y e = never e

            -- no name of a `with`
            free : is_among x ns ≡ false → MacroName qs w ns h i x → Stands (N ms) C B u h i (unwrap_or (find x es) (name x))
            free f (inl e) = absurd (let q : true ≡ false = sym e.0 ∙ f in cc)
            free f (inr (inl e)) =
                let p = g.parameter x f e.0 in
                subst (λ o. Stands (N ms) C B u h i (unwrap_or o (name x))) (sym p.1) (weaker (N ms) C B (N ms) C B (λ h i y n. n) (λ y c. c) (λ y b. b) [] u h i p.0 above (p.2.reads h i e.1))
            free f (inr (inr e)) =
                subst (λ o. Stands (N ms) C B u h i (unwrap_or o (name x))) (sym (g.other x f (g.apart x e))) (inr (ok.common x ms h i e))

            by_with : (b : Bool) → is_among x ns ≡ b → MacroName qs w ns h i x → Stands (N ms) C B u h i (unwrap_or (find x es) (name x))
            by_with true e n =
                let p = g.with' x e in
                subst (λ o. Stands (N ms) C B u h i (unwrap_or o (name x))) (sym p.0) (inr (ok.marked_names x ms h i p.2 p.1))
            by_with false e n = free e n

            go : (b : Bool) → is_among x u ≡ b → Stands (N ms) C B u h i (if is_among x u then name x else unwrap_or (find x es) (name x))
            go true e = subst (λ b. Stands (N ms) C B u h i (if b then name x else unwrap_or (find x es) (name x))) (sym e) (inl e)
            go false e =
                subst (λ b. Stands (N ms) C B u h i (if b then name x else unwrap_or (find x es) (name x))) (sym e) (by_with (is_among x ns) refl (outside k e))

        tree_put : (es : Arguments) (ns ms : List Name) → Standing es ns ms → (e : Tree) → Stands (MacroName qs w ns) C B [] false false e → Stands (N ms) C B [] false false (put_tree es e)
        tree_put es ns ms g e h =
            replacing.put (argument es) (MacroName qs w ns) C B (N ms) C B (name_put es ns ms g) (λ x c. c) (λ x b. b) [] false false e (λ x k. never k) h

        abbrev InMacro : List Name → Bool → Bool → Name → Type 0
        InMacro = MacroName qs w

        abbrev AsInMacro : List Name → Shape → Name → Type 0
        AsInMacro = MacroAssigned qs w

        path_put : (es : Arguments) (ns ms : List Name) → Standing es ns ms → (ss : List Step) → PathFine InMacro C B (MacroWith qs) AsInMacro AnyCall ⊥ ns ss → PathOk ms (map (put_step es) ss)
        path_put es ns ms g [] h = tt
        path_put es ns ms g (step.Index e ∷ ss) h = (tree_put es ns ms g e h.0, path_put es ns ms g ss h.1)
        path_put es ns ms g (step.Field x ∷ ss) h = path_put es ns ms g ss h

        path_append : (ms : List Name) (ss ts : List Step) → PathOk ms ss → PathOk ms ts → PathOk ms (ss ++ ts)
        path_append ms [] ts h g = g
        path_append ms (step.Index e ∷ ss) ts h g = (h.0, path_append ms ss ts h.1 g)
        path_append ms (step.Field x ∷ ss) ts h g = path_append ms ss ts h g

        abbrev LeftOk : List Name → Left → Type 0
        LeftOk ms l = A ms (shape_of l.path) l.name.name × PathOk ms l.path

        left_put : (es : Arguments) (ns ms : List Name) → Standing es ns ms → (l : Left) → AsInMacro ns (shape_of l.path) l.name.name → PathFine InMacro C B (MacroWith qs) AsInMacro AnyCall ⊥ ns l.path → LeftOk ms (put_left es l)
        left_put es ns ms g l a h = go (is_among l.name.name ns) refl
          where
            here : PathOk ms (map (put_step es) l.path)
            here = path_put es ns ms g l.path h

            put_by : (t : Tree) → find l.name.name es ≡ Some t → Handed ms (w l.name.name) t → LeftOk ms (put_left es l)
            put_by t f k =
                let q = k.writes (shape_of l.path) a.1 in
                subst (λ o. LeftOk ms (on (record { name = l.name; path = map (put_step es) l.path }) (on None o left_of) (λ m. record { name = m.name; path = m.path ++ map (put_step es) l.path }))) (sym f)
                (subst (λ o. LeftOk ms (on (record { name = l.name; path = map (put_step es) l.path }) o (λ m. record { name = m.name; path = m.path ++ map (put_step es) l.path }))) (sym q.1)
                (subst (λ h. A ms h q.0.name.name) (sym (shape_append q.0.path (map (put_step es) l.path) ∙ ap (join (shape_of q.0.path)) (shape_put es l.path))) q.2, path_append ms q.0.path (map (put_step es) l.path) q.3 here))

            go : (b : Bool) → is_among l.name.name ns ≡ b → LeftOk ms (put_left es l)
            go true e = absurd (let p = g.with' l.name.name e in let q : true ≡ false = sym a.0 ∙ p.3 in cc)
            go false e = let p = g.parameter l.name.name e a.0 in put_by p.0 p.1 p.2

        assigns_put : (es : Arguments) (ns ms : List Name) → Standing es ns ms → (as' : List Assignment) → AssignsFine InMacro C B (MacroWith qs) AsInMacro AnyCall ⊥ ns as' → AssignsFine N C B W A AnyCall Y ms (map (put_assignment es) as')
        assigns_put es ns ms g [] h = tt
        assigns_put es ns ms g (a ∷ as') h =
            let l = left_put es ns ms g a.left h.0 h.1 in (l.0, l.1, tree_put es ns ms g a.right h.2, assigns_put es ns ms g as' h.3)

        origin_put : (es : Arguments) (o : Origin) → origin_tree (put_origin es o) ≡ put_tree es (origin_tree o)
        origin_put es (Equals e) = refl
        origin_put es (In e) = refl

        names_put : (es : Arguments) (ns ms : List Name) → Standing es ns ms → (ws : List WithName) → WithsFine InMacro C B (MacroWith qs) AsInMacro AnyCall ⊥ ns ws
            → WithsFine N C B W A AnyCall Y ms (put_names es ws) × Standing (under_names es ws) (in_with ns ws) (in_with ms (put_names es ws))
        names_put es ns ms g [] h = (tt, g)
        names_put es ns ms g (x ∷ ws) h =
            let r = names_put (with_marked x es) (x.name.name ∷ ns) (marked x.name.name ∷ ms) (with_name es ns ms x h.0 g) ws h.2 in
            ((ok.marked_with x.name.name h.0.0, subst (λ e. Stands (N ms) C B [] false false e) (sym (origin_put es x.origin)) (tree_put es ns ms g (origin_tree x.origin) h.1), r.0), r.1)

        label_more : (l k : Bool) (x : Option PlacedName) → (l ≡ true → k ≡ true) → MayLabel l x → MayLabel k x
        label_more l k None f h = tt
        label_more l k (Some x) f h = f h

        mutual
          pub fine_put : (t : Statement) (l k : Bool) (es : Arguments) (ns ms : List Name) → (l ≡ true → k ≡ true) → Standing es ns ms → Fine InMacro C B (MacroWith qs) AsInMacro AnyCall ⊥ l ns t → Fine N C B W A AnyCall Y k ms (put es t)
          fine_put (skip p) l k es ns ms f g h = tt
          fine_put (assign p as') l k es ns ms f g h = assigns_put es ns ms g as' h
          fine_put (if_then p bs) l k es ns ms f g h = guarded_put bs l k es ns ms f g h
          fine_put (if_else p bs t) l k es ns ms f g h = (guarded_put bs l k es ns ms f g h.0, fine_put t l k es ns ms f g h.1)
          fine_put (while_do p e t) l k es ns ms f g h = (tree_put es ns ms g e h.0, fine_put t l k es ns ms f g h.1)
          fine_put (either_of p ts) l k es ns ms f g h = each_put ts l k es ns ms f g h
          fine_put (await_that p e) l k es ns ms f g h = tree_put es ns ms g e h
          fine_put (with_in p ws t) l k es ns ms f g h =
              let r = names_put es ns ms g ws h.0 in
              (r.0, fine_put t false false (under_names es ws) (in_with ns ws) (in_with ms (put_names es ws)) (λ e. e) r.1 h.1)
          fine_put (print_out p e) l k es ns ms f g h = tree_put es ns ms g e h
          fine_put (assert_that p e) l k es ns ms f g h = tree_put es ns ms g e h
          fine_put (go_to p x) l k es ns ms f g h = tt
          fine_put (call_macro p m ts) l k es ns ms f g h = tt
          fine_put (yield_as p e) l k es ns ms f g h = absurd h.0
          fine_put (block p ls) l k es ns ms f g h = among_put ls l k es ns ms f g h

          each_put : (ts : Statements) (l k : Bool) (es : Arguments) (ns ms : List Name) → (l ≡ true → k ≡ true) → Standing es ns ms → EachFine InMacro C B (MacroWith qs) AsInMacro AnyCall ⊥ l ns ts → EachFine N C B W A AnyCall Y k ms (put_each es ts)
          each_put no_statements l k es ns ms f g h = tt
          each_put (more_statements t ts) l k es ns ms f g h = (fine_put t l k es ns ms f g h.0, each_put ts l k es ns ms f g h.1)

          among_put : (ls : LabeledStatements) (l k : Bool) (es : Arguments) (ns ms : List Name) → (l ≡ true → k ≡ true) → Standing es ns ms → LabeledFine InMacro C B (MacroWith qs) AsInMacro AnyCall ⊥ l ns ls → LabeledFine N C B W A AnyCall Y k ms (put_among es ls)
          among_put no_labeled l k es ns ms f g h = tt
          among_put (more_labeled x t ls) l k es ns ms f g h = (label_more l k x f h.0, fine_put t l k es ns ms f g h.1, among_put ls l k es ns ms f g h.2)

          guarded_put : (bs : GuardedStatements) (l k : Bool) (es : Arguments) (ns ms : List Name) → (l ≡ true → k ≡ true) → Standing es ns ms → GuardedFine InMacro C B (MacroWith qs) AsInMacro AnyCall ⊥ l ns bs → GuardedFine N C B W A AnyCall Y k ms (put_guarded es bs)
          guarded_put no_guarded l k es ns ms f g h = tt
          guarded_put (more_guarded p e t bs) l k es ns ms f g h = (tree_put es ns ms g e h.0, fine_put t l k es ns ms f g h.1, guarded_put bs l k es ns ms f g h.2)

      -- ---- statements with macros in the place of their calls

      -- a call of a macro whose body is fine, with fine arguments
      pub record CallOk (bs : Bodies) (ns : List Name) (m : PlacedName) (ts : List Tree) : Type 0 where
        pub body : Body
        pub found : find m.name bs ≡ Some body
        pub parameters : List Name
        pub usage : Name → Usage
        pub fine : Fine (MacroName parameters usage) C B (MacroWith parameters) (MacroAssigned parameters usage) AnyCall ⊥ false [] body.statement
        pub arguments : Standing parameters usage (handed body.parameters ts) [] ns

      module _ (bs : Bodies) where
        call_placed : (p : ℕ) (m : PlacedName) (ts : List Tree) (l : Bool) (ns : List Name) → CallOk bs ns m ts → Fine N C B W A AnyCall Y l ns (placed bs (call_macro p m ts))
        call_placed p m ts l ns c =
            subst (λ o. Fine N C B W A AnyCall Y l ns (on (call_macro p m ts) o (λ b. walked p (put (handed b.parameters ts) b.statement)))) (sym c.found)
            (tt, tt, (tt, fine_put c.parameters c.usage c.body.statement false l (handed c.body.parameters ts) [] ns (λ e. never e) c.arguments c.fine, tt))

        mutual
          pub fine_placed : (t : Statement) (l : Bool) (ns : List Name) → Fine N C B W A (CallOk bs) Y l ns t → Fine N C B W A AnyCall Y l ns (placed bs t)
          fine_placed (skip p) l ns h = tt
          fine_placed (assign p as') l ns h = h
          fine_placed (if_then p gs) l ns h = guarded_placed gs l ns h
          fine_placed (if_else p gs t) l ns h = (guarded_placed gs l ns h.0, fine_placed t l ns h.1)
          fine_placed (while_do p e t) l ns h = (h.0, fine_placed t l ns h.1)
          fine_placed (either_of p ts) l ns h = each_placed ts l ns h
          fine_placed (await_that p e) l ns h = h
          fine_placed (with_in p ws t) l ns h = (h.0, fine_placed t false (in_with ns ws) h.1)
          fine_placed (print_out p e) l ns h = h
          fine_placed (assert_that p e) l ns h = h
          fine_placed (go_to p x) l ns h = tt
          fine_placed (call_macro p m ts) l ns h = call_placed p m ts l ns h
          fine_placed (yield_as p e) l ns h = h
          fine_placed (block p ls) l ns h = among_placed ls l ns h

          each_placed : (ts : Statements) (l : Bool) (ns : List Name) → EachFine N C B W A (CallOk bs) Y l ns ts → EachFine N C B W A AnyCall Y l ns (placed_each bs ts)
          each_placed no_statements l ns h = tt
          each_placed (more_statements t ts) l ns h = (fine_placed t l ns h.0, each_placed ts l ns h.1)

          pub among_placed : (ls : LabeledStatements) (l : Bool) (ns : List Name) → LabeledFine N C B W A (CallOk bs) Y l ns ls → LabeledFine N C B W A AnyCall Y l ns (placed_among bs ls)
          among_placed no_labeled l ns h = tt
          among_placed (more_labeled x t ls) l ns h = (h.0, fine_placed t l ns h.1, among_placed ls l ns h.2)

          guarded_placed : (gs : GuardedStatements) (l : Bool) (ns : List Name) → GuardedFine N C B W A (CallOk bs) Y l ns gs → GuardedFine N C B W A AnyCall Y l ns (placed_guarded bs gs)
          guarded_placed no_guarded l ns h = tt
          guarded_placed (more_guarded p e t gs) l ns h = (h.0, fine_placed t l ns h.1, guarded_placed gs l ns h.2)
