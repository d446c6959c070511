-- The arguments of a macro's call, in the ways in which its parameters stand.
use Rattle.std.proofs.Common.{◌≡◌, Bool, true, false, List, [], ◌∷◌, ◌++◌, Some, option_map, refl, ap, sym, ◌∙◌, subst, inl}
use Rattle.std.specs.List.{AllByRecursion}
use Rattle.pgo_base.specs.Lookup.{Name}
use Rattle.pgo_base.specs.Tree.{Tree, name, primed, number, text, truth, at, word, unary, binary, product, cond_of, case_of, case_other, let_in, quantified, choose, tuple, set_of, filter_of, image, fun_of, fun_set, record_of, record_set, except, index, field, call, unchanged, no_trees, more_trees}
use Rattle.pgo_syntax.specs.declared.assignment.Left.{Left}
use Rattle.pgo_syntax.specs.declared.assignment.Step.{Step}
use Rattle.pgo_syntax.specs.declared.assignment.Step.TheVariants as step
use Rattle.pgo_uses.specs.StatementUses.{shape_of}
use Rattle.pgo_uses.specs.Uses.{inside, uses}
use Rattle.pgo_uses.specs.declared.uses.Around.{Around}
use Rattle.pgo_uses.specs.declared.uses.Form.TheVariants as forms
use Rattle.pgo_uses.specs.declared.uses.Home.{Home}
use Rattle.pgo_uses.specs.declared.uses.Shape.{Shape}
use Rattle.pgo_uses.specs.declared.uses.Shape.TheVariants.{Bare, OneIndex, Further}
use Rattle.pgo_uses.specs.declared.uses.Use.{Use}
use Rattle.pgo_scope.specs.Usage.{join, left_base, left_shape, left_uses}
use Rattle.pgo_scope.specs.declared.usage.Usage.{Usage}
use Rattle.pgo_meaning.specs.MacrosPlaced.{with_step, left_of}
use Rattle.pgo_agrees.specs.Spoken.{Spoken}
use Rattle.pgo_agrees.proofs.Zip.{any_flags}
use Rattle.pgo_agrees.proofs.Fine.{PathFine}
use Rattle.pgo_agrees.proofs.FromUses.{IsAt, Tells, stands}
use Rattle.pgo_agrees.proofs.Placing.{reads_so, writes_so, shape_append, AnyCall, Handed}
use Rattle.pgo_agrees.proofs.Stands.{Stands}
use Rattle.pgo_agrees.proofs.Zip.{zip}
use Rattle.pgo_agrees.proofs.EachToken.{cut}

pub further : (h : Shape) → join h Further ≡ Further
further Bare = refl
further OneIndex = refl
further Further = refl

-- N: what is asked of names where the call stands; I: of a name whatever its place; R: of a use in the argument's place
module _ (N : List Name → Bool → Bool → Name → Type 0) (C B W : Name → Type 0) (A : List Name → Shape → Name → Type 0) (Y : Type 0) (Common : Name → Type 0) (I : List Name → Name → Type 0) (R : Use → Type 0) (J : Bool → Bool → Name → Type 0) (home : Home) (passed : Bool) where
  pub record Joins : Type 0 where
    pub names : (ns : List Name) (h i : Bool) (x : Name) → I ns x → J h i x → N ns h i x
    pub reads : (u : Use) → R u → IsAt home passed u.around → u.form ≡ forms.Alone → J u.around.hidden u.around.indexed u.name

  abbrev Whatever : Name → Type 0
  Whatever x = Unit {0}

  abbrev First : List Name → Tree → Type 0
  First ns t = Stands (λ h i. I ns) C B [] false false t

  module _ (joins : Joins) where
    tells : Tells R home passed J Whatever Whatever Whatever
    tells = record { alone = λ u r w e k. joins.reads u r w e; applied = λ u n r w e. tt; binds = λ u r w e. tt }

    argument_stands : (ns : List Name) (a : Around) (t : Tree) → IsAt home passed a → Spoken t → First ns t → AllByRecursion R (uses [] a t) → Stands (N ns) C B [] a.hidden a.indexed t
    argument_stands ns a t w s f h =
        zip (λ h i. I ns) C B J Whatever Whatever (N ns) (λ j l h i x p q. joins.names ns h i x p q) [] false false a.hidden a.indexed t f
        (stands R home passed J Whatever Whatever Whatever tells [] [] a t w (λ x e. inl e) s h)

    -- ---- an argument that is assigned

    abbrev PathsOk : List Name → List Step → Type 0
    PathsOk ns ss = PathFine N C B W A (AnyCall C B Common N W A Y) Y ns ss

    path_end : (ns : List Name) (ss : List Step) (e : Tree) → PathsOk ns ss → Stands (N ns) C B [] false false e → PathsOk ns (ss ++ step.Index e ∷ [])
    path_end ns [] e h g = (g, tt)
    path_end ns (step.Index d ∷ ss) e h g = (h.0, path_end ns ss e h.1 g)
    path_end ns (step.Field x ∷ ss) e h g = path_end ns ss e h g

    path_field : (ns : List Name) (ss : List Step) (x : Name) → PathsOk ns ss → PathsOk ns (ss ++ step.Field x ∷ [])
    path_field ns [] x h = tt
    path_field ns (step.Index d ∷ ss) x h = (h.0, path_field ns ss x h.1)
    path_field ns (step.Field y ∷ ss) x h = path_field ns ss x h

    record LeftIs (ns : List Name) (t : Tree) (x : Name) : Type 0 where
      pub left : Left
      pub is : left_of t ≡ Some left
      pub name : left.name.name ≡ x
      pub shape : shape_of left.path ≡ left_shape t
      pub path : PathsOk ns left.path

    left_is : (ns : List Name) (a : Around) (t : Tree) (x : Name) → IsAt home passed (inside a) → (a.hidden ≡ false) → Spoken t → ((h i : Bool) → Stands (λ h i. I ns) C B [] h i t) → AllByRecursion R (left_uses [] (inside a) t) → left_base t ≡ Some x → LeftIs ns t x
    left_is ns a (name y) x w q s f h e = record { left = record { name = record { name = y; place = 0 }; path = [] }; is = refl; name = let z : y ≡ x = cc in z; shape = refl; path = tt }
    left_is ns a (primed y) x w q s f h e = absurd (cc)
    left_is ns a (number y) x w q s f h e = absurd (cc)
    left_is ns a (text y) x w q s f h e = absurd (cc)
    left_is ns a (truth y) x w q s f h e = absurd (cc)
    left_is ns a at x w q s f h e = absurd (cc)
    left_is ns a (word y) x w q s f h e = absurd (cc)
    left_is ns a (unary o d) x w q s f h e = absurd (cc)
    left_is ns a (binary o d c) x w q s f h e = absurd (cc)
    left_is ns a (product ts) x w q s f h e = absurd (cc)
    left_is ns a (cond_of p d c) x w q s f h e = absurd (cc)
    left_is ns a (case_of gs) x w q s f h e = absurd (cc)
    left_is ns a (case_other gs d) x w q s f h e = absurd (cc)
    left_is ns a (let_in ds d) x w q s f h e = absurd (cc)
    left_is ns a (quantified o bs p) x w q s f h e = absurd (cc)
    left_is ns a (choose y r p) x w q s f h e = absurd (cc)
    left_is ns a (tuple ts) x w q s f h e = absurd (cc)
    left_is ns a (set_of ts) x w q s f h e = absurd (cc)
    left_is ns a (filter_of y r p) x w q s f h e = absurd (cc)
    left_is ns a (image d y r) x w q s f h e = absurd (cc)
    left_is ns a (fun_of bs d) x w q s f h e = absurd (cc)
    left_is ns a (fun_set d c) x w q s f h e = absurd (cc)
    left_is ns a (record_of ds) x w q s f h e = absurd (cc)
    left_is ns a (record_set ds) x w q s f h e = absurd (cc)
    left_is ns a (except d us) x w q s f h e = absurd (cc)
    left_is ns a (index t no_trees) x w q s f h e = absurd (cc)
    left_is ns a (index t (more_trees d no_trees)) x w q s f h e =
        let us = left_uses [] (inside a) t in
        let vs = uses [] (inside a) d in
        let l = left_is ns a t x w q s.0 (λ j i. any j i (f j i).0) (cut R us vs h).0 e in
        let i = argument_stands ns (inside a) d w s.1.0 (f false false).1.0 (cut R us vs h).1 in
        record {
          left = with_step (step.Index d) l.left;
          is = ap (option_map (with_step (step.Index d))) l.is;
          name = l.name;
          shape = shape_append l.left.path (step.Index d ∷ []) ∙ ap (λ h. join h OneIndex) l.shape;
          path = path_end ns l.left.path d l.path (subst (λ b. Stands (N ns) C B [] b false d) q i);
        }
      where
        any : (j i : Bool) → Stands (λ h i. I ns) C B [] j true t → Stands (λ h i. I ns) C B [] j i t
        any j i g = any_flags (I ns) C B [] j true j i t g
    left_is ns a (index t (more_trees d (more_trees c ts))) x w q s f h e = absurd (cc)
    left_is ns a (field r y) x w q s f h e =
        let l = left_is ns a r x w q s (λ j i. any_flags (I ns) C B [] j false j i r (f j i)) h e in
        record {
          left = with_step (step.Field y) l.left;
          is = ap (option_map (with_step (step.Field y))) l.is;
          name = l.name;
          shape = shape_append l.left.path (step.Field y ∷ []) ∙ further (shape_of l.left.path);
          path = path_field ns l.left.path y l.path;
        }
    left_is ns a (call y ts) x w q s f h e = absurd (cc)
    left_is ns a (unchanged xs) x w q s f h e = absurd (cc)

    -- ---- the argument

    pub record Given (ns : List Name) (a : Around) (w : Usage) (t : Tree) : Type 0 where
      pub reads : (h i : Bool) → reads_so w h i ≡ true → AllByRecursion R (uses [] (record a { hidden = h; indexed = i }) t)
      pub writes : (h : Shape) → writes_so w h ≡ true → (x : Name) × (left_base t ≡ Some x) × A ns (join (left_shape t) h) x × AllByRecursion R (left_uses [] (inside a) t)

    pub handed_so : (ns : List Name) (a : Around) (w : Usage) (t : Tree) → IsAt home passed a → a.hidden ≡ false → Spoken t → First ns t → Given ns a w t → Handed C B Common N W A Y ns w t
    handed_so ns a w t at' q s f g = record {
      reads = λ h i e. argument_stands ns (record a { hidden = h; indexed = i }) t at' s f (g.reads h i e);
      writes = λ h e.
          (let k = g.writes h e in
          let l = left_is ns a t k.0 at' q s (λ j i. any_flags (I ns) C B [] false false j i t f) k.3 k.1 in
          (l.left, l.is, subst (λ z. A ns (join z h) l.left.name.name) (sym l.shape) (subst (λ z. A ns (join (left_shape t) h) z) (sym l.name) k.2), l.path));
    }
