-- How names stand in a statement follows from what holds of the uses that are listed of it.
use Rattle.std.proofs.Common.{◌≡◌, ℕ, Bool, true, false, ◌||◌, if◌then◌else◌, List, [], ◌∷◌, ◌++◌, Option, Some, None, refl, sym, ◌∙◌, subst, inl, inr, append_assoc, append-nil}
use Rattle.std.specs.Prelude.{◌⊎◌}
use Rattle.std.specs.List.{AllByRecursion}
use Rattle.pgo_base.specs.Lookup.{Name, same_name}
use Rattle.pgo_base.specs.Tree.{Tree}
use Rattle.pgo_model.specs.Names.{same_name-is, is_among}
use Rattle.pgo_syntax.specs.declared.assignment.Assignment.{Assignment}
use Rattle.pgo_syntax.specs.declared.assignment.Step.{Step}
use Rattle.pgo_syntax.specs.declared.assignment.Step.TheVariants as step
use Rattle.pgo_syntax.specs.declared.binding.WithName.{WithName}
use Rattle.pgo_syntax.specs.declared.name.PlacedName.{PlacedName}
use Rattle.pgo_syntax.specs.Statement.{Statement, skip, assign, if_then, if_else, while_do, either_of, await_that, with_in, print_out, assert_that, go_to, call_macro, yield_as, block, Statements, no_statements, more_statements, LabeledStatements, no_labeled, more_labeled, GuardedStatements, no_guarded, more_guarded}
use Rattle.pgo_uses.specs.StatementUses.{at_place, as_passed, placed, shape_of, path_uses, assignment_uses, origin_tree, with_uses, with_names, argument_uses, label_uses, statement_uses, uses_of_alternatives, uses_of_block, uses_of_branches}
use Rattle.pgo_uses.specs.Uses.{uses}
use Rattle.pgo_uses.specs.declared.uses.Around.{Around}
use Rattle.pgo_uses.specs.declared.uses.Form.TheVariants as forms
use Rattle.pgo_uses.specs.declared.uses.Home.{Home}
use Rattle.pgo_uses.specs.declared.uses.Shape.{Shape}
use Rattle.pgo_uses.specs.declared.uses.Use.{Use}
use Rattle.pgo_bound.specs.Among.{none_left, none_right}
use Rattle.pgo_bound.specs.Sound.{labels_in, labels_each, labels_among, labels_guarded}
use Rattle.pgo_meaning.proofs.Trees.{among_front}
use Rattle.pgo_agrees.specs.Spoken.{Spoken, PathSpoken, AssignmentsSpoken, WithsSpoken, ArgumentsSpoken, StatementSpoken, EachSpoken, LabeledSpoken, GuardedSpoken}
use Rattle.pgo_agrees.proofs.Fine.{in_with, MayLabel, Expr, PathFine, AssignsFine, WithsFine, Fine, EachFine, LabeledFine, GuardedFine}
use Rattle.pgo_agrees.proofs.FromUses.{Known, IsAt, Tells, stands}
use Rattle.pgo_agrees.proofs.Stands.{Stands}
use Rattle.pgo_agrees.proofs.EachToken.{cut}

-- ---- no label stands within a `with`
abbrev mutual
  pub WithFree : Statement → Type 0
  WithFree (skip p) = Unit {0}
  WithFree (assign p as') = Unit {0}
  WithFree (if_then p bs) = GuardedFree bs
  WithFree (if_else p bs s) = GuardedFree bs × WithFree s
  WithFree (while_do p e s) = WithFree s
  WithFree (either_of p ss) = EachFree ss
  WithFree (await_that p e) = Unit {0}
  WithFree (with_in p ws s) = labels_in s ≡ []
  WithFree (print_out p e) = Unit {0}
  WithFree (assert_that p e) = Unit {0}
  WithFree (go_to p l) = Unit {0}
  WithFree (call_macro p m ts) = Unit {0}
  WithFree (yield_as p e) = Unit {0}
  WithFree (block p ls) = LabeledFree ls

  pub EachFree : Statements → Type 0
  EachFree no_statements = Unit {0}
  EachFree (more_statements s ss) = WithFree s × EachFree ss

  pub LabeledFree : LabeledStatements → Type 0
  LabeledFree no_labeled = Unit {0}
  LabeledFree (more_labeled l s ls) = WithFree s × LabeledFree ls

  pub GuardedFree : GuardedStatements → Type 0
  GuardedFree no_guarded = Unit {0}
  GuardedFree (more_guarded p e s bs) = WithFree s × GuardedFree bs

-- where labels may stand they stand in no `with`, and elsewhere there are none
abbrev Free : Bool → Statement → Type 0
Free true t = WithFree t
Free false t = labels_in t ≡ []

abbrev EachMay : Bool → Statements → Type 0
EachMay true ts = EachFree ts
EachMay false ts = labels_each ts ≡ []

abbrev LabeledMay : Bool → LabeledStatements → Type 0
LabeledMay true ls = LabeledFree ls
LabeledMay false ls = labels_among ls ≡ []

abbrev GuardedMay : Bool → GuardedStatements → Type 0
GuardedMay true bs = GuardedFree bs
GuardedMay false bs = labels_guarded bs ≡ []

no_item : (x : Name) (xs : List Name) → x ∷ xs ≡ [] → ⊥
no_item x xs e = cc

may_label : (b : Bool) (l : Option PlacedName) (s : Statement) (ls : LabeledStatements) → LabeledMay b (more_labeled l s ls) → MayLabel b l × Free b s × LabeledMay b ls
may_label true None s ls h = (tt, h.0, h.1)
may_label true (Some x) s ls h = (refl, h.0, h.1)
may_label false None s ls h = (tt, none_left (labels_in s) (labels_among ls) h, none_right (labels_in s) (labels_among ls) h)
may_label false (Some x) s ls h = absurd (no_item x.name (labels_in s ++ labels_among ls) h)

may_guarded : (b : Bool) (p : ℕ) (e : Tree) (s : Statement) (bs : GuardedStatements) → GuardedMay b (more_guarded p e s bs) → Free b s × GuardedMay b bs
may_guarded true p e s bs h = h
may_guarded false p e s bs h = (none_left (labels_in s) (labels_guarded bs) h, none_right (labels_in s) (labels_guarded bs) h)

may_each : (b : Bool) (s : Statement) (ss : Statements) → EachMay b (more_statements s ss) → Free b s × EachMay b ss
may_each true s ss h = h
may_each false s ss h = (none_left (labels_in s) (labels_each ss) h, none_right (labels_in s) (labels_each ss) h)

may_else : (b : Bool) (p : ℕ) (bs : GuardedStatements) (s : Statement) → Free b (if_else p bs s) → GuardedMay b bs × Free b s
may_else true p bs s h = h
may_else false p bs s h = (none_left (labels_guarded bs) (labels_in s) h, none_right (labels_guarded bs) (labels_in s) h)

may_then : (b : Bool) (p : ℕ) (bs : GuardedStatements) → Free b (if_then p bs) → GuardedMay b bs
may_then true p bs h = h
may_then false p bs h = h

may_while : (b : Bool) (p : ℕ) (e : Tree) (s : Statement) → Free b (while_do p e s) → Free b s
may_while true p e s h = h
may_while false p e s h = h

may_either : (b : Bool) (p : ℕ) (ss : Statements) → Free b (either_of p ss) → EachMay b ss
may_either true p ss h = h
may_either false p ss h = h

may_with : (b : Bool) (p : ℕ) (ws : List WithName) (s : Statement) → Free b (with_in p ws s) → labels_in s ≡ []
may_with true p ws s h = h
may_with false p ws s h = h

may_block : (b : Bool) (p : ℕ) (ls : LabeledStatements) → Free b (block p ls) → LabeledMay b ls
may_block true p ls h = h
may_block false p ls h = h

-- ---- names of the unit that are in scope of all of it
abbrev pub Within : List Name → List Name → Type 0
Within qs ns = (x : Name) → is_among x qs ≡ true → is_among x ns ≡ true

module _ (P : Use → Type 0) (home : Home) (qs : List Name) (N : List Name → Bool → Bool → Name → Type 0) (C B W : Name → Type 0) (A : List Name → Shape → Name → Type 0) (M : List Name → PlacedName → List Tree → Type 0) (Y : Type 0) (K : List Name → Name → Type 0) where
  pub record TellsAll : Type 0 where
    pub expressions : (ns : List Name) → Tells P home false (N ns) C B (K ns)
    pub assigned : (ns : List Name) (u : Use) (h : Shape) → P u → IsAt home false u.around → u.form ≡ forms.Assigned h → (u.inner ≡ true → K ns u.name) → A ns h u.name
    pub named : (u : Use) → P u → IsAt home false u.around → u.form ≡ forms.Named → (u.inner ≡ false → is_among u.name qs ≡ false) → W u.name
    pub called : (ns ms : List Name) (a : Around) (m : PlacedName) (ts : List Tree) → P (record { name = m.name; form = forms.Called ts; inner = is_among m.name ms; around = at_place m.place a }) → IsAt home false a → (a.hidden ≡ false) × (a.indexed ≡ false) → Known (K ns) ms [] → Within qs ms → ArgumentsSpoken ts → AllByRecursion P (argument_uses ms (as_passed (at_place m.place a)) ts) → M ns m ts
    pub newest : (x : Name) (ns : List Name) → W x → K (x ∷ ns) x
    pub older : (x y : Name) (ns : List Name) → K ns y → K (x ∷ ns) y

  module _ (tells : TellsAll) where
    abbrev AllP : List Use → Type 0
    AllP us = AllByRecursion P us

    abbrev l : (xs ys : List Use) → AllP (xs ++ ys) → AllP xs
    l xs ys h = (cut P xs ys h).0

    abbrev r : (xs ys : List Use) → AllP (xs ++ ys) → AllP ys
    r xs ys h = (cut P xs ys h).1

    -- the names in scope of the uses, and those of a `with` that are bound
    pub record InUnit (ms ns : List Name) : Type 0 where
      pub known : Known (K ns) ms []
      pub unit : Within qs ms

    expr : (ms ns : List Name) (a : Around) (e : Tree) → IsAt home false a → (a.hidden ≡ false) × (a.indexed ≡ false) → InUnit ms ns → Spoken e → AllP (uses ms a e) → Expr N C B W A M Y ns e
    expr ms ns a e w f v s h =
        subst (λ i. Stands (N ns) C B [] false i e) f.1 (subst (λ i. Stands (N ns) C B [] i a.indexed e) f.0 (stands P home false (N ns) C B (K ns) (tells.expressions ns) ms [] a e w v.known s h))

    split : (y x : Name) (ms : List Name) → is_among y (ms ++ x ∷ []) ≡ true → (is_among y ms ≡ true) ⊎ (y ≡ x)
    split y x [] h = go (same_name y x) refl h
      where
        go : (b : Bool) → same_name y x ≡ b → (b || false) ≡ true → (is_among y [] ≡ true) ⊎ (y ≡ x)
        go true e k = inr (same_name-is y x e)
        go false e k = absurd (cc)
    split y x (m ∷ ms) h = go (same_name y m) h (split y x ms)
      where
        go : (b : Bool) → (b || is_among y (ms ++ x ∷ [])) ≡ true → (is_among y (ms ++ x ∷ []) ≡ true → (is_among y ms ≡ true) ⊎ (y ≡ x)) → ((b || is_among y ms) ≡ true) ⊎ (y ≡ x)
        go true k more = inl refl
        go false k more = more k

    with_more : (ms ns : List Name) (x : Name) → W x → InUnit ms ns → InUnit (ms ++ x ∷ []) (x ∷ ns)
    with_more ms ns x d v = record { known = λ y h. go y (split y x ms h); unit = λ y h. among_front y ms (x ∷ []) (v.unit y h) }
      where
        old : (y : Name) → (is_among y [] ≡ true) ⊎ K ns y → (is_among y [] ≡ true) ⊎ K (x ∷ ns) y
        old y (inl e) = inl e
        old y (inr k) = inr (tells.older x y ns k)

        go : (y : Name) → (is_among y ms ≡ true) ⊎ (y ≡ x) → (is_among y [] ≡ true) ⊎ K (x ∷ ns) y
        go y (inl e) = old y (v.known y e)
        go y (inr e) = inr (subst (λ z. K (x ∷ ns) z) (sym e) (tells.newest x ns d))

    path_fine : (ms ns : List Name) (a : Around) (ss : List Step) → IsAt home false a → (a.hidden ≡ false) × (a.indexed ≡ false) → InUnit ms ns → PathSpoken ss → AllP (path_uses ms a ss) → PathFine N C B W A M Y ns ss
    path_fine ms ns a [] w f v s h = tt
    path_fine ms ns a (step.Index e ∷ ss) w f v s h =
        let x = uses ms a e in let y = path_uses ms a ss in (expr ms ns a e w f v s.0 (l x y h), path_fine ms ns a ss w f v s.1 (r x y h))
    path_fine ms ns a (step.Field x ∷ ss) w f v s h = path_fine ms ns a ss w f v s.1 h.1

    inner_known : (ms ns : List Name) (x : Name) → InUnit ms ns → is_among x ms ≡ true → K ns x
    inner_known ms ns x v h = go (v.known x h)
      where
        go : (false ≡ true) ⊎ K ns x → K ns x
        go (inl e) = absurd (cc)
        go (inr k) = k

    assigns_fine : (ms ns : List Name) (a : Around) (as' : List Assignment) → IsAt home false a → (a.hidden ≡ false) × (a.indexed ≡ false) → InUnit ms ns → AssignmentsSpoken as' → AllP (assignment_uses ms a as') → AssignsFine N C B W A M Y ns as'
    assigns_fine ms ns a [] w f v s h = tt
    assigns_fine ms ns a (b ∷ bs) w f v s h =
        let n = placed ms a b.left.name (forms.Assigned (shape_of b.left.path)) in
        let at' = at_place b.left.name.place a in
        let x = path_uses ms at' b.left.path in
        let y = uses ms at' b.right in
        let z = assignment_uses ms a bs in
        let k = l (n ++ x ++ y) z h in
        let left = l n x (l (n ++ x) y k) in (
          tells.assigned ns (record { name = b.left.name.name; form = forms.Assigned (shape_of b.left.path); inner = is_among b.left.name.name ms; around = at' }) (shape_of b.left.path) left.0 w refl (λ i. inner_known ms ns b.left.name.name v i),
          path_fine ms ns at' b.left.path w f v s.0 (r n x (l (n ++ x) y k)),
          expr ms ns at' b.right w f v s.1 (r (n ++ x) y k),
          assigns_fine ms ns a bs w f v s.2 (r (n ++ x ++ y) z h),
        )

    fresh_name : (x : Name) (ms : List Name) → Within qs ms → is_among x ms ≡ false → is_among x qs ≡ false
    fresh_name x ms u h = go (is_among x qs) refl
      where
        go : (b : Bool) → is_among x qs ≡ b → is_among x qs ≡ false
        go true e = absurd (let q : true ≡ false = sym (u x e) ∙ h in cc)
        go false e = e

    withs_fine : (ms ns : List Name) (a : Around) (ws : List WithName) → IsAt home false a → (a.hidden ≡ false) × (a.indexed ≡ false) → InUnit ms ns → WithsSpoken ws → AllP (with_uses ms a ws) → WithsFine N C B W A M Y ns ws
    withs_fine ms ns a [] w f v s h = tt
    withs_fine ms ns a (x ∷ xs) w f v s h =
        let n = placed ms a x.name forms.Named in
        let at' = at_place x.name.place a in
        let y = uses ms at' (origin_tree x.origin) in
        let z = with_uses (ms ++ x.name.name ∷ []) a xs in
        let k = l (n ++ y) z h in
        let here = l n y k in
        let d = tells.named (record { name = x.name.name; form = forms.Named; inner = is_among x.name.name ms; around = at' }) here.0 w refl (λ i. fresh_name x.name.name ms v.unit i) in (
          d,
          expr ms ns at' (origin_tree x.origin) w f v s.0 (r n y k),
          withs_fine (ms ++ x.name.name ∷ []) (x.name.name ∷ ns) a xs w f (with_more ms ns x.name.name d v) s.1 (r (n ++ y) z h),
        )

    append_names : (ms : List Name) (x : Name) (xs : List Name) → (ms ++ x ∷ []) ++ xs ≡ ms ++ (x ∷ xs)
    append_names ms x xs = append_assoc ms (x ∷ []) xs

    withs_around : (ms ns : List Name) (ws : List WithName) → WithsFine N C B W A M Y ns ws → InUnit ms ns → InUnit (ms ++ with_names ws) (in_with ns ws)
    withs_around ms ns [] g v = subst (λ z. InUnit z ns) (sym (append-nil ms)) v
    withs_around ms ns (x ∷ xs) g v =
        subst (λ z. InUnit z (in_with (x.name.name ∷ ns) xs)) (append_names ms x.name.name (with_names xs)) (withs_around (ms ++ x.name.name ∷ []) (x.name.name ∷ ns) xs g.2 (with_more ms ns x.name.name g.0 v))

    mutual
      pub fine : (t : Statement) (b : Bool) (ms ns : List Name) (a : Around) → Free b t → IsAt home false a → (a.hidden ≡ false) × (a.indexed ≡ false) → InUnit ms ns → StatementSpoken Y t → AllP (statement_uses ms a t) → Fine N C B W A M Y b ns t
      fine (skip p) b ms ns a e w f v s h = tt
      fine (assign p as') b ms ns a e w f v s h = assigns_fine ms ns a as' w f v s h
      fine (if_then p bs) b ms ns a e w f v s h = guarded_fine bs b ms ns a (may_then b p bs e) w f v s h
      fine (if_else p bs t) b ms ns a e w f v s h =
          let x = uses_of_branches ms a bs in
          let y = statement_uses ms a t in
          let k = may_else b p bs t e in
          (guarded_fine bs b ms ns a k.0 w f v s.0 (l x y h), fine t b ms ns a k.1 w f v s.1 (r x y h))
      fine (while_do p c t) b ms ns a e w f v s h =
          let x = uses ms (at_place p a) c in
          let y = statement_uses ms a t in
          (expr ms ns (at_place p a) c w f v s.0 (l x y h), fine t b ms ns a (may_while b p c t e) w f v s.1 (r x y h))
      fine (either_of p ts) b ms ns a e w f v s h = each_fine ts b ms ns a (may_either b p ts e) w f v s h
      fine (await_that p c) b ms ns a e w f v s h = expr ms ns (at_place p a) c w f v s h
      fine (with_in p ws t) b ms ns a e w f v s h =
          let x = with_uses ms a ws in
          let y = statement_uses (ms ++ with_names ws) a t in
          let g = withs_fine ms ns a ws w f v s.0 (l x y h) in
          (g, fine t false (ms ++ with_names ws) (in_with ns ws) a (may_with b p ws t e) w f (withs_around ms ns ws g v) s.1 (r x y h))
      fine (print_out p c) b ms ns a e w f v s h = expr ms ns (at_place p a) c w f v s h
      fine (assert_that p c) b ms ns a e w f v s h = expr ms ns (at_place p a) c w f v s h
      fine (go_to p x) b ms ns a e w f v s h = tt
      fine (call_macro p m ts) b ms ns a e w f v s h =
          let x = placed ms a m (forms.Called ts) in
          let y = argument_uses ms (as_passed (at_place m.place a)) ts in
          tells.called ns ms a m ts h.0 w f v.known v.unit s (r x y h)
      fine (yield_as p c) b ms ns a e w f v s h = (s.0, expr ms ns (at_place p a) c w f v s.1 h)
      fine (block p ls) b ms ns a e w f v s h = labeled_fine ls b ms ns a (may_block b p ls e) w f v s h

      each_fine : (ts : Statements) (b : Bool) (ms ns : List Name) (a : Around) → EachMay b ts → IsAt home false a → (a.hidden ≡ false) × (a.indexed ≡ false) → InUnit ms ns → EachSpoken Y ts → AllP (uses_of_alternatives ms a ts) → EachFine N C B W A M Y b ns ts
      each_fine no_statements b ms ns a e w f v s h = tt
      each_fine (more_statements t ts) b ms ns a e w f v s h =
          let x = statement_uses ms a t in
          let y = uses_of_alternatives ms a ts in
          let k = may_each b t ts e in
          (fine t b ms ns a k.0 w f v s.0 (l x y h), each_fine ts b ms ns a k.1 w f v s.1 (r x y h))

      pub labeled_fine : (ls : LabeledStatements) (b : Bool) (ms ns : List Name) (a : Around) → LabeledMay b ls → IsAt home false a → (a.hidden ≡ false) × (a.indexed ≡ false) → InUnit ms ns → LabeledSpoken Y ls → AllP (uses_of_block ms a ls) → LabeledFine N C B W A M Y b ns ls
      labeled_fine no_labeled b ms ns a e w f v s h = tt
      labeled_fine (more_labeled x t ls) b ms ns a e w f v s h =
          let n = label_uses ms a x in
          let y = statement_uses ms a t in
          let z = uses_of_block ms a ls in
          let k = may_label b x t ls e in
          (k.0, fine t b ms ns a k.1 w f v s.0 (r n y (l (n ++ y) z h)), labeled_fine ls b ms ns a k.2 w f v s.1 (r (n ++ y) z h))

      guarded_fine : (bs : GuardedStatements) (b : Bool) (ms ns : List Name) (a : Around) → GuardedMay b bs → IsAt home false a → (a.hidden ≡ false) × (a.indexed ≡ false) → InUnit ms ns → GuardedSpoken Y bs → AllP (uses_of_branches ms a bs) → GuardedFine N C B W A M Y b ns bs
      guarded_fine no_guarded b ms ns a e w f v s h = tt
      guarded_fine (more_guarded p c t bs) b ms ns a e w f v s h =
          let x = uses ms (at_place p a) c in
          let y = statement_uses ms a t in
          let z = uses_of_branches ms a bs in
          let k = may_guarded b p c t bs e in
          (expr ms ns (at_place p a) c w f v s.0 (l x y (l (x ++ y) z h)), fine t b ms ns a k.0 w f v s.1 (r x y (l (x ++ y) z h)), guarded_fine bs b ms ns a k.1 w f v s.2 (r (x ++ y) z h))
