-- How names stand in an expression follows from what holds of the uses that are listed of it.
use Rattle.std.proofs.Common.{◌≡◌, ℕ, suc, Bool, true, false, ◌||◌, List, [], ◌∷◌, ◌++◌, refl, ap, sym, ◌∙◌, subst, inl, inr}
use Rattle.std.specs.Prelude.{◌⊎◌}
use Rattle.std.specs.List.{AllByRecursion}
use Rattle.pgo_base.specs.Lookup.{Name, same_name}
use Rattle.pgo_base.specs.Tree.{Tree, name, primed, number, text, truth, at, word, unary, binary, product, cond_of, case_of, case_other, let_in, quantified, choose, tuple, set_of, filter_of, image, fun_of, fun_set, record_of, record_set, except, index, field, call, unchanged, Trees, no_trees, more_trees, NamedTrees, no_named, more_named, TreePairs, no_arms, more_arms, BoundTrees, no_bound, more_bound, PathTrees, no_paths, more_paths}
use Rattle.pgo_model.specs.Names.{is_among}
use Rattle.pgo_sections.specs.Bound.{names_of, names_bound, below}
use Rattle.pgo_sections.specs.Plain.{All}
use Rattle.pgo_uses.specs.Uses.{one, inside, hide, count_trees, let_names, binder_names, bound_uses, uses, uses_of_all, uses_of_fields, uses_of_arms, uses_of_let, uses_of_binders, uses_of_updates}
use Rattle.pgo_uses.specs.declared.uses.Around.{Around}
use Rattle.pgo_uses.specs.declared.uses.Form.TheVariants as forms
use Rattle.pgo_uses.specs.declared.uses.Home.{Home}
use Rattle.pgo_uses.specs.declared.uses.Use.{Use}
use Rattle.pgo_agrees.specs.Spoken.{Spoken, AllSpoken, ArmsSpoken, NamedSpoken, BoundSpoken, PathsSpoken}
use Rattle.pgo_agrees.proofs.Stands.{Stands, AllStand, ArmsStand, FieldsStand, LetStand, BoundStand, PathsStand, behind}
use Rattle.pgo_agrees.proofs.EachToken.{cut}

-- names in scope are bound within the expression, or meet K
abbrev pub Known : (Name → Type 0) → List Name → List Name → Type 0
Known K ns u = (x : Name) → is_among x ns ≡ true → (is_among x u ≡ true) ⊎ K x

pub member_split : (x : Name) (ns ys : List Name) → is_among x (ns ++ ys) ≡ true → (is_among x ns ≡ true) ⊎ (is_among x ys ≡ true)
member_split x [] ys h = inr h
member_split x (n ∷ ns) ys h = go (same_name x n) h (member_split x ns ys)
  where
    go : (b : Bool) → (b || is_among x (ns ++ ys)) ≡ true → (is_among x (ns ++ ys) ≡ true → (is_among x ns ≡ true) ⊎ (is_among x ys ≡ true)) → ((b || is_among x ns) ≡ true) ⊎ (is_among x ys ≡ true)
    go true k more = inl refl
    go false k more = more k

member_below : (x : Name) (ys u : List Name) → is_among x ys ≡ true → is_among x (below ys u) ≡ true
member_below x [] u h = absurd (cc)
member_below x (y ∷ ys) u h = go (same_name x y) refl h (member_below x ys (y ∷ u))
  where
    go : (b : Bool) → same_name x y ≡ b → (b || is_among x ys) ≡ true → (is_among x ys ≡ true → is_among x (below ys (y ∷ u)) ≡ true) → is_among x (below ys (y ∷ u)) ≡ true
    go true e k more = behind ys (y ∷ u) x (ap (λ c. c || is_among x u) e)
    go false e k more = more k

known_below : (K : Name → Type 0) (ys ns u : List Name) → Known K ns u → Known K (ns ++ ys) (below ys u)
known_below K ys ns u k x h = go (member_split x ns ys h)
  where
    under : (is_among x u ≡ true) ⊎ K x → (is_among x (below ys u) ≡ true) ⊎ K x
    under (inl e) = inl (behind ys u x e)
    under (inr e) = inr e

    go : (is_among x ns ≡ true) ⊎ (is_among x ys ≡ true) → (is_among x (below ys u) ≡ true) ⊎ K x
    go (inl e) = under (k x e)
    go (inr e) = inl (member_below x ys u e)

let_same : (ds : NamedTrees) → let_names ds ≡ names_of ds
let_same no_named = refl
let_same (more_named x t ds) = ap (λ ns. x ∷ ns) (let_same ds)

binders_same : (bs : BoundTrees) → binder_names bs ≡ names_bound bs
binders_same no_bound = refl
binders_same (more_bound xs r bs) = ap (λ ns. xs ++ ns) (binders_same bs)

known_let : (K : Name → Type 0) (ds : NamedTrees) (ns u : List Name) → Known K ns u → Known K (ns ++ let_names ds) (below (names_of ds) u)
known_let K ds ns u k = subst (λ ys. Known K (ns ++ let_names ds) (below ys u)) (let_same ds) (known_below K (let_names ds) ns u k)

known_bound : (K : Name → Type 0) (bs : BoundTrees) (ns u : List Name) → Known K ns u → Known K (ns ++ binder_names bs) (below (names_bound bs) u)
known_bound K bs ns u k = subst (λ ys. Known K (ns ++ binder_names bs) (below ys u)) (binders_same bs) (known_below K (binder_names bs) ns u k)

-- where the uses are: of this home, in an argument of a macro's call or not
abbrev pub IsAt : Home → Bool → Around → Type 0
IsAt home passed a = (a.home ≡ home) × (a.passed ≡ passed)

pub record Tells (P : Use → Type 0) (home : Home) (passed : Bool) (N : Bool → Bool → Name → Type 0) (C B K : Name → Type 0) : Type 0 where
  pub alone : (u : Use) → P u → IsAt home passed u.around → u.form ≡ forms.Alone → (u.inner ≡ true → K u.name) → N u.around.hidden u.around.indexed u.name
  pub applied : (u : Use) (n : ℕ) → P u → IsAt home passed u.around → u.form ≡ forms.Applied (suc n) → C u.name
  pub binds : (u : Use) → P u → IsAt home passed u.around → u.form ≡ forms.Bound → B u.name

module _ (P : Use → Type 0) (home : Home) (passed : Bool) (N : Bool → Bool → Name → Type 0) (C B K : Name → Type 0) (tells : Tells P home passed N C B K) where
  abbrev pub AllFine : List Use → Type 0
  AllFine us = AllByRecursion P us

  abbrev l : (xs ys : List Use) → AllFine (xs ++ ys) → AllFine xs
  l xs ys h = (cut P xs ys h).0

  abbrev r : (xs ys : List Use) → AllFine (xs ++ ys) → AllFine ys
  r xs ys h = (cut P xs ys h).1

  bound_name : (ns : List Name) (a : Around) (x : Name) → IsAt home passed a → AllFine (one ns a x forms.Bound) → B x
  bound_name ns a x w h = tells.binds (record { name = x; form = forms.Bound; inner = is_among x ns; around = a }) h.0 w refl

  pub bound_names : (ms : List Name) (a : Around) (xs : List Name) → IsAt home passed a → AllFine (bound_uses ms a xs) → All B xs
  bound_names ms a [] w h = tt
  bound_names ms a (x ∷ xs) w h = (bound_name ms a x w (h.0, tt), bound_names (ms ++ x ∷ []) a xs w h.1)

  alone_stands : (ns u : List Name) (a : Around) (x : Name) → IsAt home passed a → Known K ns u → P (record { name = x; form = forms.Alone; inner = is_among x ns; around = a }) → (is_among x u ≡ true) ⊎ N a.hidden a.indexed x
  alone_stands ns u a x w k h = go (is_among x ns) refl
    where
      known : (is_among x u ≡ true) ⊎ K x → (is_among x u ≡ true) ⊎ N a.hidden a.indexed x
      known (inl e) = inl e
      known (inr e) = inr (tells.alone (record { name = x; form = forms.Alone; inner = is_among x ns; around = a }) h w refl (λ g. e))

      go : (b : Bool) → is_among x ns ≡ b → (is_among x u ≡ true) ⊎ N a.hidden a.indexed x
      go true e = known (k x e)
      go false e = inr (tells.alone (record { name = x; form = forms.Alone; inner = is_among x ns; around = a }) h w refl (λ g. absurd (let q : true ≡ false = sym g ∙ e in cc)))

  mutual
    pub stands : (ns u : List Name) (a : Around) (t : Tree) → IsAt home passed a → Known K ns u → Spoken t → AllFine (uses ns a t) → Stands N C B u a.hidden a.indexed t
    stands ns u a (name x) w k s h = alone_stands ns u a x w k h.0
    stands ns u a (primed x) w k s h = absurd s
    stands ns u a (number z) w k s h = tt
    stands ns u a (text x) w k s h = tt
    stands ns u a (truth b) w k s h = tt
    stands ns u a at w k s h = tt
    stands ns u a (word x) w k s h = tt
    stands ns u a (unary o t) w k s h = stands ns u (inside a) t w k s h
    stands ns u a (binary o t v) w k s h =
        let x = uses ns (inside a) t in
        let y = uses ns (inside a) v in
        (stands ns u (inside a) t w k s.0 (l x y h), stands ns u (inside a) v w k s.1 (r x y h))
    stands ns u a (product ts) w k s h = all_stand ns u (inside a) ts w k s h
    stands ns u a (cond_of p t v) w k s h =
        let x = uses ns (inside a) p in
        let y = uses ns (hide a) t in
        let z = uses ns (hide a) v in (
          stands ns u (inside a) p w k s.0 (l x y (l (x ++ y) z h)),
          stands ns u (hide a) t w k s.1 (r x y (l (x ++ y) z h)),
          stands ns u (hide a) v w k s.2 (r (x ++ y) z h),
        )
    stands ns u a (case_of gs) w k s h = arms_stand ns u (inside a) (hide a) gs refl (refl, refl) w w k s h
    stands ns u a (case_other gs t) w k s h =
        let x = uses_of_arms ns (inside a) (hide a) gs in
        let y = uses ns (hide a) t in
        (arms_stand ns u (inside a) (hide a) gs refl (refl, refl) w w k s.0 (l x y h), stands ns u (hide a) t w k s.1 (r x y h))
    stands ns u a (let_in ds t) w k s h =
        let x = uses_of_let ns a ds in
        let y = uses (ns ++ let_names ds) (hide a) t in
        let d = let_stands ns u a ds w k s.0 (l x y h) in
        (d, stands (ns ++ let_names ds) (below (names_of ds) u) (hide a) t w (known_let K ds ns u k) s.1 (r x y h))
    stands ns u a (quantified q bs p) w k s h =
        let x = uses_of_binders ns ns a bs in
        let y = uses (ns ++ binder_names bs) (hide a) p in
        let b = bound_stand ns ns u a bs w k s.0 (l x y h) in
        (b, stands (ns ++ binder_names bs) (below (names_bound bs) u) (hide a) p w (known_bound K bs ns u k) s.1 (r x y h))
    stands ns u a (choose x t p) w k s h =
        let b = bound_name ns a x w (h.0, tt) in
        let y = uses ns (inside a) t in
        let z = uses (ns ++ x ∷ []) (hide a) p in (
          b,
          stands ns u (inside a) t w k s.0 (l y z h.1),
          stands (ns ++ x ∷ []) (x ∷ u) (hide a) p w (known_below K (x ∷ []) ns u k) s.1 (r y z h.1),
        )
    stands ns u a (tuple ts) w k s h = all_stand ns u (inside a) ts w k s h
    stands ns u a (set_of ts) w k s h = all_stand ns u (inside a) ts w k s h
    stands ns u a (filter_of x t p) w k s h =
        let b = bound_name ns a x w (h.0, tt) in
        let y = uses ns (inside a) t in
        let z = uses (ns ++ x ∷ []) (hide a) p in (
          b,
          stands ns u (inside a) t w k s.0 (l y z h.1),
          stands (ns ++ x ∷ []) (x ∷ u) (hide a) p w (known_below K (x ∷ []) ns u k) s.1 (r y z h.1),
        )
    stands ns u a (image e x t) w k s h =
        let y = uses (ns ++ x ∷ []) (hide a) e in
        let o = one ns a x forms.Bound in
        let z = uses ns (inside a) t in
        let b = bound_name ns a x w (r y o (l (y ++ o) z h)) in (
          b,
          stands ns u (inside a) t w k s.1 (r (y ++ o) z h),
          stands (ns ++ x ∷ []) (x ∷ u) (hide a) e w (known_below K (x ∷ []) ns u k) s.0 (l y o (l (y ++ o) z h)),
        )
    stands ns u a (fun_of bs e) w k s h =
        let x = uses_of_binders ns ns a bs in
        let y = uses (ns ++ binder_names bs) (hide a) e in
        let b = bound_stand ns ns u a bs w k s.0 (l x y h) in
        (b, stands (ns ++ binder_names bs) (below (names_bound bs) u) (hide a) e w (known_bound K bs ns u k) s.1 (r x y h))
    stands ns u a (fun_set t v) w k s h =
        let x = uses ns (inside a) t in
        let y = uses ns (inside a) v in
        (stands ns u (inside a) t w k s.0 (l x y h), stands ns u (inside a) v w k s.1 (r x y h))
    stands ns u a (record_of ds) w k s h = fields_stand ns u a ds w k s h
    stands ns u a (record_set ds) w k s h = fields_stand ns u a ds w k s h
    stands ns u a (except t us) w k s h =
        let x = uses ns (inside a) t in
        let y = uses_of_updates ns (inside a) us in
        (stands ns u (inside a) t w k s.0 (l x y h), updates_stand ns u (inside a) us w k s.1 (r x y h))
    stands ns u a (index t no_trees) w k s h = (stands ns u (inside a) t w k s.0 (l (uses ns (inside a) t) [] h), tt)
    stands ns u a (index t (more_trees v no_trees)) w k s h =
        let x = uses ns (record a { indexed = true }) t in
        let y = uses_of_all ns (inside a) (more_trees v no_trees) in
        (stands ns u (record a { indexed = true }) t w k s.0 (l x y h), all_stand ns u (inside a) (more_trees v no_trees) w k s.1 (r x y h))
    stands ns u a (index t (more_trees v (more_trees z zs))) w k s h =
        let x = uses ns (inside a) t in
        let y = uses_of_all ns (inside a) (more_trees v (more_trees z zs)) in
        (stands ns u (inside a) t w k s.0 (l x y h), all_stand ns u (inside a) (more_trees v (more_trees z zs)) w k s.1 (r x y h))
    stands ns u a (field t x) w k s h = stands ns u (inside a) t w k s (l (uses ns (inside a) t) (one ns a x forms.Field) h)
    stands ns u a (call x no_trees) w k s h = absurd s.0
    stands ns u a (call x (more_trees t ts)) w k s h = (
      tells.applied (record { name = x; form = forms.Applied (suc (count_trees ts)); inner = is_among x ns; around = a }) (count_trees ts) h.0 w refl,
      all_stand ns u (inside a) (more_trees t ts) w k s.1 h.1,
    )
    stands ns u a (unchanged xs) w k s h = absurd s

    all_stand : (ns u : List Name) (a : Around) (ts : Trees) → IsAt home passed (inside a) → Known K ns u → AllSpoken ts → AllFine (uses_of_all ns (inside a) ts) → AllStand N C B u a.hidden ts
    all_stand ns u a no_trees w k s h = tt
    all_stand ns u a (more_trees t ts) w k s h =
        let x = uses ns (inside a) t in
        let y = uses_of_all ns (inside a) ts in
        (stands ns u (inside a) t w k s.0 (l x y h), all_stand ns u a ts w k s.1 (r x y h))

    fields_stand : (ns u : List Name) (a : Around) (ds : NamedTrees) → IsAt home passed a → Known K ns u → NamedSpoken ds → AllFine (uses_of_fields ns a ds) → FieldsStand N C B u a.hidden ds
    fields_stand ns u a no_named w k s h = tt
    fields_stand ns u a (more_named x t ds) w k s h =
        let o = one ns a x forms.Field in
        let y = uses ns (inside a) t in
        let z = uses_of_fields ns a ds in
        (stands ns u (inside a) t w k s.0 (r o y (l (o ++ y) z h)), fields_stand ns u a ds w k s.1 (r (o ++ y) z h))

    arms_stand : (ns u : List Name) (g b : Around) (gs : TreePairs) → g.indexed ≡ false → (b.hidden ≡ true) × (b.indexed ≡ false) → IsAt home passed g → IsAt home passed b → Known K ns u → ArmsSpoken gs → AllFine (uses_of_arms ns g b gs) → ArmsStand N C B u g.hidden gs
    arms_stand ns u g b no_arms e f w v k s h = tt
    arms_stand ns u g b (more_arms p t gs) e f w v k s h =
        let x = uses ns g p in
        let y = uses ns b t in
        let z = uses_of_arms ns b b gs in (
          subst (λ i. Stands N C B u g.hidden i p) e (stands ns u g p w k s.0 (l x y (l (x ++ y) z h))),
          subst (λ i. Stands N C B u true i t) f.1 (subst (λ i. Stands N C B u i b.indexed t) f.0 (stands ns u b t v k s.1 (r x y (l (x ++ y) z h)))),
          subst (λ i. ArmsStand N C B u i gs) f.0 (arms_stand ns u b b gs f.1 f v v k s.2 (r (x ++ y) z h)),
        )

    let_stands : (ns u : List Name) (a : Around) (ds : NamedTrees) → IsAt home passed a → Known K ns u → NamedSpoken ds → AllFine (uses_of_let ns a ds) → LetStand N C B u ds
    let_stands ns u a no_named w k s h = tt
    let_stands ns u a (more_named x t ds) w k s h =
        let b = bound_name ns a x w (h.0, tt) in
        let y = uses ns (hide a) t in
        let z = uses_of_let (ns ++ x ∷ []) a ds in
        let d = let_stands (ns ++ x ∷ []) (x ∷ u) a ds w (known_below K (x ∷ []) ns u k) s.1 (r y z h.1) in
        (b, stands ns u (hide a) t w k s.0 (l y z h.1), d)

    bound_stand : (ns ms u : List Name) (a : Around) (bs : BoundTrees) → IsAt home passed a → Known K ns u → BoundSpoken bs → AllFine (uses_of_binders ns ms a bs) → BoundStand N C B u a.hidden bs
    bound_stand ns ms u a no_bound w k s h = tt
    bound_stand ns ms u a (more_bound xs t bs) w k s h =
        let x = bound_uses ms a xs in
        let y = uses ns (inside a) t in
        let z = uses_of_binders ns (ms ++ xs) a bs in
        let b = bound_names ms a xs w (l x y (l (x ++ y) z h)) in
        let d = bound_stand ns (ms ++ xs) u a bs w k s.1 (r (x ++ y) z h) in
        (b, stands ns u (inside a) t w k s.0 (r x y (l (x ++ y) z h)), d)

    updates_stand : (ns u : List Name) (a : Around) (us : PathTrees) → IsAt home passed (inside a) → Known K ns u → PathsSpoken us → AllFine (uses_of_updates ns (inside a) us) → PathsStand N C B u a.hidden us
    updates_stand ns u a no_paths w k s h = tt
    updates_stand ns u a (more_paths ps t us) w k s h =
        let x = uses_of_all ns (inside a) ps in
        let y = uses ns (inside a) t in
        let z = uses_of_updates ns (inside a) us in (
          all_stand ns u a ps w k s.0 (l x y (l (x ++ y) z h)),
          stands ns u (inside a) t w k s.1 (r x y (l (x ++ y) z h)),
          updates_stand ns u a us w k s.2 (r (x ++ y) z h),
        )
