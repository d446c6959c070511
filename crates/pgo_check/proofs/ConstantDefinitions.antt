-- An expression that speaks of no state, by its operands; and definitions that are the same in every state.
use Rattle.std.proofs.Common.{◌≡◌, ℕ, ◌+◌, ◌<◌, ◌≤◌, get_or, map, take, Bool, true, false, not, if◌then◌else◌, List, [], ◌∷◌, ◌++◌, length, ◌==◌, Option, Some, None, refl, sym, ap, subst, ◌∙◌}
use Rattle.std.specs.Prelude.{cond, is_some}
use Rattle.std.specs.List.{AllByRecursion}
use denote.Ref.{Bor}
use Rattle.std.proofs.lemmas.List.{map-append, map_push, take_more, take_all}
use Rattle.std.proofs.lemmas.List.Sums.{fold-append}
use Rattle.pgo_base.specs.Data.{Data}
use Rattle.pgo_base.specs.Lookup.{Name, Vars, same_name, find}
use Rattle.pgo_base.specs.LastPlace.{defined_name}
use Rattle.pgo_base.specs.ExprView.{tree as expr_tree}
use Rattle.pgo_base.specs.NameMaps.{found, has_name}
use Rattle.pgo_base.specs.declared.expr.Expr.{Expr}
use Rattle.pgo_base.specs.declared.module.Defined as base_defined
use Rattle.pgo_base.specs.declared.module.Defined.TheVariants as base_variants
use Rattle.pgo_base.specs.declared.name_map.NameMap.{NameMap}
use Rattle.pgo_base.specs.Tree.{Tree, name, primed, number, text, truth, at, word, unary, binary, product, cond_of, case_of, case_other, let_in, quantified, choose, tuple, set_of, filter_of, image, fun_of, fun_set, record_of, record_set, except, index, field, call, unchanged, Trees, no_trees, more_trees, NamedTrees, no_named, more_named, TreePairs, no_arms, more_arms, BoundTrees, no_bound, more_bound, PathTrees, no_paths, more_paths}
use Rattle.pgo_model.specs.ModuleView.{defined_view}
use Rattle.pgo_model.specs.Val.{Defined, Given, Means, Val, Meaning, seen, name_values, call_def, meaning_of, meanings, constant_meaning, body_meaning, default_meaning}
use Rattle.pgo_sections.specs.Plain.{All, PlainAll, PlainArms, PlainFields, PlainLet, PlainBound, PlainPaths}
use Rattle.pgo_operands.specs.Operands.{lent_trees, members, named_members, arm_members, bound_members, path_members, operands}
use Rattle.pgo_check.specs.Assigned.{HasVariablesOf}
use Rattle.pgo_check.specs.Constants.{IsFixed, IsAny, IsConstant, is_fixed, IsConstantDefinition, IsSameBody, IsSame, IsOver, MeansSame, name_of}
use Rattle.pgo_check.proofs.AlikeScopes.{sem_alike}

any_names : (xs : List Name) → All IsAny xs
any_names [] = tt
any_names (x ∷ xs) = (tt, any_names xs)

not_varying : (b : Bool) → not b ≡ true → b ≡ false
not_varying true h = absurd (cc)
not_varying false h = refl

module _ (varies : Name → Bool) where
  abbrev Each : List Tree → Type 0
  Each ts = AllByRecursion (IsConstant varies) ts

  first_of : (t : Tree) (ts : List Tree) → Each (t ∷ ts) → IsConstant varies t
  first_of t ts h = h.0

  later_of : (t : Tree) (ts : List Tree) → Each (t ∷ ts) → Each ts
  later_of t ts h = h.1

  front : (ts us : List Tree) → Each (ts ++ us) → Each ts
  front [] us h = tt
  front (t ∷ ts) us h = (h.0, front ts us h.1)

  back : (ts us : List Tree) → Each (ts ++ us) → Each us
  back [] us h = h
  back (t ∷ ts) us h = back ts us h.1

  together : (ts us : List Tree) → Each ts → Each us → Each (ts ++ us)
  together [] us h g = g
  together (t ∷ ts) us h g = (h.0, together ts us h.1 g)

  all_of : (ts : Trees) → Each (members ts) → PlainAll (IsFixed varies) (IsFixed varies) IsAny ts
  all_of no_trees h = tt
  all_of (more_trees t ts) h = (h.0, all_of ts h.1)

  fields_of : (ds : NamedTrees) → Each (named_members ds) → PlainFields (IsFixed varies) (IsFixed varies) IsAny ds
  fields_of no_named h = tt
  fields_of (more_named x t ds) h = (h.0, fields_of ds h.1)

  let_of : (ds : NamedTrees) → Each (named_members ds) → PlainLet (IsFixed varies) (IsFixed varies) IsAny ds
  let_of no_named h = tt
  let_of (more_named x t ds) h = (tt, h.0, let_of ds h.1)

  arms_of : (gs : TreePairs) → Each (arm_members gs) → PlainArms (IsFixed varies) (IsFixed varies) IsAny gs
  arms_of no_arms h = tt
  arms_of (more_arms g e gs) h =
      let later = later_of g (e ∷ arm_members gs) h in
      (first_of g (e ∷ arm_members gs) h, first_of e (arm_members gs) later, arms_of gs (later_of e (arm_members gs) later))

  bound_of : (bs : BoundTrees) → Each (bound_members bs) → PlainBound (IsFixed varies) (IsFixed varies) IsAny bs
  bound_of no_bound h = tt
  bound_of (more_bound xs r bs) h = (any_names xs, h.0, bound_of bs h.1)

  paths_of : (us : PathTrees) → Each (path_members us) → PlainPaths (IsFixed varies) (IsFixed varies) IsAny us
  paths_of no_paths h = tt
  paths_of (more_paths ps e us) h =
      let later = back (members ps) (e ∷ path_members us) h in
      (all_of ps (front (members ps) (e ∷ path_members us) h), first_of e (path_members us) later, paths_of us (later_of e (path_members us) later))

  -- where the operands of an expression are constant, so is the expression, if it is apart from them
  whole : (e : Tree) → is_fixed varies e ≡ true → Each (operands e) → IsConstant varies e
  whole (name x) f h = not_varying (varies x) f
  whole (primed x) f h = absurd (cc)
  whole (number z) f h = tt
  whole (text s) f h = tt
  whole (truth b) f h = tt
  whole at f h = tt
  whole (word w) f h = tt
  whole (unary o a) f h = first_of a [] h
  whole (binary o a b) f h = (first_of a (b ∷ []) h, first_of b [] (later_of a (b ∷ []) h))
  whole (product ts) f h = all_of ts h
  whole (cond_of p a b) f h =
      let later = later_of p (a ∷ b ∷ []) h in
      (first_of p (a ∷ b ∷ []) h, first_of a (b ∷ []) later, first_of b [] (later_of a (b ∷ []) later))
  whole (case_of gs) f h = arms_of gs h
  whole (case_other gs e) f h = (arms_of gs (front (arm_members gs) (e ∷ []) h), first_of e [] (back (arm_members gs) (e ∷ []) h))
  whole (let_in ds e) f h = (let_of ds (front (named_members ds) (e ∷ []) h), first_of e [] (back (named_members ds) (e ∷ []) h))
  whole (quantified q bs p) f h = (bound_of bs (front (bound_members bs) (p ∷ []) h), first_of p [] (back (bound_members bs) (p ∷ []) h))
  whole (choose x r p) f h = (tt, first_of r (p ∷ []) h, first_of p [] (later_of r (p ∷ []) h))
  whole (tuple ts) f h = all_of ts h
  whole (set_of ts) f h = all_of ts h
  whole (filter_of x r p) f h = (tt, first_of r (p ∷ []) h, first_of p [] (later_of r (p ∷ []) h))
  whole (image e x r) f h = (tt, first_of r [] (later_of e (r ∷ []) h), first_of e (r ∷ []) h)
  whole (fun_of bs e) f h = (bound_of bs (front (bound_members bs) (e ∷ []) h), first_of e [] (back (bound_members bs) (e ∷ []) h))
  whole (fun_set a b) f h = (first_of a (b ∷ []) h, first_of b [] (later_of a (b ∷ []) h))
  whole (record_of ds) f h = fields_of ds h
  whole (record_set ds) f h = fields_of ds h
  whole (except g us) f h = (first_of g (path_members us) h, paths_of us (later_of g (path_members us) h))
  whole (index g ts) f h = (first_of g (members ts) h, all_of ts (later_of g (members ts) h))
  whole (field r x) f h = first_of r [] h
  whole (call x ts) f h = (not_varying (varies x) f, all_of ts h)
  whole (unchanged xs) f h = absurd (cc)

  -- one expression in the place of its operands
  pub by_operands : (ts : List Tree) (e : Tree) → is_fixed varies e ≡ true → Each (ts ++ operands e) → Each (ts ++ e ∷ [])
  by_operands ts e f h = together ts (e ∷ []) (front ts (operands e) h) (whole e f (back ts (operands e) h), tt)

-- the last definition is given a meaning behind the others
last_meaning : (ds : List Defined) (d : Defined) (now : Vars) (next : Option Vars) → meanings (ds ++ d ∷ []) now next ≡ meaning_of now next (meanings ds now next) d
last_meaning ds d now next = fold-append (meaning_of now next) (default_meaning ∷ []) ds (d ∷ [])

same_body : (variables varies : Name → Bool) (made written : List Defined) → MeansSame variables varies made written → (d : Defined) → IsConstantDefinition varies d → (now : Vars) (next : Option Vars) → IsOver variables now → IsSameBody made now next d
same_body variables varies made written m (Given x v) c now next o = tt
same_body variables varies made written m (Means x ps e) c now next o =
    λ names. ap (λ k. k.value) (sem_alike varies e (seen made names now next) (seen made names [] None) (record { names = refl; part = refl; now = λ y f. o y (m.fixed y f); calls = λ y args f. m.calls now next o y args f }) c)

-- what a name means behind one more definition that is the same in every state
one_call : (made : List Defined) (d : Defined) (now : Vars) (next : Option Vars) → IsSameBody made now next d → (x : Name) (args : List Data) → call_def x args (meanings made now next) ≡ call_def x args (meanings made [] None) → call_def x args (meaning_of now next (meanings made now next) d) ≡ call_def x args (meaning_of [] None (meanings made [] None) d)
one_call made (Given y v) now next b x args e = ap (λ o. if same_name x y then (if length args == 0 then Some v else None) else o) e
one_call made (Means y ps t) now next b x args e =
    let p = b (name_values ps args []) in λ i. if same_name x y then (if length args == length ps then p i else None) else e i

-- one more definition that is the same in every state
pub constant_more : (variables varies : Name → Bool) (made written : List Defined) (d s : Defined) → IsConstantDefinition varies d → IsSame made d s → MeansSame variables varies made written → MeansSame variables varies (made ++ s ∷ []) (written ++ d ∷ [])
constant_more variables varies made written d s c h m = record {
  fixed = m.fixed;
  same = λ now next o. last_meaning made s now next ∙ (h now next (same_body variables varies made written m d c now next o)).1 ∙ ap (λ ms. meaning_of now next ms d) (m.same now next o) ∙ sym (last_meaning written d now next);
  calls = λ now next o x args f. ap (call_def x args) (last_meaning made s now next) ∙ one_call made s now next (h now next (same_body variables varies made written m d c now next o)).0 x args (m.calls now next o x args f) ∙ sym (ap (call_def x args) (last_meaning made s [] None));
}

-- a definition of another name is passed over
passed_over : (x : Name) (args : List Data) (d : Defined) (now : Vars) (next : Option Vars) (before : List Meaning) → same_name x (name_of d) ≡ false → call_def x args (meaning_of now next before d) ≡ call_def x args before
passed_over x args (Given y v) now next before h =
    let m = constant_meaning y v in
    ap (λ (b : Bool). if b then (if length args == m.arity then m.gives args else None) else call_def x args before) h
passed_over x args (Means y ps e) now next before h =
    let m = body_meaning now next before y ps e in
    ap (λ (b : Bool). if b then (if length args == m.arity then m.gives args else None) else call_def x args before) h

-- one more definition, whose name varies from here on
varying_more : (variables varies varies' : Name → Bool) (made written : List Defined) (d s : Defined) → s ≡ d → ((x : Name) → IsFixed varies' x → (same_name x (name_of d) ≡ false) × IsFixed varies x) → MeansSame variables varies made written → MeansSame variables varies' (made ++ s ∷ []) (written ++ d ∷ [])
varying_more variables varies varies' made written d s e h m =
    subst (λ c. MeansSame variables varies' (made ++ c ∷ []) (written ++ d ∷ [])) (sym e) (record {
      fixed = λ x f. m.fixed x (h x f).1;
      same = λ now next o. last_meaning made d now next ∙ ap (λ ms. meaning_of now next ms d) (m.same now next o) ∙ sym (last_meaning written d now next);
      calls = λ now next o x args f. ap (call_def x args) (last_meaning made d now next) ∙ passed_over x args d now next (meanings made now next) (h x f).0 ∙ m.calls now next o x args (h x f).1 ∙ sym (passed_over x args d [] None (meanings made [] None) (h x f).0) ∙ sym (ap (call_def x args) (last_meaning made d [] None));
    })

not_set : {A : Type 0} (b : Bool) (v : A) (o n : Option A) → n ≡ cond b (Some v) o → is_some n ≡ false → (b ≡ false) × (is_some o ≡ false)
not_set true v o n e h = absurd (let z : is_some n ≡ true = ap is_some e in cc)
not_set false v o n e h = (refl, sym (ap is_some e) ∙ h)

-- the same, where the names that vary stand in a map
pub varying_set : {V : Type 0} (variables : Name → Bool) (old new : NameMap V) (v : V) (made written : List Defined) (d s : Defined) (y : Name) → s ≡ d → y ≡ name_of d → ((x : Name) → found new x ≡ cond (same_name x y) (Some v) (found old x)) → MeansSame variables (has_name old) made written → MeansSame variables (has_name new) (made ++ s ∷ []) (written ++ d ∷ [])
varying_set variables old new v made written d s y e n h m =
    varying_more variables (has_name old) (has_name new) made written d s e (λ x f. subst (λ z. (same_name x z ≡ false) × IsFixed (has_name old) x) n (not_set (same_name x y) v (found old x) (found new x) (h x) f)) m

-- before the first definition
pub none_made : (variables : Name → Bool) → MeansSame variables variables [] []
none_made variables = record { fixed = λ x f. f; same = λ now next o. refl; calls = λ now next o x args f. refl }

-- a copy means what it is a copy of
pub copy_same : (made : List Defined) (d s : Defined) → s ≡ d → IsSame made d s
copy_same made d s e = subst (IsSame made d) (sym e) (λ now next b. (b, refl))

-- a variable more
pub variable_more : {V : Type 0} (old new : NameMap V) (v : V) (s : Vars) (y : Name) (w : Data) (rest : Vars) → ((x : Name) → found new x ≡ cond (same_name x y) (Some v) (found old x)) → ((x : Name) → has_name old x ≡ false → find x s ≡ find x ((y, w) ∷ rest)) → (x : Name) → has_name new x ≡ false → find x s ≡ find x rest
variable_more old new v s y w rest e h x f =
    let n = not_set (same_name x y) v (found old x) (found new x) (e x) f in
    h x n.1 ∙ ap (λ (b : Bool). if b then Some w else find x rest) n.0

-- the name of a definition in memory
pub name_seen : (d : base_defined.Defined) → defined_name d ≡ name_of (defined_view d)
name_seen (base_variants.Given x v) = refl
name_seen (base_variants.Means x ps e) = refl

-- one more of the definitions that are written
pub taken_more : (ds : List base_defined.Defined) (i : ℕ) (d : base_defined.Defined) (variables old new : Name → Bool) (made made' : List Defined) → i < length ds → d ≡ get_or ds i d → ((vs : Name → Bool) (written : List Defined) → MeansSame vs old made written → MeansSame vs new made' (written ++ defined_view d ∷ [])) → MeansSame variables old made (map defined_view (take i ds)) → MeansSame variables new made' (map defined_view (take (i + 1) ds))
taken_more ds i d variables old new made made' h e k m =
    subst (λ l. MeansSame variables new made' l) (sym (ap (map defined_view) (take_more ds i d h ∙ ap (λ x. take i ds ++ x ∷ []) (sym e)) ∙ map_push defined_view (take i ds) d)) (k variables (map defined_view (take i ds)) m)

-- all of them
pub all_taken : (ds : List base_defined.Defined) (i : ℕ) (start : Vars) (variables varies : Name → Bool) (made : List Defined) → length ds ≤ i → ((x : Name) → variables x ≡ false → find x start ≡ None) → MeansSame variables varies made (map defined_view (take i ds)) → (now : Vars) (next : Option Vars) → HasVariablesOf start now → meanings made now next ≡ meanings (map defined_view ds) now next
all_taken ds i start variables varies made h f m now next o = m.same now next (λ x g. o x (f x g)) ∙ ap (λ l. meanings (map defined_view l) now next) (take_all i ds h)

-- one expression of those that are left in the place of its operands
pub walked : (varies : Name → Bool) (old rest now parts : List (Bor Expr)) (one : Bor Expr) → old ≡ rest ++ one ∷ [] → now ≡ rest ++ parts → lent_trees parts ≡ operands (expr_tree one.now) → is_fixed varies (expr_tree one.now) ≡ true → AllByRecursion (IsConstant varies) (lent_trees now) → AllByRecursion (IsConstant varies) (lent_trees old)
walked varies old rest now parts one e f g k h =
    let some = subst (AllByRecursion (IsConstant varies)) (ap lent_trees f ∙ map-append (λ e. expr_tree e.now) rest parts ∙ ap (λ us. lent_trees rest ++ us) g) h in
    subst (AllByRecursion (IsConstant varies)) (sym (ap lent_trees e ∙ map_push (λ e. expr_tree e.now) rest one)) (by_operands varies (lent_trees rest) (expr_tree one.now) k some)

-- a body that has no value in the place of one that has none
pub none_same : (made : List Defined) (x : Name) (e : Tree) (s : Defined) → s ≡ Means x [] at → None ≡ Val made e [] [] None → IsSame made (Means x [] e) s
none_same made x e s k h =
    subst (IsSame made (Means x [] e)) (sym k) (λ now next b. (λ names. refl, (let p = h ∙ sym (b []) in λ i. record { name = x; arity = 0; gives = λ args. p i } ∷ meanings made now next)))
