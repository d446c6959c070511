-- Terminating is TRUE exactly where all instances are at Done and nothing changes.
use Rattle.std.proofs.Common.{◌≡◌, ◌↔◌, Bool, true, false, List, [], ◌∷◌, ◌++◌, map, Option, Some, None, refl, sym, ap, ◌∙◌, subst, inl, inr, ⊎_elim, fold, option_and_then}
use Rattle.std.specs.Prelude.{if◌then◌else◌, ◌||◌}
use Rattle.pgo_base.specs.declared.expr.Quantifier.TheVariants as quantifiers
use Rattle.pgo_base.specs.Data.{Data, string}
use Rattle.pgo_base.specs.Lookup.{Name, Vars, same_name, find}
use Rattle.pgo_base.specs.Tree.{Tree, name, bound, quantified, unchanged}
use Rattle.pgo_model.specs.Acts.{IsTrueOn}
use Rattle.pgo_model.specs.Module.{Module, defs_of, proc_set_of, process_definitions, stands_at, terminating_body}
use Rattle.pgo_model.specs.ModuleView.{defined_view}
use Rattle.pgo_model.specs.Names.{same_name-is, same_name-self, is_among}
use Rattle.pgo_model.specs.Operators.{all3, both, from_truth, members_of, truth_of}
use Rattle.pgo_model.specs.Val.{Scope, Meaning, Defined, Means, call_def, default_meaning, meaning_of, meanings, or_else, over_each, quantify, same_variables, seen, sem, val, with_name, with_names}
use Rattle.pgo_model.specs.Written.{pc, self_name, done, proc_set, terminating}
use Rattle.pgo_syntax.specs.declared.spec.Spec.{Spec}
use Rattle.pgo_bound.specs.Among.{IsAmong, among_right, among_map, among_nth, from_map, nth_among}
use Rattle.pgo_bound.specs.BoundOf.{bound_of, globals_of, instances_of}
use Rattle.pgo_bound.specs.Declares.{value_in}
use Rattle.pgo_bound.specs.Different.{ids_of_instances}
use Rattle.pgo_bound.specs.Runs.{Run, runs_of}
use Rattle.pgo_bound.specs.Sound.{WellNamed}
use Rattle.pgo_bound.specs.State.{IsState, id_of, variables_of}
use Rattle.pgo_bound.specs.Values as values
use Rattle.pgo_heads.specs.Refusals.{heads_refused}
use Rattle.pgo_translate.specs.Agrees.{AllDone, IsUnchanged}
use Rattle.pgo_translate.specs.ModuleOf.{constants_with}
use Rattle.pgo_translate.specs.Premises.{ModuleNames, StartNames, is_further, process_names}
use Rattle.pgo_translate.proofs.Actions.{among_left, apart_from_all, call_further, defined_name, fold_append, module_defs, named_known, process_defined, stands-over}
use Rattle.pgo_translate.proofs.ByProcess.{own_module, written_process}
use Rattle.pgo_translate.proofs.Kleene.{is_true, iff_then, pair_iff, lone_iff, AllSame, all-yes, same-yes}
use Rattle.pgo_translate.proofs.Sets.{SetsOrdered}
use Rattle.pgo_translate.proofs.Starts.{among_is, gathered, joined_all, own, own_set}
use Rattle.pgo_translate.proofs.StartValues.{not_found}
use Rattle.pgo_translate.proofs.Truths.{and3-yes, from_truth-yes, truth_of-yes}

-- Terminating is TRUE
abbrev pub HasEnded : Module → List (Name × Data) → Vars → Vars → Type 0
HasEnded m consts s t = IsTrueOn m consts [] s (Some t) (name terminating)

-- all members are what is asked for
all3-yes : (p : Data → Option Bool) (ms : List Data) → (all3 p ms ≡ Some true) ↔ ((v : Data) → IsAmong v ms → p v ≡ Some true)
all3-yes p [] = (λ h v m. absurd m, λ h. refl)
all3-yes p (m ∷ ms) =
    let r = all3-yes p ms in
    let a = and3-yes (p m) (all3 p ms) in (
      λ h v k. (let q = a.0 h in ⊎_elim (λ e. ap p e ∙ q.0) (λ n. r.0 q.1 v n) k),
      λ h. a.1 (h m (inl refl), r.1 (λ v k. h v (inr k))),
    )

-- \A x \in r : p, where r has these members
module _ (x : Name) (p : Tree) (s : Scope) where
  every-yes : (r : Tree) (ms : List Data) → option_and_then members_of (val r s) ≡ Some ms
      → is_true (val (quantified quantifiers.Forall (bound ((x ∷ [], r) ∷ [])) p) s) ↔ ((v : Data) → IsAmong v ms → is_true (val p (with_name x (Some v) s)))
  every-yes r ms e =
      subst (λ (o : Option (List Data)). is_true (option_and_then (λ over. from_truth (quantify quantifiers.Forall over (λ ns. truth_of (sem p (with_names ns s)).value) s.names)) (both (λ ms rest. Some (over_each (x ∷ []) ms rest)) o (Some []))) ↔ ((v : Data) → IsAmong v ms → is_true (val p (with_name x (Some v) s)))) (sym e)
      (iff_then (from_truth-yes (all3 (λ m. truth_of (val p (with_name x (Some m) s))) ms))
      (iff_then (all3-yes (λ m. truth_of (val p (with_name x (Some m) s))) ms)
      (λ h v k. (truth_of-yes (val p (with_name x (Some v) s))).0 (h v k), λ h v k. (truth_of-yes (val p (with_name x (Some v) s))).1 (h v k))))

-- variables that have values in both states
same_is : (u t : Vars) (xs : List Name) → ((x : Name) → is_among x xs ≡ true → (v : Data) × (find x u ≡ Some v)) → AllSame u t xs ↔ ((x : Name) → is_among x xs ≡ true → find x t ≡ find x u)
same_is u t [] known = (λ h x m. absurd (cc), λ h. tt)
same_is u t (y ∷ ys) known = step (same_is u t ys (λ z n. known z (later z n)))
  where
    later : (x : Name) → is_among x ys ≡ true → is_among x (y ∷ ys) ≡ true
    later x m = go (same_name x y)
      where
        go : (b : Bool) → (b || is_among x ys) ≡ true
        go true = refl
        go false = m

    first : is_among y (y ∷ ys) ≡ true
    first = ap (λ b. b || is_among y ys) (same_name-self y)

    step : AllSame u t ys ↔ ((x : Name) → is_among x ys ≡ true → find x t ≡ find x u) → AllSame u t (y ∷ ys) ↔ ((x : Name) → is_among x (y ∷ ys) ≡ true → find x t ≡ find x u)
    step r = (to, from)
      where
        to : AllSame u t (y ∷ ys) → (x : Name) → is_among x (y ∷ ys) ≡ true → find x t ≡ find x u
        to h x m = go (same_name x y) refl m
          where
            go : (b : Bool) → same_name x y ≡ b → (b || is_among x ys) ≡ true → find x t ≡ find x u
            go true e k = ap (λ z. find z t) (same_name-is x y e) ∙ h.0.2 ∙ sym h.0.1 ∙ ap (λ z. find z u) (sym (same_name-is x y e))
            go false e k = r.0 h.1 x k

        from : ((x : Name) → is_among x (y ∷ ys) ≡ true → find x t ≡ find x u) → AllSame u t (y ∷ ys)
        from h = let k = known y first in ((k.0, k.1, h y first ∙ k.1), r.1 (λ x m. h x (later x m)))

module _ (s : Spec) (consts : List (Name × Data)) (free : ModuleNames s) (names : StartNames s consts) (w : WellNamed s) (h : heads_refused s.archetypes (values.defs_of s consts) (runs_of s (values.defs_of s consts)) (globals_of s (values.defs_of s consts) (runs_of s (values.defs_of s consts))) ≡ None) (sets : SetsOrdered s consts) (u t : Vars) (hu : IsState (bound_of s consts) u) (ht : IsState (bound_of s consts) t) where
  abbrev m : Module
  m = own_module s

  abbrev known : List Defined
  known = map defined_view (values.defs_of s consts)

  abbrev step : List Meaning → Defined → List Meaning
  step = meaning_of u (Some t)

  abbrev base : List Meaning
  base = meanings known u (Some t)

  abbrev processes : List Defined
  processes = process_definitions (map (written_process s) s.processes)

  -- the definitions before Terminating's
  abbrev front : List Defined
  front = Means proc_set [] (proc_set_of m) ∷ processes

  abbrev before : Scope
  before = seen (known ++ front) [] u (Some t)

  no_variable : (x : Name) → is_further s x ≡ true → find x u ≡ None
  no_variable x e = not_found x u (ap (is_among x) hu.variables ∙ go (is_among x (variables_of s)) refl)
    where
      go : (b : Bool) → is_among x (variables_of s) ≡ b → b ≡ false
      go true k = absurd (let q = free.apart x k in cc)
      go false k = refl

  proc_set_once : is_among proc_set (map defined_name processes) ≡ false
  proc_set_once =
      ap (is_among proc_set) (process_defined s s.processes)
      ∙ among_left proc_set (process_names s s.processes) (terminating ∷ []) (apart_from_all proc_set (process_names s s.processes ++ (terminating ∷ [])) free.differ.0)

  proc_set_further : is_further s proc_set ≡ true
  proc_set_further = ap (λ b. b || is_among proc_set (process_names s s.processes ++ (terminating ∷ []))) (same_name-self proc_set)

  terminating_further : is_further s terminating ≡ true
  terminating_further = among_is terminating (proc_set ∷ (process_names s s.processes ++ (terminating ∷ []))) (inr (among_right terminating (process_names s s.processes) (terminating ∷ []) (inl refl)))

  -- Terminating sees all definitions before its own
  ended_value : val (name terminating) (seen (defs_of m (constants_with s consts)) [] u (Some t)) ≡ val (terminating_body m) before
  ended_value =
      let own = Means terminating [] (terminating_body m) in
      ap (λ o. or_else o (λ v. Some v) (call_def terminating [] (meanings (defs_of m (constants_with s consts)) u (Some t)))) (no_variable terminating terminating_further)
      ∙ ap (λ ds. call_def terminating [] (meanings ds u (Some t))) (module_defs s consts)
      ∙ ap (call_def terminating []) (fold_append step (default_meaning ∷ []) known (front ++ (own ∷ [])) ∙ fold_append step base front (own ∷ []))
      ∙ ap (λ b. if b then val (terminating_body m) (record { names = []; part = None; now = u; next = Some t; defs = fold step base front }) else call_def terminating [] (fold step base front)) (same_name-self terminating)
      ∙ ap (λ ms. val (terminating_body m) (record { names = []; part = None; now = u; next = Some t; defs = ms })) (sym (fold_append step (default_meaning ∷ []) known front))

  abbrev alone : Scope
  alone = own s consts free names w h sets u hu (Some t)

  set_value : val (name proc_set) before ≡ val (proc_set_of m) alone
  set_value =
      let first = Means proc_set [] (proc_set_of m) in
      ap (λ o. or_else o (λ v. Some v) (call_def proc_set [] (meanings (known ++ front) u (Some t)))) (no_variable proc_set proc_set_further)
      ∙ ap (call_def proc_set []) (fold_append step (default_meaning ∷ []) known front)
      ∙ call_further u (Some t) proc_set [] processes (step base first) proc_set_once
      ∙ ap (λ b. if b then val (proc_set_of m) alone else call_def proc_set [] base) (same_name-self proc_set)

  abbrev ids : List Data
  ids = (gathered s consts free names w h sets u hu (Some t)).members

  set_there : option_and_then members_of (val (name proc_set) before) ≡ Some ids
  set_there = ap (option_and_then members_of) set_value ∙ own_set s consts free names w h sets u hu (Some t)

  -- its members are the identifiers of the instances
  each-instance : ((v : Data) → IsAmong v ids → value_in u pc v ≡ Some (string done)) ↔ AllDone (bound_of s consts) u
  each-instance = (to, from)
    where
      rs : List Run
      rs = runs_of s (values.defs_of s consts)

      to : ((v : Data) → IsAmong v ids → value_in u pc v ≡ Some (string done)) → AllDone (bound_of s consts) u
      to f k i e =
          let a = subst (λ (xs : List Data). IsAmong (id_of i) xs) (ids_of_instances s rs) (among_map id_of i (instances_of s rs) (among_nth i (instances_of s rs) k e)) in
          f (id_of i) ((gathered s consts free names w h sets u hu (Some t)).out (id_of i) (subst (λ (xs : List Data). IsAmong (id_of i) xs) (sym (joined_all s consts free names w h sets u hu (Some t))) a))

      from : AllDone (bound_of s consts) u → (v : Data) → IsAmong v ids → value_in u pc v ≡ Some (string done)
      from f v a =
          let b = subst (λ (xs : List Data). IsAmong v xs) (joined_all s consts free names w h sets u hu (Some t)) ((gathered s consts free names w h sets u hu (Some t)).into v a) in
          let i = from_map id_of v (instances_of s rs) (subst (λ (xs : List Data). IsAmong v xs) (sym (ids_of_instances s rs)) b) in
          let n = nth_among i.0 (instances_of s rs) i.1 in
          subst (λ (d : Data). value_in u pc d ≡ Some (string done)) (sym i.2) (f n.0 i.0 n.1)

  pub ended-yes : HasEnded m (constants_with s consts) u t ↔ (AllDone (bound_of s consts) u × IsUnchanged (bound_of s consts) u t)
  ended-yes =
      iff_then (subst (λ v. is_true v ↔ is_true (val (terminating_body m) before)) (sym ended_value) (λ k. k, λ k. k))
      (iff_then (all-yes before (quantified quantifiers.Forall (bound ((self_name ∷ [], name proc_set) ∷ [])) (stands_at done) ∷ unchanged (variables_of s) ∷ []))
      (pair_iff
      (iff_then (every-yes self_name (stands_at done) before (name proc_set) ids set_there)
      (iff_then (λ k v a. (stands-over s consts free front v u t hu ht done).0 (k v a), λ k v a. (stands-over s consts free front v u t hu ht done).1 (k v a)) each-instance))
      (lone_iff (iff_then (from_truth-yes (same_variables (variables_of s) u t))
      (iff_then (same-yes u t (variables_of s)) (same_is u t (variables_of s) (named_known u (variables_of s) hu.variables)))))))
