-- Next is TRUE of exactly the steps of processes at their identifiers, and where all have ended.
use Rattle.std.proofs.Common.{◌≡◌, ◌⊎◌, ◌↔◌, Bool, true, false, List, [], ◌∷◌, ◌++◌, map, Some, refl, sym, ap, ◌∙◌, subst, inl, inr, ⊎_elim, fold, option_and_then, append_assoc}
use Rattle.std.specs.Prelude.{◌||◌}
use Rattle.pgo_base.specs.Data.{Data, string}
use Rattle.pgo_base.specs.Lookup.{Name, Vars, same_name, find}
use Rattle.pgo_base.specs.Tree.{Tree}
use Rattle.pgo_model.specs.Module.{action_definition, process_body, process_definitions, proc_set_of, self_call, terminating_body}
use Rattle.pgo_model.specs.ModuleView.{defined_view}
use Rattle.pgo_model.specs.Names.{same_name-is, is_among}
use Rattle.pgo_model.specs.Operators.{apply}
use Rattle.pgo_model.specs.Sequences.{assert_name}
use Rattle.pgo_model.specs.Val.{Scope, Meaning, Defined, Means, meaning_of, meanings, call_def, default_meaning, val}
use Rattle.pgo_model.specs.Written.{pc, self_name, proc_set, terminating}
use Rattle.pgo_syntax.specs.declared.process.Process.{Process}
use Rattle.pgo_syntax.specs.declared.spec.Spec.{Spec}
use Rattle.pgo_bound.specs.Among.{IsAmong, among_map, among_left as before, among_right as behind}
use Rattle.pgo_bound.specs.BoundOf.{bound_of}
use Rattle.pgo_bound.specs.Different.{different_left}
use Rattle.pgo_bound.specs.StartNames.{map-append}
use Rattle.pgo_bound.specs.State.{AreDifferent, IsState, variables_of}
use Rattle.pgo_bound.specs.Values as values
use Rattle.pgo_sections.specs.Expansion.{Expansion, Path}
use Rattle.pgo_meaning.specs.Expansions.{process_expansions}
use Rattle.pgo_meaning.specs.TreeAllows.{path_context}
use Rattle.pgo_translate.specs.Items.{action_body}
use Rattle.pgo_translate.specs.Premises.{ModuleNames, TreeNamed, further_names, is_further}
use Rattle.pgo_translate.proofs.Actions.{acts-over, apart_from_all, different_behind, first_apart, among_left, among_right, defined_name, fold_append, further, further_defined}
use Rattle.pgo_translate.proofs.ByProcess.{map_map, global_names, label_actions, own_module, written_process}
use Rattle.pgo_translate.proofs.Calls.{Callable, under, call_value, call_last, call_among, split_at}
use Rattle.pgo_translate.proofs.Kleene.{is_true, iff_then, SomeYes, any-yes}
use Rattle.pgo_translate.proofs.Starts.{among_is}
use Rattle.pgo_translate.proofs.StartValues.{not_found}

-- some item that a list gives is TRUE
pub some_mapped : {A : Type 0} (sc : Scope) (f : A → Tree) (xs : List A) → SomeYes sc (map f xs) ↔ ((x : A) × IsAmong x xs × is_true (val (f x) sc))
some_mapped sc f [] = (λ h. absurd h, λ h. absurd h.1)
some_mapped {A = A} sc f (y ∷ ys) =
    let r = some_mapped sc f ys in (
      λ h. ⊎_elim (λ k. (y, inl refl, k)) (λ k. let q = r.0 k in (q.0, inr q.1, q.2)) h,
      λ h. back h.0 h.1 h.2 r,
    )
  where
    back : (x : A) → IsAmong x (y ∷ ys) → is_true (val (f x) sc) → SomeYes sc (map f ys) ↔ ((x : A) × IsAmong x ys × is_true (val (f x) sc)) → SomeYes sc (map f (y ∷ ys))
    back x (inl e) k r = inl (ap (λ z. val (f z) sc) (sym e) ∙ k)
    back x (inr m) k r = inr (r.1 (x, m, k))

pub some_behind : (sc : Scope) (as' : List Tree) (e : Tree) → SomeYes sc (as' ++ (e ∷ [])) ↔ (SomeYes sc as' ⊎ is_true (val e sc))
some_behind sc [] e = (λ h. ⊎_elim (λ k. inr k) (λ k. absurd k) h, λ h. ⊎_elim (λ k. absurd k) (λ k. inl k) h)
some_behind sc (a ∷ as') e =
    let r = some_behind sc as' e in (
      λ h. ⊎_elim (λ k. inl (inl k)) (λ k. ⊎_elim (λ q. inl (inr q)) (λ q. inr q) (r.0 k)) h,
      λ h. ⊎_elim (λ k. ⊎_elim (λ q. inl q) (λ q. inr (r.1 (inl q))) k) (λ k. inr (r.1 (inr k))) h,
    )

nested : {A : Type 0} (g l h t : List A) (x p : A) → (x ∷ (g ++ (l ++ (p ∷ h)))) ++ t ≡ (x ∷ g) ++ (l ++ (p ∷ (h ++ t)))
nested g l h t x p = simp append_assoc refl

neither : (x : Name) (xs ys : List Name) → is_among x xs ≡ false → is_among x ys ≡ false → is_among x (xs ++ ys) ≡ false
neither x [] ys h g = g
neither x (y ∷ xs) ys h g = let p = first_apart x y xs h in ap (λ b. b || is_among x (xs ++ ys)) p.0 ∙ neither x xs ys p.1 g

-- the instance stands at the label, and a path of its tree leads on
abbrev pub Stands : Spec → List (Name × Data) → Vars → Vars → Data → Name × Expansion → Type 0
Stands s consts u t id l =
    (option_and_then (λ f. apply f id) (find pc u) ≡ Some (string l.0)) × Path (path_context (bound_of s consts) id) l.1 ((self_name, Some id) ∷ []) u t

module _ (s : Spec) (consts : List (Name × Data)) (names : ModuleNames s) (u t : Vars) (hu : IsState (bound_of s consts) u) (ht : IsState (bound_of s consts) t) where
  abbrev known : List Defined
  known = map defined_view (values.defs_of s consts)

  abbrev step : List Meaning → Defined → List Meaning
  step = meaning_of u (Some t)

  abbrev all : List Meaning
  all = meanings (known ++ further s) u (Some t)

  abbrev here : List Meaning → Data → Scope
  here ms id = under u (Some t) ms id

  callable : (x : Name) → is_further s x ≡ true → Callable u (Some t) x
  callable x h = record {
    operator = names.operators x h;
    assert = apart assert_name names.assert;
    self = apart self_name names.self_further;
    variable = not_found x u (ap (is_among x) hu.variables ∙ no_variable (is_among x (variables_of s)) refl);
  }
    where
      apart : (y : Name) → is_further s y ≡ false → same_name x y ≡ false
      apart y g = go (same_name x y) refl
        where
          go : (b : Bool) → same_name x y ≡ b → b ≡ false
          go true e = absurd (let k : is_further s y ≡ true = ap (is_further s) (sym (same_name-is x y e)) ∙ h in cc)
          go false e = refl

      no_variable : (b : Bool) → is_among x (variables_of s) ≡ b → b ≡ false
      no_variable true e = absurd (let k = names.apart x e in cc)
      no_variable false e = refl

  module _ (p : Process) (among : IsAmong p s.processes) (trees : (l : Name × Expansion) → IsAmong l (process_expansions s p) → TreeNamed s l.1) where
    abbrev parts : (front back : List Defined) × (process_definitions (map (written_process s) s.processes) ≡ front ++ (map action_definition (label_actions s (process_expansions s p)) ++ (Means p.name.name (self_name ∷ []) (process_body (written_process s p)) ∷ back)))
    parts = split_at s s.processes p among

    abbrev front : List Defined
    front = Means proc_set [] (proc_set_of (own_module s)) ∷ parts.0

    abbrev back : List Defined
    back = parts.1 ++ (Means terminating [] (terminating_body (own_module s)) ∷ [])

    abbrev own : List Defined
    own = map action_definition (label_actions s (process_expansions s p))

    abbrev itself : Defined
    itself = Means p.name.name (self_name ∷ []) (process_body (written_process s p))

    split : further s ≡ front ++ (own ++ (itself ∷ back))
    split =
        ap (λ ds. (Means proc_set [] (proc_set_of (own_module s)) ∷ ds) ++ (Means terminating [] (terminating_body (own_module s)) ∷ [])) parts.2
        ∙ nested parts.0 own parts.1 (Means terminating [] (terminating_body (own_module s)) ∷ []) (Means proc_set [] (proc_set_of (own_module s))) itself

    names_split : further_names s ≡ map defined_name front ++ (map defined_name own ++ (p.name.name ∷ map defined_name back))
    names_split =
        sym (further_defined s) ∙ ap (map defined_name) split ∙ map-append defined_name front (own ++ (itself ∷ back))
        ∙ ap (λ xs. map defined_name front ++ xs) (map-append defined_name own (itself ∷ back))

    differ : AreDifferent (map defined_name own ++ (p.name.name ∷ map defined_name back))
    differ = different_behind (map defined_name front) (map defined_name own ++ (p.name.name ∷ map defined_name back)) (subst AreDifferent names_split names.differ)

    process_further : is_further s p.name.name ≡ true
    process_further =
        ap (is_among p.name.name) names_split
        ∙ among_is p.name.name (map defined_name front ++ (map defined_name own ++ (p.name.name ∷ map defined_name back)))
        (behind p.name.name (map defined_name front) (map defined_name own ++ (p.name.name ∷ map defined_name back)) (behind p.name.name (map defined_name own) (p.name.name ∷ map defined_name back) (inl refl)))

    own_among : (l : Name × Expansion) → IsAmong l (process_expansions s p) → IsAmong (Means l.0 (self_name ∷ []) (action_body (variables_of s) (global_names s) l.0 l.1)) own
    own_among l m =
        among_map action_definition (l.0, action_body (variables_of s) (global_names s) l.0 l.1) (label_actions s (process_expansions s p))
        (among_map (λ z. (z.0, action_body (variables_of s) (global_names s) z.0 z.1)) l (process_expansions s p) m)

    label_further : (l : Name × Expansion) → IsAmong l (process_expansions s p) → is_further s l.0 ≡ true
    label_further l m =
        ap (is_among l.0) names_split
        ∙ among_is l.0 (map defined_name front ++ (map defined_name own ++ (p.name.name ∷ map defined_name back)))
        (behind l.0 (map defined_name front) (map defined_name own ++ (p.name.name ∷ map defined_name back)) (before l.0 (map defined_name own) (p.name.name ∷ map defined_name back) (among_map defined_name (Means l.0 (self_name ∷ []) (action_body (variables_of s) (global_names s) l.0 l.1)) own (own_among l m))))

    abbrev base : List Meaning
    base = meanings known u (Some t)

    -- what the process's own definition sees, and what is before its actions
    abbrev seen_by_process : List Meaning
    seen_by_process = fold step (fold step base front) own

    all_is : all ≡ fold step (step seen_by_process itself) back
    all_is =
        fold_append step (default_meaning ∷ []) known (further s)
        ∙ ap (fold step base) split
        ∙ fold_append step base front (own ++ (itself ∷ back))
        ∙ fold_append step (fold step base front) own (itself ∷ back)

    process_value : (id : Data) → val (self_call p.name.name) (here all id) ≡ val (process_body (written_process s p)) (here seen_by_process id)
    process_value id =
        call_value u (Some t) p.name.name id all (callable p.name.name process_further)
        ∙ ap (call_def p.name.name (id ∷ [])) all_is
        ∙ call_last u (Some t) p.name.name (process_body (written_process s p)) id seen_by_process back
        (apart_from_all p.name.name (map defined_name back) (different_behind (map defined_name own) (p.name.name ∷ map defined_name back) differ).0)

    few : (front' : List Defined) → ((y : Name) → is_among y (map defined_name own) ≡ false → is_among y (map defined_name front') ≡ false) → (x : Name) → is_further s x ≡ false → is_among x (map defined_name (front ++ front')) ≡ false
    few front' f x h =
        let k = sym (ap (is_among x) names_split) ∙ h in
        ap (is_among x) (map-append defined_name front front')
        ∙ neither x (map defined_name front) (map defined_name front') (among_left x (map defined_name front) (map defined_name own ++ (p.name.name ∷ map defined_name back)) k)
        (f x (among_left x (map defined_name own) (p.name.name ∷ map defined_name back) (among_right x (map defined_name front) (map defined_name own ++ (p.name.name ∷ map defined_name back)) k)))

    label-yes : (id : Data) (l : Name × Expansion) → IsAmong l (process_expansions s p) → is_true (val (self_call l.0) (here seen_by_process id)) ↔ Stands s consts u t id l
    label-yes id l m =
        let body = action_body (variables_of s) (global_names s) l.0 l.1 in
        let r = call_among u (Some t) own (fold step base front) l.0 body id (different_left (map defined_name own) (p.name.name ∷ map defined_name back) differ) (own_among l m) in
        let called = call_value u (Some t) l.0 id seen_by_process (callable l.0 (label_further l m)) ∙ r.2 in
        let same : fold step (fold step base front) r.0 ≡ meanings (known ++ (front ++ r.0)) u (Some t) = sym (fold_append step (default_meaning ∷ []) known (front ++ r.0) ∙ fold_append step base front r.0) in
        subst (λ v. is_true v ↔ Stands s consts u t id l) (sym (called ∙ ap (λ ms. val body (here ms id)) same))
        (acts-over s consts names (front ++ r.0) (few r.0 r.1) l.0 id u t hu ht l.1 (trees l m))

    -- a process's definition is TRUE at an identifier exactly where one of its labels allows the step
    pub process-yes : (id : Data) → is_true (val (self_call p.name.name) (here all id)) ↔ ((l : Name × Expansion) × IsAmong l (process_expansions s p) × Stands s consts u t id l)
    process-yes id =
        let ls = process_expansions s p in
        let calls = map_map (λ l. (l.0, action_body (variables_of s) (global_names s) l.0 l.1)) (λ a. self_call a.0) ls in
        iff_then (subst (λ v. is_true v ↔ is_true (val (process_body (written_process s p)) (here seen_by_process id))) (sym (process_value id)) (λ h. h, λ h. h))
        (iff_then (any-yes (here seen_by_process id) (map (λ a. self_call a.0) (label_actions s ls)))
        (iff_then (subst (λ es. SomeYes (here seen_by_process id) (map (λ a. self_call a.0) (label_actions s ls)) ↔ SomeYes (here seen_by_process id) es) calls (λ h. h, λ h. h))
        (iff_then (some_mapped (here seen_by_process id) (λ l. self_call l.0) ls)
        (λ h. (h.0, h.1, (label-yes id h.0 h.1).0 h.2), λ h. (h.0, h.1, (label-yes id h.0 h.1).1 h.2)))))
