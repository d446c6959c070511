-- Init is TRUE of exactly the declared starts.
use Rattle.std.proofs.Common.{◌≡◌, ◌⊎◌, ◌↔◌, ℕ, suc, ◌≤◌, Bool, true, false, List, [], ◌∷◌, ◌++◌, length, map, Option, Some, None, refl, sym, ap, ◌∙◌, subst, option_and_then, option_map, inl, inr, ⊎_elim, arith}
use Rattle.std.specs.Prelude.{if◌then◌else◌, ◌||◌, filter, unwrap_or}
use Rattle.std.specs.List.{AllByRecursion, filter_map, flat_map, cons_option}
use Rattle.std.proofs.lemmas.Option.{same_Some}
use Rattle.pgo_base.specs.declared.module.Defined as memory
use Rattle.pgo_base.specs.declared.expr.Infix.TheVariants as infixs
use Rattle.pgo_base.specs.Data.{Data, boolean, string, set, function, Pairs, no_pairs, pair, graph, keys, Items, members}
use Rattle.pgo_base.specs.Lookup.{Name, Names, Vars, same_name, find}
use Rattle.pgo_base.specs.Sets.{in_order, IsSorted, same_sorted, sorted-in_order, in-in_order, in_order-in}
use Rattle.pgo_base.specs.Size.{depth}
use Rattle.pgo_base.specs.Tree.{Tree, name, binary, case_of, arms}
use Rattle.pgo_model.specs.Module.{all_of, proc_set_of, union_of}
use Rattle.pgo_model.specs.Names.{same_name-self, is_among}
use Rattle.pgo_model.specs.Operators.{both, contains, members_of, is_member, set_from, joined, from_truth}
use Rattle.pgo_model.specs.State.{AllValues}
use Rattle.pgo_model.specs.Value.{IsValue, ArePairs}
use Rattle.pgo_model.specs.Val.{Scope, sem, val, seen, meanings, call_def, or_else, Defined}
use Rattle.pgo_model.specs.Written.{pc, self_name, proc_set, written}
use Rattle.pgo_syntax.specs.declared.archetype.Archetype.{Archetype}
use Rattle.pgo_syntax.specs.declared.archetype.Parameter.{Parameter}
use Rattle.pgo_syntax.specs.declared.binding.Origin.{Origin}
use Rattle.pgo_syntax.specs.declared.binding.Origin.TheVariants.{Equals, In}
use Rattle.pgo_syntax.specs.declared.declaration.Declaration.{Declaration}
use Rattle.pgo_syntax.specs.declared.process.Argument.{Argument}
use Rattle.pgo_syntax.specs.declared.process.Argument.TheVariants as arguments
use Rattle.pgo_syntax.specs.declared.process.Process.{Process}
use Rattle.pgo_syntax.specs.declared.spec.Spec.{Spec}
use Rattle.pgo_bound.specs.BoundOf.{GlobalStart, global_of, globals_of, first_label, expression_of, bound_of}
use Rattle.pgo_heads.specs.declared.findings.Lack.TheVariants.{NoSet}
use Rattle.pgo_bound.specs.Declares.{StartsAs, StartsAt, value_in, Declares}
use Rattle.pgo_heads.specs.Refusals.{heads_refused, bind_refusal, constants_refused, has_no_ids, lacking, lacking_in, lacking_local, lacks, lacks_in, local_set, unset_global, unset_in_run, archetypes_run, at_place}
use Rattle.pgo_bound.specs.Runs.{Run, Handed, handed_from, archetype_named, run_with, run_of, runs_of, run_ids, all_ids, ids_of}
use Rattle.pgo_bound.specs.Sound.{WellNamed}
use Rattle.pgo_bound.specs.State.{IsState, variables_of, own_names, names_with, names_or_none, value_name}
use Rattle.pgo_bound.specs.Values as values
use Rattle.pgo_bound.specs.Values.{Begins as Starting, closed_value, value_at, start_of_members, global_start}
use Rattle.pgo_bound.specs.Among.{IsAmong}
use Rattle.pgo_bound.specs.Among.{among_left, among_right, among_map, among_flat_map, among_filter_map, among_filter, from_flat_map, from_filter_map, all_at, none_left, none_right, none_filter_map, none_flat_map, empty_map, empty_none}
use Rattle.pgo_bound.specs.Among.{mapped_some}
use Rattle.pgo_bind.proofs.Declared.{run_archetype}
use Rattle.pgo_bound.specs.Instances.{archetype_among}
use Rattle.pgo_bound.specs.Different.{runs_different, instances_of_process, ids_of_instances}
use Rattle.pgo_bind.proofs.Passing.{none_next}
use Rattle.pgo_bound.specs.Among.{nth_among}
use Rattle.pgo_bound.specs.Once.{StandOnce}
use Rattle.pgo_bind.proofs.Unrefused.{Unrefused, unrefused, global_begins, where_false}
use Rattle.pgo_values.proofs.Lists.{among_in, in_among}
use Rattle.pgo_translate.specs.Agrees.{BeginsAgree}
use Rattle.pgo_translate.specs.Avoids.{Avoids}
use Rattle.pgo_translate.proofs.Kleene.{CanBeBound}
use Rattle.pgo_translate.specs.Items.{only}
use Rattle.pgo_translate.specs.ModuleOf.{module_of, constants_with, global_starts, own_starts}
use Rattle.pgo_translate.proofs.ByProcess.{own_module, module_by, module_is, init_is, written_process, argument_starts, process_starts, starts_or_none, first_label_or, first_arm, places_start, start_items}
use Rattle.pgo_pluscal.specs.PlusCalOf.{ids_tree}
use Rattle.pgo_translate.specs.Premises.{ModuleNames, StartNames, ProcessAvoids, OriginAvoids, ArgumentAvoids, is_taken, is_taken_or_self}
use Rattle.pgo_translate.proofs.Sets.{SetsOrdered}
use Rattle.pgo_translate.proofs.Weaker.{origin_fewer}
use Rattle.pgo_translate.proofs.Actions.{pc_there}
use Rattle.pgo_translate.proofs.Alike.{sem_alike}
use Rattle.pgo_translate.proofs.Holding.{holds_member}
use Rattle.pgo_translate.proofs.Kleene.{is_true, iff_then, iff_back, pair_iff, AllYes, all-yes, all_append}
use Rattle.pgo_translate.proofs.StartItems.{shallow_at, set_is, global-yes, own-yes, equal-each, OriginHeld, OriginSet}
use Rattle.pgo_translate.proofs.StartPlaces.{length_append, key_low, can_be_bound, only_ids, Has, AllHave, Gathers, union_gathers, case_at}
use Rattle.pgo_translate.proofs.StartRuns.{ByRuns, declares-runs}
use Rattle.pgo_translate.proofs.StartValues.{or_left, or_right, at_start, start_sem, sem_start, own_related, module_related, proc_set_value, specification, unseen}

-- all items that a list gives are TRUE
all_mapped : {A : Type 0} (sc : Scope) (f : A → Tree) (xs : List A) → AllYes sc (map f xs) ↔ ((x : A) → IsAmong x xs → is_true (val (f x) sc))
all_mapped sc f [] = (λ h x m. absurd m, λ h. tt)
all_mapped {A = A} sc f (y ∷ ys) = step (all_mapped sc f ys)
  where
    pick : is_true (val (f y) sc) → ((x : A) → IsAmong x ys → is_true (val (f x) sc)) → (x : A) → (x ≡ y) ⊎ IsAmong x ys → is_true (val (f x) sc)
    pick h r x (inl e) = ap (λ z. val (f z) sc) e ∙ h
    pick h r x (inr m) = r x m

    step : AllYes sc (map f ys) ↔ ((x : A) → IsAmong x ys → is_true (val (f x) sc)) → AllYes sc (map f (y ∷ ys)) ↔ ((x : A) → IsAmong x (y ∷ ys) → is_true (val (f x) sc))
    step r = (λ h x m. pick h.0 (r.0 h.1) x m, λ h. (h y (inl refl), r.1 (λ x m. h x (inr m))))

all_flat : {A : Type 0} (sc : Scope) (f : A → List Tree) (xs : List A) → AllYes sc (flat_map f xs) ↔ ((x : A) → IsAmong x xs → AllYes sc (f x))
all_flat sc f [] = (λ h x m. absurd m, λ h. tt)
all_flat {A = A} sc f (y ∷ ys) =
    let r = all_flat sc f ys in
    let p = all_append sc (f y) (flat_map f ys) in
    (λ h x m. let q = p.0 h in ⊎_elim (λ e. subst (λ z. AllYes sc (f z)) (sym e) q.0) (λ k. r.0 q.1 x k) m, λ h. p.1 (h y (inl refl), r.1 (λ x k. h x (inr k))))

all_filtered : {A : Type 0} (sc : Scope) (f : A → Option Tree) (xs : List A) → AllYes sc (filter_map f xs) ↔ ((x : A) (t : Tree) → IsAmong x xs → f x ≡ Some t → is_true (val t sc))
all_filtered sc f [] = (λ h x t m. absurd m, λ h. tt)
all_filtered {A = A} sc f (y ∷ ys) = go (f y) refl (all_filtered sc f ys)
  where
    go : (o : Option Tree) → f y ≡ o → AllYes sc (filter_map f ys) ↔ ((x : A) (t : Tree) → IsAmong x ys → f x ≡ Some t → is_true (val t sc)) → AllYes sc (cons_option o (filter_map f ys)) ↔ ((x : A) (t : Tree) → IsAmong x (y ∷ ys) → f x ≡ Some t → is_true (val t sc))
    go None e r = (
      λ h x t m q. ⊎_elim (λ g. absurd (let k : None ≡ Some t = sym e ∙ ap f (sym g) ∙ q in cc)) (λ k. r.0 h x t k q) m,
      λ h. r.1 (λ x t k q. h x t (inr k) q),
    )
    go (Some z) e r = (
      λ h x t m q. ⊎_elim (λ g. subst (λ s. is_true (val s sc)) (same_Some z t (sym e ∙ ap f (sym g) ∙ q)) h.0) (λ k. r.0 h.1 x t k q) m,
      λ h. (h y z (inl refl) e, r.1 (λ x t k q. h x t (inr k) q)),
    )

pub among_is : (x : Name) (xs : List Name) → IsAmong x xs → is_among x xs ≡ true
among_is x [] h = absurd h
among_is x (y ∷ ys) (inl e) = ap (λ b. b || is_among x ys) (ap (same_name x) (sym e) ∙ same_name-self x)
among_is x (y ∷ ys) (inr h) = go (same_name x y) (among_is x ys h)
  where
    go : (b : Bool) → is_among x ys ≡ true → (b || is_among x ys) ≡ true
    go true r = refl
    go false r = r

key_value : (ps : Pairs) (k : Data) → ArePairs ps → IsAmong k (keys (graph ps)) → IsValue k
key_value no_pairs k a h = absurd h
key_value (pair q v ps) k a (inl e) = subst IsValue (sym e) a.0
key_value (pair q v ps) k a (inr h) = key_value ps k a.2 h

found_value : (s : Vars) (x : Name) (v : Data) → AllValues s → find x s ≡ Some v → IsValue v
found_value [] x v a h = absurd (cc)
found_value (p ∷ ps) x v a h = go (same_name x p.0) h (found_value ps x v a.1)
  where
    go : (b : Bool) → (if b then Some p.1 else find x ps) ≡ Some v → (find x ps ≡ Some v → IsValue v) → IsValue v
    go true k r = subst IsValue (same_Some p.1 v k) a.0
    go false k r = r k

members_begin : (o : Option Data) (v : Data) → start_of_members (option_and_then members_of o) ≡ Starting v → (ys : List Data) × (option_and_then members_of o ≡ Some ys)
members_begin o v h = go (option_and_then members_of o) h
  where
    go : (p : Option (List Data)) → start_of_members p ≡ Starting v → (ys : List Data) × (p ≡ Some ys)
    go None k = absurd (cc)
    go (Some ys) k = (ys, refl)

not_lacking : (p : Option (List Data)) → lacks NoSet (start_of_members p) ≡ false → (ys : List Data) × (p ≡ Some ys)
not_lacking None k = absurd (cc)
not_lacking (Some ys) k = (ys, refl)

ids_are : (o : Option (List Data)) → has_no_ids o ≡ false → o ≡ Some (unwrap_or o [])
ids_are None h = absurd (cc)
ids_are (Some ids) h = refl

map_map : {A B C : Type 0} (f : A → B) (g : B → C) (xs : List A) → map g (map f xs) ≡ map (λ x. g (f x)) xs
map_map f g [] = refl
map_map f g (x ∷ xs) = ap (λ ys. g (f x) ∷ ys) (map_map f g xs)

joined_map : {A : Type 0} (f : A → List Data) (xs : List A) → joined (map f xs) ≡ flat_map f xs
joined_map f [] = refl
joined_map f (x ∷ xs) = ap (λ ys. f x ++ ys) (joined_map f xs)

one_sorted : (o : Option Data) (ids : List Data) → option_map (λ v. v ∷ []) o ≡ Some ids → IsSorted ids
one_sorted None ids h = absurd (cc)
one_sorted (Some v) ids h = subst IsSorted (same_Some (v ∷ []) ids h) (sorted-in_order (v ∷ []))

argument_is : (p : Name) (it : Tree) (x : Name) (a : Argument) (t : Tree) → argument_starts p it x a ≡ Some t → (e : Tree) × (expression_of a ≡ Some e) × (t ≡ own_starts it (written p x) (Some (Equals e)))
argument_is p it x (arguments.Ref g f) t h = absurd (cc)
argument_is p it x (arguments.Value place e) t h = (e, refl, sym (same_Some (own_starts it (written p x) (Some (Equals e))) t h))

is_argument : (p : Name) (it : Tree) (x : Name) (a : Argument) (e : Tree) → expression_of a ≡ Some e → argument_starts p it x a ≡ Some (own_starts it (written p x) (Some (Equals e)))
is_argument p it x (arguments.Ref g f) e h = absurd (cc)
is_argument p it x (arguments.Value place t) e h = ap (λ z. Some (own_starts it (written p x) (Some (Equals z)))) (same_Some t e h)

value_named : (x : Name) (a : Argument) (e : Tree) → expression_of a ≡ Some e → value_name x a ≡ Some x
value_named x (arguments.Ref g f) e h = absurd (cc)
value_named x (arguments.Value place t) e h = refl

argument_avoids : (bad : Name → Bool) (a : Argument) (e : Tree) → ArgumentAvoids bad a → expression_of a ≡ Some e → Avoids bad e
argument_avoids bad (arguments.Ref g f) e n h = absurd (cc)
argument_avoids bad (arguments.Value place t) e n h = subst (Avoids bad) (same_Some t e h) n

handed_argument : (n : ℕ) (ps : List Parameter) (as' : List Argument) (k : Handed) → IsAmong k (handed_from n ps as') → IsAmong k.argument as'
handed_argument n [] as' k h = absurd h
handed_argument n (p ∷ ps) [] k h = absurd h
handed_argument n (p ∷ ps) (a ∷ as') k (inl e) = inl (ap (λ z. z.argument) e)
handed_argument n (p ∷ ps) (a ∷ as') k (inr h) = inr (handed_argument (suc n) ps as' k h)

part_length : {A : Type 0} (f : A → List Data) (x : A) (xs : List A) → IsAmong x xs → length (f x) ≤ length (flat_map f xs)
part_length f x [] h = absurd h
part_length f x (y ∷ ys) (inl e) = let q : length (f x) ≡ length (f y) = ap (λ z. length (f z)) e in omega (arith, q, length_append (f y) (flat_map f ys))
part_length f x (y ∷ ys) (inr h) = omega (arith, part_length f x ys h, length_append (f y) (flat_map f ys))

module _ (s : Spec) (consts : List (Name × Data)) (free : ModuleNames s) (names : StartNames s consts) (w : WellNamed s) (h : heads_refused s.archetypes (values.defs_of s consts) (runs_of s (values.defs_of s consts)) (globals_of s (values.defs_of s consts) (runs_of s (values.defs_of s consts))) ≡ None) (sets : SetsOrdered s consts) (u : Vars) (hu : IsState (bound_of s consts) u) (after : Option Vars) where
  abbrev ds : List memory.Defined
  ds = values.defs_of s consts

  abbrev rs : List Run
  rs = runs_of s ds

  abbrev gs : List GlobalStart
  gs = globals_of s ds rs

  abbrev here : Names → Scope
  here ns = at_start s consts free names u hu.variables after ns

  abbrev spec_defs : List Defined
  spec_defs = specification s consts free names u hu.variables after

  none : Unrefused s.archetypes ds rs gs
  none = unrefused s.archetypes ds rs gs h

  abbrev pub ids_in : Process → List Data
  ids_in p = unwrap_or (ids_of ds p.ids) []

  -- each process runs its archetype
  pub arche : (p : Process) → IsAmong p s.processes → (a : Archetype) × (archetype_named p.archetype.name s.archetypes ≡ Some a)
  arche p m = let n = nth_among p s.processes m in let a = w.archetypes n.0 p n.1 in (a.0, a.1)

  pub run_there : (p : Process) (a : Archetype) → IsAmong p s.processes → archetype_named p.archetype.name s.archetypes ≡ Some a → IsAmong (run_with ds p a) rs
  run_there p a m e = among_filter_map (run_of s ds) p (run_with ds p a) s.processes m (ap (option_map (run_with ds p)) e)

  ids_known : (p : Process) → IsAmong p s.processes → ids_of ds p.ids ≡ Some (ids_in p)
  ids_known p m =
      let a = arche p m in
      let r = run_there p a.0 m a.1 in
      ids_are (ids_of ds p.ids) (not_unknown (run_with ds p a.0) r (has_no_ids (ids_of ds p.ids)) refl)
    where
      not_unknown : (r : Run) → IsAmong r rs → (b : Bool) → has_no_ids r.ids ≡ b → b ≡ false
      not_unknown r m true e = absurd (empty_none r (filter (λ r. has_no_ids r.ids) rs) (empty_map (λ r. r.process.name.name) (filter (λ r. has_no_ids r.ids) rs) none.known) (among_filter (λ r. has_no_ids r.ids) r rs m e))
      not_unknown r m false e = refl

  runs_ids : (ps : List Process) → ((p : Process) → IsAmong p ps → IsAmong p s.processes) → all_ids (filter_map (run_of s ds) ps) ≡ flat_map ids_in ps
  runs_ids [] f = refl
  runs_ids (p ∷ ps) f =
      let a = arche p (f p (inl refl)) in
      ap (λ o. all_ids (cons_option (option_map (run_with ds p) o) (filter_map (run_of s ds) ps))) a.1
      ∙ ap (λ ids. ids_in p ++ ids) (runs_ids ps (λ q m. f q (inr m)))

  ids_all : all_ids rs ≡ flat_map ids_in s.processes
  ids_all = runs_ids s.processes (λ p m. m)

  process_ids : (p : Process) (id : Data) → IsAmong p s.processes → IsAmong id (ids_in p) → IsAmong id (all_ids rs)
  process_ids p id m i = subst (IsAmong id) (sym ids_all) (among_flat_map ids_in p id s.processes m i)

  -- `pc` is a function on all identifiers
  places_keys : (ps : Pairs) × (find pc u ≡ Some (function ps)) × (keys (graph ps) ≡ in_order (all_ids rs))
  places_keys = (hu.places.0, hu.places.1, hu.places.2 ∙ ap in_order (ids_of_instances s rs))

  id_key : (id : Data) → IsAmong id (all_ids rs) → IsAmong id (keys (graph places_keys.0))
  id_key id i = subst (IsAmong id) (sym places_keys.2) (in_among id (in_order (all_ids rs)) (in_order-in id (all_ids rs) (among_in id (all_ids rs) i)))

  id_low : (id : Data) → IsAmong id (all_ids rs) → depth id ≤ 256
  id_low id i = let d = shallow_at u pc (function places_keys.0) hu.shallow places_keys.1 in let k = key_low places_keys.0 id (id_key id i) in omega (arith, d, k)

  id_value : (id : Data) → IsAmong id (all_ids rs) → IsValue id
  id_value id i = key_value places_keys.0 id (found_value u pc (function places_keys.0) hu.values places_keys.1).0 (id_key id i)

  process_named : (p : Process) → IsAmong p s.processes → ProcessAvoids s p
  process_named p m = all_at (ProcessAvoids s) p s.processes names.processes m

  ids_named : (p : Process) → IsAmong p s.processes → OriginAvoids (is_taken s) (Some p.ids)
  ids_named p m = origin_fewer (is_taken s) (is_taken_or_self s) (λ x g. or_left (is_taken s x) (same_name x self_name) g) (Some p.ids) (process_named p m).ids

  -- the set of a process's identifiers, where its expression has the value that it has by itself
  ids_has : (sc : Scope) (bad : Name → Bool) → ((e : Tree) → Avoids bad e → val e sc ≡ closed_value ds e) → (o : Option (List Data)) (g : Origin) → OriginAvoids bad (Some g) → ids_of ds g ≡ o → (ids : List Data) → o ≡ Some ids → ((v : Data) → IsAmong v ids → CanBeBound v) → Has sc (ids_tree g) ids
  ids_has sc bad f o (Equals e) a q ids k b = ap (λ v. option_and_then members_of (option_and_then set_from (both (λ x xs. Some (x ∷ xs)) v (Some [])))) (f e a) ∙ only_ids (closed_value ds e) ids (q ∙ k) b
  ids_has sc bad f o (In e) a q ids k b = ap (option_and_then members_of) (f e a) ∙ q ∙ k

  id_bound : (p : Process) → IsAmong p s.processes → (v : Data) → IsAmong v (ids_in p) → CanBeBound v
  id_bound p m v i = can_be_bound v (id_low v (process_ids p v m i))

  abbrev pub own : Scope
  own = record { names = []; part = None; now = u; next = after; defs = meanings spec_defs u after }

  own_value : (e : Tree) → Avoids (is_taken s) e → val e own ≡ closed_value ds e
  own_value e a = ap (λ m. m.value) (sem_start s consts free names u hu.variables after (meanings spec_defs u after) (own_related s consts free names u hu.variables after) e a [])

  here_value : (e : Tree) → Avoids (is_taken s) e → val e (here []) ≡ closed_value ds e
  here_value e a = ap (λ m. m.value) (start_sem s consts free names u hu.variables after e a [])

  own_has : (p : Process) → IsAmong p s.processes → Has own (ids_tree p.ids) (ids_in p)
  own_has p m = ids_has own (is_taken s) own_value (ids_of ds p.ids) p.ids (ids_named p m) refl (ids_in p) (ids_known p m) (id_bound p m)

  pub here_has : (p : Process) → IsAmong p s.processes → Has (here []) (ids_tree p.ids) (ids_in p)
  here_has p m = ids_has (here []) (is_taken s) here_value (ids_of ds p.ids) p.ids (ids_named p m) refl (ids_in p) (ids_known p m) (id_bound p m)

  held : (e : Tree) (xs : Items) (v : Data) → closed_value ds e ≡ Some (set xs) → IsValue v → (sem e (seen spec_defs [] [] None)).holds v ≡ Some (contains v (members xs))
  held e xs v q k = holds_member e (seen spec_defs [] [] None) sets xs v q k

  ids_order : (g : Origin) (ids : List Data) → ids_of ds g ≡ Some ids → IsSorted ids
  ids_order (Equals e) ids k = one_sorted (closed_value ds e) ids k
  ids_order (In e) ids k = let r = set_is (closed_value ds e) ids k in subst IsSorted r.2 (sets e r.0 r.1)

  ids_sorted : (p : Process) → IsAmong p s.processes → IsSorted (ids_in p)
  ids_sorted p m = ids_order p.ids (ids_in p) (ids_known p m)

  all_have : (ps : List Process) → ((p : Process) → IsAmong p ps → IsAmong p s.processes) → AllHave own (map (λ p. ids_tree p.ids) ps) (map ids_in ps)
  all_have [] f = tt
  all_have (p ∷ ps) f = (own_has p (f p (inl refl)), all_have ps (λ q m. f q (inr m)))

  all_sorted : (ps : List Process) → ((p : Process) → IsAmong p ps → IsAmong p s.processes) → AllByRecursion IsSorted (map ids_in ps)
  all_sorted [] f = tt
  all_sorted (p ∷ ps) f = (ids_sorted p (f p (inl refl)), all_sorted ps (λ q m. f q (inr m)))

  pub joined_all : joined (map ids_in s.processes) ≡ all_ids rs
  joined_all = joined_map ids_in s.processes ∙ sym ids_all

  pub gathered : Gathers own (union_of (map (λ p. ids_tree p.ids) s.processes)) (joined (map ids_in s.processes))
  gathered =
      union_gathers own (map (λ p. ids_tree p.ids) s.processes) (map ids_in s.processes) (all_have s.processes (λ p m. m)) (all_sorted s.processes (λ p m. m))
      (subst (λ ids. length ids ≤ 64) (sym joined_all) none.few_ids)
      (λ q i. id_low q (subst (IsAmong q) joined_all i))

  pub own_set : option_and_then members_of (val (proc_set_of (own_module s)) own) ≡ Some gathered.members
  own_set =
      ap (λ ts. option_and_then members_of (val (union_of ts) own)) (map_map (written_process s) (λ p. p.ids) s.processes)
      ∙ gathered.has

  -- ProcSet is the set of all identifiers
  set_there : option_and_then members_of (val (name proc_set) (here [])) ≡ Some gathered.members
  set_there = ap (option_and_then members_of) (proc_set_value s consts free names u hu.variables after) ∙ own_set

  set_few : length gathered.members ≤ 64
  set_few = omega (arith, gathered.few, ap length joined_all, none.few_ids)

  set_keyed : keys (graph places_keys.0) ≡ in_order gathered.members
  set_keyed = places_keys.2 ∙ same_sorted (in_order (all_ids rs)) (in_order gathered.members) (sorted-in_order (all_ids rs)) (sorted-in_order gathered.members)
      (λ q i. in_order-in q gathered.members (among_in q gathered.members (gathered.out q (subst (IsAmong q) (sym joined_all) (in_among q (all_ids rs) (in-in_order q (all_ids rs) i))))))
      (λ q i. in_order-in q (all_ids rs) (among_in q (all_ids rs) (subst (IsAmong q) joined_all (gathered.into q (in_among q gathered.members (in-in_order q gathered.members i))))))

  abbrev place : Process → Name
  place p = first_label_or p (archetype_named p.archetype.name s.archetypes)

  abbrev at_self : Data → Names
  at_self id = (self_name, Some id) ∷ []

  -- an expression that doesn't name `self` is the same under it
  sem_self : (e : Tree) (id : Data) → Avoids (is_taken_or_self s) e → sem e (here (at_self id)) ≡ sem e (seen spec_defs [] [] None)
  sem_self e id a = sem_alike (is_taken_or_self s) e (here (at_self id)) (seen spec_defs [] [] None) (record { names = unnamed; part = refl; now = λ x g. unknown x (or_left (is_taken s x) (same_name x self_name) g); calls = λ x args g. module_related s consts free names u hu.variables after x args (or_left (is_taken s x) (same_name x self_name) g) }) a
    where
      unknown : (x : Name) → is_taken s x ≡ false → find x u ≡ None
      unknown x g = unseen s consts free names u hu.variables after x g

      unnamed : (x : Name) → is_taken_or_self s x ≡ false → find x (at_self id) ≡ None
      unnamed x g = ap (λ b. if b then Some (Some id) else None) (or_right (is_taken s x) (same_name x self_name) g)

  guard_value : (id : Data) → IsAmong id (all_ids rs) → (p : Process) → IsAmong p s.processes → val (binary infixs.In (name self_name) (ids_tree p.ids)) (here (at_self id)) ≡ Some (boolean (contains id (ids_in p)))
  guard_value id i p m = ap (λ o. option_and_then (λ v. from_truth ((sem (ids_tree p.ids) (here (at_self id))).holds v)) (or_else o (λ z. z) (or_else (find self_name u) (λ v. Some v) (call_def self_name [] (here []).defs)))) (ap (λ b. if b then Some (Some id) else None) (same_name-self self_name))
      ∙ ap from_truth (holds p.ids (process_named p m).ids (ids_in p) (ids_known p m) (id_bound p m))
    where
      value_self : (e : Tree) → Avoids (is_taken_or_self s) e → val e (here (at_self id)) ≡ closed_value ds e
      value_self e a = ap (λ z. z.value) (sem_self e id a)

      holds : (g : Origin) → OriginAvoids (is_taken_or_self s) (Some g) → (ids : List Data) → ids_of ds g ≡ Some ids → ((v : Data) → IsAmong v ids → CanBeBound v) → (sem (ids_tree g) (here (at_self id))).holds id ≡ Some (contains id ids)
      holds (Equals e) a ids k b =
          let r = set_is (val (only e) (here (at_self id))) ids (ids_has (here (at_self id)) (is_taken_or_self s) value_self (ids_of ds (Equals e)) (Equals e) a refl ids k b) in
          ap (is_member id) r.1 ∙ ap (λ ms. Some (contains id ms)) r.2
      holds (In e) a ids k b =
          let r = set_is (closed_value ds e) ids k in
          ap (λ z. z.holds id) (sem_self e id a) ∙ held e r.0 id r.1 (id_value id i) ∙ ap (λ ms. Some (contains id ms)) r.2

  case_value_at : (id : Data) (p : Process) → IsAmong p s.processes → IsAmong id (ids_in p) → val (case_of (arms (map (first_arm s) s.processes))) (here (at_self id)) ≡ Some (string (place p))
  case_value_at id p m i =
      case_at (λ p. ids_tree p.ids) ids_in place self_name (here (at_self id)) id s.processes (guard_value id (process_ids p id m i)) (subst StandOnce ids_all none.once) p m i

  abbrev PlacesAll : Type 0
  PlacesAll = (p : Process) (id : Data) → IsAmong p s.processes → IsAmong id (ids_in p) → value_in u pc id ≡ Some (string (place p))

  pub places-yes : is_true (val (places_start s) (here [])) ↔ PlacesAll
  places-yes =
      iff_then (equal-each s consts free names u hu.variables after (name proc_set) gathered.members set_there set_few gathered.sorted pc (pc_there s) places_keys.0 places_keys.1 set_keyed hu.shallow
      (case_of (arms (map (first_arm s) s.processes))) (λ id v. val (case_of (arms (map (first_arm s) s.processes))) (here (at_self id)) ≡ Some v) (λ id v. (λ k. k, λ k. k)))
      (to, from)
    where
      Each : Type 0
      Each = (id : Data) → IsAmong id gathered.members → (v : Data) × (value_in u pc id ≡ Some v) × (val (case_of (arms (map (first_arm s) s.processes))) (here (at_self id)) ≡ Some v)

      to : ((id : Data) → IsAmong id gathered.members → (v : Data) × (value_in u pc id ≡ Some v) × (val (case_of (arms (map (first_arm s) s.processes))) (here (at_self id)) ≡ Some v)) → PlacesAll
      to k p id m i =
          let r = k id (gathered.out id (subst (IsAmong id) (sym joined_all) (process_ids p id m i))) in
          r.1 ∙ sym r.2 ∙ case_value_at id p m i

      from : PlacesAll → (id : Data) → IsAmong id gathered.members → (v : Data) × (value_in u pc id ≡ Some v) × (val (case_of (arms (map (first_arm s) s.processes))) (here (at_self id)) ≡ Some v)
      from k id i =
          let o = from_flat_map ids_in id s.processes (subst (IsAmong id) (joined_map ids_in s.processes) (gathered.into id i)) in
          (string (place o.0), k o.0 id o.1 o.2, case_value_at id o.0 o.1 o.2)

  -- items of globals
  global_there : (d : Declaration) → IsAmong d s.globals → is_among d.name.name (variables_of s) ≡ true
  global_there d m =
      let ns = map (λ d. d.name.name) s.globals in
      let own_vars = flat_map (λ p. map (written p.name.name) (own_names s p)) s.processes in
      among_is d.name.name (variables_of s) (among_left d.name.name (ns ++ (pc ∷ [])) own_vars (among_left d.name.name ns (pc ∷ []) (among_map (λ d. d.name.name) d s.globals m)))

  global_held : (d : Declaration) → IsAmong d s.globals → (o : Option Origin) → d.initial ≡ o → OriginHeld s consts free names u hu.variables after o
  global_held d m None q = tt
  global_held d m (Some (Equals e)) q = tt
  global_held d m (Some (In e)) q = λ v x f.
      let b = global_begins s.archetypes ds rs gs none (global_of ds rs d) (among_map (global_of ds rs) d s.globals m) in
      let y = members_begin (closed_value ds e) b.0 (sym (ap (global_start ds) q) ∙ b.1) in
      let r = set_is (closed_value ds e) y.0 y.1 in
      held e r.0 v r.1 (found_value u x v hu.values f) ∙ sym (ap (is_member v) r.1)

  GlobalsAll : Type 0
  GlobalsAll = (d : Declaration) → IsAmong d s.globals → (v : Data) × (find d.name.name u ≡ Some v) × StartsAs ds d.initial v

  globals-yes : AllYes (here []) (map (λ d. global_starts d.name.name d.initial) s.globals) ↔ GlobalsAll
  unfolding GlobalsAll
  globals-yes =
      iff_then (all_mapped (here []) (λ d. global_starts d.name.name d.initial) s.globals)
      (λ k d m. (one d m).0 (k d m), λ k d m. (one d m).1 (k d m))
    where
      one : (d : Declaration) → IsAmong d s.globals → is_true (val (global_starts d.name.name d.initial) (here [])) ↔ ((v : Data) × (find d.name.name u ≡ Some v) × StartsAs ds d.initial v)
      one d m = global-yes s consts free names u hu.variables after d.name.name d.initial (global_there d m) (all_at (λ d. OriginAvoids (is_taken s) d.initial) d s.globals names.globals m) (global_held d m d.initial refl)

  -- items of a process
  module _ (p : Process) (m : IsAmong p s.processes) (a : Archetype) (e : archetype_named p.archetype.name s.archetypes ≡ Some a) where
    abbrev handed : List Handed
    handed = handed_from 1 a.params p.arguments

    own_among : (x : Name) → IsAmong x (names_with p a) → IsAmong x (own_names s p)
    own_among x i = subst (λ o. IsAmong x (names_or_none p o)) (sym e) i

    own_there : (x : Name) → IsAmong x (names_with p a) → is_among (written p.name.name x) (variables_of s) ≡ true
    own_there x i =
        let ns = map (λ d. d.name.name) s.globals in
        let own_vars = flat_map (λ p. map (written p.name.name) (own_names s p)) s.processes in
        among_is (written p.name.name x) (variables_of s)
        (among_right (written p.name.name x) (ns ++ (pc ∷ [])) own_vars (among_flat_map (λ p. map (written p.name.name) (own_names s p)) p (written p.name.name x) s.processes m (among_map (written p.name.name) x (own_names s p) (own_among x i))))

    own_function : (x : Name) → IsAmong x (names_with p a) → (ps : Pairs) × (find (written p.name.name x) u ≡ Some (function ps)) × (keys (graph ps) ≡ in_order (ids_in p))
    own_function x i =
        let n = nth_among p s.processes m in
        let k = nth_among x (own_names s p) (own_among x i) in
        let f = hu.locals n.0 k.0 p x n.1 k.1 in
        (f.0, f.1, f.2 ∙ ap in_order (instances_of_process s rs (run_with ds p a) (runs_different s ds w.processes_differ) (run_there p a m e)))

    few_here : length (ids_in p) ≤ 64
    few_here = omega (arith, part_length ids_in p s.processes m, ap length ids_all, none.few_ids)

    own_item : (x : Name) → IsAmong x (names_with p a) → (o : Option Origin) → OriginAvoids (is_taken s) o → OriginSet s consts free names u hu.variables after o
        → is_true (val (own_starts (ids_tree p.ids) (written p.name.name x) o) (here [])) ↔ ((id : Data) → IsAmong id (ids_in p) → (v : Data) × (value_in u (written p.name.name x) id ≡ Some v) × StartsAt ds o id v)
    own_item x i o n k =
        let f = own_function x i in
        own-yes s consts free names u hu.variables after (ids_tree p.ids) (ids_in p) (here_has p m) few_here (ids_sorted p m) (written p.name.name x) (own_there x i) f.0 f.1 f.2 hu.shallow o n k

    local_named : (d : Declaration) → IsAmong d a.locals → OriginAvoids (is_taken s) d.initial
    local_named d i = all_at (λ d. OriginAvoids (is_taken s) d.initial) d a.locals (all_at (λ a. AllByRecursion (λ d. OriginAvoids (is_taken s) d.initial) a.locals) a s.archetypes names.archetypes (archetype_among p.archetype.name s.archetypes a e)) i

    local_set_there : (d : Declaration) → IsAmong d a.locals → (o : Option Origin) → d.initial ≡ o → OriginSet s consts free names u hu.variables after o
    local_set_there d i None q = tt
    local_set_there d i (Some (Equals f)) q = tt
    local_set_there d i (Some (In f)) q =
        let all = none_left (lacking s.archetypes ds rs NoSet) (flat_map (unset_in_run ds) rs) (none_right (filter_map unset_global gs) (lacking s.archetypes ds rs NoSet ++ flat_map (unset_in_run ds) rs) none.unset) in
        let each = none_flat_map (lacking_in ds NoSet) a (archetypes_run s.archetypes rs) all (run_archetype s ds (run_with ds p a) (run_there p a m e)) in
        let here_none = none_filter_map (lacking_local ds NoSet) d a.locals each i in
        let l = where_false (lacks_in NoSet (local_set ds d.initial)) (at_place d.name) here_none in
        not_lacking (option_and_then members_of (closed_value ds f)) (sym (ap (λ z. lacks_in NoSet (local_set ds z)) q) ∙ l)

    abbrev ArgumentsAll : Type 0
    ArgumentsAll = (k : Handed) (t : Tree) → IsAmong k handed → expression_of k.argument ≡ Some t → (id : Data) → IsAmong id (ids_in p)
        → (v : Data) × (value_in u (written p.name.name k.parameter.name.name) id ≡ Some v) × (value_at ds id t ≡ Some v)

    abbrev LocalsAll : Type 0
    LocalsAll = (d : Declaration) → IsAmong d a.locals → (id : Data) → IsAmong id (ids_in p)
        → (v : Data) × (value_in u (written p.name.name d.name.name) id ≡ Some v) × StartsAt ds d.initial id v

    argument_item : (k : Handed) (t : Tree) → IsAmong k handed → expression_of k.argument ≡ Some t
        → is_true (val (own_starts (ids_tree p.ids) (written p.name.name k.parameter.name.name) (Some (Equals t))) (here [])) ↔ ((id : Data) → IsAmong id (ids_in p) → (v : Data) × (value_in u (written p.name.name k.parameter.name.name) id ≡ Some v) × (value_at ds id t ≡ Some v))
    argument_item k t i q =
        own_item k.parameter.name.name
        (among_left k.parameter.name.name (filter_map (λ h. value_name h.parameter.name.name h.argument) handed) (map (λ d. d.name.name) a.locals) (among_filter_map (λ h. value_name h.parameter.name.name h.argument) k k.parameter.name.name handed i (value_named k.parameter.name.name k.argument t q)))
        (Some (Equals t))
        (argument_avoids (is_taken s) k.argument t (all_at (ArgumentAvoids (is_taken s)) k.argument p.arguments (process_named p m).arguments (handed_argument 1 a.params p.arguments k i)) q)
        tt

    local_item : (d : Declaration) → IsAmong d a.locals → is_true (val (own_starts (ids_tree p.ids) (written p.name.name d.name.name) d.initial) (here [])) ↔ ((id : Data) → IsAmong id (ids_in p) → (v : Data) × (value_in u (written p.name.name d.name.name) id ≡ Some v) × StartsAt ds d.initial id v)
    local_item d i =
        own_item d.name.name (among_right d.name.name (filter_map (λ h. value_name h.parameter.name.name h.argument) handed) (map (λ d. d.name.name) a.locals) (among_map (λ d. d.name.name) d a.locals i)) d.initial (local_named d i) (local_set_there d i d.initial refl)

    arguments-yes : AllYes (here []) (filter_map (λ h. argument_starts p.name.name (ids_tree p.ids) h.parameter.name.name h.argument) handed) ↔ ArgumentsAll
    arguments-yes =
        iff_then (all_filtered (here []) (λ h. argument_starts p.name.name (ids_tree p.ids) h.parameter.name.name h.argument) handed)
        (to, from)
      where
        to : ((k : Handed) (t : Tree) → IsAmong k handed → argument_starts p.name.name (ids_tree p.ids) k.parameter.name.name k.argument ≡ Some t → is_true (val t (here []))) → ArgumentsAll
        to g k t i q = (argument_item k t i q).0 (g k (own_starts (ids_tree p.ids) (written p.name.name k.parameter.name.name) (Some (Equals t))) i (is_argument p.name.name (ids_tree p.ids) k.parameter.name.name k.argument t q))

        from : ArgumentsAll → (k : Handed) (t : Tree) → IsAmong k handed → argument_starts p.name.name (ids_tree p.ids) k.parameter.name.name k.argument ≡ Some t → is_true (val t (here []))
        from g k t i q =
            let r = argument_is p.name.name (ids_tree p.ids) k.parameter.name.name k.argument t q in
            subst (λ z. is_true (val z (here []))) (sym r.2) ((argument_item k r.0 i r.1).1 (g k r.0 i r.1))

    locals-yes : AllYes (here []) (map (λ d. own_starts (ids_tree p.ids) (written p.name.name d.name.name) d.initial) a.locals) ↔ LocalsAll
    locals-yes =
        iff_then (all_mapped (here []) (λ d. own_starts (ids_tree p.ids) (written p.name.name d.name.name) d.initial) a.locals)
        (λ g d i. (local_item d i).0 (g d i), λ g d i. (local_item d i).1 (g d i))

    process-yes : AllYes (here []) (process_starts s p) ↔ (ArgumentsAll × LocalsAll)
    process-yes =
        subst (λ o. AllYes (here []) (starts_or_none p o) ↔ (ArgumentsAll × LocalsAll)) (sym e)
        (iff_then (all_append (here []) (filter_map (λ h. argument_starts p.name.name (ids_tree p.ids) h.parameter.name.name h.argument) handed) (map (λ d. own_starts (ids_tree p.ids) (written p.name.name d.name.name) d.initial) a.locals))
        (pair_iff arguments-yes locals-yes))

  from_run : (r : Run) → IsAmong r rs → (p : Process) × IsAmong p s.processes × ((a : Archetype) × (archetype_named p.archetype.name s.archetypes ≡ Some a) × (r ≡ run_with ds p a))
  from_run r i =
      let o = from_filter_map (run_of s ds) r s.processes i in
      let k = mapped_some (run_with ds o.0) (archetype_named o.0.archetype.name s.archetypes) r o.2 in
      (o.0, o.1, (k.0, k.1, k.2))

  place_of_run : (p : Process) (a : Archetype) → archetype_named p.archetype.name s.archetypes ≡ Some a → place p ≡ first_label (run_with ds p a)
  place_of_run p a e = ap (first_label_or p) e

  ProcessesAll : Type 0
  ProcessesAll = (p : Process) → IsAmong p s.processes → AllYes (here []) (process_starts s p)

  runs-yes : (GlobalsAll × PlacesAll × ProcessesAll) ↔ ByRuns s ds u
  unfolding GlobalsAll ProcessesAll
  runs-yes = (to, from)
    where
      to : GlobalsAll × PlacesAll × ProcessesAll → ByRuns s ds u
      to g = record {
        globals = g.0;
        places = λ r id i k. let o = from_run r i in
            subst (λ z. IsAmong id (run_ids z) → value_in u pc id ≡ Some (string (first_label z))) (sym o.2.2) (λ j. g.1 o.0 id o.1 j ∙ ap (λ l. Some (string l)) (place_of_run o.0 o.2.0 o.2.1)) k;
        locals = λ r id d i k l. let o = from_run r i in
            subst (λ z. IsAmong id (run_ids z) → IsAmong d z.archetype.locals → (v : Data) × (value_in u (written z.process.name.name d.name.name) id ≡ Some v) × StartsAt ds d.initial id v) (sym o.2.2)
            (λ j n. ((process-yes o.0 o.1 o.2.0 o.2.1).0 (g.2 o.0 o.1)).1 d n id j) k l;
        arguments = λ r id h t i k l x. let o = from_run r i in
            subst (λ z. IsAmong id (run_ids z) → IsAmong h z.handed → (v : Data) × (value_in u (written z.process.name.name h.parameter.name.name) id ≡ Some v) × (value_at ds id t ≡ Some v)) (sym o.2.2)
            (λ j n. ((process-yes o.0 o.1 o.2.0 o.2.1).0 (g.2 o.0 o.1)).0 h t n x id j) k l;
      }

      from : ByRuns s ds u → GlobalsAll × PlacesAll × ProcessesAll
      from b = (
        b.globals,
        λ p id m i. let a = arche p m in b.places (run_with ds p a.0) id (run_there p a.0 m a.1) i ∙ ap (λ l. Some (string l)) (sym (place_of_run p a.0 a.1)),
        λ p m. let a = arche p m in (process-yes p m a.0 a.1).1 (
          λ k t i q id j. b.arguments (run_with ds p a.0) id k t (run_there p a.0 m a.1) j i q,
          λ d i id j. b.locals (run_with ds p a.0) id d (run_there p a.0 m a.1) j i,
        ),
      )

  items-yes : AllYes (here []) (start_items s) ↔ (GlobalsAll × PlacesAll × ProcessesAll)
  unfolding ProcessesAll
  items-yes =
      let gs = map (λ d. global_starts d.name.name d.initial) s.globals in
      let rest = flat_map (process_starts s) s.processes in
      iff_then (all_append (here []) (gs ++ (places_start s ∷ [])) rest)
      (iff_then (pair_iff (all_append (here []) gs (places_start s ∷ [])) (all_flat (here []) (process_starts s) s.processes))
      (λ k. (globals-yes.0 k.0.0, places-yes.0 k.0.1.0, k.1), λ k. ((globals-yes.1 k.0, (places-yes.1 k.1, tt)), k.2)))

  begins-declares : is_true (val (all_of (start_items s)) (here [])) ↔ Declares (bound_of s consts) u
  begins-declares =
      iff_then (all-yes (here []) (start_items s))
      (iff_then items-yes (iff_then runs-yes (iff_back (declares-runs s consts w h u))))

-- the module's Init agrees with the declared starts
begins-own : (s : Spec) (consts : List (Name × Data)) → ModuleNames s → StartNames s consts → SetsOrdered s consts → WellNamed s → bind_refusal s consts ≡ None → BeginsAgree (own_module s) (constants_with s consts) (bound_of s consts)
begins-own s consts free names sets w r u hu =
    let ds = values.defs_of s consts in
    begins-declares s consts free names w (none_next (constants_refused s consts) (heads_refused s.archetypes ds (runs_of s ds) (globals_of s ds (runs_of s ds))) r) sets u hu None

pub begins-agree : (s : Spec) (consts : List (Name × Data)) → ModuleNames s → StartNames s consts → SetsOrdered s consts → WellNamed s → bind_refusal s consts ≡ None → BeginsAgree (module_of s) (constants_with s consts) (bound_of s consts)
begins-agree s consts free names sets w r =
    subst (λ m. BeginsAgree m (constants_with s consts) (bound_of s consts)) (ap (λ ts. module_by s (all_of ts)) (sym (init_is s w names.places)) ∙ module_is s) (begins-own s consts free names sets w r)
