-- When the items of Init are TRUE: of globals, of locals and value parameters.
use Rattle.std.proofs.Common.{◌≡◌, ◌↔◌, ◌*◌, ◌≤◌, Bool, true, false, List, [], ◌∷◌, length, map, Option, Some, None, refl, sym, ap, ◌∙◌, subst, option_and_then, option_map, arith}
use Rattle.std.proofs.lemmas.Bool.Decides.{nat_tests}
use Rattle.std.specs.Prelude.{if◌then◌else◌, ◌&&◌, nat_le}
use Rattle.std.proofs.lemmas.Option.{same_Some}
use Rattle.pgo_base.specs.declared.module.Defined as memory
use Rattle.pgo_base.specs.Data.{Data, boolean, integer, string, model, set, function, Pairs, graph, keys, Items, members}
use Rattle.pgo_base.specs.Lookup.{Name, Names, Vars, same_name, find}
use Rattle.pgo_base.specs.Sets.{in_order, IsSorted, same_sorted, sorted-in_order, in-in_order, in_order-in}
use Rattle.pgo_base.specs.Size.{depth}
use Rattle.pgo_base.specs.Tree.{Tree, name, fun_set}
use Rattle.pgo_model.specs.FunctionSets.{graph_fits, function_choices, fits}
use Rattle.pgo_model.specs.Operators.{both, each, contains, members_of, is_member, from_truth, apply, lookup, function_from, same_data, choices}
use Rattle.pgo_model.specs.State.{is_shallow, state_depth}
use Rattle.pgo_model.specs.Val.{Scope, sem, val, seen, with_names, call_def, or_else, over_each, function_over, index_of, name_values}
use Rattle.pgo_model.specs.Written.{self_name, default_init_value}
use Rattle.pgo_syntax.specs.declared.binding.Origin.{Origin}
use Rattle.pgo_syntax.specs.declared.binding.Origin.TheVariants.{Equals, In}
use Rattle.pgo_syntax.specs.declared.spec.Spec.{Spec}
use Rattle.pgo_bound.specs.Declares.{StartsAs, StartsAt, value_in}
use Rattle.pgo_bound.specs.State.{variables_of}
use Rattle.pgo_bound.specs.Values as values
use Rattle.pgo_bound.specs.Values.{closed_value, value_at, value_with}
use Rattle.pgo_bound.specs.Among.{IsAmong}
use Rattle.pgo_values.proofs.Graphs.{sorted_once}
use Rattle.pgo_values.proofs.Lists.{length_keys}
use Rattle.pgo_translate.specs.Avoids.{Avoids}
use Rattle.pgo_model.specs.Names.{is_among}
use Rattle.pgo_translate.specs.Items.{equals}
use Rattle.pgo_translate.specs.ModuleOf.{global_starts, own_starts, for_each_id, member}
use Rattle.pgo_translate.specs.Premises.{ModuleNames, StartNames, OriginAvoids, is_taken}
use Rattle.pgo_translate.proofs.Actions.{named_known}
use Rattle.pgo_translate.proofs.Graphs.{pairs_of, function-yes, fits-yes, few_made, each_choice}
use Rattle.pgo_translate.proofs.Kleene.{is_true, iff_then}
use Rattle.pgo_translate.proofs.StartValues.{at_start, start_sem, default_value, specification}
use Rattle.pgo_translate.proofs.Truths.{from_truth-yes, equal-yes}

-- each variable is shallow where all are
pub shallow_at : (s : Vars) (x : Name) (v : Data) → is_shallow s ≡ true → find x s ≡ Some v → depth v ≤ 256
shallow_at [] x v h e = absurd (cc)
shallow_at (p ∷ ps) x v h e = go (nat_le (depth p.1) state_depth) refl (same_name x p.0) h e (shallow_at ps x v)
  where
    go : (b : Bool) → nat_le (depth p.1) state_depth ≡ b → (c : Bool) → b && is_shallow ps ≡ true → (if c then Some p.1 else find x ps) ≡ Some v → (is_shallow ps ≡ true → find x ps ≡ Some v → depth v ≤ 256) → depth v ≤ 256
    go false g c k f r = absurd (cc)
    go true g true k f r = let q : p.1 ≡ v = same_Some p.1 v f in subst (λ w. depth w ≤ 256) q (grind (arith, nat_tests))
    go true g false k f r = r k f

-- an equation of the value of a variable, which is there, and some value
equation-yes : (a b o p : Option Data) → a ≡ o → b ≡ p → is_true (option_and_then (λ v. option_and_then (λ w. Some (boolean (same_data v w))) b) a) ↔ ((v : Data) × (o ≡ Some v) × (p ≡ Some v))
equation-yes a b o p e f = subst (λ x. is_true (option_and_then (λ v. option_and_then (λ w. Some (boolean (same_data v w))) b) a) ↔ ((v : Data) × (x ≡ Some v) × (p ≡ Some v))) e (subst (λ y. is_true (option_and_then (λ v. option_and_then (λ w. Some (boolean (same_data v w))) b) a) ↔ ((v : Data) × (a ≡ Some v) × (y ≡ Some v))) f (equal-yes a b))

member_true : (o : Option Data) (f : Data → Option Bool) → is_true (option_and_then (λ v. from_truth (f v)) o) ↔ ((v : Data) × (o ≡ Some v) × (f v ≡ Some true))
member_true None f = (λ h. absurd (cc), λ h. absurd (let e = h.1 in cc))
member_true (Some v) f = (
  λ h. (v, refl, (from_truth-yes (f v)).0 h),
  λ h. (from_truth-yes (f v)).1 (ap f (same_Some v h.0 h.1) ∙ h.2),
)

each_same : {A B : Type 0} (f g : A → Option B) → ((a : A) → f a ≡ g a) → (xs : List A) → each f xs ≡ each g xs
each_same f g h [] = refl
each_same f g h (x ∷ xs) = λ i. both (λ b bs. Some (b ∷ bs)) (h x i) (each_same f g h xs i)

-- what a set is that has members
pub set_is : (o : Option Data) (ms : List Data) → option_and_then members_of o ≡ Some ms → (xs : Items) × (o ≡ Some (set xs)) × (members xs ≡ ms)
set_is None ms h = absurd (cc)
set_is (Some (set xs)) ms h = (xs, refl, same_Some (members xs) ms h)
set_is (Some (boolean b)) ms h = absurd (cc)
set_is (Some (integer b)) ms h = absurd (cc)
set_is (Some (string b)) ms h = absurd (cc)
set_is (Some (model b)) ms h = absurd (cc)
set_is (Some (function b)) ms h = absurd (cc)

-- \in where the left side is a given value and the right side decides it by a test
decided_true : (f : Data → Option Bool) (o : Option Data) (v : Data) (g : Bool) → o ≡ Some v → f v ≡ Some g → is_true (option_and_then (λ w. from_truth (f w)) o) ↔ (g ≡ true)
decided_true f o v g e h = (
  λ k. let r = (member_true o f).0 k in same_Some g true (sym h ∙ ap f (same_Some v r.0 (sym e ∙ r.1)) ∙ r.2),
  λ k. (member_true o f).1 (v, e, h ∙ ap Some k),
)

-- a value that is given in another way
pub through : (o p : Option Data) (v : Data) → o ≡ p → (o ≡ Some v) ↔ (p ≡ Some v)
through o p v e = (λ h. sym e ∙ h, λ h. e ∙ h)

-- at each identifier, said in another way
each_iff : (ids : List Data) (at to : Data → Option Data) (P Q : Data → Data → Type 0) → ((id : Data) → at id ≡ to id) → ((id v : Data) → P id v ↔ Q id v)
    → ((id : Data) → IsAmong id ids → (v : Data) × (at id ≡ Some v) × P id v) ↔ ((id : Data) → IsAmong id ids → (v : Data) × (to id ≡ Some v) × Q id v)
each_iff ids at to P Q e f = (
  λ h id i. let r = h id i in (r.0, sym (e id) ∙ r.1, (f id r.0).0 r.2),
  λ h id i. let r = h id i in (r.0, e id ∙ r.1, (f id r.0).1 r.2),
)

-- an equation with a function that is there
function_there : (o p : Option Data) (v : Data) → o ≡ Some v → ((w : Data) × (o ≡ Some w) × (p ≡ Some w)) ↔ (p ≡ Some v)
function_there o p v e = (λ h. h.2 ∙ ap Some (sym (same_Some v h.0 (sym e ∙ h.1))), λ h. (v, e, h))

module _ (s : Spec) (consts : List (Name × Data)) (free : ModuleNames s) (names : StartNames s consts) (u : Vars) (known : map (λ p. p.0) u ≡ variables_of s) (after : Option Vars) where
  abbrev pub ds : List memory.Defined
  ds = values.defs_of s consts

  abbrev pub here : Names → Scope
  here ns = at_start s consts free names u known after ns

  abbrev pub avoided : Name → Bool
  avoided = is_taken s

  start_value : (e : Tree) → Avoids avoided e → (ns : Names) → val e (here ns) ≡ value_with ds ns e
  start_value e h ns = ap (λ m. m.value) (start_sem s consts free names u known after e h ns)

  variable_value : (x : Name) → is_among x (variables_of s) ≡ true → val (name x) (here []) ≡ find x u
  variable_value x m =
      let k = named_known u (variables_of s) known x m in
      ap (λ o. or_else o (λ v. Some v) (call_def x [] (here []).defs)) k.1 ∙ sym k.1

  default_here : (ns : Names) → find default_init_value ns ≡ None → val (name default_init_value) (here ns) ≡ Some (model default_init_value)
  default_here ns h = default_value s consts free names u known after ns h

  same_model : (v : Data) → (Some (model default_init_value) ≡ Some v) ↔ (v ≡ model default_init_value)
  same_model v = (λ h. sym (same_Some (model default_init_value) v h), λ h. ap Some (sym h))

  exists_iff : {A B C : Data → Type 0} → ((v : Data) → B v ↔ C v) → ((v : Data) × A v × B v) ↔ ((v : Data) × A v × C v)
  exists_iff f = (λ h. (h.0, h.1, (f h.0).0 h.2), λ h. (h.0, h.1, (f h.0).1 h.2))

  -- what `\in` asks is what the set has
  abbrev pub Held : Tree → Type 0
  Held e = (v : Data) (x : Name) → find x u ≡ Some v → (sem e (seen (specification s consts free names u known after) [] [] None)).holds v ≡ is_member v (closed_value ds e)

  abbrev pub OriginHeld : Option Origin → Type 0
  OriginHeld None = Unit {0}
  OriginHeld (Some (Equals e)) = Unit {0}
  OriginHeld (Some (In e)) = Held e

  -- the set of `\in` has members
  abbrev pub OriginSet : Option Origin → Type 0
  OriginSet None = Unit {0}
  OriginSet (Some (Equals e)) = Unit {0}
  OriginSet (Some (In e)) = (ys : List Data) × (option_and_then members_of (closed_value ds e) ≡ Some ys)

  -- an item of a global
  pub global-yes : (x : Name) (o : Option Origin) → is_among x (variables_of s) ≡ true → OriginAvoids avoided o → OriginHeld o
      → is_true (val (global_starts x o) (here [])) ↔ ((v : Data) × (find x u ≡ Some v) × StartsAs ds o v)
  global-yes x None m a k =
      iff_then (equation-yes (val (name x) (here [])) (val (name default_init_value) (here [])) (find x u) (Some (model default_init_value)) (variable_value x m) (default_here [] refl)) (exists_iff same_model)
  global-yes x (Some (Equals e)) m a k =
      equation-yes (val (name x) (here [])) (val e (here [])) (find x u) (closed_value ds e) (variable_value x m) (start_value e a [])
  global-yes x (Some (In e)) m a k =
      subst (λ o. is_true (option_and_then (λ v. from_truth ((sem e (here [])).holds v)) o) ↔ ((v : Data) × (find x u ≡ Some v) × (is_member v (closed_value ds e) ≡ Some true))) (sym (variable_value x m))
      (iff_then (member_true (find x u) (λ v. (sem e (here [])).holds v))
      (λ h. (h.0, h.1, sym (held h.0 h.1) ∙ h.2), λ h. (h.0, h.1, held h.0 h.1 ∙ h.2)))
    where
      held : (v : Data) → find x u ≡ Some v → (sem e (here [])).holds v ≡ is_member v (closed_value ds e)
      held v q = ap (λ m. m.holds v) (start_sem s consts free names u known after e a []) ∙ k v x q

  -- an item of a local or a value parameter of a process with these identifiers
  module _ (it : Tree) (ids : List Data) (ids_there : option_and_then members_of (val it (here [])) ≡ Some ids) (few_ids : length ids ≤ 64) (ids_sorted : IsSorted ids) where
    abbrev pub at_id : Tree → Data → Option Data
    at_id e id = val e (here ((self_name, Some id) ∷ []))

    -- the function whose value e gives at each identifier
    for_each_value : (e : Tree) → val (for_each_id it e) (here []) ≡ option_and_then function_from (pairs_of (at_id e) ids)
    for_each_value e =
        ap (λ o. option_and_then (λ over. function_over over (λ ns. (sem e (with_names ns (here []))).value) []) (both (λ ms rest. Some (over_each (self_name ∷ []) ms rest)) o (Some []))) ids_there
        ∙ few_made (length ids * 1) (λ _. option_and_then function_from (each (λ vs. both (λ k v. Some (k, v)) (index_of vs) ((sem e (with_names (name_values (self_name ∷ []) vs []) (here []))).value)) (choices (ids ∷ [])))) (omega (arith, few_ids))
        ∙ ap (option_and_then function_from) (each_choice (λ vs. both (λ k v. Some (k, v)) (index_of vs) ((sem e (with_names (name_values (self_name ∷ []) vs []) (here []))).value)) ids)

    module _ (x : Name) (m : is_among x (variables_of s) ≡ true) (ps : Pairs) (there : find x u ≡ Some (function ps)) (keyed : keys (graph ps) ≡ in_order ids) (shallow : is_shallow u ≡ true) where
      low : depth (function ps) ≤ 256
      low = shallow_at u x (function ps) shallow there

      keyed_ids : keys (graph ps) ≡ ids
      keyed_ids = keyed ∙ same_sorted (in_order ids) ids (sorted-in_order ids) ids_sorted (λ z i. in-in_order z ids i) (λ z i. in_order-in z ids i)

      few : length (graph ps) ≤ 64
      few = omega (arith, few_ids, ap length keyed_ids, length_keys (graph ps))

      value_there : (id : Data) → value_in u x id ≡ lookup id (graph ps)
      value_there id = ap (option_and_then (λ f. apply f id)) there

      abbrev pub Each : (Data → Data → Type 0) → Type 0
      Each P = (id : Data) → IsAmong id ids → (v : Data) × (value_in u x id ≡ Some v) × P id v

      -- of an equation
      pub equal-each : (e : Tree) (P : Data → Data → Type 0) → ((id v : Data) → (at_id e id ≡ Some v) ↔ P id v) → is_true (val (equals (name x) (for_each_id it e)) (here [])) ↔ Each P
      equal-each e P f =
          iff_then (equation-yes (val (name x) (here [])) (val (for_each_id it e) (here [])) (find x u) (option_and_then function_from (pairs_of (at_id e) ids)) (variable_value x m) (for_each_value e))
          (iff_then (function_there (find x u) (option_and_then function_from (pairs_of (at_id e) ids)) (function ps) there)
          (iff_then (function-yes (at_id e) ids ps keyed (omega (arith, few)) (omega (arith, low)))
          (each_iff ids (λ id. lookup id (graph ps)) (value_in u x) (λ id v. at_id e id ≡ Some v) P (λ id. sym (value_there id)) f)))

      module _ (e : Tree) (a : Avoids avoided e) (ys : List Data) (q : option_and_then members_of (closed_value ds e) ≡ Some ys) where
        it_set : (xs : Items) × (val it (here []) ≡ Some (set xs)) × (members xs ≡ ids)
        it_set = set_is (val it (here [])) ids ids_there

        e_set : (zs : Items) × (val e (here []) ≡ Some (set zs)) × (members zs ≡ ys)
        e_set = set_is (val e (here [])) ys (ap (option_and_then members_of) (start_value e a []) ∙ q)

        holds_is : (sem (fun_set it e) (here [])).holds (function ps) ≡ Some (graph_fits (map (λ z. (z, ys)) ids) (graph ps))
        holds_is =
            (λ i. option_map (λ c. fits c (function ps)) (both function_choices (it_set.1 i) (e_set.1 i)))
            ∙ (λ i. Some (graph_fits (map (λ z. (z, e_set.2 i)) (it_set.2 i)) (graph ps)))

        member_is : (v : Data) → is_member v (closed_value ds e) ≡ Some (contains v ys)
        member_is v = ap (is_member v) (sym (start_value e a []) ∙ e_set.1) ∙ ap (λ ms. Some (contains v ms)) e_set.2

        decided : is_true (val (member (name x) (fun_set it e)) (here [])) ↔ (graph_fits (map (λ z. (z, ys)) ids) (graph ps) ≡ true)
        decided = decided_true (sem (fun_set it e) (here [])).holds (val (name x) (here [])) (function ps) (graph_fits (map (λ z. (z, ys)) ids) (graph ps)) (variable_value x m ∙ there) holds_is

        set-each : is_true (val (member (name x) (fun_set it e)) (here [])) ↔ Each (λ id v. is_member v (closed_value ds e) ≡ Some true)
        set-each =
            iff_then decided
            (iff_then (fits-yes ids ys (graph ps) keyed_ids (sorted_once ids ids_sorted))
            (each_iff ids (λ id. lookup id (graph ps)) (value_in u x) (λ id v. contains v ys ≡ true) (λ id v. is_member v (closed_value ds e) ≡ Some true) (λ id. sym (value_there id)) (λ id v. (λ h. member_is v ∙ ap Some h, λ h. same_Some (contains v ys) true (sym (member_is v) ∙ h)))))

      none-each : is_true (val (own_starts it x None) (here [])) ↔ Each (λ id v. v ≡ model default_init_value)
      none-each = equal-each (name default_init_value) (λ id v. v ≡ model default_init_value) (λ id v. iff_then (through (at_id (name default_init_value) id) (Some (model default_init_value)) v (default_here ((self_name, Some id) ∷ []) refl)) (same_model v))

      value-each : (e : Tree) → Avoids avoided e → is_true (val (own_starts it x (Some (Equals e))) (here [])) ↔ Each (λ id v. value_at ds id e ≡ Some v)
      value-each e a = equal-each e (λ id v. value_at ds id e ≡ Some v) (λ id v. through (at_id e id) (value_at ds id e) v (start_value e a ((self_name, Some id) ∷ [])))

      -- at each identifier the variable starts as it is declared
      pub own-yes : (o : Option Origin) → OriginAvoids avoided o → OriginSet o → is_true (val (own_starts it x o) (here [])) ↔ Each (λ id v. StartsAt ds o id v)
      own-yes None a k = none-each
      own-yes (Some (Equals e)) a k = value-each e a
      own-yes (Some (In e)) a k = set-each e a k.0 k.1
