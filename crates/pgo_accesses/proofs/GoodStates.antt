-- A good state of a bound specification, as its instances' sections find it.
use Rattle.std.proofs.Common.{◌≡◌, ℕ, suc, ◌≤◌, Bool, true, false, ◌||◌, List, [], ◌∷◌, ◌++◌, map, length, Option, Some, None, inl, inr, refl, sym, ap, ◌∙◌, subst, arith, cond, option_and_then}
use Rattle.std.specs.Prelude.{if◌then◌else◌, not, ◌&&◌, filter, is_some}
use Rattle.std.specs.declared.cmp.Ordering.{Ordering}
use Rattle.std.specs.declared.cmp.Ordering.TheVariants.{Less, Equal, Greater}
use Rattle.std.specs.Ordering.{is_eq, match_ordering}
use Rattle.std.specs.List.{AllByRecursion, flat_map}
use Rattle.std.specs.List.Sorted.{IsStrictlySortedBy}
use Rattle.pgo_base.specs.Data.{Data, boolean, integer, string, model, set, function, Pairs, graph, keys}
use Rattle.pgo_base.specs.Order.{data_cmp}
use Rattle.pgo_base.specs.Lookup.{Name, Vars, same_name, find}
use Rattle.pgo_base.specs.Sets.{IsSorted, insert_member, in_order}
use Rattle.pgo_base.specs.Size.{depth}
use Rattle.pgo_model.specs.Core.{number_among, same_index}
use Rattle.pgo_model.specs.Log.{content, own_names}
use Rattle.pgo_model.specs.Machine.{nth}
use Rattle.pgo_model.specs.Names.{same_name-self, same_name-is, same_name-not, is_among}
use Rattle.pgo_model.specs.Operators.{apply, contains, lookup, same_data, most_members}
use Rattle.pgo_model.specs.State.{AllValues}
use Rattle.pgo_model.specs.System.{System, Words, Resource, Owned, Touched, ids_of}
use Rattle.pgo_model.specs.SystemState.{IsSystemState}
use Rattle.pgo_model.specs.Value.{IsValue}
use Rattle.pgo_model.specs.Variables.{IsFunctionOn}
use Rattle.pgo_model.specs.Written.{pc, written}
use Rattle.pgo_syntax.specs.declared.bound.Bound.{Bound}
use Rattle.pgo_syntax.specs.declared.bound.Instance.{Instance}
use Rattle.pgo_syntax.specs.declared.bound.Resource as resource
use Rattle.pgo_syntax.specs.declared.process.Process.{Process}
use Rattle.pgo_bound.specs.declared.kinds.Kind.{Kind}
use Rattle.pgo_bound.specs.declared.kinds.Kind.TheVariants.{Unbound, AsWhole, ByElement}
use Rattle.pgo_bound.specs.Among.{IsAmong, among_left, among_map, among_flat_map, from_map, from_flat_map, among_nth, nth_among, nth_map, found_among}
use Rattle.pgo_bound.specs.Different.{different_left, different_apart}
use Rattle.pgo_bound.specs.Sound.{index_in}
use Rattle.pgo_bound.specs.State as bound
use Rattle.pgo_bound.specs.State.{AreDifferent, IsStateOnDomains, id_of, kind_in, variables_of}
use Rattle.pgo_meaning.specs.Parameters.{places_of}
use Rattle.pgo_meaning.specs.Sect.{is_by_element, context_of}
use Rattle.pgo_meaning.specs.System.{globals_in, member_of, owned, owned_by, resource_of, system_of}
use Rattle.pgo_meaning.proofs.SystemStates.{bound_kind, states_same}
use Rattle.pgo_meaning.proofs.Traces.{number_there, among_is}
use Rattle.pgo_sections.specs.Code.{Whole}
use Rattle.pgo_sections.specs.Context.{Context, part_at}
use Rattle.pgo_sections.proofs.Closing as closing
use Rattle.pgo_sections.specs.PlainTest.{distinct_names}
use Rattle.pgo_workers.specs.Walk as walks
use Rattle.pgo_workers.specs.Worlds.{Layout, layout_of, or_nothing, own_at, value_in, component_at, names_at, HasAll}
use Rattle.pgo_workers.proofs.BoundLayout.{layout_sound, state_has}
use Rattle.pgo_workers.proofs.Components.{index_self}
use Rattle.pgo_workers.proofs.LayoutChanges.{component_there, own_name_behind, own_name_here}
use Rattle.pgo_accesses.specs.Runnable.{Runnable}
use Rattle.pgo_accesses.proofs.Bindings.{number_at, places_whole, own_among}
use Rattle.pgo_accesses.proofs.Ending.{Once, in_keys, HasPart, EachPart, Start, shallow_at}
use Rattle.pgo_accesses.proofs.SectionTrees.{component_in}
use Rattle.pgo_accesses.proofs.Parts.{size_is, lookup_low, of_le, not_less}
use Rattle.pgo_accesses.specs.Accesses as accesses
use Rattle.pgo_accesses.specs.Accesses.{is_too_deep}
use Rattle.pgo_bound.specs.Lookups.{same_of, same_itself}
use Rattle.pgo_accesses.proofs.Related.{Matches, IsWhole, IsElements, AsBound, Related}

-- ---- lists

pub among_true : (x : Name) (xs : List Name) → IsAmong x xs → is_among x xs ≡ true
among_true x [] h = absurd h
among_true x (z ∷ xs) (inl e) = ap (λ b. b || is_among x xs) (subst (λ w. same_name x w ≡ true) e (same_name-self x))
among_true x (z ∷ xs) (inr h) = (λ i. same_name x z || among_true x xs h i) ∙ or_true (same_name x z)
  where
    or_true : (b : Bool) → b || true ≡ true
    or_true true = refl
    or_true false = refl

pub some_there : (o : Option Data) → is_some o ≡ true → o ≡ Some (or_nothing o)
some_there None h = absurd (grind (arith, h))
some_there (Some v) h = refl

insert_length : (x : Data) (ys : List Data) → length (insert_member x ys) ≤ suc (length ys)
insert_length x [] = omega arith
insert_length x (y ∷ ys) = go (data_cmp x y) (insert_length x ys)
  where
    go : (o : Ordering) → length (insert_member x ys) ≤ suc (length ys) → length (match_ordering o (x ∷ y ∷ ys) (y ∷ ys) (y ∷ insert_member x ys)) ≤ suc (suc (length ys))
    go Less r = omega arith
    go Equal r = omega arith
    go Greater r = omega (arith, r)

ordered_length : (xs : List Data) → length (in_order xs) ≤ length xs
ordered_length [] = omega arith
ordered_length (x ∷ xs) = omega (arith, insert_length x (in_order xs), ordered_length xs)

pub map_length : {A B : Type 0} (f : A → B) (xs : List A) → length (map f xs) ≡ length xs
map_length f [] = refl
map_length f (x ∷ xs) = ap suc (map_length f xs)

filter_length : {A : Type 0} (f : A → Bool) (xs : List A) → length (filter f xs) ≤ length xs
filter_length f [] = omega arith
filter_length f (x ∷ xs) = go (f x) (filter_length f xs)
  where
    go : (b : Bool) → length (filter f xs) ≤ length xs → length (cond b (x ∷ filter f xs) (filter f xs)) ≤ suc (length xs)
    go true r = omega (arith, r)
    go false r = omega (arith, r)

pub keys_length : (l : List (Data × Data)) → length (keys l) ≡ length l
keys_length [] = refl
keys_length (p ∷ l) = ap suc (keys_length l)

less_not : (o : Ordering) → o ≡ Less → is_eq o ≡ false
less_not Less e = refl
less_not Equal e = absurd (grind (arith, e))
less_not Greater e = absurd (grind (arith, e))

below_not : (k : Data) (ks : List Data) → AllByRecursion (λ y. data_cmp k y ≡ Less) ks → contains k ks ≡ false
below_not k [] h = refl
below_not k (x ∷ ks) h = ap (λ b. if b then true else contains k ks) (less_not (data_cmp k x) h.0) ∙ below_not k ks h.1

pub sorted_once : (ks : List Data) → IsSorted ks → Once ks
unfolding IsStrictlySortedBy
sorted_once [] h = tt
sorted_once (k ∷ ks) h = (below_not k ks h.0, sorted_once ks h.1)

found_value : (s : Vars) (x : Name) (v : Data) → AllValues s → find x s ≡ Some v → IsValue v
found_value [] x v h e = absurd (grind (arith, e))
found_value (p ∷ s) x v h e = go (same_name x p.0) e (λ f. found_value s x v h.1 f)
  where
    go : (b : Bool) → (if b then Some p.1 else find x s) ≡ Some v → (find x s ≡ Some v → IsValue v) → IsValue v
    go true e ih = let w : p.1 ≡ v = cc in subst IsValue w h.0
    go false e ih = ih e

-- a list whose members stand once and are all in another is no longer
abbrev without : Data → List Data → List Data
without k [] = []
without k (x ∷ xs) = if same_data k x then xs else x ∷ without k xs

without_length : (k : Data) (xs : List Data) → contains k xs ≡ true → length xs ≡ suc (length (without k xs))
without_length k [] h = absurd (grind (arith, h))
without_length k (x ∷ xs) h = go (same_data k x) h (λ e. without_length k xs e)
  where
    go : (b : Bool) → (if b then true else contains k xs) ≡ true → (contains k xs ≡ true → length xs ≡ suc (length (without k xs))) → suc (length xs) ≡ suc (length (if b then xs else x ∷ without k xs))
    go true h ih = refl
    go false h ih = ap suc (ih h)

without_there : (j k : Data) (xs : List Data) → (same_data j k ≡ true → ⊥) → contains j xs ≡ true → contains j (without k xs) ≡ true
without_there j k [] n h = h
without_there j k (x ∷ xs) n h = go (same_data k x) refl (same_data j x) refl h (λ e. without_there j k xs n e)
  where
    go : (b : Bool) → same_data k x ≡ b → (c : Bool) → same_data j x ≡ c → (if c then true else contains j xs) ≡ true → (contains j xs ≡ true → contains j (without k xs) ≡ true) → contains j (if b then xs else x ∷ without k xs) ≡ true
    go true e true f h ih = absurd (n (subst (λ z. same_data j z ≡ true) (sym (same_of k x e)) f))
    go true e false f h ih = h
    go false e true f h ih = ap (λ b. if b then true else contains j (without k xs)) f
    go false e false f h ih = ap (λ b. if b then true else contains j (without k xs)) f ∙ ih h

once_length : (ks xs : List Data) → Once ks → ((j : Data) → contains j ks ≡ true → contains j xs ≡ true) → length ks ≤ length xs
once_length [] xs o h = omega arith
once_length (k ∷ ks) xs o h =
    let here = h k (ap (λ b. if b then true else contains k ks) (same_itself k)) in
    let rest = once_length ks (without k xs) o.1 (λ j c. without_there j k xs (λ e. other j c e) (h j (more j c))) in
    let n = without_length k xs here in omega (arith, rest, n)
  where
    more : (j : Data) → contains j ks ≡ true → contains j (k ∷ ks) ≡ true
    more j c = go (same_data j k) c
      where
        go : (b : Bool) → contains j ks ≡ true → (if b then true else contains j ks) ≡ true
        go true c = refl
        go false c = c

    other : (j : Data) → contains j ks ≡ true → same_data j k ≡ true → ⊥
    other j c e = let z : true ≡ false = sym c ∙ ap (λ x. contains x ks) (same_of j k e) ∙ o.0 in grind (arith, z)

contains_true : (v : Data) (xs : List Data) → IsAmong v xs → contains v xs ≡ true
contains_true v [] h = absurd h
contains_true v (x ∷ xs) (inl e) = ap (λ b. if b then true else contains v xs) (subst (λ z. same_data v z ≡ true) e (same_itself v))
contains_true v (x ∷ xs) (inr h) = go (same_data v x) (contains_true v xs h)
  where
    go : (b : Bool) → contains v xs ≡ true → (if b then true else contains v xs) ≡ true
    go true ih = refl
    go false ih = ih

pub contained_nth : (v : Data) (xs : List Data) → contains v xs ≡ true → (n : ℕ) × (nth xs n ≡ Some v)
contained_nth v [] h = absurd (grind (arith, h))
contained_nth v (x ∷ xs) h = go (same_data v x) refl h (λ e. contained_nth v xs e)
  where
    go : (b : Bool) → same_data v x ≡ b → (if b then true else contains v xs) ≡ true → (contains v xs ≡ true → (n : ℕ) × (nth xs n ≡ Some v)) → (n : ℕ) × (nth (x ∷ xs) n ≡ Some v)
    go true e h ih = (0, ap Some (sym (same_of v x e)))
    go false e h ih = let r = ih h in (suc r.0, r.1)

-- an own name is of an owner with the identifier
pub named_from : (x : Name) (id : Data) (os : List Owned) → is_among x (own_names id os) ≡ true → (o : Owned) × IsAmong o os × (x ≡ o.variable)
named_from x id [] h = absurd (grind (arith, h))
named_from x id (o ∷ os) h = go (contains id o.ids) h (λ h. later (named_from x id os h))
  where
    later : (q : Owned) × IsAmong q os × (x ≡ q.variable) → (q : Owned) × IsAmong q (o ∷ os) × (x ≡ q.variable)
    later h = (h.0, inr h.1, h.2)

    named : (b : Bool) → same_name x o.variable ≡ b → (b || is_among x (own_names id os)) ≡ true
        → (is_among x (own_names id os) ≡ true → (q : Owned) × IsAmong q (o ∷ os) × (x ≡ q.variable)) → (q : Owned) × IsAmong q (o ∷ os) × (x ≡ q.variable)
    named true e h ih = (o, inl refl, same_name-is x o.variable e)
    named false e h ih = ih h

    go : (b : Bool) → is_among x (if b then o.variable ∷ own_names id os else own_names id os) ≡ true
        → (is_among x (own_names id os) ≡ true → (q : Owned) × IsAmong q (o ∷ os) × (x ≡ q.variable)) → (q : Owned) × IsAmong q (o ∷ os) × (x ≡ q.variable)
    go true h ih = named (same_name x o.variable) refl h ih
    go false h ih = ih h

-- what own components are in a list of them
pub find_own : (k : ℕ) (id : Data) (xs : List Name) (s : Vars) (x : Name) → is_among x xs ≡ true → find x (own_at k id xs s) ≡ Some (or_nothing (part_at x id s))
find_own k id [] s x h = absurd (grind (arith, h))
find_own k id (z ∷ xs) s x h = go (same_name x z) refl h (λ e. find_own k id xs s x e)
  where
    go : (b : Bool) → same_name x z ≡ b → (b || is_among x xs) ≡ true → (is_among x xs ≡ true → find x (own_at k id xs s) ≡ Some (or_nothing (part_at x id s)))
        → (if b then Some (or_nothing (part_at z id s)) else find x (own_at k id xs s)) ≡ Some (or_nothing (part_at x id s))
    go true e h ih = ap (λ w. Some (or_nothing (part_at w id s))) (sym (same_name-is x z e))
    go false e h ih = ih h

pub is_element_kind : (kind : Kind) → is_by_element kind ≡ true → kind ≡ ByElement
is_element_kind Unbound h = absurd (let z : false ≡ true = h in grind (arith, z))
is_element_kind AsWhole h = absurd (let z : false ≡ true = h in grind (arith, z))
is_element_kind ByElement h = refl

-- a part of a value is a level below it
part_below : (f i v : Data) → apply f i ≡ Some v → depth f ≤ 256 → depth v ≤ 255
part_below (function ps) i v h low = let z = size_is ps in lookup_low i v (graph ps) 255 h (omega (arith, z, low))
part_below (boolean z) i v h low = absurd (grind (arith, h))
part_below (integer z) i v h low = absurd (grind (arith, h))
part_below (string z) i v h low = absurd (grind (arith, h))
part_below (model z) i v h low = absurd (grind (arith, h))
part_below (set z) i v h low = absurd (grind (arith, h))

module _ (b : Bound) (R : Runnable b) where
  abbrev y : System
  y = system_of b

  abbrev L : Layout
  L = layout_of (system_of b)

  abbrev pub globals : List Name
  globals = map (λ d. d.name.name) b.spec.globals

  -- the resource that has the number of a component
  pub record At (c : Touched) (n : ℕ) : Type 0 where
    pub found : resource.Resource
    pub at : nth b.resources n ≡ Some found
    pub global : found.global ≡ c.0
    pub index : index_in found ≡ c.1

  pub numbered : (c : Touched) (n : ℕ) → number_among y.resources c ≡ Some n → At c n
  numbered c n h =
      let q = number_at y.resources c n h in
      let r = from_map resource_of q.0 b.resources q.1 in
      let m = nth_among r.0 b.resources r.1 in
      let same : m.0 ≡ n = sym (R.sound.numbered.resource_numbers m.0 r.0 m.1) ∙ ap (λ (x : Resource). x.number) (sym r.2) ∙ q.2 in
      record {
        found = r.0;
        at = ap (nth b.resources) (sym same) ∙ m.1;
        global = ap (λ (x : Resource). x.global) (sym r.2) ∙ q.3;
        index = ap (λ (x : Resource). x.index) (sym r.2) ∙ q.4;
      }

  pub declared_at : (c : Touched) (n : ℕ) → number_among y.resources c ≡ Some n → IsAmong c.0 globals
  declared_at c n h =
      let a = numbered c n h in
      let g = (R.sound.resources_global n a.found a.at).0 in
      subst (λ x. IsAmong x globals) (g.3 ∙ a.global) (among_map (λ d. d.name.name) g.1 b.spec.globals (among_nth g.1 b.spec.globals g.0 g.2))

  -- the component of a resource is that of its number
  pub number_of : (n : ℕ) (r : resource.Resource) (g : Name) (j : Option Data) → nth b.resources n ≡ Some r → r.global ≡ g → index_in r ≡ j → (m : ℕ) × (number_among y.resources (g, j) ≡ Some m)
  number_of n r g j at e f = number_there y.resources (resource_of r) g j (among_map resource_of r b.resources (among_nth r b.resources n at)) e f

  once : (c e : Touched) (n : ℕ) → number_among y.resources c ≡ Some n → number_among y.resources e ≡ Some n → (same_name c.0 e.0 ≡ true) × (same_index c.1 e.1 ≡ true)
  once c e n h k =
      let p = numbered c n h in
      let q = numbered e n k in
      let same : p.found ≡ q.found = let z : Some p.found ≡ Some q.found = sym p.at ∙ q.at in cc in
      let name : c.0 ≡ e.0 = sym p.global ∙ ap (λ (r : resource.Resource). r.global) same ∙ q.global in
      let index : c.1 ≡ e.1 = sym p.index ∙ ap index_in same ∙ q.index in
      (subst (λ x. same_name c.0 x ≡ true) name (same_name-self c.0), subst (λ x. same_index c.1 x ≡ true) index (index_self c.1))

  -- none of the variables that belong to instances is a global
  pub own_apart : (o : Owned) → IsAmong o y.own → is_among o.variable globals ≡ false
  own_apart o h = go (is_among o.variable globals) refl
    where
      go : (t : Bool) → is_among o.variable globals ≡ t → t ≡ false
      go false e = refl
      go true e =
          let p = from_flat_map (owned_by b) o b.spec.processes h in
          let x = from_map (owned b p.0) o (bound.own_names b.spec p.0) p.2 in
          let name : o.variable ≡ written p.0.name.name x.0 = ap (λ (o : Owned). o.variable) x.2 in
          let front = among_left o.variable globals (pc ∷ []) (among_is o.variable globals e) in
          let names = λ (p : Process). map (written p.name.name) (bound.own_names b.spec p) in
          let behind = among_flat_map names p.0 (written p.0.name.name x.0) b.spec.processes p.1 (among_map (written p.0.name.name) x.0 (bound.own_names b.spec p.0) x.1) in
          absurd (different_apart (globals ++ (pc ∷ [])) (flat_map names b.spec.processes) o.variable (written p.0.name.name x.0) R.differ front behind name)

  pub place_apart : is_among pc globals ≡ false
  place_apart = go (is_among pc globals) refl
    where
      go : (t : Bool) → is_among pc globals ≡ t → t ≡ false
      go false e = refl
      go true e =
          let names = λ (p : Process). map (written p.name.name) (bound.own_names b.spec p) in
          absurd (different_apart globals (pc ∷ []) pc pc (different_left (globals ++ (pc ∷ [])) (flat_map names b.spec.processes) R.differ) (among_is pc globals e) (inl refl) refl)

  few_ids : (o : Owned) → IsAmong o y.own → length (in_order o.ids) ≤ 64
  few_ids o h =
      let p = from_flat_map (owned_by b) o b.spec.processes h in
      let x = from_map (owned b p.0) o (bound.own_names b.spec p.0) p.2 in
      let some = filter (λ (i : Instance). same_name p.0.name.name i.process) b.instances in
      let ids : length o.ids ≡ length some = ap (λ (o : Owned). length o.ids) x.2 ∙ map_length id_of some in
      let few = filter_length (λ (i : Instance). same_name p.0.name.name i.process) b.instances in
      let all = R.sound.numbered.few_instances in
      let ordered = ordered_length o.ids in omega (arith, ids, few, all, ordered)

  few_all : length (in_order (ids_of y)) ≤ 64
  few_all =
      let a = map_length (λ (m : Rattle.pgo_model.specs.System.Member). m.id) y.members in
      let c = map_length member_of b.instances in
      let all = R.sound.numbered.few_instances in
      let ordered = ordered_length (ids_of y) in omega (arith, a, c, all, ordered)

  module _ (k : ℕ) (i : Instance) (at_k : nth b.instances k ≡ Some i) (s : Vars) (good : IsSystemState (system_of b) s) (d : Words) where
    abbrev K : Context
    K = context_of b i s

    abbrev pub own_list : List Name
    own_list = own_names (id_of i) L.own

    abbrev pub at_start : walks.Own
    at_start = own_at k (id_of i) (pc ∷ own_list) s

    abbrev pub values : ℕ → Data
    values = value_in L s

    on_domains : IsStateOnDomains b s
    on_domains = (states_same b s R.sound R.globals).0 good

    has : HasAll L s
    has = state_has b R.sound s good

    pub at_id : nth L.ids k ≡ Some (id_of i)
    at_id = nth_map (λ m. m.id) k (map member_of b.instances) (member_of i) (nth_map member_of k b.instances i at_k)

    pub part_there : (x : Name) → is_among x (pc ∷ own_list) ≡ true → part_at x (id_of i) s ≡ Some (or_nothing (part_at x (id_of i) s))
    part_there x h = some_there (part_at x (id_of i) s) (has.own k (id_of i) x at_id (ap (λ o. is_among x (names_at L o)) at_id ∙ h))

    -- what a resource has
    pub value_at : (c : Touched) (n : ℕ) → number_among y.resources c ≡ Some n → component_in c s ≡ Some (values n)
    value_at c n h =
        let a = numbered c n h in
        let at = nth_map resource_of n b.resources a.found a.at in
        let there = some_there (content (component_at L.resources n) s) (has.resources n (resource_of a.found) at) in
        let same : content (component_at L.resources n) s ≡ component_in c s = ap (λ z. content z s) (component_there L.resources n (resource_of a.found) at) ∙ (λ j. component_in (a.global j, a.index j) s) in
        sym same ∙ there

    low_at : (x : Name) (v : Data) → find x s ≡ Some v → depth v ≤ 256
    low_at x v e = shallow_at s x v good.shallow e

    -- ---- resources and places

    pub whole_bound : (g : Name) → IsAmong g (globals_in i.bindings) → is_by_element (kind_in b g) ≡ false → IsWhole K y.resources at_start d g
    whole_bound g bound_here not_element = (not_element, number (kind_in b g) refl)
      where
        number : (kind : Kind) → kind_in b g ≡ kind → (r : ℕ) × (number_among y.resources (g, None) ≡ Some r)
        number Unbound e = absurd (bound_kind b i g (among_nth i b.instances k at_k) bound_here e)
        number AsWhole e =
            let n = nth_among g (globals_in i.bindings) bound_here in
            let dec = R.globals.bound k n.0 i g at_k n.1 in
            let w = R.globals.whole dec.0 dec.1 dec.2 (ap (kind_in b) dec.3 ∙ e) in
            number_of w.0 w.1 g None w.2 (w.3 ∙ dec.3) w.4
        number ByElement e = absurd (let z : true ≡ false = sym (ap is_by_element e) ∙ not_element in grind (arith, z))

    pub element_bound : (g : Name) → IsAmong g (globals_in i.bindings) → is_by_element (kind_in b g) ≡ true → IsElements K y.resources at_start d g
    element_bound g bound_here is =
        let n = nth_among g (globals_in i.bindings) bound_here in
        let dec = R.globals.bound k n.0 i g at_k n.1 in
        (is, among_true g globals (subst (λ x. IsAmong x globals) dec.3 (among_map (λ d. d.name.name) dec.1 b.spec.globals (among_nth dec.1 b.spec.globals dec.0 dec.2))))

    whole_at : (x g : Name) → find x K.places ≡ Some (Whole g) → IsWhole K y.resources at_start d g
    whole_at x g h = whole_bound g (among_is g (globals_in i.bindings) (places_whole i.process i.bindings i.archetype.locals x g h)) ((R.keeps k i at_k).unmapped x g h)

    own_is : (x : Name) → is_among x own_list ≡ true → (is_among x globals ≡ false) × (same_name x pc ≡ false)
    own_is x h =
        let o = named_from x (id_of i) L.own h in
        (ap (λ z. is_among z globals) o.2 ∙ own_apart o.0 o.1, same_name-not x pc (λ e. let z : true ≡ false = sym h ∙ ap (λ z. is_among z own_list) e ∙ pc_not in grind (arith, z)))
      where
        pc_not : is_among pc own_list ≡ false
        pc_not = go (is_among pc own_list) refl (sym (ap (λ o. distinct_names (names_at L o)) at_id) ∙ (layout_sound b R.sound R.differ).names_differ k)
          where
            go : (t : Bool) → is_among pc own_list ≡ t → (not t && distinct_names own_list) ≡ true → t ≡ false
            go true e h = absurd (grind (arith, h))
            go false e h = refl

    pub as_bound : AsBound K y.resources at_start d
    as_bound = record {
      globals = λ c n h. among_true c.0 globals (declared_at c n h);
      once = once;
      whole = whole_at;
      own = λ x z h.
          let name = R.owns k i z at_k (own_among (places_of i.process i.archetype i.bindings) x z h) in
          let is = own_is z name in
          let behind = own_name_behind z pc own_list name in
          (is.0, find_own k (id_of i) (pc ∷ own_list) s z behind ∙ sym (part_there z behind));
    }

    -- ---- the start

    has_part : (x : Name) (ids : List Data) → IsFunctionOn ids (find x s) → length ids ≤ 64 → is_among x globals ≡ false → is_among x (pc ∷ own_list) ≡ true
        → HasPart K y.resources at_start d x (or_nothing (part_at x (id_of i) s))
    has_part x ids f few no_global name = record {
      graph_of = f.0;
      is = f.1;
      here = ap (option_and_then (λ f. apply f (id_of i))) (sym f.1) ∙ part_there x name;
      few = let n = keys_length (graph f.0) in let m : length (keys (graph f.0)) ≡ length ids = ap length f.2 in not_less most_members (length (graph f.0)) (omega (arith, n, m, few));
      no_global = no_global;
    }

    pub part_of : (x : Name) → is_among x (pc ∷ own_list) ≡ true → HasPart K y.resources at_start d x (or_nothing (part_at x (id_of i) s))
    part_of x h = go (same_name x pc) refl h
      where
        go : (t : Bool) → same_name x pc ≡ t → (t || is_among x own_list) ≡ true → HasPart K y.resources at_start d x (or_nothing (part_at x (id_of i) s))
        go true e n =
            let same = same_name-is x pc e in
            has_part x (in_order (ids_of y)) (subst (λ z. IsFunctionOn (in_order (ids_of y)) (find z s)) (sym same) good.places) few_all (ap (λ z. is_among z globals) same ∙ place_apart) h
        go false e n =
            let o = named_from x (id_of i) L.own n in
            let m = nth_among o.0 L.own o.1 in
            has_part x (in_order o.0.ids) (subst (λ z. IsFunctionOn (in_order o.0.ids) (find z s)) (sym o.2) (good.own m.0 o.0 m.1)) (few_ids o.0 o.1) (own_is x n).0 h

    each_part : (xs : List Name) → ((x : Name) → is_among x xs ≡ true → HasPart K y.resources at_start d x (or_nothing (part_at x (id_of i) s))) → EachPart K y.resources at_start d (own_at k (id_of i) xs s)
    each_part [] h = tt
    each_part (x ∷ xs) h = (h x (own_name_here x x xs refl), each_part xs (λ z e. h z (own_name_behind z x xs e)))

    -- an element-bound global is a function, and what it was at the start of all
    pub record ElementsAt (x : Name) : Type 0 where
      pub pairs : Pairs
      pub is : find x s ≡ Some (function pairs)
      pub once : Once (keys (graph pairs))
      pub index : (v : Data) → contains v (keys (graph pairs)) ≡ true → (n : ℕ) × (r : resource.Resource) × (nth b.resources n ≡ Some r) × (r.global ≡ x) × (index_in r ≡ Some v)

    pub elements_at : (x : Name) → IsElements K y.resources at_start d x → ElementsAt x
    elements_at x is =
        let g = from_map (λ d. d.name.name) x b.spec.globals (among_is x globals is.1) in
        let n = nth_among g.0 b.spec.globals g.1 in
        let kind : kind_in b g.0.name.name ≡ ByElement = ap (kind_in b) (sym g.2) ∙ is_element_kind (kind_in b x) is.0 in
        let f = on_domains.state.elements n.0 g.0 n.1 kind in
        let at : find x s ≡ Some (function f.0) = ap (λ z. find z s) g.2 ∙ f.1 in
        let one = on_domains.domains n.0 g.0 n.1 kind in
        let dom = R.sound.domains n.0 g.0 n.1 kind in
        let same = same_domain f.0 one.2.0 one.1.0 dom.0 one.0 (find g.0.name.name s) (find g.0.name.name b.start) f.1 one.2.1 one.2.2 one.1.1 one.1.2 dom.1 in
        record {
          pairs = f.0;
          is = at;
          once = sorted_once (keys (graph f.0)) (found_value s x (function f.0) good.values at).1;
          index = λ v c. (
              let m = contained_nth v (keys (graph dom.0)) (moved v (keys (graph f.0)) (keys (graph dom.0)) same c) in
              let r = dom.2 m.0 v m.1 in
              (r.0, r.1, r.2, named r.1.global g.0.name.name x r.3 g.2, r.4));
        }
      where
        named : (p q r : Name) → p ≡ q → r ≡ q → p ≡ r
        named p q r e f = e ∙ sym f

        moved : (v : Data) (ks js : List Data) → ks ≡ js → contains v ks ≡ true → contains v js ≡ true
        moved v ks js e c = ap (contains v) (sym e) ∙ c

        same_keys : (ps qs : Pairs) → Some (function ps) ≡ Some (function qs) → keys (graph ps) ≡ keys (graph qs)
        same_keys ps qs h = let e : ps ≡ qs = cc in ap (λ ps. keys (graph ps)) e

        same_domain : (ps qs ps' qs' : Pairs) (ids : List Data) (o o' : Option Data) → o ≡ Some (function ps) → o ≡ Some (function qs) → keys (graph qs) ≡ ids → o' ≡ Some (function ps') → keys (graph ps') ≡ ids → o' ≡ Some (function qs')
            → keys (graph ps) ≡ keys (graph qs')
        same_domain ps qs ps' qs' ids o o' e f k e' k' f' = same_keys ps qs (sym e ∙ f) ∙ k ∙ sym k' ∙ same_keys ps' qs' (sym e' ∙ f')

    pub start : Start K y.resources at_start d
    start = record {
      entries = λ p h. found_among p.0 p.1 s (subst AreDifferent (sym on_domains.state.variables) R.differ) h;
      shallow = good.shallow;
      there = λ x h. closing.found_among s x (ap (is_among x) (on_domains.state.variables) ∙ among_true x (variables_of b.spec) (in_variables x (among_is x globals h)));
      parts = each_part (pc ∷ own_list) part_of;
      place = (or_nothing (part_at pc (id_of i) s), find_own k (id_of i) (pc ∷ own_list) s pc (own_name_here pc pc own_list refl));
      mine = λ x h.
          let name = R.owns k i x at_k h in
          ((own_is x name).1, (or_nothing (part_at x (id_of i) s), find_own k (id_of i) (pc ∷ own_list) s x (own_name_behind x pc own_list name)));
      elements = λ x is. let e = elements_at x is in (e.pairs, e.is, e.once);
    }
      where
        in_variables : (x : Name) → IsAmong x globals → IsAmong x (variables_of b.spec)
        in_variables x h =
            let names = λ (p : Process). map (written p.name.name) (bound.own_names b.spec p) in
            among_left x (globals ++ (pc ∷ [])) (flat_map names b.spec.processes) (among_left x globals (pc ∷ []) h)

    -- ---- at the start nothing is done

    whole_begun : (z : Name) (n : ℕ) → number_among y.resources (z, None) ≡ Some n → (find z s ≡ Some (values n)) × (depth (values n) ≤ 256)
    whole_begun z n h =
        let v = value_at (z, None) n h in
        let f = found (find z s) v in (f, low_at z (values n) f)
      where
        found : (o : Option Data) → option_and_then (λ v. Some v) o ≡ Some (values n) → o ≡ Some (values n)
        found None e = e
        found (Some v) e = e

    each_begun : (z : Name) (is : IsElements K y.resources at_start d z) (j : Data) → Matches (number_among y.resources (z, Some j)) (lookup j (graph (elements_at z is).pairs)) values
    each_begun z is j = go (number_among y.resources (z, Some j)) refl (lookup j (graph E.pairs)) refl
      where
        E : ElementsAt z
        E = elements_at z is

        at : component_in (z, Some j) s ≡ lookup j (graph E.pairs)
        at = ap (option_and_then (λ v. apply v j)) E.is

        go : (o : Option ℕ) → number_among y.resources (z, Some j) ≡ o → (l : Option Data) → lookup j (graph E.pairs) ≡ l → Matches o l values
        go None e None f = tt
        go None e (Some v) f =
            let r = E.index j (in_keys j v (graph E.pairs) f) in
            let n = number_of r.0 r.1 z (Some j) r.2 r.3 r.4 in
            let z : None ≡ Some n.0 = sym e ∙ n.1 in absurd (grind (arith, z))
        go (Some n) e None f = let z : None ≡ Some (values n) = sym f ∙ sym at ∙ value_at (z, Some j) n e in absurd (grind (arith, z))
        go (Some n) e (Some v) f = let z : Some v ≡ Some (values n) = sym f ∙ sym at ∙ value_at (z, Some j) n e in cc

    -- nothing is too deep
    shallow_begun : (c : Touched) (n : ℕ) → number_among y.resources c ≡ Some n → is_too_deep (K.by_element c.0) (values n) ≡ false
    shallow_begun (z, None) n h = go (kind_in b z) refl
      where
        whole : is_too_deep false (values n) ≡ false
        whole = ap (λ t. if t then false else true) (of_le (depth (values n)) 256 (whole_begun z n h).1)

        go : (kind : Kind) → kind_in b z ≡ kind → is_too_deep (is_by_element (kind_in b z)) (values n) ≡ false
        go Unbound e = ap (λ q. is_too_deep (is_by_element q) (values n)) e ∙ whole
        go AsWhole e = ap (λ q. is_too_deep (is_by_element q) (values n)) e ∙ whole
        go ByElement e = let a = numbered (z, None) n h in absurd (R.globals.elements z e (n, a.found, a.at, a.global, a.index))
    shallow_begun (z, Some j) n h = go (K.by_element z)
      where
        below : (o : Option Data) → ((v : Data) → o ≡ Some v → depth v ≤ 256) → option_and_then (λ v. apply v j) o ≡ Some (values n) → depth (values n) ≤ 255
        below None low e = absurd (grind (arith, e))
        below (Some f) low e = part_below f j (values n) e (low f refl)

        low : depth (values n) ≤ 255
        low = below (find z s) (λ v e. low_at z v e) (value_at (z, Some j) n h)

        go : (t : Bool) → is_too_deep t (values n) ≡ false
        go true = ap (λ t. if t then false else true) (of_le (depth (values n)) 255 low)
        go false = ap (λ t. if t then false else true) (of_le (depth (values n)) 256 (omega (arith, low)))

    pub begun : Related K y.resources at_start d [] [] [] accesses.begun values
    begun = record {
      own = λ z n. refl;
      whole = λ z n h by. let w = whole_begun z n h in (w.0, let low = w.1 in of_le (depth (values n)) 2047 (omega (arith, low)));
      elements = λ z is.
          let e = elements_at z is in
          let low = low_at z (function e.pairs) e.is in
          let size = size_is e.pairs in
          record {
            pairs = e.pairs;
            is = e.is;
            few = not_less most_members (length (graph e.pairs)) (
                let n = keys_length (graph e.pairs) in
                let m = once_length (keys (graph e.pairs)) (map (λ r. or_nothing (index_in r)) b.resources) e.once (λ j c. indexed z j (e.index j c)) in
                let l = map_length (λ r. or_nothing (index_in r)) b.resources in
                let few = R.sound.numbered.few_resources in omega (arith, n, m, l, few));
            low = omega (arith, low, size);
            each = λ j. each_begun z is j;
            domain = λ q h. let same : function e.pairs ≡ function q = (let z : Some (function e.pairs) ≡ Some (function q) = sym e.is ∙ h in cc) in same_graph e.pairs q same;
          };
      points = refl;
      prints = refl;
      deep = λ c n h. sym (shallow_begun c n h);
      only = λ n h. absurd (let z : false ≡ true = h in grind (arith, z));
      changed = λ z v h. absurd (let q : None ≡ Some v = h in grind (arith, q));
    }
      where
        same_graph : (ps qs : Pairs) → function ps ≡ function qs → keys (graph ps) ≡ keys (graph qs)
        same_graph ps qs h = let e : ps ≡ qs = cc in ap (λ ps. keys (graph ps)) e

        indexed : (z : Name) (j : Data) → (n : ℕ) × (r : resource.Resource) × (nth b.resources n ≡ Some r) × (r.global ≡ z) × (index_in r ≡ Some j) → contains j (map (λ r. or_nothing (index_in r)) b.resources) ≡ true
        indexed z j h =
            contains_true j (map (λ r. or_nothing (index_in r)) b.resources)
            (subst (λ v. IsAmong v (map (λ r. or_nothing (index_in r)) b.resources)) (ap or_nothing h.4) (among_map (λ r. or_nothing (index_in r)) h.1 b.resources (among_nth h.1 b.resources h.0 h.2)))
