-- What differs between two states of a bound specification's system leads from the one to the other, where globals that are not bound are
-- the same in both.
use Rattle.std.proofs.Common.{◌≡◌, ◌⊎◌, ℕ, Bool, true, false, if◌then◌else◌, List, [], ◌∷◌, ◌++◌, map, cond, Option, Some, None, refl, sym, ap, ◌∙◌, subst, option_and_then, inl, inr, ⊎_elim}
use Rattle.std.specs.Prelude.{filter}
use Rattle.std.specs.List.{AllByRecursion, flat_map}
use Rattle.std.proofs.lemmas.Option.{same_Some}
use Rattle.pgo_base.specs.Data.{Data, function, Pairs, graph, keys}
use Rattle.pgo_base.specs.Lookup.{Name, Vars, same_name, find}
use Rattle.pgo_base.specs.Sets.{IsSorted, in_order, sorted-in_order}
use Rattle.pgo_model.specs.Log.{Component, Change, After, content, own_names, resource_components, own_components, components_of, changes_between, after_changes, effect_between}
use Rattle.pgo_model.specs.Machine.{nth}
use Rattle.pgo_model.specs.Names.{same_name-is}
use Rattle.pgo_model.specs.Operators.{apply, contains}
use Rattle.pgo_model.specs.Options.{on}
use Rattle.pgo_model.specs.State.{AllValues}
use Rattle.pgo_model.specs.System.{System, Member, Owned, Resource, ids_of}
use Rattle.pgo_model.specs.SystemState.{IsSystemState}
use Rattle.pgo_model.specs.Value.{IsValue}
use Rattle.pgo_model.specs.Variables.{IsFunctionOn}
use Rattle.pgo_model.specs.Written.{pc, written}
use Rattle.pgo_syntax.specs.declared.bound.Bound.{Bound}
use Rattle.pgo_syntax.specs.declared.bound.Instance.{Instance}
use Rattle.pgo_syntax.specs.declared.bound.Resource as resource
use Rattle.pgo_syntax.specs.declared.declaration.Declaration.{Declaration}
use Rattle.pgo_syntax.specs.declared.process.Process.{Process}
use Rattle.pgo_bound.specs.declared.kinds.Kind.{Kind}
use Rattle.pgo_bound.specs.declared.kinds.Kind.TheVariants.{Unbound, AsWhole, ByElement}
use Rattle.pgo_bound.specs.Among.{IsAmong, all_at, among_append, among_left, among_right, among_map, among_flat_map, among_nth, nth_among, nth_map, from_map, from_flat_map}
use Rattle.pgo_bound.specs.Sound.{Sound, index_in}
use Rattle.pgo_bound.specs.State.{AreDifferent, IsStateOnDomains, id_of, kind_in, variables_of}
use Rattle.pgo_bound.specs.State as bound
use Rattle.pgo_meaning.specs.System.{member_of, owned, owned_by, resource_of, system_of}
use Rattle.pgo_meaning.specs.SystemStates.{GlobalsBound}
use Rattle.pgo_meaning.proofs.SystemStates.{states_same}
use Rattle.pgo_workers.specs.Worlds.{layout_of, IsLayout}
use Rattle.pgo_workers.proofs.Applied.{Applied, applied}
use Rattle.pgo_workers.proofs.BoundLayout.{layout_sound, state_has}
use Rattle.pgo_workers.proofs.LayoutChanges.{IsPart, OfShared, OfOne, part_in}
use Rattle.pgo_systems.proofs.Changing.{kept_function, kept_other}
use Rattle.pgo_systems.proofs.Functions.{same_function, same_state, value_at}
use Rattle.pgo_values.proofs.Lists.{contained, of_ordered}
use Rattle.pgo_systems.proofs.Parts.{resource_there, from_resources, own_there, from_own, component_part, change_from, given_is, all_comparable, all_there}

-- ---- lists of names

-- names of the front are none of the rest
pub apart : (x y : Name) (xs ys : List Name) → AreDifferent (xs ++ ys) → IsAmong x xs → IsAmong y ys → same_name x y ≡ false
apart x y [] ys d h g = absurd h
apart x y (z ∷ xs) ys d (inl e) g = ap (λ w. same_name w y) e ∙ all_at (λ w. same_name z w ≡ false) y (xs ++ ys) d.0 (among_right y xs ys g)
apart x y (z ∷ xs) ys d (inr h) g = apart x y xs ys d.1 h g

from_filter : {A : Type 0} (p : A → Bool) (x : A) (xs : List A) → IsAmong x (filter p xs) → IsAmong x xs
from_filter p x [] h = h
from_filter {A = A} p x (z ∷ zs) h = go (p z) h (from_filter p x zs)
  where
    go : (b : Bool) → IsAmong x (cond b (z ∷ filter p zs) (filter p zs)) → (IsAmong x (filter p zs) → IsAmong x zs) → IsAmong x (z ∷ zs)
    go true (inl e) r = inl e
    go true (inr m) r = inr (r m)
    go false m r = inr (r m)

-- a variable is an own name where its process has the identifier
name_there : (id : Data) (o : Owned) (os : List Owned) → IsAmong o os → contains id o.ids ≡ true → IsAmong o.variable (own_names id os)
name_there id o [] h c = h
name_there id o (p ∷ os) (inl e) c =
    subst (λ b. IsAmong o.variable (if b then p.variable ∷ own_names id os else own_names id os)) (sym (sym (ap (λ (z : Owned). contains id z.ids) e) ∙ c)) (inl (ap (λ (z : Owned). z.variable) e))
name_there id o (p ∷ os) (inr h) c = go (contains id p.ids) (name_there id o os h c)
  where
    go : (b : Bool) → IsAmong o.variable (own_names id os) → IsAmong o.variable (if b then p.variable ∷ own_names id os else own_names id os)
    go true r = inr r
    go false r = r

-- an own name is of an owner
name_from : (id : Data) (x : Name) (os : List Owned) → IsAmong x (own_names id os) → (o : Owned) × IsAmong o os × (x ≡ o.variable)
name_from id x [] h = absurd h
name_from id x (p ∷ os) h = go (contains id p.ids) h (name_from id x os)
  where
    later : (o : Owned) × IsAmong o os × (x ≡ o.variable) → (o : Owned) × IsAmong o (p ∷ os) × (x ≡ o.variable)
    later r = (r.0, inr r.1, r.2)

    go : (b : Bool) → IsAmong x (if b then p.variable ∷ own_names id os else own_names id os) → (IsAmong x (own_names id os) → (o : Owned) × IsAmong o os × (x ≡ o.variable)) → (o : Owned) × IsAmong o (p ∷ os) × (x ≡ o.variable)
    go true (inl e) r = (p, inl refl, e)
    go true (inr m) r = later (r m)
    go false m r = later (r m)

value_there : (s : Vars) (x : Name) (v : Data) → AllValues s → find x s ≡ Some v → IsValue v
value_there [] x v a h = absurd (cc)
value_there (p ∷ s) x v a h = go (same_name x p.0) h (value_there s x v a.1)
  where
    go : (b : Bool) → (if b then Some p.1 else find x s) ≡ Some v → (find x s ≡ Some v → IsValue v) → IsValue v
    go true k r = subst IsValue (same_Some p.1 v k) a.0
    go false k r = r k

-- the domain of a variable that is a function
one_domain : (ks ls : List Data) (o : Option Data) → IsFunctionOn ks o → IsFunctionOn ls o → ks ≡ ls
one_domain ks ls o f g = sym f.2 ∙ same f.0 g.0 (sym f.1 ∙ g.1) ∙ g.2
  where
    same : (ps qs : Pairs) → Some (function ps) ≡ Some (function qs) → keys (graph ps) ≡ keys (graph qs)
    same ps qs h = let e : ps ≡ qs = cc in ap (λ ps. keys (graph ps)) e

module _ (b : Bound) (sound : Sound b) (gb : GlobalsBound b) (differ : AreDifferent (variables_of b.spec)) (s t : Vars) (is : IsStateOnDomains b s) (it : IsStateOnDomains b t)
    (unbound : (n : ℕ) (d : Declaration) → nth b.spec.globals n ≡ Some d → kind_in b d.name.name ≡ Unbound → find d.name.name t ≡ find d.name.name s) where
  abbrev y : System
  y = system_of b

  abbrev cs : List Component
  cs = components_of y

  abbrev changes : List Change
  changes = changes_between cs s t

  abbrev owns : List Name
  owns = flat_map (λ p. map (written p.name.name) (bound.own_names b.spec p)) b.spec.processes

  abbrev globals : List Name
  globals = map (λ d. d.name.name) b.spec.globals

  system_s : IsSystemState y s
  system_s = (states_same b s sound gb).1 is

  system_t : IsSystemState y t
  system_t = (states_same b t sound gb).1 it

  layout : IsLayout (layout_of y)
  layout = layout_sound b sound differ

  change_part : (c : Change) → IsAmong c changes → IsPart (layout_of y) c.component.variable c.component.index
  change_part c m = component_part y c.component (change_from cs s t c m).0

  -- the state that the changes lead to
  made : (u : Vars) × Applied changes s u
  made = applied changes s (all_there (layout_of y) layout s changes (state_has b sound s system_s) change_part)

  abbrev u : Vars
  u = made.0

  same_content : (c : Component) → IsAmong c cs → content c u ≡ content c t
  same_content c h =
      let p = component_part y c h in
      let w = part_in (layout_of y) layout c t (state_has b sound t system_t) p in
      made.1.contents c (all_comparable (layout_of y) layout c changes p change_part) ∙ given_is c cs s t w.0 w.1 h

  -- ---- a variable by its components

  -- the parts of a function
  function_same : (x : Name) (ks : List Data) → IsSorted ks → IsFunctionOn ks (find x s) → IsFunctionOn ks (find x t) → ((n : ℕ) (r : Resource) → nth y.resources n ≡ Some r → r.global ≡ x → r.index ≡ None → ⊥)
      → ((i : Data) → IsAmong i ks → (c : Component) × IsAmong c cs × (c.variable ≡ x) × (c.index ≡ Some i)) → find x u ≡ find x t
  function_same x ks sorted fs ft none parts = same_function ks (find x u) (find x t) sorted (kept_function x ks changes s u made.1.there leaves fs) ft same
    where
      indexed : (n : ℕ) (r : Resource) → nth y.resources n ≡ Some r → r.global ≡ x → (o : Option Data) → r.index ≡ o → (i : Data) × (o ≡ Some i)
      indexed n r at_n e None q = absurd (none n r at_n e q)
      indexed n r at_n e (Some i) q = (i, refl)

      by_part : (z : Name) (at : Option Data) → IsPart (layout_of y) z at → z ≡ x → (i : Data) × (at ≡ Some i)
      by_part z at (OfShared n r at_n v j) e = let q = indexed n r at_n (sym v ∙ e) r.index refl in (q.0, j ∙ q.1)
      by_part z at (OfOne k id at_k m j) e = (id, j)

      leaves : (c : Change) → IsAmong c changes → c.component.variable ≡ x → (i : Data) × (c.component.index ≡ Some i)
      leaves c m e = by_part c.component.variable c.component.index (change_part c m) e

      at_index : (z : Vars) (i : Data) (c : Component) → c.variable ≡ x → c.index ≡ Some i → content c z ≡ value_at (find x z) i
      at_index z i c e f = λ j. option_and_then (λ v. on (Some v) (f j) (λ k. apply v k)) (find (e j) z)

      same : (i : Data) → IsAmong i ks → value_at (find x u) i ≡ value_at (find x t) i
      same i m = let c = parts i m in sym (at_index u i c.0 c.2 c.3) ∙ same_content c.0 c.1 ∙ at_index t i c.0 c.2 c.3

  -- a resource as a whole
  whole_same : (x : Name) (c : Component) → IsAmong c cs → c.variable ≡ x → c.index ≡ None → find x u ≡ find x t
  whole_same x c h e f = sym (all u) ∙ same_content c h ∙ all t
    where
      itself : (o : Option Data) → option_and_then (λ v. Some v) o ≡ o
      itself None = refl
      itself (Some v) = refl

      all : (z : Vars) → content c z ≡ find x z
      all z = (λ j. option_and_then (λ v. on (Some v) (f j) (λ k. apply v k)) (find (e j) z)) ∙ itself (find x z)

  -- no component
  other_same : (x : Name) → ((c : Component) → IsAmong c cs → same_name x c.variable ≡ false) → find x t ≡ find x s → find x u ≡ find x t
  other_same x n e = kept_other x changes s u made.1.there (λ c m. n c.component (change_from cs s t c m).0) ∙ sym e

  -- ---- each variable

  shared_there : (n : ℕ) (r : resource.Resource) → nth b.resources n ≡ Some r → (c : Component) × IsAmong c cs × (c.variable ≡ r.global) × (c.index ≡ index_in r)
  shared_there n r at_n =
      let c = resource_there y.resources n (resource_of r) (nth_map resource_of n b.resources r at_n) in
      (c.0, among_left c.0 (resource_components y.resources) (own_components y.own 0 y.members) c.1, c.2, c.3)

  own_part : (k : ℕ) (i : Instance) (x : Name) → nth b.instances k ≡ Some i → IsAmong x (pc ∷ own_names (id_of i) y.own) → (c : Component) × IsAmong c cs × (c.variable ≡ x) × (c.index ≡ Some (id_of i))
  own_part k i x at_k h =
      let c = own_there y.own 0 y.members k (member_of i) x (nth_map member_of k b.instances i at_k) h in
      (c.0, among_right c.0 (resource_components y.resources) (own_components y.own 0 y.members) c.1, c.2, c.3)

  resource_from : (n : ℕ) (r : Resource) → nth y.resources n ≡ Some r → (m : ℕ) × (q : resource.Resource) × (nth b.resources m ≡ Some q) × (r ≡ resource_of q)
  resource_from n r h = let q = from_map resource_of r b.resources (among_nth r y.resources n h) in let m = nth_among q.0 b.resources q.1 in (m.0, q.0, m.1, q.2)

  place_same : find pc u ≡ find pc t
  place_same =
      function_same pc (in_order (ids_of y)) (sorted-in_order (ids_of y)) system_s.places system_t.places
      (λ n r at_n e none. let q = resource_from n r at_n in (sound.resources_global q.0 q.1 q.2).1 (sym (ap (λ (z : Resource). z.global) q.3) ∙ e))
      (λ i m.
      let a = from_map (λ m. m.id) i y.members (of_ordered i (ids_of y) m) in
      let j = from_map member_of a.0 b.instances a.1 in
      let k = nth_among j.0 b.instances j.1 in
      let e : i ≡ id_of j.0 = a.2 ∙ ap (λ (z : Member). z.id) j.2 in
      let c = own_part k.0 j.0 pc k.1 (inl refl) in
      (c.0, c.1, c.2, c.3 ∙ ap Some (sym e)))

  own_same : (p : Process) (z : Name) → IsAmong p b.spec.processes → IsAmong z (bound.own_names b.spec p) → find (written p.name.name z) u ≡ find (written p.name.name z) t
  own_same p z hp hz =
      let o = owned b p z in
      let among = among_flat_map (owned_by b) p o b.spec.processes hp (among_map (owned b p) z (bound.own_names b.spec p) hz) in
      let n = nth_among o y.own among in
      let at_p = nth_among p b.spec.processes hp in
      let at_z = nth_among z (bound.own_names b.spec p) hz in
      function_same o.variable (in_order o.ids) (sorted-in_order o.ids) (system_s.own n.0 o n.1) (system_t.own n.0 o n.1)
      (λ m r at_m e none. let q = resource_from m r at_m in (sound.resources_global q.0 q.1 q.2).2 at_p.0 at_z.0 p z at_p.1 at_z.1 (sym (ap (λ (z : Resource). z.global) q.3) ∙ e))
      (λ i m.
      let among_ids = of_ordered i o.ids m in
      let j = from_map id_of i (filter (λ i. same_name p.name.name i.process) b.instances) among_ids in
      let k = nth_among j.0 b.instances (from_filter (λ i. same_name p.name.name i.process) j.0 b.instances j.1) in
      let c = own_part k.0 j.0 o.variable k.1 (inr (name_there (id_of j.0) o y.own among (contained (id_of j.0) o.ids (subst (λ v. IsAmong v o.ids) j.2 among_ids)))) in
      (c.0, c.1, c.2, c.3 ∙ ap Some (sym j.2)))

  global_same : (n : ℕ) (d : Declaration) → nth b.spec.globals n ≡ Some d → find d.name.name u ≡ find d.name.name t
  global_same n d at_n = go (kind_in b d.name.name) refl
    where
      among_globals : IsAmong d.name.name globals
      among_globals = among_map (λ d. d.name.name) d b.spec.globals (among_nth d b.spec.globals n at_n)

      not_place : same_name d.name.name pc ≡ false
      not_place = apart d.name.name pc globals (pc ∷ []) (front (globals ++ (pc ∷ [])) owns differ) among_globals (inl refl)
        where
          front_each : (x : Name) (xs ys : List Name) → AllByRecursion (λ z. same_name x z ≡ false) (xs ++ ys) → AllByRecursion (λ z. same_name x z ≡ false) xs
          front_each x [] ys h = tt
          front_each x (z ∷ xs) ys h = (h.0, front_each x xs ys h.1)

          front : (xs ys : List Name) → AreDifferent (xs ++ ys) → AreDifferent xs
          front [] ys h = tt
          front (x ∷ xs) ys h = (front_each x xs ys h.0, front xs ys h.1)

      not_own : (z : Name) → IsAmong z owns → same_name d.name.name z ≡ false
      not_own z h = apart d.name.name z (globals ++ (pc ∷ [])) owns differ (among_left d.name.name globals (pc ∷ []) among_globals) h

      no_component : kind_in b d.name.name ≡ Unbound → (c : Component) → IsAmong c cs → same_name d.name.name c.variable ≡ false
      no_component e c h = ⊎_elim shared own (among_append c (resource_components y.resources) (own_components y.own 0 y.members) h)
        where
          shared : IsAmong c (resource_components y.resources) → same_name d.name.name c.variable ≡ false
          shared a =
              let r = from_resources c y.resources a in
              let q = resource_from r.0 r.1 r.2 in
              test (same_name d.name.name c.variable) refl q.0 q.1 q.2 (r.3 ∙ ap (λ (z : Resource). z.global) q.3)
            where
              test : (w : Bool) → same_name d.name.name c.variable ≡ w → (m : ℕ) (q : resource.Resource) → nth b.resources m ≡ Some q → c.variable ≡ q.global → same_name d.name.name c.variable ≡ false
              test false f m q at_m g = f
              test true f m q at_m g = absurd (gb.unbound m q at_m (ap (kind_in b) (sym g ∙ sym (same_name-is d.name.name c.variable f)) ∙ e))

          own : IsAmong c (own_components y.own 0 y.members) → same_name d.name.name c.variable ≡ false
          own a = let r = from_own c y.own 0 y.members a in named r.1.id r.3
            where
              named : (id : Data) → (c.variable ≡ pc) ⊎ IsAmong c.variable (own_names id y.own) → same_name d.name.name c.variable ≡ false
              named id (inl f) = ap (same_name d.name.name) f ∙ not_place
              named id (inr m) =
                  let o = name_from id c.variable y.own m in
                  let p = from_flat_map (owned_by b) o.0 b.spec.processes o.1 in
                  let z = from_map (owned b p.0) o.0 (bound.own_names b.spec p.0) p.2 in
                  not_own c.variable (subst (λ v. IsAmong v owns) (sym (o.2 ∙ ap (λ (z : Owned). z.variable) z.2)) (among_flat_map (λ p. map (written p.name.name) (bound.own_names b.spec p)) p.0 (written p.0.name.name z.0) b.spec.processes p.1 (among_map (written p.0.name.name) z.0 (bound.own_names b.spec p.0) z.1)))

      go : (k : Kind) → kind_in b d.name.name ≡ k → find d.name.name u ≡ find d.name.name t
      go Unbound e = other_same d.name.name (no_component e) (unbound n d at_n e)
      go AsWhole e =
          let w = gb.whole n d at_n e in
          let c = shared_there w.0 w.1 w.2 in
          whole_same d.name.name c.0 c.1 (c.2 ∙ w.3) (c.3 ∙ w.4)
      go ByElement e =
          let a = is.domains n d at_n e in
          let z = it.domains n d at_n e in
          let same : z.0 ≡ a.0 = one_domain z.0 a.0 (find d.name.name b.start) z.1 a.1 in
          let domain = sound.domains n d at_n e in
          let keyed : a.0 ≡ keys (graph domain.0) = one_domain a.0 (keys (graph domain.0)) (find d.name.name b.start) a.1 (domain.0, domain.1, refl) in
          let sorted : IsSorted a.0 = subst IsSorted a.2.2 (value_there s d.name.name (function a.2.0) is.state.values a.2.1).1 in
          function_same d.name.name a.0 sorted a.2 (subst (λ ks. IsFunctionOn ks (find d.name.name t)) same z.2)
          (λ m r at_m f none.
          let q = resource_from m r at_m in
          gb.elements d.name.name e (q.0, q.1, q.2, sym (ap (λ (z : Resource). z.global) q.3) ∙ f, sym (ap (λ (z : Resource). z.index) q.3) ∙ none))
          (λ i m.
          let k = nth_among i (keys (graph domain.0)) (subst (IsAmong i) keyed m) in
          let x = domain.2 k.0 i k.1 in
          let c = shared_there x.0 x.1 x.2 in
          (c.0, c.1, c.2 ∙ x.3, c.3 ∙ x.4))

  each_same : (x : Name) → IsAmong x (map (λ p. p.0) t) → find x u ≡ find x t
  each_same x h = ⊎_elim front behind (among_append x (globals ++ (pc ∷ [])) owns (subst (IsAmong x) it.state.variables h))
    where
      behind : IsAmong x owns → find x u ≡ find x t
      behind m =
          let p = from_flat_map (λ p. map (written p.name.name) (bound.own_names b.spec p)) x b.spec.processes m in
          let z = from_map (written p.0.name.name) x (bound.own_names b.spec p.0) p.2 in
          subst (λ x. find x u ≡ find x t) (sym z.2) (own_same p.0 z.0 p.1 z.1)

      of_global : IsAmong x globals → find x u ≡ find x t
      of_global m =
          let d = from_map (λ d. d.name.name) x b.spec.globals m in
          let n = nth_among d.0 b.spec.globals d.1 in
          subst (λ x. find x u ≡ find x t) (sym d.2) (global_same n.0 d.0 n.1)

      of_place : IsAmong x (pc ∷ []) → find x u ≡ find x t
      of_place (inl e) = subst (λ x. find x u ≡ find x t) (sym e) place_same
      of_place (inr m) = absurd m

      front : IsAmong x (globals ++ (pc ∷ [])) → find x u ≡ find x t
      front m = ⊎_elim of_global of_place (among_append x globals (pc ∷ []) m)

  made_is : u ≡ t
  made_is =
      same_state u t (made.1.names ∙ is.state.variables ∙ sym it.state.variables) (subst (λ l. AreDifferent l) (sym it.state.variables) differ) each_same

  -- what an entry records of a step leads to its end
  pub leads : (k : ℕ) (ps : List Data) → After s (effect_between y k s t ps) ≡ Some t
  leads k ps = ap (λ b. if b then after_changes changes s else None) made.1.present ∙ made.1.there ∙ ap Some made_is
