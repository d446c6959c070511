-- A state of a bound specification, with the domains of the start, is a state of its system.
use Rattle.std.proofs.Common.{◌≡◌, ◌↔◌, ℕ, Bool, true, false, if◌then◌else◌, List, [], ◌∷◌, map, Some, None, refl, ap, sym, ◌∙◌, subst, inl, inr, arith}
use Rattle.std.specs.List.{filter_map, flat_map, list_all}
use Rattle.std.proofs.lemmas.Option.{same_Some}
use Rattle.pgo_base.specs.Lookup.{Name, Vars, same_name, find}
use Rattle.pgo_base.specs.Sets.{in_order}
use Rattle.pgo_model.specs.Machine.{nth}
use Rattle.pgo_model.specs.Names.{same_name-self, same_name-is}
use Rattle.pgo_model.specs.System.{System, Member, Owned, Resource}
use Rattle.pgo_model.specs.SystemState.{IsShared, IsElementBound, IsSystemState}
use Rattle.pgo_model.specs.Variables.{IsFunctionOn, HasOneDomain}
use Rattle.pgo_model.specs.Written.{pc}
use Rattle.pgo_syntax.specs.declared.archetype.Extent.{Extent}
use Rattle.pgo_syntax.specs.declared.bound.Bound.{Bound}
use Rattle.pgo_syntax.specs.declared.bound.Instance.{Instance}
use Rattle.pgo_syntax.specs.declared.bound.Resource as resource
use Rattle.pgo_syntax.specs.declared.bound.Target.{Target}
use Rattle.pgo_syntax.specs.declared.bound.Target.TheVariants as targets
use Rattle.pgo_bound.specs.declared.kinds.Kind.{Kind}
use Rattle.pgo_bound.specs.declared.kinds.Kind.TheVariants.{Unbound, AsWhole, ByElement}
use Rattle.pgo_bound.specs.Among.{IsAmong, among_map, among_flat_map, among_filter_map, from_map, from_flat_map, from_filter_map, among_nth, nth_among, nth_map}
use Rattle.pgo_bound.specs.Runs.{is_element, kind_of_extents}
use Rattle.pgo_bound.specs.Sound.{Sound}
use Rattle.pgo_bound.specs.State.{IsStateOnDomains, id_of, own_names, target_extent, kind_in}
use Rattle.pgo_meaning.specs.System.{global_in, globals_in, member_of, owned, owned_by, resource_of, system_of}
use Rattle.pgo_meaning.specs.SystemStates.{IsDeclared, GlobalsBound}

-- ---- kinds and bindings

abbrev extents_by : Name → Instance → List Extent
extents_by g i = filter_map (λ x. target_extent g x.target) i.bindings

-- a global that an instance binds is bound
bound_not : (es : List Extent) (e : Extent) → IsAmong e es → kind_of_extents es ≡ Unbound → ⊥
bound_not [] e h k = h
bound_not (x ∷ es) e h k = go (list_all is_element (x ∷ es)) k
  where
    go : (b : Bool) → (if b then ByElement else AsWhole) ≡ Unbound → ⊥
    go true k = grind (arith, k)
    go false k = grind (arith, k)

target_binds : (g : Name) (t : Target) → global_in t ≡ Some g → (e : Extent) × (target_extent g t ≡ Some e)
target_binds g (targets.Value e) h = absurd (grind (arith, h))
target_binds g (targets.Global x e m) h =
    let same = same_Some x g h in
    (e, ap (λ b. if b then Some e else None) (ap (same_name g) same ∙ same_name-self g))

target_bound : (g : Name) (t : Target) (e : Extent) → target_extent g t ≡ Some e → global_in t ≡ Some g
target_bound g (targets.Value e) f h = absurd (grind (arith, h))
target_bound g (targets.Global x e m) f h = go (same_name g x) refl h
  where
    go : (b : Bool) → same_name g x ≡ b → (if b then Some e else None) ≡ Some f → Some x ≡ Some g
    go true q k = ap Some (sym (same_name-is g x q))
    go false q k = absurd (grind (arith, k))

module _ (b : Bound) where
  pub bound_kind : (i : Instance) (g : Name) → IsAmong i b.instances → IsAmong g (globals_in i.bindings) → kind_in b g ≡ Unbound → ⊥
  bound_kind i g hi hg =
      let x = from_filter_map (λ x. global_in x.target) g i.bindings hg in
      let e = target_binds g x.0.target x.2 in
      bound_not (flat_map (extents_by g) b.instances) e.0 (among_flat_map (extents_by g) i e.0 b.instances hi (among_filter_map (λ x. target_extent g x.target) x.0 e.0 i.bindings x.1 e.1))

  some_extent : (es : List Extent) → kind_of_extents es ≡ ByElement → (e : Extent) × IsAmong e es
  some_extent [] h = absurd (grind (arith, h))
  some_extent (e ∷ es) h = (e, inl refl)

  -- a global that is bound by element has an instance that is bound to it
  kind_bound : (g : Name) → kind_in b g ≡ ByElement → (i : Instance) × IsAmong i b.instances × IsAmong g (globals_in i.bindings)
  kind_bound g h =
      let e = some_extent (flat_map (extents_by g) b.instances) h in
      let i = from_flat_map (extents_by g) e.0 b.instances e.1 in
      let x = from_filter_map (λ x. target_extent g x.target) e.0 i.0.bindings i.2 in
      (i.0, i.1, among_filter_map (λ x. global_in x.target) x.0 g i.0.bindings x.1 (target_bound g x.0.target e.0 x.2))

  abbrev y : System
  y = system_of b

  ids_same : (is : List Instance) → map (λ m. m.id) (map member_of is) ≡ map id_of is
  ids_same [] = refl
  ids_same (i ∷ is) = ap (λ l. id_of i ∷ l) (ids_same is)

  -- the system's shared globals
  shared_by : (i : Instance) (g : Name) → IsAmong i b.instances → IsAmong g (globals_in i.bindings) → IsShared y g
  shared_by i g hi hg =
      let k = nth_among (member_of i) (map member_of b.instances) (among_map member_of i b.instances hi) in
      let n = nth_among g (globals_in i.bindings) hg in
      inl (k.0, n.0, member_of i, k.1, n.1)

  module _ (sound : Sound b) (gb : GlobalsBound b) where
    member_there : (k : ℕ) (m : Member) → nth y.members k ≡ Some m → (i : Instance) × IsAmong i b.instances × (m ≡ member_of i)
    member_there k m h = from_map member_of m b.instances (among_nth m y.members k h)

    resource_there : (n : ℕ) (r : Resource) → nth y.resources n ≡ Some r → (q : resource.Resource) × IsAmong q b.resources × (r ≡ resource_of q)
    resource_there n r h = from_map resource_of r b.resources (among_nth r y.resources n h)

    -- such a global is declared and bound
    shared_declared : (g : Name) → IsShared y g → IsDeclared b g
    shared_declared g (inl h) =
        let i = member_there h.0 h.2 h.3 in
        let k = nth_among i.0 b.instances i.1 in
        gb.bound k.0 h.1 i.0 g k.1 (ap (λ (m : Member). nth m.globals h.1) (sym i.2) ∙ h.4)
    shared_declared g (inr h) =
        let q = resource_there h.0 h.1 h.2 in
        let k = nth_among q.0 b.resources q.1 in
        let d = gb.shared k.0 q.0 k.1 in
        (d.0, d.1, d.2, d.3 ∙ sym (ap (λ (r : Resource). r.global) q.2) ∙ h.3)

    shared_bound : (g : Name) → IsShared y g → kind_in b g ≡ Unbound → ⊥
    shared_bound g (inl h) e =
        let i = member_there h.0 h.2 h.3 in
        bound_kind i.0 g i.1 (among_nth g (globals_in i.0.bindings) h.1 (ap (λ (m : Member). nth m.globals h.1) (sym i.2) ∙ h.4)) e
    shared_bound g (inr h) e =
        let q = resource_there h.0 h.1 h.2 in
        let k = nth_among q.0 b.resources q.1 in
        gb.unbound k.0 q.0 k.1 (ap (kind_in b) (sym (ap (λ (r : Resource). r.global) q.2) ∙ h.3) ∙ e)

    -- what the system takes as bound by element is so bound
    element_kind : (g : Name) → IsElementBound y g → kind_in b g ≡ ByElement
    element_kind g h = go (kind_in b g) refl
      where
        go : (k : Kind) → kind_in b g ≡ k → kind_in b g ≡ ByElement
        go Unbound e = absurd (shared_bound g h.shared e)
        go ByElement e = e
        go AsWhole e =
            let d = shared_declared g h.shared in
            let w = gb.whole d.0 d.1 d.2 (ap (kind_in b) d.3 ∙ e) in
            absurd (h.elements w.0 (resource_of w.1) (nth_map resource_of w.0 b.resources w.1 w.2) (w.3 ∙ d.3) w.4)

    kind_element : (g : Name) → kind_in b g ≡ ByElement → IsElementBound y g
    kind_element g e = record {
      shared = let i = kind_bound g e in shared_by i.0 g i.1 i.2;
      elements = λ n r h is none.
          let q = resource_there n r h in
          let k = nth_among q.0 b.resources q.1 in
          gb.elements g e (k.0, q.0, k.1, sym (ap (λ (r : Resource). r.global) q.2) ∙ is, sym (ap (λ (r : Resource). r.index) q.2) ∙ none);
    }

    to_system : (s : Vars) → IsStateOnDomains b s → IsSystemState y s
    to_system s h = record {
      variables = h.state.variables ∙ sym sound.start.variables;
      values = h.state.values;
      shallow = h.state.shallow;
      places = subst (λ l. IsFunctionOn (in_order l) (find pc s)) (sym (ids_same b.instances)) h.state.places;
      own = λ n o is.
          let p = from_flat_map (owned_by b) o b.spec.processes (among_nth o y.own n is) in
          let x = from_map (owned b p.0) o (own_names b.spec p.0) p.2 in
          let at_p = nth_among p.0 b.spec.processes p.1 in
          let at_x = nth_among x.0 (own_names b.spec p.0) x.1 in
          subst (λ (o : Owned). IsFunctionOn (in_order o.ids) (find o.variable s)) (sym x.2) (h.state.locals at_p.0 at_x.0 p.0 x.0 at_p.1 at_x.1);
      domains = λ g e.
          let d = shared_declared g e.shared in
          subst (λ x. HasOneDomain b.start s x) d.3 (h.domains d.0 d.1 d.2 (ap (kind_in b) d.3 ∙ element_kind g e));
    }

    from_system : (s : Vars) → IsSystemState y s → IsStateOnDomains b s
    from_system s h = record {
      state = record {
        variables = h.variables ∙ sound.start.variables;
        values = h.values;
        shallow = h.shallow;
        places = subst (λ l. IsFunctionOn (in_order l) (find pc s)) (ids_same b.instances) h.places;
        locals = λ n m p x at_p at_x.
            let among = among_flat_map (owned_by b) p (owned b p x) b.spec.processes (among_nth p b.spec.processes n at_p) (among_map (owned b p) x (own_names b.spec p) (among_nth x (own_names b.spec p) m at_x)) in
            let k = nth_among (owned b p x) y.own among in
            h.own k.0 (owned b p x) k.1;
        elements = λ n d at_d e. let one = h.domains d.name.name (kind_element d.name.name e) in (one.2.0, one.2.1);
      };
      domains = λ n d at_d e. h.domains d.name.name (kind_element d.name.name e);
    }

pub states_same : (b : Bound) (s : Vars) → Sound b → GlobalsBound b → IsSystemState (system_of b) s ↔ IsStateOnDomains b s
states_same b s sound gb = (from_system b sound gb s, to_system b sound gb s)
