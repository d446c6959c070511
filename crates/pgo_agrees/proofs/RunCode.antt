-- The sections of an instance have well-formed names, and change element-bound globals by their elements alone.
use Rattle.std.proofs.Common.{◌≡◌, ℕ, Bool, true, false, if◌then◌else◌, List, [], ◌∷◌, map, length, Some, None, refl, ap, sym, ◌∙◌, subst, inl, inr, arith}
use Rattle.std.specs.Prelude.{◌⊎◌, slice_get}
use Rattle.std.specs.List.{AllByRecursion, filter_map, flat_map}
use Rattle.std.proofs.lemmas.Option.{same_Some}
use Rattle.pgo_base.specs.Data.{Data}
use Rattle.pgo_base.specs.Lookup.{Name, same_name, find}
use Rattle.pgo_model.specs.Names.{same_name-self, same_name-is, is_among}
use Rattle.pgo_model.specs.Written.{written, done}
use Rattle.pgo_syntax.specs.declared.name.PlacedName.{PlacedName}
use Rattle.pgo_syntax.specs.declared.archetype.Archetype.{Archetype}
use Rattle.pgo_syntax.specs.declared.archetype.Extent.{Extent}
use Rattle.pgo_syntax.specs.declared.archetype.Extent.TheVariants.{Whole as WholeExtent, Element}
use Rattle.pgo_syntax.specs.declared.bound.Binding.{Binding}
use Rattle.pgo_syntax.specs.declared.bound.Instance.{Instance}
use Rattle.pgo_syntax.specs.declared.bound.Mapping.{Mapping}
use Rattle.pgo_syntax.specs.declared.bound.Mapping.TheVariants.{Identity, Macro}
use Rattle.pgo_syntax.specs.declared.declaration.Declaration.{Declaration}
use Rattle.pgo_syntax.specs.declared.macros.MappingMacro.{MappingMacro}
use Rattle.pgo_syntax.specs.declared.process.Argument.{Argument}
use Rattle.pgo_syntax.specs.declared.process.Argument.TheVariants as arguments
use Rattle.pgo_syntax.specs.declared.process.MappingClause.{MappingClause}
use Rattle.pgo_syntax.specs.declared.process.Process.{Process}
use Rattle.pgo_syntax.specs.declared.spec.Spec.{Spec}
use Rattle.pgo_syntax.specs.Statement.{LabeledStatements}
use Rattle.pgo_uses.specs.AllUses.{archetype_uses}
use Rattle.pgo_uses.specs.Heads.{declared_names}
use Rattle.pgo_uses.specs.declared.uses.Shape.{Shape}
use Rattle.pgo_uses.specs.declared.uses.Use.{Use}
use Rattle.pgo_scope.specs.Clash.{itself, own_module_name, shared_module_names}
use Rattle.pgo_labels.specs.LabelHere.{label_in_mapping}
use Rattle.pgo_bound.specs.Among.{IsAmong, among_map, from_map, from_flat_map, from_filter_map, nth_among, mapped_some}
use Rattle.pgo_bound.specs.BoundOf.{bound_of}
use Rattle.pgo_bound.specs.Runs.{Handed, archetype_named, mapping_named, mapping_without, mapping_by, speaking, target_of, binding_of, kind_of_extents}
use Rattle.pgo_bound.specs.State.{names_with, target_extent, kind_in}
use Rattle.pgo_heads.specs.Refusals.{bind_refusal}
use Rattle.pgo_accept.proofs.Fitting.{ArgumentsFit}
use Rattle.pgo_sections.specs.Access.{Mapped}
use Rattle.pgo_sections.specs.Code.{Place, variable_of, Code, Goto, content_name, content_places, value_name}
use Rattle.pgo_sections.specs.Domains.{ByElements}
use Rattle.pgo_sections.specs.WellFormed.{PlainCode}
use Rattle.pgo_meaning.specs.Labels.{within_order}
use Rattle.pgo_meaning.specs.Parameters.{by_element, all_mapped, places_of, setting_of}
use Rattle.pgo_meaning.specs.Sect.{is_by_element}
use Rattle.pgo_agrees.specs.Accepted.{IsOfText}
use Rattle.pgo_agrees.proofs.Blocks.{mapping_plain}
use Rattle.pgo_agrees.proofs.Env.{C, B, D, Common, place_apart}
use Rattle.pgo_agrees.proofs.Fine.{LabeledFine}
use Rattle.pgo_agrees.proofs.Further.{names_written}
use Rattle.pgo_agrees.proofs.GoodCode.{CodeRules, section_good}
use Rattle.pgo_agrees.proofs.Heads.{ref_declared}
use Rattle.pgo_agrees.proofs.Hoist.{Hoistable, never}
use Rattle.pgo_agrees.proofs.InArchetype as run
use Rattle.pgo_agrees.proofs.Instances.{runs_as}
use Rattle.pgo_agrees.proofs.Kept.{NoFindings}
use Rattle.pgo_agrees.proofs.MappedPlaces.{mapped_from}
use Rattle.pgo_agrees.proofs.Meanings.{applicable_apart, applicable_single, applicable_not_self}
use Rattle.pgo_agrees.proofs.Closed.{apart}
use Rattle.pgo_agrees.proofs.Placing.{AnyCall}
use Rattle.pgo_agrees.proofs.Places.{PlaceFrom, is_own, is_whole, hands, binds, place_from, found_there, handed_among, handed_global, unmapped_whole, bound_whole, target_whole}
use Rattle.pgo_agrees.proofs.WrittenNames.{writes_some, counted, shared_among, written_by}
use Rattle.pgo_agrees.proofs.Uses.{FineUse}
use Rattle.pgo_agrees.proofs.Variables.{own_there, declared_there}

-- ---- a variable of a process is bound by none

module _ (s : Spec) (consts : List (Name × Data)) (k : NoFindings s) (fit : AllByRecursion (ArgumentsFit s.archetypes) s.processes) (of_text : IsOfText s) where
  bound_declared : (i : Instance) (x : Binding) (g : Name) (e : Extent) → IsAmong i (bound_of s consts).instances → IsAmong x i.bindings → target_extent g x.target ≡ Some e → (d : Declaration) × IsAmong d s.globals × (d.name.name ≡ g)
  bound_declared i x g e h a f =
      let n = nth_among i (bound_of s consts).instances h in
      let r = runs_as s consts n.0 i n.1 in
      let m = from_map (binding_of s r.process.clauses) x (hands s r.process r.archetype) (subst (λ (z : Instance). IsAmong x z.bindings) r.is a) in
      let t = ap (λ (z : Binding). target_extent g z.target) (sym m.2) ∙ f in
      handed r.process r.among m.0 (handed_among 1 r.archetype.params r.process.arguments m.0 m.1) t
    where
      handed : (p : Process) → IsAmong p s.processes → (h : Handed) → IsAmong h.argument p.arguments → target_extent g (target_of s p.clauses h.number h.argument) ≡ Some e → (d : Declaration) × IsAmong d s.globals × (d.name.name ≡ g)
      handed p b h c q = go h.argument c q
        where
          go : (y : Argument) → IsAmong y p.arguments → target_extent g (target_of s p.clauses h.number y) ≡ Some e → (d : Declaration) × IsAmong d s.globals × (d.name.name ≡ g)
          go (arguments.Value z t) c q = absurd (cc)
          go (arguments.Ref z t) c q = by (same_name g z.name) refl q
            where
              by : (v : Bool) → same_name g z.name ≡ v → (if v then Some t else None) ≡ Some e → (d : Declaration) × IsAmong d s.globals × (d.name.name ≡ g)
              by true o q = let d = ref_declared s k.heads p b z t c in (d.0, d.1, d.2 ∙ sym (same_name-is g z.name o))
              by false o q = absurd (cc)

  own_not_global : (p : Process) (a : Archetype) (y : Name) → IsAmong p s.processes → archetype_named p.archetype.name s.archetypes ≡ Some a → IsAmong y (names_with p a) → (d : Declaration) → IsAmong d s.globals → d.name.name ≡ written p.name.name y → ⊥
  own_not_global p a y b e c d f g =
      let x = written p.name.name y in
      let n = counted s k.clashes x in
      let v = writes_some x (itself false d.name.name d.name.place) (shared_module_names (declared_names s.globals)) (shared_among d.name (declared_names s.globals) (declared_there d s.globals f)) (ap (same_name x) g ∙ same_name-self x) in
      let w = writes_some x (own_module_name p y) (written_by s) (own_there s fit p a y b e c) (same_name-self x) in
      omega (arith, n, v, w)

  own_unbound : (p : Process) (a : Archetype) (y : Name) → IsAmong p s.processes → archetype_named p.archetype.name s.archetypes ≡ Some a → IsAmong y (names_with p a) → is_by_element (kind_in (bound_of s consts) (written p.name.name y)) ≡ false
  own_unbound p a y h e c = go (flat_map (λ i. filter_map (λ x. target_extent (written p.name.name y) x.target) i.bindings) (bound_of s consts).instances) (λ t r. r)
    where
      none : (t : Extent) → IsAmong t (flat_map (λ (i : Instance). filter_map (λ (x : Binding). target_extent (written p.name.name y) x.target) i.bindings) (bound_of s consts).instances) → ⊥
      none t r =
          let i = from_flat_map (λ (i : Instance). filter_map (λ (x : Binding). target_extent (written p.name.name y) x.target) i.bindings) t (bound_of s consts).instances r in
          let x = from_filter_map (λ (x : Binding). target_extent (written p.name.name y) x.target) t i.0.bindings i.2 in
          let d = bound_declared i.0 x.0 (written p.name.name y) t i.1 x.1 x.2 in
          own_not_global p a y h e c d.0 d.1 d.2

      go : (es : List Extent) → ((t : Extent) → IsAmong t es → IsAmong t (flat_map (λ (i : Instance). filter_map (λ (x : Binding). target_extent (written p.name.name y) x.target) i.bindings) (bound_of s consts).instances)) → is_by_element (kind_of_extents es) ≡ false
      go [] f = refl
      go (t ∷ es) f = absurd (none t (f t (inl refl)))

  mapping_among : (x : Name) (ms : List MappingMacro) (m : MappingMacro) → mapping_named x ms ≡ Some m → IsAmong m ms
  mapping_among x [] m h = absurd (cc)
  mapping_among x (n ∷ ms) m h = go (same_name x n.name.name) h (mapping_among x ms m)
    where
      go : (c : Bool) → (if c then Some n else mapping_named x ms) ≡ Some m → (mapping_named x ms ≡ Some m → IsAmong m ms) → IsAmong m (n ∷ ms)
      go true e more = inl (same_Some m n (sym e))
      go false e more = inr (more e)

  mapping_of : (e : Extent) (cs : List MappingClause) (q : Mapping) → mapping_by s e cs ≡ Some q → (m : MappingMacro) → q ≡ Macro m → IsAmong m s.mappings
  mapping_of e [] q h m f = go e h
    where
      go : (e : Extent) → mapping_without e ≡ Some q → IsAmong m s.mappings
      go WholeExtent h = absurd (cc)
      go Element h = absurd (let z : Identity ≡ Macro m = same_Some Identity q h ∙ f in cc)
  mapping_of e (c ∷ cs) q h m f =
      let r = mapped_some Macro (mapping_named c.mapping.name s.mappings) q h in
      let same : r.0 ≡ m = inner r.0 m (sym r.2 ∙ f) in
      subst (λ z. IsAmong z s.mappings) same (mapping_among c.mapping.name s.mappings r.0 r.1)
    where
      inner : (x y : MappingMacro) → Macro x ≡ Macro y → x ≡ y
      inner x y e = cc

  -- ---- an instance's sections
  module _ (none : bind_refusal s consts ≡ None) (mappings : flat_map label_in_mapping s.mappings ≡ []) (p : Process) (a : Archetype) (among : IsAmong p s.processes) (named : archetype_named p.archetype.name s.archetypes ≡ Some a) (declared : IsAmong a s.archetypes) (len : length a.params ≡ length p.arguments) (j : ℕ) (at_j : slice_get s.archetypes j ≡ Some a) (there : (u : Use) → IsAmong u (archetype_uses j a) → FineUse s u) (i : Instance) (i_among : IsAmong i (bound_of s consts).instances) (i_binds : i.bindings ≡ binds s p a) where
    abbrev pub N : List Name → Bool → Bool → Name → Type 0
    N = run.RunName s k fit of_text consts none p a among named declared len j at_j there

    abbrev pub A : List Name → Shape → Name → Type 0
    A = run.RunAssigned s k fit of_text consts none p a among named declared len j at_j there

    abbrev pub by : Name → Bool
    by g = is_by_element (kind_in (bound_of s consts) g)

    abbrev pub vs : List Name
    vs = names_written s

    abbrev pub gs : List Name
    gs = map (λ (d : Declaration). d.name.name) s.globals

    whole_handed : (h : Handed) (g : PlacedName) (e : Extent) → IsAmong h (hands s p a) → h.argument ≡ arguments.Ref g e → e ≡ WholeExtent → by g.name ≡ false
    whole_handed h g e r f w =
        bound_whole (bound_of s consts) i (binding_of s p.clauses h) g.name i_among (subst (IsAmong (binding_of s p.clauses h)) (sym i_binds) (among_map (binding_of s p.clauses) h (hands s p a) r))
        (ap (λ x. target_extent g.name (target_of s p.clauses h.number x)) (f ∙ ap (arguments.Ref g) w) ∙ target_whole s p.clauses h.number g)

    hoistable : (ns : List Name) → Hoistable vs (all_mapped (binds s p a)) (places_of p.name.name a (binds s p a)) ns (N ns) (C s k fit of_text) (B s k fit of_text)
    hoistable ns = record {
      none = λ h i x n e. (n.0, unmapped x i n.1 e);
      element = λ h x m n e f. (n.0, element x m n.1 e f);
      bound = λ x b. b;
      applied = λ x c. (
        applicable_single s k fit of_text x c,
        apart s k fit of_text x (applicable_apart s k fit of_text x c),
        run.applied_no_place s k fit of_text consts none p a among named declared len j at_j there x c,
        applicable_not_self s k fit of_text x c,
      );
    }
      where
        unmapped : (x : Name) (i : Bool) → (is_among x ns ≡ true) ⊎ (((z : Place) × (find x (places_of p.name.name a (binds s p a)) ≡ Some z)) ⊎ ((is_among x vs ≡ false) ⊎ ((m : Mapped) × (find x (all_mapped (binds s p a)) ≡ Some m) × (m.by_element ≡ true → i ≡ true)))) → find x (all_mapped (binds s p a)) ≡ None
            → (is_among x ns ≡ true) ⊎ (((z : Place) × (find x (places_of p.name.name a (binds s p a)) ≡ Some z)) ⊎ (is_among x vs ≡ false))
        unmapped x i (inl e) f = inl e
        unmapped x i (inr (inl e)) f = inr (inl e)
        unmapped x i (inr (inr (inl e))) f = inr (inr e)
        unmapped x i (inr (inr (inr e))) f = absurd (let q : None ≡ Some e.0 = sym f ∙ e.1 in cc)

        element : (x : Name) (m : Mapped) → (is_among x ns ≡ true) ⊎ (((z : Place) × (find x (places_of p.name.name a (binds s p a)) ≡ Some z)) ⊎ ((is_among x vs ≡ false) ⊎ ((m : Mapped) × (find x (all_mapped (binds s p a)) ≡ Some m) × (m.by_element ≡ true → false ≡ true)))) → find x (all_mapped (binds s p a)) ≡ Some m → m.by_element ≡ true
            → (is_among x ns ≡ true) ⊎ (((z : Place) × (find x (places_of p.name.name a (binds s p a)) ≡ Some z)) ⊎ (is_among x vs ≡ false))
        element x m (inl e) f g = inl e
        element x m (inr (inl e)) f g = inr (inl e)
        element x m (inr (inr (inl e))) f g = inr (inr e)
        element x m (inr (inr (inr e))) f g =
            let same : e.0 ≡ m = same_Some e.0 m (sym e.1 ∙ f) in never (e.2 (ap (λ (z : Mapped). z.by_element) same ∙ g))

    whole_extent : (e : Extent) → by_element e ≡ false → e ≡ WholeExtent
    whole_extent WholeExtent h = refl
    whole_extent Element h = absurd (cc)

    mapped_global : (x : Name) (m : Mapped) → find x (all_mapped (binds s p a)) ≡ Some m → is_among m.global gs ≡ true
    mapped_global x m h =
        let f = mapped_from s p.clauses (hands s p a) x m h in
        ap (λ (z : Mapped). is_among z.global gs) f.is ∙ handed_global s k.heads p a among named f.handed f.global f.extent f.among f.argument

    mapped_whole : (x : Name) (m : Mapped) → find x (all_mapped (binds s p a)) ≡ Some m → m.by_element ≡ false → by m.global ≡ false
    mapped_whole x m h e =
        let f = mapped_from s p.clauses (hands s p a) x m h in
        ap (λ (z : Mapped). by z.global) f.is ∙ whole_handed f.handed f.global f.extent f.among f.argument (whole_extent f.extent (ap (λ (z : Mapped). z.by_element) (sym f.is) ∙ e))

    mapped_blocks : (x : Name) (m : Mapped) → find x (all_mapped (binds s p a)) ≡ Some m → PlainCode vs (content_name ∷ []) content_places [] m.reads × PlainCode vs (content_name ∷ []) content_places (value_name ∷ []) m.writes
    mapped_blocks x m h =
        let f = mapped_from s p.clauses (hands s p a) x m h in
        let q = mapping_plain s k fit of_text mappings f.mapping (λ n e. mapping_of f.extent (speaking f.handed.number f.global.name p.clauses) f.mapping f.found n e) in
        subst (λ (z : Mapped). PlainCode vs (content_name ∷ []) content_places [] z.reads × PlainCode vs (content_name ∷ []) content_places (value_name ∷ []) z.writes) (sym f.is) q

    pub place_whole : (x : Name) (z : Place) → find x (places_of p.name.name a (binds s p a)) ≡ Some z → by (variable_of z) ≡ false
    place_whole x z h = go (place_from s p a (x, z) (found_there x z (places_of p.name.name a (binds s p a)) h))
      where
        go : PlaceFrom s p.clauses p.name.name (hands s p a) (names_with p a) (x, z) → by (variable_of z) ≡ false
        go (is_own y e c) = ap (λ (q : Name × Place). by (variable_of q.1)) e ∙ own_unbound p a y among named c
        go (is_whole h g e c d n f) =
            ap (λ (q : Name × Place). by (variable_of q.1)) f ∙ whole_handed h g e c d (unmapped_whole s k.heads p a among named h.number g.name e n)

    rules : CodeRules vs gs (setting_of p.name.name a (binds s p a)) by N (C s k fit of_text) (B s k fit of_text) (D s k fit of_text) A (AnyCall (C s k fit of_text) (B s k fit of_text) (Common s k fit of_text) N (D s k fit of_text) A ⊥) ⊥
    rules = record {
      hoistable = hoistable;
      assigned_element = λ ns h x m g e f. g.1 (run.element_is s k fit of_text consts none p a among named declared len j at_j there x m e f);
      assigned_single = λ ns h x g. g.0;
      mapped_global = mapped_global;
      mapped_whole = mapped_whole;
      mapped_reads = λ x m e. (mapped_blocks x m e).0;
      mapped_writes = λ x m e. (mapped_blocks x m e).1;
      places = place_whole;
      with_apart = λ x y d c. d.1 y c;
      place_apart = place_apart s k fit of_text;
      yields = λ y. absurd y;
      block = λ e. never e;
      content = λ e. never e;
    }

    pub sections_good : (ls : LabeledStatements) → LabeledFine N (C s k fit of_text) (B s k fit of_text) (D s k fit of_text) A (AnyCall (C s k fit of_text) (B s k fit of_text) (Common s k fit of_text) N (D s k fit of_text) A ⊥) ⊥ true [] ls
        → (l : Name) (c : Code) → find l (within_order (setting_of p.name.name a (binds s p a)) [] ls (Goto done)) ≡ Some c → PlainCode vs gs (places_of p.name.name a (binds s p a)) [] c × ByElements by c
    sections_good ls h l c e =
        section_good vs gs (setting_of p.name.name a (binds s p a)) by N (C s k fit of_text) (B s k fit of_text) (D s k fit of_text) A (AnyCall (C s k fit of_text) (B s k fit of_text) (Common s k fit of_text) N (D s k fit of_text) A ⊥) ⊥ rules ls h l c e
