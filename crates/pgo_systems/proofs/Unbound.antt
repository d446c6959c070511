-- A section leaves globals that its instance is not bound to.
use Rattle.std.proofs.Common.{◌≡◌, Bool, true, false, map, Some, refl, sym, ap, ◌∙◌}
use Rattle.pgo_base.specs.Lookup.{Name, same_name, find}
use Rattle.pgo_model.specs.Names.{same_name-is, is_among}
use Rattle.pgo_syntax.specs.declared.bound.Bound.{Bound}
use Rattle.pgo_syntax.specs.declared.bound.Instance.{Instance}
use Rattle.pgo_sections.specs.Code.{Place, Whole, Own, variable_of, Code}
use Rattle.pgo_sections.specs.Domains.{Uses, AllUse}
use Rattle.pgo_meaning.specs.Parameters.{local_places, places_of, setting_of}
use Rattle.pgo_meaning.specs.System.{globals_in}
use Rattle.pgo_meaning.specs.TreesAgree.{sections_at}
use Rattle.pgo_meaning.proofs.SectionCode.{Holds, section_good}
use Rattle.pgo_meaning.proofs.Traces.{place_bound, no_local, mapped_bound}
use Rattle.pgo_systems.specs.Premises.{OwnsApart}
use Rattle.pgo_systems.proofs.Untouched.{Leaves}

module _ (b : Bound) (i : Instance) (owns : OwnsApart b i) (x : Name) (global : is_among x (map (λ d. d.name.name) b.spec.globals) ≡ true) (free : is_among x (globals_in i.bindings) ≡ false) where
  other : (g : Name) → is_among g (globals_in i.bindings) ≡ true → same_name x g ≡ false
  other g h = go (same_name x g) refl
    where
      go : (c : Bool) → same_name x g ≡ c → same_name x g ≡ false
      go false e = e
      go true e = absurd (let z : true ≡ false = sym h ∙ ap (λ n. is_among n (globals_in i.bindings)) (sym (same_name-is x g e)) ∙ free in cc)

  not_own : (v : Name) → is_among v (map (λ d. d.name.name) b.spec.globals) ≡ false → same_name x v ≡ false
  not_own v h = go (same_name x v) refl
    where
      go : (c : Bool) → same_name x v ≡ c → same_name x v ≡ false
      go false e = e
      go true e = absurd (let z : true ≡ false = sym global ∙ ap (λ n. is_among n (map (λ d. d.name.name) b.spec.globals)) (same_name-is x v e) ∙ h in cc)

  place_other : (z : Name) (p : Place) → find z (places_of i.process i.archetype i.bindings) ≡ Some p → same_name x (variable_of p) ≡ false
  place_other z (Whole g) h = other g (place_bound i.process i.bindings (local_places i.process i.archetype.locals) z g h (λ k. no_local i.process i.archetype.locals z g k))
  place_other z (Own v) h = not_own v (owns z v h)

  leaves_hold : Holds (setting_of i.process i.archetype i.bindings) (Uses (λ p. same_name x (variable_of p) ≡ false) (λ g j. same_name x g ≡ false)) (AllUse (λ p. same_name x (variable_of p) ≡ false) (λ g j. same_name x g ≡ false))
  leaves_hold = record {
    empty = tt;
    skips = tt;
    lets = λ b w e c h. h;
    picks = λ b w e c h. h;
    becomes = λ z p w h. place_other z p h;
    sets = λ b z p e h. place_other z p h;
    contents = λ h e. absurd (let z : false ≡ true = h in cc);
    awaits = λ e. tt;
    asserts = λ e. tt;
    prints = λ e. tt;
    ifs = λ e c d h g. (h, g);
    eithers = λ cs h. h;
    seqs = λ c d h g. (h, g);
    gotos = λ l. tt;
    yields = λ e. tt;
    reads = λ z m w j c f h. (other m.global (mapped_bound i.bindings z m f), h);
    writes = λ z m j w f. other m.global (mapped_bound i.bindings z m f);
    no_arms = tt;
    more_arms = λ c cs h g. (h, g);
  }

  pub leaves : (l : Name) (code : Code) → find l (sections_at b i) ≡ Some code → Leaves x code
  leaves l code h =
      section_good (Uses (λ p. same_name x (variable_of p) ≡ false) (λ g j. same_name x g ≡ false)) (AllUse (λ p. same_name x (variable_of p) ≡ false) (λ g j. same_name x g ≡ false)) b.spec.macros i.process i.archetype i.bindings leaves_hold l code h
