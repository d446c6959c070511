-- What the parameters of a process are, mapped or not, by the rules on arguments.
use Rattle.std.proofs.Common.{◌≡◌, ℕ, suc, Bool, true, false, not, ◌&&◌, ◌||◌, if◌then◌else◌, List, [], ◌∷◌, map, filter, length, Option, Some, None, option_map, refl, ap, sym, ◌∙◌, subst, inl, inr, arith}
use Rattle.std.specs.Prelude.{◌⊎◌, nat_lt}
use Rattle.std.proofs.lemmas.Option.{same_Some}
use Rattle.pgo_base.specs.Data.{Data}
use Rattle.pgo_base.specs.Lookup.{Name, same_name, find}
use Rattle.pgo_model.specs.Names.{same_name-self, same_name-is}
use Rattle.pgo_model.specs.Written.{written}
use Rattle.pgo_syntax.specs.declared.name.PlacedName.{PlacedName}
use Rattle.pgo_syntax.specs.declared.archetype.Archetype.{Archetype}
use Rattle.pgo_syntax.specs.declared.archetype.Extent.{Extent}
use Rattle.pgo_syntax.specs.declared.archetype.Extent.TheVariants.{Whole as WholeExtent, Element}
use Rattle.pgo_syntax.specs.declared.archetype.Parameter.{Parameter}
use Rattle.pgo_syntax.specs.declared.archetype.ParameterKind.{ParameterKind}
use Rattle.pgo_syntax.specs.declared.archetype.ParameterKind.TheVariants as kinds
use Rattle.pgo_syntax.specs.declared.bound.Mapping.{Mapping}
use Rattle.pgo_syntax.specs.declared.bound.Target.TheVariants as targets
use Rattle.pgo_syntax.specs.declared.declaration.Declaration.{Declaration}
use Rattle.pgo_syntax.specs.declared.process.Argument.{Argument}
use Rattle.pgo_syntax.specs.declared.process.Argument.TheVariants as arguments
use Rattle.pgo_syntax.specs.declared.process.MappingClause.{MappingClause}
use Rattle.pgo_syntax.specs.declared.process.Process.{Process}
use Rattle.pgo_syntax.specs.declared.spec.Spec.{Spec}
use Rattle.pgo_bound.specs.Among.{IsAmong, among_left, among_right, among_map, among_filter_map, among_filter, none_flat_map, none_left, empty_map, empty_none}
use Rattle.pgo_bound.specs.BoundOf.{globals_of}
use Rattle.pgo_bound.specs.Runs.{Run, Handed, handed_from, archetype_named, mapping_by, speaking, target_of, binding_of, run_with, run_of, runs_of, has_ids}
use Rattle.pgo_bound.specs.Values.{defs_of}
use Rattle.pgo_heads.specs.Refusals.{same_extent, differs, names_no_elements, is_bad_argument, is_bad_handed, bad_arguments, bad_clauses, bad_places, bind_refusal}
use Rattle.pgo_sections.specs.Access.{Mapped}
use Rattle.pgo_sections.specs.Code.{Place, Whole, Own}
use Rattle.pgo_meaning.specs.Parameters.{by_element, mapped_of, all_mapped, place_of, parameter_places, local_places, places_of, reads_by, writes_by}
use Rattle.pgo_accept.proofs.Fitting.{no_bad_mappings}
use Rattle.pgo_agrees.proofs.Places.{hands, binds}

-- ---- arguments fit their parameters
module _ (s : Spec) (consts : List (Name × Data)) (none : bind_refusal s consts ≡ None) (p : Process) (a : Archetype) (among : IsAmong p s.processes) (named : archetype_named p.archetype.name s.archetypes ≡ Some a) where
  pub handed_fits : (h : Handed) → IsAmong h (hands s p a) → is_bad_handed (globals_of s (defs_of s consts) (runs_of s (defs_of s consts))) (run_with (defs_of s consts) p a) h ≡ false
  handed_fits h b = go (is_bad_handed (globals_of s (defs_of s consts) (runs_of s (defs_of s consts))) (run_with (defs_of s consts) p a) h) refl
    where
      there : IsAmong (run_with (defs_of s consts) p a) (runs_of s (defs_of s consts))
      there = among_filter_map (run_of s (defs_of s consts)) p (run_with (defs_of s consts) p a) s.processes among (ap (option_map (run_with (defs_of s consts) p)) named)

      empty : filter (is_bad_handed (globals_of s (defs_of s consts) (runs_of s (defs_of s consts))) (run_with (defs_of s consts) p a)) (hands s p a) ≡ []
      empty =
          let gs = globals_of s (defs_of s consts) (runs_of s (defs_of s consts)) in
          let r = run_with (defs_of s consts) p a in
          let f = none_flat_map (λ (r : Run). map (λ n. (r.process.name.name, n)) (bad_places gs r)) r (runs_of s (defs_of s consts)) (no_bad_mappings s consts none) there in
          empty_map (λ (h : Handed). h.number) (filter (is_bad_handed gs r) (hands s p a)) (none_left (bad_arguments gs r) (bad_clauses r) (empty_map (λ n. (p.name.name, n)) (bad_places gs r) f))

      go : (c : Bool) → is_bad_handed (globals_of s (defs_of s consts) (runs_of s (defs_of s consts))) (run_with (defs_of s consts) p a) h ≡ c → is_bad_handed (globals_of s (defs_of s consts) (runs_of s (defs_of s consts))) (run_with (defs_of s consts) p a) h ≡ false
      go false e = e
      go true e =
          absurd (empty_none h (filter (is_bad_handed (globals_of s (defs_of s consts) (runs_of s (defs_of s consts))) (run_with (defs_of s consts) p a)) (hands s p a)) empty (among_filter (is_bad_handed (globals_of s (defs_of s consts) (runs_of s (defs_of s consts))) (run_with (defs_of s consts) p a)) h (hands s p a) b e))

  -- an element of a global is handed to a parameter `ref x[_]`
  pub element_kind : (h : Handed) (g : PlacedName) → IsAmong h (hands s p a) → h.argument ≡ arguments.Ref g Element → h.parameter.kind ≡ kinds.Ref Element
  element_kind h g b e = go h.parameter.kind (subst (λ x. is_bad_argument (globals_of s (defs_of s consts) (runs_of s (defs_of s consts))) (run_with (defs_of s consts) p a) h.number h.parameter.kind x ≡ false) e (handed_fits h b))
    where
      not_false : (x y : Bool) → not x || y ≡ false → x ≡ true
      not_false true y f = refl
      not_false false y f = absurd (cc)

      same : (x : Extent) → same_extent x Element ≡ true → x ≡ Element
      same WholeExtent f = absurd (cc)
      same Element f = refl

      go : (k : ParameterKind) → is_bad_argument (globals_of s (defs_of s consts) (runs_of s (defs_of s consts))) (run_with (defs_of s consts) p a) h.number k (arguments.Ref g Element) ≡ false → k ≡ kinds.Ref Element
      go kinds.Value f = absurd (cc)
      go (kinds.Ref x) f =
          ap kinds.Ref (same x (not_false (same_extent x Element) (differs Element (speaking h.number g.name (run_with (defs_of s consts) p a).process.clauses) || (nat_lt 1 (length (speaking h.number g.name (run_with (defs_of s consts) p a).process.clauses)) || (has_ids (run_with (defs_of s consts) p a) && names_no_elements (globals_of s (defs_of s consts) (runs_of s (defs_of s consts))) g.name))) f))

-- ---- what stands for a mapped parameter
pub record MappedFrom (s : Spec) (cs : List MappingClause) (hs : List Handed) (x : Name) (m : Mapped) : Type 0 where
  pub handed : Handed
  pub among : IsAmong handed hs
  pub named : handed.parameter.name.name ≡ x
  pub global : PlacedName
  pub extent : Extent
  pub argument : handed.argument ≡ arguments.Ref global extent
  pub mapping : Mapping
  pub found : mapping_by s extent (speaking handed.number global.name cs) ≡ Some mapping
  pub is : m ≡ record { global = global.name; by_element = by_element extent; reads = reads_by mapping; writes = writes_by mapping }

pub mapped_from : (s : Spec) (cs : List MappingClause) (hs : List Handed) (x : Name) (m : Mapped) → find x (all_mapped (map (binding_of s cs) hs)) ≡ Some m → MappedFrom s cs hs x m
mapped_from s cs [] x m h = absurd (cc)
mapped_from s cs (h ∷ hs) x m e = go h.argument refl e (λ f. later (mapped_from s cs hs x m f))
  where
    later : MappedFrom s cs hs x m → MappedFrom s cs (h ∷ hs) x m
    later r = record { handed = r.handed; among = inr r.among; named = r.named; global = r.global; extent = r.extent; argument = r.argument; mapping = r.mapping; found = r.found; is = r.is }

    go : (y : Argument) → h.argument ≡ y → find x (mapped_of h.parameter.name.name (target_of s cs h.number y) (all_mapped (map (binding_of s cs) hs))) ≡ Some m
        → (find x (all_mapped (map (binding_of s cs) hs)) ≡ Some m → MappedFrom s cs (h ∷ hs) x m) → MappedFrom s cs (h ∷ hs) x m
    go (arguments.Value q t) is f more = more f
    go (arguments.Ref g t) is f more = by (mapping_by s t (speaking h.number g.name cs)) refl f
      where
        by : (o : Option Mapping) → mapping_by s t (speaking h.number g.name cs) ≡ o → find x (mapped_of h.parameter.name.name (targets.Global g.name t o) (all_mapped (map (binding_of s cs) hs))) ≡ Some m → MappedFrom s cs (h ∷ hs) x m
        by None n f = more f
        by (Some q) n f = here (same_name x h.parameter.name.name) refl f
          where
            here : (b : Bool) → same_name x h.parameter.name.name ≡ b → (if b then Some (record { global = g.name; by_element = by_element t; reads = reads_by q; writes = writes_by q }) else find x (all_mapped (map (binding_of s cs) hs))) ≡ Some m → MappedFrom s cs (h ∷ hs) x m
            here true same k = record {
              handed = h;
              among = inl refl;
              named = sym (same_name-is x h.parameter.name.name same);
              global = g;
              extent = t;
              argument = is;
              mapping = q;
              found = n;
              is = same_Some m (record { global = g.name; by_element = by_element t; reads = reads_by q; writes = writes_by q }) (sym k);
            }
            here false same k = more k

-- ---- each parameter is mapped or has a place

some_of : {A : Type 0} (x : Name) (v : A) (xs : List (Name × A)) → IsAmong (x, v) xs → (w : A) × (find x xs ≡ Some w)
some_of x v [] h = absurd h
some_of {A} x v (q ∷ xs) h = go (same_name x q.0) refl h (some_of x v xs)
  where
    go : (b : Bool) → same_name x q.0 ≡ b → IsAmong (x, v) (q ∷ xs) → (IsAmong (x, v) xs → (w : A) × (find x xs ≡ Some w)) → (w : A) × ((if b then Some q.1 else find x xs) ≡ Some w)
    go true e g more = (q.1, refl)
    go false e (inl f) more = absurd (let z : true ≡ false = sym (ap (same_name x) (sym (ap (λ (r : Name × A). r.0) f)) ∙ same_name-self x) ∙ e in cc)
    go false e (inr f) more = more f

handed_parameter : (n : ℕ) (ps : List Parameter) (es : List Argument) (p : Parameter) → length ps ≡ length es → IsAmong p ps → (h : Handed) × IsAmong h (handed_from n ps es) × (h.parameter ≡ p)
handed_parameter n [] es p e h = absurd h
handed_parameter n (q ∷ ps) [] p e h = absurd (omega (arith, e))
handed_parameter n (q ∷ ps) (x ∷ es) p e (inl f) = (record { number = n; parameter = q; argument = x }, inl refl, sym f)
handed_parameter n (q ∷ ps) (x ∷ es) p e (inr f) =
    let r = handed_parameter (suc n) ps es p (omega (arith, e)) f in (r.0, inr r.1, r.2)

place_among : (s : Spec) (cs : List MappingClause) (pn : Name) (hs : List Handed) (h : Handed) → IsAmong h hs
    → ((q : Place) × IsAmong (h.parameter.name.name, q) (parameter_places pn (map (binding_of s cs) hs))) ⊎ ((m : Mapped) × IsAmong (h.parameter.name.name, m) (all_mapped (map (binding_of s cs) hs)))
place_among s cs pn [] h a = absurd a
place_among s cs pn (g ∷ hs) h (inl e) =
    subst (λ (z : Handed). ((q : Place) × IsAmong (z.parameter.name.name, q) (parameter_places pn (map (binding_of s cs) (g ∷ hs)))) ⊎ ((m : Mapped) × IsAmong (z.parameter.name.name, m) (all_mapped (map (binding_of s cs) (g ∷ hs))))) (sym e) (go g.argument)
  where
    go : (y : Argument) → ((q : Place) × IsAmong (g.parameter.name.name, q) (place_of pn g.parameter.name.name (target_of s cs g.number y) (parameter_places pn (map (binding_of s cs) hs)))) ⊎ ((m : Mapped) × IsAmong (g.parameter.name.name, m) (mapped_of g.parameter.name.name (target_of s cs g.number y) (all_mapped (map (binding_of s cs) hs))))
    go (arguments.Value q t) = inl (Own (written pn g.parameter.name.name), inl refl)
    go (arguments.Ref x t) = by (mapping_by s t (speaking g.number x.name cs))
      where
        by : (o : Option Mapping) → ((q : Place) × IsAmong (g.parameter.name.name, q) (place_of pn g.parameter.name.name (targets.Global x.name t o) (parameter_places pn (map (binding_of s cs) hs)))) ⊎ ((m : Mapped) × IsAmong (g.parameter.name.name, m) (mapped_of g.parameter.name.name (targets.Global x.name t o) (all_mapped (map (binding_of s cs) hs))))
        by None = inl (Whole x.name, inl refl)
        by (Some q) = inr (record { global = x.name; by_element = by_element t; reads = reads_by q; writes = writes_by q }, inl refl)
place_among s cs pn (g ∷ hs) h (inr a) = go (place_among s cs pn hs h a) g.argument
  where
    go : ((q : Place) × IsAmong (h.parameter.name.name, q) (parameter_places pn (map (binding_of s cs) hs))) ⊎ ((m : Mapped) × IsAmong (h.parameter.name.name, m) (all_mapped (map (binding_of s cs) hs))) → (y : Argument)
        → ((q : Place) × IsAmong (h.parameter.name.name, q) (place_of pn g.parameter.name.name (target_of s cs g.number y) (parameter_places pn (map (binding_of s cs) hs)))) ⊎ ((m : Mapped) × IsAmong (h.parameter.name.name, m) (mapped_of g.parameter.name.name (target_of s cs g.number y) (all_mapped (map (binding_of s cs) hs))))
    go (inl r) (arguments.Value q t) = inl (r.0, inr r.1)
    go (inr r) (arguments.Value q t) = inr r
    go r (arguments.Ref x t) = by r (mapping_by s t (speaking g.number x.name cs))
      where
        by : ((q : Place) × IsAmong (h.parameter.name.name, q) (parameter_places pn (map (binding_of s cs) hs))) ⊎ ((m : Mapped) × IsAmong (h.parameter.name.name, m) (all_mapped (map (binding_of s cs) hs))) → (o : Option Mapping)
            → ((q : Place) × IsAmong (h.parameter.name.name, q) (place_of pn g.parameter.name.name (targets.Global x.name t o) (parameter_places pn (map (binding_of s cs) hs)))) ⊎ ((m : Mapped) × IsAmong (h.parameter.name.name, m) (mapped_of g.parameter.name.name (targets.Global x.name t o) (all_mapped (map (binding_of s cs) hs))))
        by (inl r) None = inl (r.0, inr r.1)
        by (inl r) (Some q) = inl r
        by (inr r) None = inr r
        by (inr r) (Some q) = inr (r.0, inr r.1)

pub parameter_or_mapped : (s : Spec) (p : Process) (a : Archetype) (q : Parameter) → length a.params ≡ length p.arguments → IsAmong q a.params
    → ((z : Place) × (find q.name.name (places_of p.name.name a (binds s p a)) ≡ Some z)) ⊎ ((m : Mapped) × (find q.name.name (all_mapped (binds s p a)) ≡ Some m))
parameter_or_mapped s p a q e h =
    let r = handed_parameter 1 a.params p.arguments q e h in go r.0 (place_among s p.clauses p.name.name (hands s p a) r.0 r.1) (ap (λ (x : Parameter). x.name.name) r.2)
  where
    go : (r : Handed) → ((z : Place) × IsAmong (r.parameter.name.name, z) (parameter_places p.name.name (binds s p a))) ⊎ ((m : Mapped) × IsAmong (r.parameter.name.name, m) (all_mapped (binds s p a))) → r.parameter.name.name ≡ q.name.name
        → ((z : Place) × (find q.name.name (places_of p.name.name a (binds s p a)) ≡ Some z)) ⊎ ((m : Mapped) × (find q.name.name (all_mapped (binds s p a)) ≡ Some m))
    go r (inl g) n =
        inl (some_of q.name.name g.0 (places_of p.name.name a (binds s p a)) (subst (λ x. IsAmong (x, g.0) (places_of p.name.name a (binds s p a))) n (among_left (r.parameter.name.name, g.0) (parameter_places p.name.name (binds s p a)) (local_places p.name.name a.locals) g.1)))
    go r (inr g) n =
        inr (some_of q.name.name g.0 (all_mapped (binds s p a)) (subst (λ x. IsAmong (x, g.0) (all_mapped (binds s p a))) n g.1))

pub local_placed : (s : Spec) (p : Process) (a : Archetype) (d : Declaration) → IsAmong d a.locals → (z : Place) × (find d.name.name (places_of p.name.name a (binds s p a)) ≡ Some z)
local_placed s p a d h =
    some_of d.name.name (Own (written p.name.name d.name.name)) (places_of p.name.name a (binds s p a)) (among_right (d.name.name, Own (written p.name.name d.name.name)) (parameter_places p.name.name (binds s p a)) (local_places p.name.name a.locals) (among_map (λ (d : Declaration). (d.name.name, Own (written p.name.name d.name.name))) d a.locals h))
