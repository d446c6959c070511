-- The premises of the law of trees, of every accepted specification.
use Rattle.std.proofs.Common.{◌≡◌, ℕ, List, [], map, length, Some, ap, sym, ◌∙◌, subst}
use Rattle.std.specs.Prelude.{slice_get}
use Rattle.std.specs.List.{AllByRecursion}
use Rattle.std.proofs.lemmas.Option.{same_Some}
use Rattle.pgo_base.specs.Data.{Data}
use Rattle.pgo_base.specs.Lookup.{Name, Vars, find}
use Rattle.pgo_model.specs.Machine.{nth}
use Rattle.pgo_model.specs.ModuleView.{defined_view}
use Rattle.pgo_syntax.specs.Statement.{labeled}
use Rattle.pgo_syntax.specs.declared.archetype.Archetype.{Archetype}
use Rattle.pgo_syntax.specs.declared.bound.Instance.{Instance}
use Rattle.pgo_syntax.specs.declared.declaration.Declaration.{Declaration}
use Rattle.pgo_syntax.specs.declared.process.Process.{Process}
use Rattle.pgo_syntax.specs.declared.spec.Spec.{Spec}
use Rattle.pgo_uses.specs.AllUses.{archetype_uses}
use Rattle.pgo_uses.specs.declared.uses.Use.{Use}
use Rattle.pgo_labels.specs.Rules.{label_in_with, reserved_done}
use Rattle.pgo_bound.specs.Among.{IsAmong, among_nth, nth_among, none_flat_map}
use Rattle.pgo_bound.specs.BoundOf.{bound_of, instance_at}
use Rattle.pgo_bound.specs.Runs.{archetype_named, run_with}
use Rattle.pgo_bound.specs.Sound.{WellNamed}
use Rattle.pgo_bound.specs.State.{kind_in, variables_of}
use Rattle.pgo_bound.specs.Values.{defs_of}
use Rattle.pgo_accept.proofs.Unlabelled.{macros_unlabelled}
use Rattle.pgo_accept.proofs.Accepted.{accepted_well_named}
use Rattle.pgo_accept.proofs.Fitting.{ArgumentsFit, arguments_fit}
use Rattle.pgo_sections.specs.Code.{Place, Whole, Own, Code}
use Rattle.pgo_sections.specs.Domains.{ByElements}
use Rattle.pgo_sections.specs.Expand.{expansion}
use Rattle.pgo_sections.specs.SectionsAgree.{IsPlace}
use Rattle.pgo_sections.specs.WellFormed.{PlainCode}
use Rattle.pgo_meaning.specs.Ends.{KeepsElements}
use Rattle.pgo_meaning.specs.LabelSections.{AreUnlabelled, NoneIsDone}
use Rattle.pgo_meaning.specs.Parameters.{places_of}
use Rattle.pgo_meaning.specs.Sect.{context_of, is_by_element}
use Rattle.pgo_meaning.specs.Sections.{sections_of}
use Rattle.pgo_meaning.specs.SystemStates.{RefsDeclared}
use Rattle.pgo_meaning.specs.TreesAgree.{Named, OwnLabels, sections_at}
use Rattle.pgo_meaning.specs.MacrosPlaced.{bodies, placed_among}
use Rattle.pgo_agrees.specs.Accepted.{IsAccepted, AreSmall}
use Rattle.pgo_agrees.proofs.Closed.{definitions_closed}
use Rattle.pgo_agrees.proofs.Fewer.{code_fewer, closed_fewer}
use Rattle.pgo_agrees.proofs.Further.{names_written, variables_among}
use Rattle.pgo_agrees.proofs.Heads.{refs_declared}
use Rattle.pgo_agrees.proofs.Instances.{RunsAs, runs_as}
use Rattle.pgo_agrees.proofs.Kept.{NoFindings, no_findings, NoLabelFindings, no_label_findings}
use Rattle.pgo_agrees.proofs.Labels.{tree_of_label, few_names}
use Rattle.pgo_agrees.proofs.Places.{IsPlaceOf, owns, places, binds}
use Rattle.pgo_agrees.proofs.RunBody as body
use Rattle.pgo_agrees.proofs.RunCode as code
use Rattle.pgo_agrees.proofs.Unlabelled.{none_is_done}
use Rattle.pgo_agrees.proofs.Uses.{FineUse, fine_use, of_archetype}
use Rattle.pgo_agrees.proofs.Variables.{variable_written}

module _ (s : Spec) (consts : List (Name × Data)) (h : IsAccepted s consts) where
  pub names : NoFindings s
  names = no_findings s h.names

  pub labels : NoLabelFindings s
  labels = no_label_findings s h.labels

  pub fit : AllByRecursion (ArgumentsFit s.archetypes) s.processes
  fit = arguments_fit s consts h.binding

  pub well : WellNamed s
  well = accepted_well_named s consts h.names h.labels h.binding

  pub unlabelled : AreUnlabelled s.macros
  unlabelled = macros_unlabelled s.macros labels.macros

  pub refs : RefsDeclared s
  refs = refs_declared s names.heads

  pub none_done : (k : ℕ) (i : Instance) → nth (bound_of s consts).instances k ≡ Some i → NoneIsDone i
  none_done k i at_k =
      let r = runs_as s consts k i at_k in
      subst NoneIsDone (sym r.is) (none_is_done r.archetype (none_flat_map reserved_done r.archetype s.archetypes labels.dones r.declared))

  pub parameters_number : (p : Process) (a : Archetype) → IsAmong p s.processes → archetype_named p.archetype.name s.archetypes ≡ Some a → length a.params ≡ length p.arguments
  parameters_number p a among named =
      let n = nth_among p s.processes among in
      let r = well.archetypes n.0 p n.1 in
      let same : r.0 ≡ a = same_Some r.0 a (sym r.1 ∙ named) in
      ap (λ (z : Archetype). length z.params) (sym same) ∙ r.2

  -- ---- an instance
  module _ (k : ℕ) (i : Instance) (at_k : nth (bound_of s consts).instances k ≡ Some i) where
    r : RunsAs s consts i
    r = runs_as s consts k i at_k

    there : (j : ℕ) × (slice_get s.archetypes j ≡ Some r.archetype) × ((u : Use) → IsAmong u (archetype_uses j r.archetype) → FineUse s u)
    there = let o = of_archetype s r.archetype r.declared in (o.0, o.1, λ u b. fine_use s names u (o.2 u b))

    len : length r.archetype.params ≡ length r.process.arguments
    len = parameters_number r.process r.archetype r.among r.named

    i_binds : i.bindings ≡ binds s r.process r.archetype
    i_binds = ap (λ (z : Instance). z.bindings) r.is

    i_among : IsAmong i (bound_of s consts).instances
    i_among = among_nth i (bound_of s consts).instances k at_k

    sections : (l : Name) (c : Code) → find l (sections_of s.macros r.process.name.name r.archetype (binds s r.process r.archetype)) ≡ Some c
        → PlainCode (names_written s) (map (λ (d : Declaration). d.name.name) s.globals) (places_of r.process.name.name r.archetype (binds s r.process r.archetype)) [] c × ByElements (λ g. is_by_element (kind_in (bound_of s consts) g)) c
    sections l c e =
        let free = none_flat_map label_in_with r.archetype s.archetypes labels.withs r.declared in
        let f = body.body_fine s names fit h.of_text unlabelled consts h.binding r.process r.archetype r.among r.named r.declared len there.0 there.1 there.2 free in
        code.sections_good s consts names fit h.of_text h.binding labels.mappings r.process r.archetype r.among r.named r.declared len there.0 there.1 there.2 i i_among i_binds (placed_among (bodies s.macros) (labeled r.archetype.body)) f l c e

    -- the instance's sections name nothing that the module writes but variables, and those by what stands for them
    pub written_plain : (l : Name) (c : Code) → find l (sections_at (bound_of s consts) i) ≡ Some c → PlainCode (names_written s) (map (λ (d : Declaration). d.name.name) s.globals) (places_of i.process i.archetype i.bindings) [] c
    written_plain =
        subst (λ (z : Instance). (l : Name) (c : Code) → find l (sections_at (bound_of s consts) z) ≡ Some c → PlainCode (names_written s) (map (λ (d : Declaration). d.name.name) s.globals) (places_of z.process z.archetype z.bindings) [] c) (sym r.is) (λ l c e. (sections l c e).0)

    at_places : (t : Vars) (z : Place) → IsPlaceOf s names.heads r.process r.archetype r.among r.named z → IsPlace (context_of (bound_of s consts) (instance_at s r.number (run_with (defs_of s consts) r.process r.archetype, r.id)) t) z
    at_places t (Whole x) g = g
    at_places t (Own x) g = g

    pub named : AreSmall s → Named (bound_of s consts) i
    named small = subst (Named (bound_of s consts)) (sym r.is) here
      where
        here : Named (bound_of s consts) (instance_at s r.number (run_with (defs_of s consts) r.process r.archetype, r.id))
        here = record {
          differ = well.variables_differ;
          written = variable_written s names fit h.of_text;
          owns = owns s names.heads r.process r.archetype r.among r.named;
          places = λ t x z e. at_places t z (places s names.heads r.process r.archetype r.among r.named x z e);
          closed = closed_fewer (names_written s) (variables_of s) (variables_among s) (map defined_view (defs_of s consts)) (definitions_closed s names fit h.of_text consts);
          plain = λ l c e. code_fewer (names_written s) (variables_of s) (variables_among s) (map (λ (d : Declaration). d.name.name) s.globals) (places_of r.process.name.name r.archetype (binds s r.process r.archetype)) [] c (sections l c e).0;
          few = λ l c e. few_names s small l (expansion (variables_of s) (places_of r.process.name.name r.archetype (binds s r.process r.archetype)) c) (tree_of_label s names.clashes unlabelled labels.dones r.process r.archetype r.among r.named l c e).0;
        }

    pub own_labels : OwnLabels (bound_of s consts) i
    own_labels = subst (OwnLabels (bound_of s consts)) (sym r.is) here
      where
        here : OwnLabels (bound_of s consts) (instance_at s r.number (run_with (defs_of s consts) r.process r.archetype, r.id))
        here l c e =
            let t = tree_of_label s names.clashes unlabelled labels.dones r.process r.archetype r.among r.named l c e in t.0 ∙ sym t.1

    pub keeps_elements : KeepsElements (bound_of s consts) i
    keeps_elements = subst (KeepsElements (bound_of s consts)) (sym r.is) here
      where
        here : KeepsElements (bound_of s consts) (instance_at s r.number (run_with (defs_of s consts) r.process r.archetype, r.id))
        here = record {
          differ = well.variables_differ;
          unmapped = λ x g e. code.place_whole s consts names fit h.of_text h.binding labels.mappings r.process r.archetype r.among r.named r.declared len there.0 there.1 there.2 i i_among i_binds x (Whole g) e;
          elements = λ l c e. (sections l c e).1;
        }
