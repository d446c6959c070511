-- The module of an accepted specification is written, where no expression of it is too high.
use Rattle.std.proofs.Common.{◌≡◌, ◌≤◌, ℕ, Bool, true, false, if◌then◌else◌, List, [], ◌∷◌, refl, ap, sym, ◌∙◌}
use Rattle.std.specs.List.{AllByRecursion, flat_map}
use Rattle.pgo_base.specs.Data.{Data}
use Rattle.pgo_base.specs.Lookup.{Name, same_name}
use Rattle.pgo_base.specs.Tree.{Tree}
use Rattle.pgo_expr_read.specs.Heights.{height}
use Rattle.pgo_model.specs.Module.{Module, WrittenProcess}
use Rattle.pgo_model.specs.Val.{Defined, Given, Means}
use Rattle.pgo_model.specs.Written.{done}
use Rattle.pgo_syntax.specs.Statement.{labeled}
use Rattle.pgo_syntax.specs.declared.macros.MappingMacro.{MappingMacro}
use Rattle.pgo_syntax.specs.declared.process.Process.{Process}
use Rattle.pgo_syntax.specs.declared.spec.Spec.{Spec}
use Rattle.pgo_bound.specs.Among.{IsAmong, all_at, nth_among, none_left, none_right, none_flat_map}
use Rattle.pgo_bound.specs.Instances.{archetype_among}
use Rattle.pgo_bound.specs.Sound.{WellNamed, labels_among}
use Rattle.pgo_bound.specs.Different.{all_from}
use Rattle.pgo_sections.specs.Nodes.{nodes}
use Rattle.pgo_labels.specs.declared.errors.LabelError.TheVariants.{YieldRule}
use Rattle.pgo_labels.specs.declared.finding.Finding.{Finding}
use Rattle.pgo_labels.specs.Rules.{found_at, reserved_done, yield_rule}
use Rattle.pgo_labels.specs.YieldRule.{keeps_yield_rule}
use Rattle.pgo_meaning.specs.Expansions.{process_expansions}
use Rattle.pgo_meaning.specs.LabelSections.{AreUnlabelled}
use Rattle.pgo_mpcal_read.specs.Texts.{SpellsSpec}
use Rattle.pgo_module_spells.specs.Parts.{HasProcesses}
use Rattle.pgo_module_spells.specs.Written.{IsWrittenDefinition, IsWrittenAction, IsWrittenProcess, IsWritten}
use Rattle.pgo_accept.proofs.Unlabelled.{macros_unlabelled}
use Rattle.pgo_accept.proofs.Accepted.{accepted_well_named}
use Rattle.pgo_accept.specs.Answers.{NothingRefuses}
use Rattle.pgo_agrees.proofs.Kept.{NoLabelFindings, no_label_findings}
use Rattle.pgo_agrees.proofs.Unlabelled.{none_is_done}
use Rattle.pgo_translate.specs.ModuleOf.{module_of}
use Rattle.pgo_written.specs.FormedModule.{DefinedFormed, ActionFormed, WrittenFormed, ModuleFormed}
use Rattle.pgo_written.specs.FormedSpec.{ProcessFormed, SpecFormed}
use Rattle.pgo_written.specs.Low.{IsLow, IsLowDefinition, IsLowProcess}
use Rattle.pgo_written.proofs.FormedActions.{HasLabels, has_processes}
use Rattle.pgo_written.proofs.FormedLimits.{limits, all_small}
use Rattle.pgo_written.proofs.FormedModules.{ProcessFits, module_formed, formed_archetype}
use Rattle.pgo_written.proofs.FormedProcesses.{AllYield}
use Rattle.pgo_written.proofs.FormedStarts.{ids_known, locals_known}
use Rattle.pgo_written.proofs.FormedUnits.{text_formed}

-- ---- formed and low

definitions_written : (ds : List Defined) → AllByRecursion DefinedFormed ds → AllByRecursion (IsLowDefinition 512) ds → AllByRecursion IsWrittenDefinition ds
definitions_written [] f l = tt
definitions_written (Given x v ∷ ds) f l = absurd f.0
definitions_written (Means x ps e ∷ ds) f l = ((f.0.0, f.0.1, record { formed = f.0.2; low = l.0 }), definitions_written ds f.1 l.1)

actions_written : (as' : List (Name × Tree)) → AllByRecursion ActionFormed as' → AllByRecursion (λ a. height a.1 ≤ 512) as' → AllByRecursion IsWrittenAction as'
actions_written [] f l = tt
actions_written (a ∷ as') f l = ((f.0.0, record { formed = f.0.1; low = l.0 }), actions_written as' f.1 l.1)

processes_written : (ps : List WrittenProcess) → AllByRecursion WrittenFormed ps → AllByRecursion (IsLowProcess 512) ps → AllByRecursion IsWrittenProcess ps
processes_written [] f l = tt
processes_written (p ∷ ps) f l =
    (record { name = f.0.name; actions = actions_written p.actions f.0.actions l.0.actions; own = record { formed = f.0.own; low = l.0.own } }, processes_written ps f.1 l.1)

written_of : (m : Module) → ModuleFormed m → IsLow 512 m → HasProcesses m → IsWritten m
written_of m f l p = record {
  name = f.name;
  constants = f.constants;
  definitions = definitions_written m.definitions f.definitions l.definitions;
  variables = f.variables;
  some_variable = f.some_variable;
  sets = record { formed = f.sets; low = l.sets };
  init = record { formed = f.init; low = l.init };
  processes = processes_written m.processes f.processes l.processes;
  ending = record { formed = f.ending; low = l.ending };
  next = record { formed = f.next; low = l.next };
  has_processes = p;
}

-- ---- what is accepted

yields_so : (b : Bool) (fs : List Finding) → (if b then [] else fs) ≡ [] → (fs ≡ [] → ⊥) → b ≡ true
yields_so true fs h n = refl
yields_so false fs h n = absurd (n h)

yields : (ms : List MappingMacro) → flat_map yield_rule ms ≡ [] → AllYield ms
yields [] h = tt
yields (m ∷ ms) h =
    (yields_so (keeps_yield_rule m) (found_at m.name.place (YieldRule m.name.name) ∷ []) (none_left (yield_rule m) (flat_map yield_rule ms) h) (λ e. cc), yields ms (none_right (yield_rule m) (flat_map yield_rule ms) h))

module _ (text : List ℕ) (s : Spec) (consts : List (Name × Data)) (spells : SpellsSpec text s) (h : NothingRefuses s consts) where
  formed : SpecFormed s
  formed = text_formed text s spells

  labels : NoLabelFindings s
  labels = no_label_findings s h.labels

  unlabelled : AreUnlabelled s.macros
  unlabelled = macros_unlabelled s.macros labels.macros

  all_yield : AllYield s.mappings
  all_yield = yields s.mappings labels.yields

  well : WellNamed s
  well = accepted_well_named s consts h.names h.labels h.binding

  small : AllByRecursion (λ p. AllByRecursion (λ c. nodes c.1 ≤ 1048576) (process_expansions s p)) s.processes
  small = all_small s s.processes (limits s h.limits).0

  labelled : (p : Process) → IsAmong p s.processes → HasLabels s p
  labelled p among =
      let n = nth_among p s.processes among in
      let r = well.archetypes n.0 p n.1 in
      let first = well.labels n.0 p r.0 n.1 r.1 in
      let free = none_flat_map reserved_done r.0 s.archetypes labels.dones (archetype_among p.archetype.name s.archetypes r.0 r.1) in
      record {
        archetype = r.0;
        named = r.1;
        some = λ e. (let z = sym (ap (λ b. labels_among (labeled b)) first.3) ∙ e in cc);
        dones = all_from (λ x. same_name x done ≡ false) (labels_among (labeled r.0.body)) (λ x m. (let k = nth_among x (labels_among (labeled r.0.body)) m in none_is_done r.0 free k.0 x k.1));
      }

  fits : (p : Process) → IsAmong p s.processes → ProcessFits s p
  fits p among =
      let g = all_at ProcessFormed p s.processes formed.processes among in
      let r = labelled p among in
      record {
        ids = ids_known s consts h.binding p among r.archetype r.named g.1;
        locals = λ a e. locals_known s consts h.binding p among a e (formed_archetype s formed all_yield unlabelled p.archetype.name a e).1;
        small = all_at (λ p. AllByRecursion (λ c. nodes c.1 ≤ 1048576) (process_expansions s p)) p s.processes small among;
      }

  pub module_written : IsLow 512 (module_of s) → IsWritten (module_of s)
  module_written low =
      written_of (module_of s) (module_formed s formed all_yield unlabelled (all_from (ProcessFits s) s.processes fits)) low (has_processes s unlabelled formed.some (all_from (HasLabels s) s.processes labelled))
