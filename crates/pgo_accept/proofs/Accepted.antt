-- What isn't refused is well named.
use Rattle.std.proofs.Common.{◌≡◌, List, [], ◌∷◌, ◌++◌, None, refl}
use Rattle.std.specs.Prelude.{flat_map}
use Rattle.std.specs.List.{AllByRecursion}
use Rattle.pgo_base.specs.Data.{Data}
use Rattle.pgo_base.specs.Lookup.{Name}
use Rattle.pgo_syntax.specs.declared.process.Process.{Process}
use Rattle.pgo_syntax.specs.declared.spec.Spec.{Spec}
use Rattle.pgo_uses.specs.AllUses.{all_uses}
use Rattle.pgo_uses.specs.Tables.{tables_of}
use Rattle.pgo_scope.specs.Arity.{arity_use, arity_heads}
use Rattle.pgo_scope.specs.Refusal.{scope_refusal}
use Rattle.pgo_scope.specs.Unknown.{unknown_use, unknown_heads}
use Rattle.pgo_labels.specs.declared.finding.Finding.{Finding}
use Rattle.pgo_labels.specs.Refusal.{label_refusal}
use Rattle.pgo_labels.specs.Rules.{needs_label, label_in_with, label_in_macro, label_in_mapping, unknown_label, label_twice, reserved_done, yield_rule, too_many_labels}
use Rattle.pgo_bound.specs.Sound.{WellNamed}
use Rattle.pgo_bound.specs.State.{variables_of}
use Rattle.pgo_bound.specs.Among.{none_right}
use Rattle.pgo_heads.specs.Refusals.{bind_refusal}
use Rattle.pgo_accept.proofs.Unbroken.{names_kept, first_label_rule}
use Rattle.pgo_accept.proofs.Counted.{different, one_place}
use Rattle.pgo_accept.proofs.Heads.{has_archetype}
use Rattle.pgo_accept.proofs.FirstLabels.{archetype_labeled}
use Rattle.pgo_accept.proofs.Fitting.{ArgumentsFit, arguments_fit}
use Rattle.pgo_accept.proofs.Variables.{processes_once, variables_once}

-- the rules of labels behind the second
abbrev pub rules_behind : Spec → List (List Finding)
rules_behind s =
    flat_map unknown_label s.archetypes
    ∷ flat_map label_twice s.archetypes
    ∷ flat_map reserved_done s.archetypes
    ∷ flat_map yield_rule s.mappings
    ∷ flat_map too_many_labels s.archetypes
    ∷ []

-- and behind the first
abbrev pub later_rules : Spec → List (List Finding)
later_rules s = (flat_map label_in_with s.archetypes ++ flat_map label_in_macro s.macros ++ flat_map label_in_mapping s.mappings) ∷ rules_behind s

-- names and labels alone, where no `ref` parameter is handed a value
well_named : (s : Spec) → scope_refusal s ≡ None → label_refusal s ≡ None → AllByRecursion (ArgumentsFit s.archetypes) s.processes → WellNamed s
well_named s h g f =
    let k = names_kept s h in
    let heads = none_right (flat_map (unknown_use (tables_of s) s.archetypes) (all_uses s)) (unknown_heads (tables_of s) s.processes) k.unknown in
    let numbers = none_right (flat_map (arity_use (tables_of s)) (all_uses s)) (arity_heads (tables_of s) s.processes) k.arities in
    let labeled = first_label_rule (flat_map needs_label s.archetypes) (later_rules s) g in
    record {
      variables_differ = different (variables_of s) (variables_once s k.clashes f);
      processes_differ = one_place (λ (p : Process). p.name.name) s.processes (processes_once s k.clashes);
      archetypes = has_archetype (tables_of s) s.archetypes s.processes refl heads numbers;
      labels = λ n p a e r. archetype_labeled p.archetype.name s.archetypes a r labeled;
    }

pub accepted_well_named : (s : Spec) (consts : List (Name × Data)) → scope_refusal s ≡ None → label_refusal s ≡ None → bind_refusal s consts ≡ None → WellNamed s
accepted_well_named s consts h g b = well_named s h g (arguments_fit s consts b)
