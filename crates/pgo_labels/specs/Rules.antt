-- The rules of labels, in their order: what they find in a specification.
use Rattle.std.specs.Prelude.{List, [], ◌∷◌, ◌++◌, flat_map}
use Rattle.pgo_syntax.specs.declared.archetype.Archetype.{Archetype}
use Rattle.pgo_syntax.specs.declared.spec.Spec.{Spec}
use Rattle.pgo_labels.specs.declared.finding.Finding.{Finding}
use Rattle.pgo_labels.specs.declared.finding.Rule.{Rule}
use Rattle.pgo_labels.specs.declared.finding.Rule.TheVariants.{NeedsLabel, LabelHere, UnknownLabel, LabelTwice, ReservedDone, YieldRule, TooManyLabels}
pub use Rattle.pgo_labels.specs.Labels.{labels, done}
pub use Rattle.pgo_labels.specs.Findings.{found_at}
pub use Rattle.pgo_labels.specs.NeedsLabel.{missing, needs_label}
pub use Rattle.pgo_labels.specs.LabelHere.{labels_in_with, labels_here, label_in_with, label_in_macro, label_in_mapping}
pub use Rattle.pgo_labels.specs.UnknownLabel.{unknown_label}
pub use Rattle.pgo_labels.specs.LabelTwice.{repeated, label_twice}
pub use Rattle.pgo_labels.specs.ReservedDone.{reserved_done}
pub use Rattle.pgo_labels.specs.YieldRule.{yield_rule}
pub use Rattle.pgo_labels.specs.TooManyLabels.{too_many_labels}

-- what the rules find in a specification, in the order of their numbers
abbrev pub findings : Spec → List (List Finding)
findings s =
    flat_map needs_label s.archetypes
    ∷ (flat_map label_in_with s.archetypes ++ flat_map label_in_macro s.macros ++ flat_map label_in_mapping s.mappings)
    ∷ flat_map unknown_label s.archetypes
    ∷ flat_map label_twice s.archetypes
    ∷ flat_map reserved_done s.archetypes
    ∷ flat_map yield_rule s.mappings
    ∷ flat_map too_many_labels s.archetypes
    ∷ []

-- what a rule finds in an archetype
abbrev pub in_archetype : Rule → Archetype → List Finding
in_archetype NeedsLabel a = needs_label a
in_archetype LabelHere a = label_in_with a
in_archetype UnknownLabel a = unknown_label a
in_archetype LabelTwice a = label_twice a
in_archetype ReservedDone a = reserved_done a
in_archetype YieldRule a = []
in_archetype TooManyLabels a = too_many_labels a

-- what a rule finds in a specification
abbrev pub in_spec : Rule → Spec → List Finding
in_spec NeedsLabel s = flat_map needs_label s.archetypes
in_spec LabelHere s = flat_map label_in_with s.archetypes ++ flat_map label_in_macro s.macros ++ flat_map label_in_mapping s.mappings
in_spec UnknownLabel s = flat_map unknown_label s.archetypes
in_spec LabelTwice s = flat_map label_twice s.archetypes
in_spec ReservedDone s = flat_map reserved_done s.archetypes
in_spec YieldRule s = flat_map yield_rule s.mappings
in_spec TooManyLabels s = flat_map too_many_labels s.archetypes
