use Rattle.std.proofs.Common.{◌∙◌, ap}
use Rattle.std.specs.Prelude.{flat_map}
use Rattle.pgo_labels.specs.declared.finding.Finding.{Finding}
use Rattle.pgo_syntax.specs.Least.{least}
use Rattle.pgo_labels.specs.LabelHere.{label_in_with, label_in_macro, label_in_mapping}
use Rattle.pgo_labels.proofs.Walks.{three}
use Rattle.pgo_labels.proofs.checker.label_here.Goals as goal

pub returns : goal.returns
returns c =
    three {B = Finding} (λ f. f.place)
    (flat_map label_in_with c.args.spec.now.archetypes) (flat_map label_in_macro c.args.spec.now.macros) (flat_map label_in_mapping c.args.spec.now.mappings)
    c.in_ok-archetypes.archetypes c.in_ok-macros.macros c.in_ok-mappings.mappings _ _
    (c.in_ok-archetypes.ensures ∙ ap (λ l. least (λ f. f.place) (flat_map label_in_with l)) c.as_slice.ensures)
    (c.in_ok-macros.ensures ∙ ap (λ l. least (λ f. f.place) (flat_map label_in_macro l)) c.as_slice-2.ensures)
    (c.in_ok-mappings.ensures ∙ ap (λ l. least (λ f. f.place) (flat_map label_in_mapping l)) c.as_slice-3.ensures)
    c.sooner.ensures c.sooner-2.ensures
