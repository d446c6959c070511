use Rattle.std.proofs.Common.{◌≡◌, ◌∙◌, map, subst, ap, sym}
use Rattle.std.specs.Prelude.{IfOk, option_map}
use Rattle.pgo_section_list.specs.Sections.{section_view}
use Rattle.pgo_meaning.specs.Expansions.{process_bindings}
use Rattle.pgo_meaning.specs.Parameters.{places_of, setting_of}
use Rattle.pgo_meaning.specs.Sections.{sections_of}
use Rattle.pgo_sections.specs.Expand.{expansion}
use Rattle.pgo_expand.specs.Measures.{left_view, measured_labels}
use Rattle.pgo_expand.proofs.measure.behind_archetype.Goals as goal

pub returns : goal.returns
returns c =
    let vs = c.args.names.now.variables.items in
    let a = c.args.archetype.now in
    let bs = process_bindings c.args.spec.now c.args.process.now a in
    let bound : c.in_ok-bindings.bindings ≡ bs = c.in_ok-bindings.ensures ∙ c.as_slice.ensures.value ∙ c.in_ok-list.ensures in
    let same : c.in_ok-indexed.indexed ≡ a = c.in_ok-indexed.ensures in
    let macros = c.in_ok-macros.ensures ∙ c.requires.macros in
    let found =
    sym (λ i. map (section_view (setting_of c.args.process.now.name.name (same i) (bound i))) c.in_ok-found.found.items)
    ∙ c.in_ok-found.ensures
    ∙ (λ i. sections_of (macros i) c.args.process.now.name.name (same i) (bound i)) in
    subst (λ x. IfOk c.behind_labels.result (λ o. option_map left_view o ≡ x))
    (ap (measured_labels vs c.args.names.now.globals.items c.args.left.nodes c.args.left.height)
    ((λ i. map (λ s. (s.0, expansion vs (places_of c.args.process.now.name.name (same i) (bound i)) s.1)) (map (section_view (setting_of c.args.process.now.name.name (same i) (bound i))) (c.as_slice-2.ensures.value i)))
    ∙ ap (map (λ s. (s.0, expansion vs (places_of c.args.process.now.name.name a bs) s.1))) found))
    c.behind_labels.ensures
