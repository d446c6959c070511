use Rattle.std.proofs.Common.{◌≡◌, ◌∙◌, ℕ, ◌+◌, ◌∷◌, List, Option, Some, None, drop, map, ap, sym}
use Rattle.std.specs.Prelude.{option_map}
use Rattle.pgo_base.specs.Lookup.{Name}
use Rattle.pgo_model.specs.Options.{on}
use Rattle.pgo_section_list.specs.Sections.{section_view}
use Rattle.pgo_effects.specs.SettingView.{setting_view}
use Rattle.pgo_sections.specs.Expand.{expansion}
use Rattle.pgo_sections.specs.Expansion.{Expansion}
use Rattle.pgo_sections.specs.Nodes.{nodes}
use Rattle.pgo_sizes.specs.Left.{left_after}
use Rattle.pgo_measure.specs.Heights.{capped, label_height}
use Rattle.pgo_measure.specs.declared.measure.Size.{Size}
use Rattle.pgo_section_list.specs.declared.sections.Section.{Section}
use Rattle.pgo_walk.specs.Emitted.{left_in}
use Rattle.pgo_walk.specs.SettingPlaces.{places_in}
use Rattle.pgo_expand.specs.Measures.{measured_trees}
use Rattle.pgo_expand.proofs.Heights.{drop_at, drop_end}
use Rattle.pgo_expand.proofs.Measuring.{nothing_spent, spent_size, told, trees_step}
use Rattle.pgo_expand.proofs.measure.behind_sections.Goals as goal

pub returns : goal.returns
returns c =
    sym
    (c.loop-section.invariant
    ∙ ap (λ l. measured_trees c.args.names.now.variables.items c.args.names.now.globals.items c.loop-section.now.nodes c.loop-section.now.height (map (λ s. (s.0, expansion c.args.names.now.variables.items (places_in c.args.setting) s.1)) (map (section_view (setting_view c.args.setting)) l)))
    (drop_end c.args.sections.now c.loop-section.section-index c.loop-section-test.false)
    ∙ nothing_spent c.loop-section.now.nodes c.loop-section.now.height
    ∙ told c.loop-section.now.nodes c.loop-section.now.height c.told_apart.result.nodes c.told_apart.result.height c.told_apart.ensures.nodes c.told_apart.ensures.height)

pub loop-section-preserved : goal.loop-section-preserved
loop-section-preserved c =
    let vs = c.args.names.now.variables.items in
    let gs = c.args.names.now.globals.items in
    let now = c.loop-section.now in
    let size = c.in-Some.size in
    let state = c.in_ok-state.state in
    let trees : List Section → List (Name × Expansion) = λ l. map (λ s. (s.0, expansion vs (places_in c.args.setting) s.1)) (map (section_view (setting_view c.args.setting)) l) in
    let rest = drop (c.loop-section.section-index + 1) c.args.sections.now in
    let one = section_view (setting_view c.args.setting) c.section-item.result in
    let tree : Expansion = expansion vs (places_in c.args.setting) one.1 in
    let variables : c.as_slice-variables.result.now ≡ vs = c.as_slice-variables.ensures.value in
    let globals : c.as_slice-globals.result.now ≡ gs = c.as_slice-globals.ensures.value in
    let left : left_in c.as_slice-variables.result.now state ≡ tree = (λ i. left_in (variables i) state) ∙ c.in_ok-state.ensures vs in
    let same : ◌≡◌ {A = Option (ℕ × ℕ)} (Some (size.left, size.height)) (option_map {U = ℕ × ℕ} (λ l. (l, capped (label_height vs gs tree))) (left_after now.nodes (nodes tree))) =
    sym (ap (option_map {U = ℕ × ℕ} (λ (s : Size). (s.left, s.height))) c.in-Some.is) ∙ c.in_ok-measure.ensures
    ∙ (λ i. option_map {U = ℕ × ℕ} (λ l. (l, capped (label_height (variables i) (globals i) (left i)))) (left_after now.nodes (nodes (left i)))) in
    c.loop-section.invariant
    ∙ ap (λ l. measured_trees vs gs now.nodes now.height (trees l))
    (drop_at c.args.sections.now c.loop-section.section-index c.section-item.result c.loop-section-test.true ∙ ap (λ p. p ∷ rest) (sym c.section-item.is))
    ∙ trees_step vs gs now.nodes now.height (one.0, tree) (trees rest)
    ∙ ap (λ o. on None o (λ r. measured_trees vs gs r.0 r.1 (trees rest)))
    (spent_size (left_after now.nodes (nodes tree)) now.height (label_height vs gs tree) size.left size.height same
    ∙ (λ i. Some (sym c.behind-now.ensures.nodes i, sym c.behind-now.ensures.height i)))
