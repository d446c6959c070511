use Rattle.std.proofs.Common.{◌≡◌, map, drop}
use Rattle.pgo_section_list.specs.Sections.{section_view}
use Rattle.pgo_effects.specs.SettingView.{setting_view}
use Rattle.pgo_sections.specs.Expand.{expansion}
use Rattle.pgo_walk.specs.SettingPlaces.{places_in}
use Rattle.pgo_expand.specs.Measures.{measured_trees}
use Rattle.pgo_expand.proofs.measure.behind_sections.Given as goal

abbrev pub invariant-loop-section : goal.invariant-loop-section
invariant-loop-section l =
    measured_trees l.names.variables.items l.names.globals.items l.fn.left.nodes l.fn.left.height (map (λ c. (c.0, expansion l.names.variables.items (places_in l.setting) c.1)) (map (section_view (setting_view l.setting)) l.sections))
    ≡ measured_trees l.names.variables.items l.names.globals.items l.now.nodes l.now.height (map (λ c. (c.0, expansion l.names.variables.items (places_in l.setting) c.1)) (map (section_view (setting_view l.setting)) (drop l.section-index l.sections)))
