use Rattle.std.proofs.Common.{◌≡◌, ◌++◌, map, drop}
use Rattle.pgo_section_list.specs.Sections.{section_view}
use Rattle.pgo_effects.specs.SettingView.{setting_view}
use Rattle.pgo_sections.specs.Expand.{expansion}
use Rattle.pgo_walk.specs.SettingPlaces.{places_in}
use Rattle.pgo_expand.proofs.trees.trees_of.Given as goal

abbrev pub invariant-loop-section : goal.invariant-loop-section
invariant-loop-section l =
    map (λ c. (c.0, expansion l.variables (places_in l.setting) c.1)) (map (section_view (setting_view l.setting)) l.sections)
    ≡ l.list.items ++ map (λ c. (c.0, expansion l.variables (places_in l.setting) c.1)) (map (section_view (setting_view l.setting)) (drop l.section-index l.sections))
