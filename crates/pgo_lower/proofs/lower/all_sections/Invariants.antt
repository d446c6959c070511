use Rattle.std.proofs.Common.{◌≡◌, ◌++◌, map}
use Rattle.pgo_effects.specs.SettingView.{setting_view}
use Rattle.pgo_section_list.specs.Sections.{section_view}
use Rattle.pgo_lower.specs.Agree.{bare_section, lowered_section}
use Rattle.pgo_lower.specs.Slots.{tables_of}
use Rattle.pgo_lower.proofs.lower.all_sections.Given as goal

abbrev pub invariant-loop-one : goal.invariant-loop-one
invariant-loop-one l =
    map bare_section l.list.items ++ map (lowered_section (tables_of l.names)) (map (section_view (setting_view l.names.setting)) l.one-iterator.rest.items)
    ≡ map (lowered_section (tables_of l.names)) (map (section_view (setting_view l.names.setting)) l.fn.listed.items)
