-- What is gathered and what is left are the whole; a statement nests less deep than that in which it stands.
use Rattle.std.proofs.Common.{◌≡◌, ◌++◌, map, drop}
use Rattle.pgo_section_list.specs.Sections.{follow_code, label_above, section_view, see, source_sections}
use Rattle.pgo_effects.specs.SettingView.{setting_view}
use Rattle.pgo_section_list.proofs.SectionLaws.{heights}
use Rattle.pgo_section_list.proofs.sections.+gather.Given as goal

abbrev pub decreases-gather : goal.decreases-gather
decreases-gather l = heights (map see l.list.now)

abbrev pub invariant-loop-inner : goal.invariant-loop-inner
invariant-loop-inner l =
    let s = setting_view l.source.setting in
    map (section_view s) l.sections.items ++ source_sections l.source (label_above s l.label) (follow_code s l.follow) (map see (drop l.inner-index l.list))
    ≡ map (section_view s) l.initial.sections.items ++ source_sections l.source (label_above s l.label) (follow_code s l.follow) (map see l.list)
