use Rattle.std.proofs.Common.{◌≡◌, ◌∙◌, map, replicate, length, subst, ap, sym}
use Rattle.std.specs.Prelude.{IfOk, option_map}
use Rattle.std.proofs.lemmas.List.{length-map}
use Rattle.pgo_section_list.specs.Sections.{section_view}
use Rattle.pgo_effects.specs.SettingView.{setting_view}
use Rattle.pgo_sections.specs.Expand.{expansion}
use Rattle.pgo_measure.specs.Heights.{capped}
use Rattle.pgo_walk.specs.SettingPlaces.{places_in}
use Rattle.pgo_expand.specs.Module.{call_height, joined}
use Rattle.pgo_expand.specs.Measures.{left_view, measured_trees}
use Rattle.pgo_expand.proofs.Measuring.{calls_are, labels_are}
use Rattle.pgo_expand.proofs.measure.behind_labels.Goals as goal

pub returns : goal.returns
returns c =
    let vs = c.args.names.now.variables.items in
    let gs = c.args.names.now.globals.items in
    let codes = map (section_view (setting_view c.args.setting)) c.args.sections.now in
    let ts = map (λ s. (s.0, expansion vs (places_in c.args.setting) s.1)) codes in
    let count : length ts ≡ length c.args.sections.now = length-map codes (λ s. (s.0, expansion vs (places_in c.args.setting) s.1)) ∙ length-map c.args.sections.now (section_view (setting_view c.args.setting)) in
    subst (λ x. IfOk c.behind_sections.result (λ o. option_map left_view o ≡ x))
    (ap (λ h. measured_trees vs gs c.args.left.nodes h ts) c.max.ensures
    ∙ labels_are vs gs c.args.left.nodes c.args.left.height ts c.in_ok-calls.calls
    (c.in_ok-calls.ensures ∙ ap (λ n. capped (joined (replicate n call_height))) (sym count) ∙ ap (λ cs. capped (joined cs)) (sym (calls_are ts))))
    c.behind_sections.ensures
