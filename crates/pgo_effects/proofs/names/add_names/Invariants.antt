use Rattle.std.proofs.Common.{◌≡◌, drop}
use Rattle.pgo_sections.specs.Code.{Code}
use Rattle.pgo_meaning.specs.Statements.{bind_names}
use Rattle.pgo_effects.specs.Pieces.{code_with}
use Rattle.pgo_effects.specs.Puts.{behind_names, puts_names}
use Rattle.pgo_effects.specs.SettingView.{setting_view}
use Rattle.pgo_effects.proofs.names.add_names.Given as goal

abbrev pub invariant-loop-w : goal.invariant-loop-w
invariant-loop-w l =
    (behind_names l.behind.items (drop l.w-index l.names) ≡ behind_names l.fn.layers.items l.names)
    × ((c : Code) → code_with l.effects.items (bind_names (setting_view l.setting) (puts_names l.behind.items (drop l.w-index l.names)) c) ≡ code_with l.initial.effects.items (bind_names (setting_view l.setting) (puts_names l.fn.layers.items l.names) c))
