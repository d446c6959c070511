use Rattle.std.proofs.Common.{◌≡◌, ℕ, ◌++◌, List, map, drop}
use Rattle.pgo_sections.specs.Code.{Code}
use Rattle.pgo_meaning.specs.Statements.{Part, steps}
use Rattle.pgo_effects.specs.Assigned.{part_view}
use Rattle.pgo_effects.specs.Pieces.{code_with}
use Rattle.pgo_effects.specs.SettingView.{setting_view}
use Rattle.pgo_effects.proofs.assign.add_steps.Given as goal

abbrev pub invariant-loop-step : goal.invariant-loop-step
invariant-loop-step l =
    (f : List Part → ℕ → Code) → code_with l.effects.items (steps (setting_view l.setting) (drop l.step-index l.path) l.k (λ ps. f (map part_view l.parts.items ++ ps))) ≡ code_with l.initial.effects.items (steps (setting_view l.setting) l.path l.used f)
