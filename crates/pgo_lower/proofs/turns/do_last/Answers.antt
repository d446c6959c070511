use Rattle.std.proofs.Common.{◌≡◌, ◌∙◌, ◌++◌, ap, sym}
use Rattle.std.proofs.lemmas.Result.{IfOk-weaker}
use Rattle.pgo_effects.specs.Pieces.{last_code}
use Rattle.pgo_effects.specs.SettingView.{setting_view}
use Rattle.pgo_lower.specs.Lowered.{lowered}
use Rattle.pgo_lower.specs.Made.{steps_here}
use Rattle.pgo_lower.specs.Slots.{tables_of}
use Rattle.pgo_lower.specs.Work.{tasks_before}
use Rattle.pgo_lower.proofs.WorkLaws.{either_begun}
use Rattle.pgo_lower.proofs.turns.do_last.Goals as goal

pub returns-in-Either : goal.returns-in-Either
returns-in-Either c =
    let s = setting_view c.args.names.now.setting in
    let t = tables_of c.args.names.now in
    let is = steps_here c.args.made.now in
    let old = c.args.tasks.now in
    IfOk-weaker c.next_arm.result _ (λ _. tasks_before s t c.next_arm.new.tasks (steps_here c.next_arm.new.made) ≡ tasks_before s t old (lowered t (last_code s c.args.last) ++ is))
    (λ _ h. h s t ∙ either_begun s t old c.in-Either.arms.items c.new.result c.count-behind.result is c.new.ensures c.count-behind.ensures
    ∙ ap (λ l. tasks_before s t old (lowered t (last_code s l) ++ is)) (sym c.in-Either.is))
    c.next_arm.ensures
