use Rattle.std.proofs.Common.{◌≡◌, ◌∙◌, ◌∷◌, ap, refl}
use Rattle.std.proofs.lemmas.Result.{IfOk-at_ok}
use Rattle.pgo_base.specs.ExprView.{tree}
use Rattle.pgo_code.specs.See.{evaluation_view}
use Rattle.pgo_effects.specs.SettingView.{setting_view}
use Rattle.pgo_lower.specs.Lowered.{evaluation}
use Rattle.pgo_lower.specs.Made.{steps_here}
use Rattle.pgo_lower.specs.Slots.{tables_of}
use Rattle.pgo_lower.specs.Work.{tasks_before}
use Rattle.pgo_lower.specs.declared.work.Task.TheVariants.{Do, Else}
use Rattle.pgo_lower.proofs.WorkLaws.{if_begun}
use Rattle.pgo_lower.proofs.turns.begin_if.Goals as goal

pub returns : goal.returns
returns c =
    let s = setting_view c.args.names.now.setting in
    let t = tables_of c.args.names.now in
    let is = steps_here c.args.made.now in
    let p = c.in_ok-condition in
    let v : evaluation_view p.condition ≡ evaluation t.targets (tree c.args.e) = IfOk-at_ok _ p.ensures.first c.evaluation-condition.ensures in
    let kept = IfOk-at_ok (λ z. z ≡ (c.args.first, c.args.second)) p.ensures.second refl in
    let e : p.first ≡ c.args.first = ap (λ z. z.0) kept in
    let f : p.second ≡ c.args.second = ap (λ z. z.1) kept in
    ap (λ l. tasks_before s t l is) (c.in_ok-push_two.ensures ∙ (λ i. Do (f i) ∷ Else p.condition (e i) c.count-before.result ∷ c.args.tasks.now))
    ∙ if_begun s t c.args.tasks.now p.condition (tree c.args.e) c.args.first c.args.second c.count-before.result is v c.count-before.ensures
