use Rattle.std.proofs.Common.{◌≡◌, ◌∙◌, ◌∷◌, ◌++◌, ap, refl}
use Rattle.std.proofs.lemmas.Result.{IfOk-at_ok, IfOk-weaker}
use Rattle.pgo_effects.specs.Pieces.{code_with, last_code}
use Rattle.pgo_effects.specs.SettingView.{setting_view}
use Rattle.pgo_effects.specs.Todos.{code_of}
use Rattle.pgo_lower.specs.Heads.{unbound_by}
use Rattle.pgo_lower.specs.Lowered.{lowered}
use Rattle.pgo_lower.specs.Made.{steps_here}
use Rattle.pgo_lower.specs.Slots.{tables_of}
use Rattle.pgo_lower.specs.Work.{tasks_before}
use Rattle.pgo_lower.specs.declared.work.Task.TheVariants.{Effects}
use Rattle.pgo_lower.proofs.WorkLaws.{level_made}
use Rattle.pgo_lower.proofs.turns.do_code.Goals as goal

pub returns : goal.returns
returns c =
    let s = setting_view c.args.names.now.setting in
    let t = tables_of c.args.names.now in
    let is = steps_here c.args.made.now in
    let old = c.args.tasks.now in
    let o = c.in_ok-effects in
    let p = c.in_ok-last in
    let w = c.begin_piece-begun in
    let es = o.field-0.effects.items in
    let l : p.last ≡ o.field-0.last = IfOk-at_ok (λ z. z ≡ o.field-0.last) p.ensures.first refl in
    let b : w.new.tasks ≡ Effects o.field-0.effects ∷ old = IfOk-at_ok _ p.ensures.second w.ensures.tasks in
    let m : steps_here w.new.made ≡ unbound_by es is = IfOk-at_ok _ p.ensures.second w.ensures.made in
    let k : code_with es (last_code s p.last) ≡ code_of s c.args.todo = (λ i. code_with es (last_code s (l i))) ∙ o.ensures in
    IfOk-weaker c.do_last.result _ (λ _. tasks_before s t c.do_last.new.tasks (steps_here c.do_last.new.made) ≡ tasks_before s t old (lowered t (code_of s c.args.todo) ++ is))
    (λ _ h. h ∙ level_made s t old w.new.tasks es (last_code s p.last) (code_of s c.args.todo) (steps_here w.new.made) is (λ ks. ap (λ x. tasks_before s t x ks) b) m k)
    c.do_last.ensures
