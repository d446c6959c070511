use Rattle.std.proofs.Common.{◌≡◌, ◌≤◌, length, sym, subst, IfSome}
use Rattle.std.proofs.lemmas.Result.{IfOk-weaker, IfErr-weaker}
use Rattle.pgo_syntax.specs.RecordView.{settings_view}
use Rattle.pgo_front.specs.Spells.{most_bytes}
use Rattle.pgo_accept.specs.Answers.{IsExpandable}
use Rattle.pgo_front.specs.Makes.{MakesRun, mode_view}
use Rattle.pgo_front.proofs.Making.{makes_input, stops_input, line_input}
use Rattle.pgo_front.proofs.execution.make_execution.Goals as goal

pub returns-in-Ok-clause-ok : goal.returns-in-Ok-clause-ok
returns-in-Ok-clause-ok g c =
    let left = g.S.Source.left c.args.input.now in
    let told = subst (λ t. IfSome left (λ bs. t ≡ bs)) (sym c.as_slice.ensures.value) c.in-Ok.ensures.all in
    let short = subst (λ t. length t ≤ most_bytes) (sym c.as_slice.ensures.value) c.in-Ok.ensures.within in
    IfOk-weaker c.execute_text.result _ _ (λ m h. makes_input (λ t. MakesRun (mode_view c.args.mode.now) (settings_view c.args.settings.now) t c.args.consts.now m) left _ told short h) c.execute_text.ensures.ok

pub returns-in-Ok-clause-err : goal.returns-in-Ok-clause-err
returns-in-Ok-clause-err g c =
    let left = g.S.Source.left c.args.input.now in
    let told = subst (λ t. IfSome left (λ bs. t ≡ bs)) (sym c.as_slice.ensures.value) c.in-Ok.ensures.all in
    let short = subst (λ t. length t ≤ most_bytes) (sym c.as_slice.ensures.value) c.in-Ok.ensures.within in
    IfErr-weaker c.execute_text.result _ _ (λ e h. stops_input (λ t. IsExpandable t c.args.consts.now → ⊥) left _ _ _ e.status told short h) c.execute_text.ensures.err

pub returns-in-Ok-clause-line : goal.returns-in-Ok-clause-line
returns-in-Ok-clause-line g c =
    let left = g.S.Source.left c.args.input.now in
    let told = subst (λ t. IfSome left (λ bs. t ≡ bs)) (sym c.as_slice.ensures.value) c.in-Ok.ensures.all in
    IfErr-weaker c.execute_text.result _ _ (λ e h. line_input c.args.consts.now left _ e.status e.line told h) c.execute_text.ensures.line
