use Rattle.std.proofs.Common.{Some, inr, subst}
use Rattle.std.proofs.lemmas.Result.{IfOk-weaker, IfErr-weaker}
use Rattle.pgo_log_text.specs.LineNumbers.{NamesLineOf}
use Rattle.pgo_log_text.specs.ReadBundle.{IsNoBundle, IsRefused, NamesUntied}
use Rattle.pgo_front.specs.Makes.{IsLineToCheck}
use Rattle.pgo_front.proofs.Making.{verdict_status, bundle_stopped, end_line, verdict_line_none}
use Rattle.pgo_front.proofs.check.check_text.Goals as goal

pub returns-in-Err-BadLog-clause-err : goal.returns-in-Err-BadLog-clause-err
returns-in-Err-BadLog-clause-err g c =
    bundle_stopped (IsNoBundle c.args.text.now) _ c.as_no_bundle.result.status c.as_no_bundle.result.line
    (subst (IsRefused c.args.text.now) c.in-Err-BadLog.field-0-is c.in-Err-BadLog.ensures.refused) c.as_no_bundle.ensures

pub returns-in-Err-BadLog-clause-line : goal.returns-in-Err-BadLog-clause-line
returns-in-Err-BadLog-clause-line g c =
    let stop = c.in-Err-BadLog in
    let there = subst (NamesLineOf c.args.text.now) stop.field-0-is stop.ensures.line in
    let which = subst (NamesUntied c.args.text.now) stop.field-0-is stop.ensures.untied in
    end_line IsLineToCheck c.args.text.now _ c.as_no_bundle.result.status c.as_no_bundle.result.line (there, which) c.as_no_bundle.ensures

pub returns-in-Ok-clause-ok : goal.returns-in-Ok-clause-ok
returns-in-Ok-clause-ok g c =
    IfOk-weaker c.make_verdict.result _ _ (λ m h. (c.in-Ok.judgement.verdict, c.in-Ok.ensures.judged.0, h)) c.make_verdict.ensures.ok

pub returns-in-Ok-clause-either : goal.returns-in-Ok-clause-either
returns-in-Ok-clause-either g c = IfOk-weaker c.make_verdict.result _ _ (λ m h. verdict_status c.in-Ok.judgement.verdict m h) c.make_verdict.ensures.ok

pub returns-in-Ok-clause-err : goal.returns-in-Ok-clause-err
returns-in-Ok-clause-err g c = IfErr-weaker c.make_verdict.result _ _ (λ e h. inr h) c.make_verdict.ensures.err

pub returns-in-Ok-clause-line : goal.returns-in-Ok-clause-line
returns-in-Ok-clause-line g c = verdict_line_none (Some c.args.text.now) c.make_verdict.result c.make_verdict.ensures.err c.make_verdict.ensures.line
