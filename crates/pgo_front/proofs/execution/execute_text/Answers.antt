use Rattle.std.proofs.Common.{sym, subst}
use Rattle.pgo_syntax.specs.RecordView.{settings_view}
use Rattle.pgo_verdicts.specs.Runs.{Runs}
use Rattle.pgo_front.specs.Makes.{mode_view}
use Rattle.pgo_front.proofs.Translating.{stops_refused, refused_line}
use Rattle.pgo_front.proofs.execution.execute_text.Goals as goal

pub run_status-requires : goal.run_status-requires
run_status-requires g c = c.in-Ok.ensures.ok.either

pub returns-in-Ok-clause-ok : goal.returns-in-Ok-clause-ok
returns-in-Ok-clause-ok g c =
    let schedule = mode_view c.args.mode.now in
    let settings = settings_view c.args.settings.now in
    subst (λ n. Runs c.args.text.now c.args.consts.now settings schedule n c.in-Ok.executed.text) (sym c.run_status.ensures.number)
    (c.runs_are_accepted.ensures c.args.text.now c.args.consts.now settings schedule _ _ c.in-Ok.ensures.ok)

pub returns-in-Err-clause-err : goal.returns-in-Err-clause-err
returns-in-Err-clause-err g c =
    stops_refused c.args.text.now c.args.consts.now c.in-Err.rejection c.as_rejected.result.status c.as_rejected.result.line c.in-Err.ensures.refused c.as_rejected.ensures

pub returns-in-Err-clause-line : goal.returns-in-Err-clause-line
returns-in-Err-clause-line g c =
    refused_line c.args.text.now c.args.consts.now c.in-Err.rejection c.as_rejected.result.status c.as_rejected.result.line c.in-Err.ensures.refused c.as_rejected.ensures
