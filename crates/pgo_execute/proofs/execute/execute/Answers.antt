use Rattle.pgo_accept.specs.Answers as answers
use Rattle.pgo_execute.proofs.Asked.{executes}
use Rattle.pgo_execute.specs.Schedules.{schedule_view}
use Rattle.pgo_syntax.specs.RecordView.{settings_view}
use Rattle.pgo_execute.proofs.execute.execute.Goals as goal

pub returns-in-Ok-expanded_run-clause-ok : goal.returns-in-Ok-expanded_run-clause-ok
returns-in-Ok-expanded_run-clause-ok c =
    executes c.args.text.now c.args.consts.now c.in-Ok.bound c.in-Ok.expanded (settings_view c.args.settings.now) (schedule_view c.args.schedule.now) c.in-Ok-expanded_run.executed.status c.in-Ok-expanded_run.executed.text
    c.in-Ok.ensures.judged c.in-Ok-expanded_run.ensures

pub returns-in-Ok-clause-refused : goal.returns-in-Ok-clause-refused
returns-in-Ok-clause-refused c = answers.no_memory
