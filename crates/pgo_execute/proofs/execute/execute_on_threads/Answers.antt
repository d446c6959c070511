use Rattle.pgo_accept.specs.Answers as answers
use Rattle.pgo_execute.proofs.Asked.{executes}
use Rattle.pgo_execute.specs.Schedules.{Threads}
use Rattle.pgo_syntax.specs.RecordView.{settings_view}
use Rattle.pgo_execute.proofs.execute.execute_on_threads.Goals as goal

pub returns-in-Ok-expanded_on_threads-clause-ok : goal.returns-in-Ok-expanded_on_threads-clause-ok
returns-in-Ok-expanded_on_threads-clause-ok g c =
    executes c.args.text.now c.args.consts.now c.in-Ok.bound c.in-Ok.expanded (settings_view c.args.settings.now) Threads c.in-Ok-expanded_on_threads.executed.status c.in-Ok-expanded_on_threads.executed.text
    c.in-Ok.ensures.judged c.in-Ok-expanded_on_threads.ensures

pub returns-in-Ok-clause-refused : goal.returns-in-Ok-clause-refused
returns-in-Ok-clause-refused g c = answers.no_memory
