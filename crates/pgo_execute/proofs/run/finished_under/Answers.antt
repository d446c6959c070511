use Rattle.pgo_execute.proofs.Left.{fits_after, left_of, settings_after, system_after}
use Rattle.pgo_execute.specs.Schedules.{schedule_view}
use Rattle.pgo_meaning.specs.System.{system_of}
use Rattle.pgo_syntax.specs.RecordView.{settings_view}
use Rattle.pgo_execute.proofs.run.finished_under.Goals as goal

pub returns : goal.returns
returns c =
    let first = c.in_ok-core.ensures in let ran = c.in_ok-run_schedule.ensures in
    let d = c.run_schedule.new.core in
    let comes = ran.runs first.stands in
    left_of d (system_of c.args.bound.now) (settings_view c.args.settings.now) (schedule_view c.args.schedule.now) c.finish.result
    (system_after c.in_ok-core.core d _ ran.same first.system) (settings_after c.in_ok-core.core d _ ran.same first.settings)
    (fits_after c.in_ok-core.core d ran.same (first.fits c.requires.fits)) comes (c.finish.ensures.journal comes.turns comes.stands) (c.finish.ensures.accounts comes.turns comes.stands)
