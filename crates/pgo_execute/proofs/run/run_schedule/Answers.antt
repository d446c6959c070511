use Rattle.std.proofs.Common.{[], ap, subst}
use Rattle.std.proofs.lemmas.Result.{IfOk-weaker}
use Rattle.pgo_core.specs.Instances.{StandsAt}
use Rattle.pgo_execute.proofs.Left.{rounds_come, turns_come}
use Rattle.pgo_execute.specs.Schedules.{schedule_view}
use Rattle.pgo_execute.proofs.run.run_schedule.Goals as goal

pub returns-in-Turns-clause-runs : goal.returns-in-Turns-clause-runs
returns-in-Turns-clause-runs g c =
    IfOk-weaker c.run.result _ _
    (λ _ h start. turns_come c.run.new.self _ c.in-Turns.turns.items (ap schedule_view c.in-Turns.is) (subst (λ ts. StandsAt ts c.run.new.self) c.as_slice.ensures.value (h [] start))) c.run.ensures.stands

pub returns-in-Rounds-clause-runs : goal.returns-in-Rounds-clause-runs
returns-in-Rounds-clause-runs g c =
    IfOk-weaker c.rounds.result _ _ (λ _ h start. rounds_come c.rounds.new.self _ (ap schedule_view c.in-Rounds.is) (h [] start)) c.rounds.ensures.stands
