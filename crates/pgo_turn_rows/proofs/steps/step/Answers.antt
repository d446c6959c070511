use Rattle.pgo_syntax.specs.RecordView.{settings_view}
use Rattle.pgo_turn_rows.proofs.steps.step.Goals as goal

pub turn-requires-clause-runs : goal.turn-requires-clause-runs
turn-requires-clause-runs g c = c.requires.runs (settings_view c.args.worker.now.settings)

pub stop-requires-clause-runs : goal.stop-requires-clause-runs
stop-requires-clause-runs g c = c.requires.runs (settings_view c.args.worker.now.settings)
