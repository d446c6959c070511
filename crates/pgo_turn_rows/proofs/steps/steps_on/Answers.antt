use Rattle.pgo_resource.specs.PlainBoards.{shows_of}
use Rattle.pgo_syntax.specs.RecordView.{settings_view}
use Rattle.pgo_turn_rows.proofs.steps.steps_on.Goals as goal

pub steps-requires-clause-met : goal.steps-requires-clause-met
steps-requires-clause-met g c = c.in_ok-worker.ensures.meets (shows_of c.args.board) (c.requires.runs (settings_view c.args.settings.now)) c.requires.fresh
