use Rattle.pgo_front.proofs.task.read_task.Goals as goal

pub returns-in-Ok-clause-asks : goal.returns-in-Ok-clause-asks
returns-in-Ok-clause-asks c = c.task_of.ensures c.args.words.now (c.in-Ok.ensures.asks, c.in-Ok.ensures.only)
