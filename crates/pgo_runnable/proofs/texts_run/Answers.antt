use Rattle.pgo_runnable.proofs.texts_run.Goals as goal

pub returns-clause-runnable : goal.returns-clause-runnable
returns-clause-runnable c text s consts spells passes v =
    c.accepted_runs.ensures.runnable s consts (c.texts_are_accepted.ensures.accepted text s consts spells passes.names passes.labels passes.binding) v

pub returns-clause-runs : goal.returns-clause-runs
returns-clause-runs c text s consts settings spells passes v =
    c.accepted_runs.ensures.runs s consts settings (c.texts_are_accepted.ensures.accepted text s consts spells passes.names passes.labels passes.binding) v

pub returns-clause-workers : goal.returns-clause-workers
returns-clause-workers c text s consts settings spells passes v =
    c.accepted_runs.ensures.workers s consts settings (c.texts_are_accepted.ensures.accepted text s consts spells passes.names passes.labels passes.binding) v

pub returns-clause-start : goal.returns-clause-start
returns-clause-start c text s consts spells passes v =
    c.accepted_runs.ensures.start s consts (c.texts_are_accepted.ensures.accepted text s consts spells passes.names passes.labels passes.binding) v
