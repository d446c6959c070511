use Rattle.pgo_translate.proofs.Whole.{agrees}
use Rattle.pgo_translate.proofs.module_agrees.Goals as goal

pub returns : goal.returns
returns c s consts h =
    agrees c.trees_agree.ensures.labels c.sections_of_labels.ensures.each c.sections_of_labels.ensures.labels c.actions_agree.ensures c.trees_are_named.ensures s consts h
    (c.starts_agree.ensures s consts h.names h.starts h.constants h.well h.binding)
