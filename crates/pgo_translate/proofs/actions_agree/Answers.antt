use Rattle.pgo_translate.proofs.Actions.{acts-agree}
use Rattle.pgo_translate.proofs.actions_agree.Goals as goal

pub returns : goal.returns
returns c s consts a names tree = acts-agree s consts names a tree
