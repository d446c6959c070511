use Rattle.pgo_accept.proofs.Unlabelled.{unlabelled}
use Rattle.pgo_accept.proofs.laws.no_label_stands_in_a_macro.Goals as goal

pub returns : goal.returns
returns c = unlabelled
