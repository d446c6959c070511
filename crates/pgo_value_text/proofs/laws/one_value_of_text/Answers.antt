use Rattle.pgo_value_text.proofs.Complete.{one_value}
use Rattle.pgo_value_text.proofs.laws.one_value_of_text.Goals as goal

pub returns : goal.returns
returns c = one_value
