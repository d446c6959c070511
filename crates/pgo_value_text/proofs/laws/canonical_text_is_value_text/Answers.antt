use Rattle.pgo_value_text.proofs.Written.{written}
use Rattle.pgo_value_text.proofs.laws.canonical_text_is_value_text.Goals as goal

pub returns : goal.returns
returns c = written
