-- The law.
use Rattle.pgo_lexer.proofs.SignEnds.{sign_ends}
use Rattle.pgo_lexer.proofs.laws.signs_end.Goals as goal

pub returns : goal.returns
returns c = sign_ends
