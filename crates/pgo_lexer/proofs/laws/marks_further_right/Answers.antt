-- The law.
use Rattle.pgo_lexer.proofs.FurtherRight.{further_right}
use Rattle.pgo_lexer.proofs.laws.marks_further_right.Goals as goal

pub returns : goal.returns
returns c = λ s b c' p q rs ms d all. further_right c' d all
