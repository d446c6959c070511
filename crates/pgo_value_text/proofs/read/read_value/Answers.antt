-- What is read is a value text, and a value text is read.
use Rattle.pgo_value_text.proofs.Complete.{whole_some, whole_only, whole_none}
use Rattle.pgo_value_text.proofs.read.read_value.Goals as goal

pub returns-in-Ok-clause-found : goal.returns-in-Ok-clause-found
returns-in-Ok-clause-found c = whole_some c.args.text.now _ c.in-Ok.ensures

pub returns-in-Ok-clause-only : goal.returns-in-Ok-clause-only
returns-in-Ok-clause-only c = λ d h. whole_only c.args.text.now d _ h c.in-Ok.ensures

pub returns-in-Err-Bad-clause-only : goal.returns-in-Err-Bad-clause-only
returns-in-Err-Bad-clause-only c = λ d h. whole_none c.args.text.now d h (rw c.in-Err-Bad.field-0-is at c.in-Err-Bad.ensures)
