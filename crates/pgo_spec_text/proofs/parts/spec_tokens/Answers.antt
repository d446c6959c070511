-- The clauses, from the function on lists.
use Rattle.pgo_spec_text.proofs.Exact.{result_found, result_only}
use Rattle.pgo_spec_text.proofs.parts.spec_tokens.Goals as goal

pub returns-clause-found : goal.returns-clause-found
returns-clause-found c = result_found c.args.text.now c.cut.result c.cut.ensures.value

pub returns-clause-only : goal.returns-clause-only
returns-clause-only c = result_only c.args.text.now c.cut.result c.cut.ensures.value
