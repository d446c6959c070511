-- The clauses, from the functions on lists.
use Rattle.pgo_module_read.proofs.Exact.{result_found, result_only}
use Rattle.pgo_module_read.proofs.read.read_text.Goals as goal

pub returns-clause-found : goal.returns-clause-found
returns-clause-found c = result_found c.args.text.now c.module_in.result c.module_in.ensures

pub returns-clause-only : goal.returns-clause-only
returns-clause-only c = result_only c.args.text.now c.module_in.result c.module_in.ensures
