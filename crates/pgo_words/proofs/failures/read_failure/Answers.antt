use Rattle.pgo_words.proofs.FailureLists.{no_colon, failure_pair}
use Rattle.pgo_words.proofs.failures.read_failure.Goals as goal

pub returns-in-None : goal.returns-in-None
returns-in-None c = no_colon c.args.text.now c.in-None.ensures

pub returns-in-Some : goal.returns-in-Some
returns-in-Some c = failure_pair c.args.text.now (c.in-Some.resource, c.in-Some.place) c.read_pair.result c.in-Some.ensures c.read_pair.ensures
