use Rattle.pgo_base.specs.View.{data_of}
use Rattle.pgo_starts.proofs.contents.content_of.Goals as goal

pub returns-in_ok-copy-in-Some-clause-shown : goal.returns-in_ok-copy-in-Some-clause-shown
returns-in_ok-copy-in-Some-clause-shown c = c.boxed.ensures.shown (data_of c.args.v) c.new-in-Some.ensures
