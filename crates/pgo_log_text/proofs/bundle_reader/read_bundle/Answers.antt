use Rattle.pgo_log_text.proofs.UntiedLines.{kept_untied}
use Rattle.pgo_log_text.proofs.bundle_reader.read_bundle.Goals as goal

pub returns-in-Err-clause-refused : goal.returns-in-Err-clause-refused
returns-in-Err-clause-refused c = c.within.ensures.same c.args.text.now c.in-Err.ensures.refused

pub returns-in-Err-clause-untied : goal.returns-in-Err-clause-untied
returns-in-Err-clause-untied c = kept_untied c.args.text.now c.in-Err.stop c.within.result c.within.ensures.kept c.in-Err.ensures.untied
