use Rattle.pgo_log_text.proofs.BundleRead.{with_line}
use Rattle.pgo_log_text.proofs.bundle_reader.refused_at.Goals as goal

pub returns-in-Some : goal.returns-in-Some
returns-in-Some c = λ text h. with_line text c.in-Some.line c.args.stop c.at_line.result c.at_line.ensures h
