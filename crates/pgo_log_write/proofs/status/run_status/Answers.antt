use Rattle.std.proofs.Common.{◌∙◌, ap}
use Rattle.pgo_log_write.specs.Status.{status_at}
use Rattle.pgo_log_write.proofs.Matching.{status_is}
use Rattle.pgo_log_write.proofs.status.run_status.Goals as goal

pub returns : goal.returns
returns c y settings g h = c.status_at.ensures ∙ ap status_at c.as_slice.ensures ∙ status_is y settings g c.args.f.now h
