use Rattle.pgo_log_text.proofs.WrittenRuns.{written_run_is_read}
use Rattle.pgo_log_text.proofs.bundle_reader.written_runs_are_read.Goals as goal

pub returns : goal.returns
returns c = written_run_is_read
