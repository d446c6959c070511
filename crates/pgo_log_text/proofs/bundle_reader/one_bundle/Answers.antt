use Rattle.pgo_log_text.proofs.BundleRead.{one_bundle}
use Rattle.pgo_log_text.proofs.bundle_reader.one_bundle.Goals as goal

pub returns : goal.returns
returns c = one_bundle c.one_module.ensures
