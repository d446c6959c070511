use Rattle.pgo_log_text.proofs.BundleRead.{one_form}
use Rattle.pgo_migrate.proofs.laws.forms_are_of_one.Goals as goal

pub returns : goal.returns
returns c = one_form c.one_module.ensures
