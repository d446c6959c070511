use Rattle.pgo_bundle.proofs.TiedLaws.{is_tied}
use Rattle.pgo_bundle.proofs.UntiedLaws.{is_untied_nowhere}
use Rattle.pgo_bundle.proofs.tied_logs.Goals as goal

pub returns-clause-tied : goal.returns-clause-tied
returns-clause-tied c = is_tied

pub returns-clause-untied : goal.returns-clause-untied
returns-clause-untied c = is_untied_nowhere
