use Rattle.pgo_bundle.specs.View.{bundle_log_view}
use Rattle.pgo_model.specs.ModuleView.{module_view}
use Rattle.pgo_log_text.proofs.BundleRead.{formless_refused, tie_refused, tied_only}
use Rattle.pgo_log_text.proofs.UntiedLines.{formless_untied, told_untied}
use Rattle.pgo_log_text.proofs.bundle_reader.bundle_of.Goals as goal

pub returns-in-Err-clause-refused : goal.returns-in-Err-clause-refused
returns-in-Err-clause-refused c = formless_refused c.args.text.now c.in-Err.stop c.in-Err.ensures.refused

pub returns-in-Some-clause-refused : goal.returns-in-Some-clause-refused
returns-in-Some-clause-refused c = tie_refused c.args.text.now (module_view c.in-Ok.module) c.in-Ok.consts (bundle_log_view c.in-Ok.log) c.in-Ok.first c.in-Some.stop c.in-Ok.ensures.only c.in-Some.ensures

pub returns-in-None-clause-bundle : goal.returns-in-None-clause-bundle
returns-in-None-clause-bundle c = record { form = c.in-Ok.ensures.form; tied = c.in-None.ensures }

pub returns-in-None-clause-only : goal.returns-in-None-clause-only
returns-in-None-clause-only c = tied_only c.args.text.now (module_view c.in-Ok.module) c.in-Ok.consts (bundle_log_view c.in-Ok.log) c.in-Ok.ensures.only

pub returns-in-Err-clause-untied : goal.returns-in-Err-clause-untied
returns-in-Err-clause-untied c = formless_untied c.args.text.now c.in-Err.stop c.in-Err.ensures.refused

pub returns-in-Some-clause-untied : goal.returns-in-Some-clause-untied
returns-in-Some-clause-untied c =
    told_untied c.args.text.now (module_view c.in-Ok.module) c.in-Ok.consts (bundle_log_view c.in-Ok.log) c.in-Ok.first c.in-Some.stop c.in-Ok.ensures.only c.in-Ok.ensures.first c.in-Some.ensures
