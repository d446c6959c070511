use Rattle.std.proofs.Common.{arith, refl, ap}
use Rattle.std.proofs.lemmas.Result.{IfOk-weaker, IfErr-weaker}
use Rattle.pgo_model.specs.ModuleView.{module_view}
use Rattle.pgo_bundle.specs.View.{bundle_log_view, version_view}
use Rattle.pgo_log_text.specs.declared.errors.LogStop.TheVariants.{BadLog}
use Rattle.pgo_migrate.proofs.MigrateLaws.{few, few_entries, migrates, not_untied, not_two, one_not_two, two_not_one, named_untied, untied_line, untied_there, not_read, not_read_two, not_read_untied}
use Rattle.pgo_migrate.proofs.migrate.migrate.Goals as goal

pub migrate_log-requires-clause-one : goal.migrate_log-requires-clause-one
migrate_log-requires-clause-one c = ap version_view c.in-One.is

pub migrate_log-requires-clause-few : goal.migrate_log-requires-clause-few
migrate_log-requires-clause-few c = few c.args.text.now (module_view c.in-Ok.module) c.in-Ok.consts (bundle_log_view c.in-Ok.log) c.in-Ok.ensures.bundle

pub migrate_log-requires-clause-entries : goal.migrate_log-requires-clause-entries
migrate_log-requires-clause-entries c = few_entries c.args.text.now (module_view c.in-Ok.module) c.in-Ok.consts (bundle_log_view c.in-Ok.log) c.in-Ok.log.entries refl c.in-Ok.ensures.bundle

pub returns-in-One-clause-written : goal.returns-in-One-clause-written
returns-in-One-clause-written c = IfOk-weaker c.migrate_log.result _ _ (λ t h. migrates c.args.text.now (module_view c.in-Ok.module) c.in-Ok.consts (bundle_log_view c.in-Ok.log) c.in-Ok.ensures.bundle c.in-Ok.ensures.only t (ap version_view c.in-One.is) (c.migrations_are_read.ensures c.args.text.now (module_view c.in-Ok.module) c.in-Ok.consts (bundle_log_view c.in-Ok.log) c.in-Ok.ensures.bundle) h) c.migrate_log.ensures.written

pub returns-in-One-clause-refused : goal.returns-in-One-clause-refused
returns-in-One-clause-refused c = IfErr-weaker c.migrate_log.result _ _ (λ stop h. not_untied c.args.text.now (module_view c.in-Ok.module) c.in-Ok.consts (bundle_log_view c.in-Ok.log) c.in-Ok.ensures.bundle c.in-Ok.ensures.only c.in-Ok.first stop h) c.migrate_log.ensures.untied

pub returns-in-One-clause-line : goal.returns-in-One-clause-line
returns-in-One-clause-line c = IfErr-weaker c.migrate_log.result _ _ (λ stop h. untied_there c.args.text.now (module_view c.in-Ok.module) c.in-Ok.consts (bundle_log_view c.in-Ok.log) c.in-Ok.ensures.bundle c.in-Ok.ensures.only c.in-Ok.first stop c.in-Ok.ensures.first h) c.migrate_log.ensures.untied

pub returns-in-One-clause-two : goal.returns-in-One-clause-two
returns-in-One-clause-two c = IfErr-weaker c.migrate_log.result _ _ (λ stop h. one_not_two c.args.text.now (module_view c.in-Ok.module) c.in-Ok.consts (bundle_log_view c.in-Ok.log) c.in-Ok.ensures.bundle c.in-Ok.ensures.only stop (ap version_view c.in-One.is)) c.migrate_log.ensures.untied

pub returns-in-One-clause-untied : goal.returns-in-One-clause-untied
returns-in-One-clause-untied c = IfErr-weaker c.migrate_log.result _ _ (λ stop h. untied_line c.args.text.now (module_view c.in-Ok.module) c.in-Ok.consts (bundle_log_view c.in-Ok.log) c.in-Ok.ensures.bundle c.in-Ok.ensures.only c.in-Ok.first stop c.in-Ok.ensures.first h) c.migrate_log.ensures.untied

pub returns-in-Ok-clause-refused : goal.returns-in-Ok-clause-refused
returns-in-Ok-clause-refused c = not_two c.args.text.now (module_view c.in-Ok.module) c.in-Ok.consts (bundle_log_view c.in-Ok.log) c.in-Ok.ensures.bundle c.in-Ok.ensures.only (BadLog 1) (ap version_view c.in-Two.is)

pub returns-in-Ok-clause-line : goal.returns-in-Ok-clause-line
returns-in-Ok-clause-line c = (omega arith, omega arith)

pub returns-in-Ok-clause-two : goal.returns-in-Ok-clause-two
returns-in-Ok-clause-two c = λ m consts l b two. refl

pub returns-in-Ok-clause-untied : goal.returns-in-Ok-clause-untied
returns-in-Ok-clause-untied c = two_not_one c.args.text.now (module_view c.in-Ok.module) c.in-Ok.consts (bundle_log_view c.in-Ok.log) c.in-Ok.ensures.bundle c.in-Ok.ensures.only (BadLog 1) (ap version_view c.in-Two.is)

pub returns-clause-refused : goal.returns-clause-refused
returns-clause-refused c = not_read c.args.text.now c.in-Err.stop c.in-Err.ensures.refused

pub returns-clause-two : goal.returns-clause-two
returns-clause-two c = not_read_two c.args.text.now c.in-Err.stop c.in-Err.ensures.refused

pub returns-clause-untied : goal.returns-clause-untied
returns-clause-untied c = not_read_untied c.args.text.now c.in-Err.stop c.in-Err.ensures.refused

pub returns-in-One-clause-form : goal.returns-in-One-clause-form
returns-in-One-clause-form c = IfErr-weaker c.migrate_log.result _ _ (λ stop h. named_untied c.args.text.now (module_view c.in-Ok.module) c.in-Ok.consts (bundle_log_view c.in-Ok.log) c.in-Ok.ensures.bundle c.in-Ok.ensures.only (c.forms_are_of_one.ensures c.args.text.now (module_view c.in-Ok.module) c.in-Ok.consts (bundle_log_view c.in-Ok.log) c.in-Ok.ensures.bundle.form) stop) c.migrate_log.ensures.untied

pub returns-in-Ok-clause-form : goal.returns-in-Ok-clause-form
returns-in-Ok-clause-form c = named_untied c.args.text.now (module_view c.in-Ok.module) c.in-Ok.consts (bundle_log_view c.in-Ok.log) c.in-Ok.ensures.bundle c.in-Ok.ensures.only (c.forms_are_of_one.ensures c.args.text.now (module_view c.in-Ok.module) c.in-Ok.consts (bundle_log_view c.in-Ok.log) c.in-Ok.ensures.bundle.form) (BadLog 1)

pub returns-clause-form : goal.returns-clause-form
returns-clause-form c = c.in-Err.ensures.untied
