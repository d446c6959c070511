use Rattle.std.proofs.Common.{sym, ap, subst}
use Rattle.std.specs.Prelude.{option_map}
use Rattle.std.proofs.lemmas.Result.{IfErr-weaker}
use Rattle.pgo_model.specs.ModuleView.{module_view}
use Rattle.pgo_bundle.specs.ClaimView.{untied_view}
use Rattle.pgo_bundle.specs.View.{bundle_log_view}
use Rattle.pgo_migrate.specs.Migrates.{IsUntiedFrom}
use Rattle.pgo_migrate.proofs.MigrateLaws.{both_ok, is_written, is_untied}
use Rattle.pgo_migrate.proofs.migrate.migrate_log.Goals as goal

pub returns-in-Ok-None-clause-written : goal.returns-in-Ok-None-clause-written
returns-in-Ok-None-clause-written c =
    both_ok c.written.result _ _ _ (λ t h short.
    is_written (module_view c.args.module.now) c.args.consts.now (bundle_log_view c.args.log) (bundle_log_view c.in-Ok.log) (option_map untied_view c.in-Ok-None.field-0) t c.in-Ok.ensures c.in-Ok-None.ensures
    (ap (option_map untied_view) c.in-Ok-None.field-0-is) h short) c.written.ensures.text c.written.ensures.short

pub returns-in-Ok-None-clause-untied : goal.returns-in-Ok-None-clause-untied
returns-in-Ok-None-clause-untied c =
    IfErr-weaker c.written.result _ _ (λ stop h. subst (λ s. IsUntiedFrom (bundle_log_view c.args.log) c.args.first s) (sym h) tt) c.written.ensures.refused

pub returns-in-Ok-Some-clause-untied : goal.returns-in-Ok-Some-clause-untied
returns-in-Ok-Some-clause-untied c =
    is_untied (bundle_log_view c.args.log) (bundle_log_view c.in-Ok.log) (option_map untied_view c.in-Ok-Some.field-0) (untied_view c.in-Ok-Some.untied) c.args.first c.lines_before.result c.saturating_add.result c.requires.one
    c.in-Ok.ensures c.in-Ok-Some.ensures (ap (option_map untied_view) c.in-Ok-Some.field-0-is) c.lines_before.ensures c.saturating_add.ensures
