use Rattle.std.proofs.Common.{inl, inr, subst}
use Rattle.std.proofs.lemmas.Result.{IfErr-weaker}
use Rattle.pgo_syntax.specs.RecordView.{settings_view}
use Rattle.pgo_front.specs.Answers.{RefusesSpec}
use Rattle.pgo_front.specs.Makes.{AsksFor, mode_view}
use Rattle.pgo_front.proofs.Asking.{input_unread}
use Rattle.pgo_front.proofs.ConstantValues.{run_constants}
use Rattle.pgo_front.proofs.Loading.{load_lines, load_made, load_refuses, load_stopped}
use Rattle.pgo_log_text.specs.ReadBundle.{IsNoBundle}
use Rattle.pgo_front.specs.Makes.{IsLineToCheck, IsLineToMigrate}
use Rattle.pgo_front.specs.Migrations.{CannotMigrate}
use Rattle.pgo_front.proofs.Making.{bundle_lines, bundle_refuses, execution_made, execution_stopped, execution_line, spec_lines, check_made, check_stopped, migration_made, migration_stopped, named_by_check, named_by_migration, translation_made, translation_stopped, translation_line}
use Rattle.pgo_front.proofs.command.make.Goals as goal

pub make_execution-requires-clause-constants : goal.make_execution-requires-clause-constants
make_execution-requires-clause-constants g c κs within =
    let words = c.args.words.now in
    let asked = c.in-Ok-Execute in
    let asks = subst (AsksFor words) asked.field-0-is asked.ensures.asks in
    run_constants c.read_values_are_canonical.ensures.value words (mode_view asked.mode) (settings_view asked.settings) asked.consts asks.0

pub returns-in-Ok-Execute-clause-ok : goal.returns-in-Ok-Execute-clause-ok
returns-in-Ok-Execute-clause-ok g c =
    let words = c.args.words.now in
    let asked = c.in-Ok-Execute in
    let asks = subst (AsksFor words) asked.field-0-is asked.ensures.asks in
    execution_made words (g.S.Source.left c.args.input.now) (mode_view asked.mode) (settings_view asked.settings) asked.consts c.make_execution.result asks
    c.make_execution.ensures.either c.make_execution.ensures.ok

pub returns-in-Ok-Execute-clause-err : goal.returns-in-Ok-Execute-clause-err
returns-in-Ok-Execute-clause-err g c =
    let words = c.args.words.now in
    let asked = c.in-Ok-Execute in
    let asks = subst (AsksFor words) asked.field-0-is asked.ensures.asks in
    IfErr-weaker c.make_execution.result _ _
    (λ e h. execution_stopped words (g.S.Source.left c.args.input.now) _ _ (mode_view asked.mode) (settings_view asked.settings) asked.consts e.status asks h)
    c.make_execution.ensures.err

pub returns-in-Ok-Execute-clause-line : goal.returns-in-Ok-Execute-clause-line
returns-in-Ok-Execute-clause-line g c =
    let words = c.args.words.now in
    let left = g.S.Source.left c.args.input.now in
    let asked = c.in-Ok-Execute in
    let asks = subst (AsksFor words) asked.field-0-is asked.ensures.asks in
    spec_lines words asked.consts left _ _ _ (RefusesSpec words left) c.make_execution.result
    (λ e h. execution_line words left (mode_view asked.mode) (settings_view asked.settings) asked.consts e.status e.line asks.0 h)
    c.make_execution.ensures.err c.make_execution.ensures.line

pub returns-in-Ok-Execute-clause-unread : goal.returns-in-Ok-Execute-clause-unread
returns-in-Ok-Execute-clause-unread g c nothing =
    let asked = c.in-Ok-Execute in
    let asks = subst (AsksFor c.args.words.now) asked.field-0-is asked.ensures.asks in
    absurd (input_unread c.args.words.now (inl (mode_view asked.mode, settings_view asked.settings, asked.consts, asks.0)) nothing)

pub returns-in-Ok-Check-clause-ok : goal.returns-in-Ok-Check-clause-ok
returns-in-Ok-Check-clause-ok g c =
    let words = c.args.words.now in
    let asks = subst (AsksFor words) c.in-Ok-Check.field-0-is c.in-Ok-Check.ensures.asks in
    check_made words (g.S.Source.left c.args.input.now) c.make_check.result asks c.make_check.ensures.either c.make_check.ensures.ok

pub returns-in-Ok-Check-clause-err : goal.returns-in-Ok-Check-clause-err
returns-in-Ok-Check-clause-err g c =
    let words = c.args.words.now in
    let asks = subst (AsksFor words) c.in-Ok-Check.field-0-is c.in-Ok-Check.ensures.asks in
    IfErr-weaker c.make_check.result _ _ (λ e h. check_stopped words (g.S.Source.left c.args.input.now) _ _ e.status asks h) c.make_check.ensures.err

pub returns-in-Ok-Check-clause-line : goal.returns-in-Ok-Check-clause-line
returns-in-Ok-Check-clause-line g c =
    let words = c.args.words.now in
    let left = g.S.Source.left c.args.input.now in
    let asks = subst (AsksFor words) c.in-Ok-Check.field-0-is c.in-Ok-Check.ensures.asks in
    bundle_lines words IsNoBundle IsLineToCheck left _ _ (RefusesSpec words left) c.make_check.result (named_by_check words asks) c.make_check.ensures.err c.make_check.ensures.line

pub returns-in-Ok-Check-clause-refusal : goal.returns-in-Ok-Check-clause-refusal
returns-in-Ok-Check-clause-refusal g c =
    IfErr-weaker c.make_check.result _ _ (λ e h. bundle_refuses IsNoBundle (g.S.Source.left c.args.input.now) _ _ e.status h) c.make_check.ensures.err

pub returns-in-Ok-Check-clause-unread : goal.returns-in-Ok-Check-clause-unread
returns-in-Ok-Check-clause-unread g c nothing =
    let asks = subst (AsksFor c.args.words.now) c.in-Ok-Check.field-0-is c.in-Ok-Check.ensures.asks in
    absurd (input_unread c.args.words.now (inr (inl asks)) nothing)

pub returns-in-Ok-Translate-clause-ok : goal.returns-in-Ok-Translate-clause-ok
returns-in-Ok-Translate-clause-ok g c =
    let words = c.args.words.now in
    let asked = c.in-Ok-Translate in
    let asks = subst (AsksFor words) asked.field-0-is asked.ensures.asks in
    translation_made words (g.S.Source.left c.args.input.now) asked.target asked.consts c.make_translation.result asks c.make_translation.ensures.fine c.make_translation.ensures.ok

pub returns-in-Ok-Translate-clause-err : goal.returns-in-Ok-Translate-clause-err
returns-in-Ok-Translate-clause-err g c =
    let words = c.args.words.now in
    let asked = c.in-Ok-Translate in
    let asks = subst (AsksFor words) asked.field-0-is asked.ensures.asks in
    IfErr-weaker c.make_translation.result _ _
    (λ e h. translation_stopped words (g.S.Source.left c.args.input.now) _ _ asked.target asked.consts e.status asks h) c.make_translation.ensures.err

pub returns-in-Ok-Translate-clause-line : goal.returns-in-Ok-Translate-clause-line
returns-in-Ok-Translate-clause-line g c =
    let words = c.args.words.now in
    let left = g.S.Source.left c.args.input.now in
    let asked = c.in-Ok-Translate in
    let asks = subst (AsksFor words) asked.field-0-is asked.ensures.asks in
    spec_lines words asked.consts left _ _ _ (RefusesSpec words left) c.make_translation.result
    (λ e h. translation_line words left asked.target asked.consts e.status e.line asks.0 h) c.make_translation.ensures.err c.make_translation.ensures.line

pub returns-in-Ok-Translate-clause-unread : goal.returns-in-Ok-Translate-clause-unread
returns-in-Ok-Translate-clause-unread g c nothing =
    let asked = c.in-Ok-Translate in
    let asks = subst (AsksFor c.args.words.now) asked.field-0-is asked.ensures.asks in
    absurd (input_unread c.args.words.now (inr (inr (inl (asked.target, asked.consts, asks.0)))) nothing)

pub returns-in-Ok-Migrate-clause-ok : goal.returns-in-Ok-Migrate-clause-ok
returns-in-Ok-Migrate-clause-ok g c =
    let words = c.args.words.now in
    let asks = subst (AsksFor words) c.in-Ok-Migrate.field-0-is c.in-Ok-Migrate.ensures.asks in
    migration_made words (g.S.Source.left c.args.input.now) c.make_migration.result asks c.make_migration.ensures.fine c.make_migration.ensures.ok

pub returns-in-Ok-Migrate-clause-err : goal.returns-in-Ok-Migrate-clause-err
returns-in-Ok-Migrate-clause-err g c =
    let words = c.args.words.now in
    let asks = subst (AsksFor words) c.in-Ok-Migrate.field-0-is c.in-Ok-Migrate.ensures.asks in
    IfErr-weaker c.make_migration.result _ _ (λ e h. migration_stopped words (g.S.Source.left c.args.input.now) _ _ e.status asks h) c.make_migration.ensures.err

pub returns-in-Ok-Migrate-clause-line : goal.returns-in-Ok-Migrate-clause-line
returns-in-Ok-Migrate-clause-line g c =
    let words = c.args.words.now in
    let left = g.S.Source.left c.args.input.now in
    let asks = subst (AsksFor words) c.in-Ok-Migrate.field-0-is c.in-Ok-Migrate.ensures.asks in
    bundle_lines words CannotMigrate IsLineToMigrate left _ _ (RefusesSpec words left) c.make_migration.result (named_by_migration words asks) c.make_migration.ensures.err c.make_migration.ensures.line

pub returns-in-Ok-Migrate-clause-refusal : goal.returns-in-Ok-Migrate-clause-refusal
returns-in-Ok-Migrate-clause-refusal g c =
    IfErr-weaker c.make_migration.result _ _ (λ e h. bundle_refuses CannotMigrate (g.S.Source.left c.args.input.now) _ _ e.status h) c.make_migration.ensures.err

pub returns-in-Ok-Migrate-clause-unread : goal.returns-in-Ok-Migrate-clause-unread
returns-in-Ok-Migrate-clause-unread g c nothing =
    let asks = subst (AsksFor c.args.words.now) c.in-Ok-Migrate.field-0-is c.in-Ok-Migrate.ensures.asks in
    absurd (input_unread c.args.words.now (inr (inr (inr asks))) nothing)

pub returns-in-Ok-Load-clause-ok : goal.returns-in-Ok-Load-clause-ok
returns-in-Ok-Load-clause-ok g c =
    let words = c.args.words.now in
    let asked = c.in-Ok-Load in
    let asks = subst (AsksFor words) asked.field-0-is asked.ensures.asks in
    load_made words (g.S.Source.left c.args.input.now) asked.size asks c.make_load.result c.make_load.ensures.ok c.make_load.ensures.fine

pub returns-in-Ok-Load-clause-err : goal.returns-in-Ok-Load-clause-err
returns-in-Ok-Load-clause-err g c =
    let words = c.args.words.now in
    let asked = c.in-Ok-Load in
    let asks = subst (AsksFor words) asked.field-0-is asked.ensures.asks in
    IfErr-weaker c.make_load.result _ _ (λ e h. load_stopped words (g.S.Source.left c.args.input.now) asked.size asks _ _ e.status h) c.make_load.ensures.err

pub returns-in-Ok-Load-clause-line : goal.returns-in-Ok-Load-clause-line
returns-in-Ok-Load-clause-line g c =
    let words = c.args.words.now in
    let asked = c.in-Ok-Load in
    let asks = subst (AsksFor words) asked.field-0-is asked.ensures.asks in
    load_lines words (g.S.Source.left c.args.input.now) asked.size asks c.make_load.result c.make_load.ensures.err c.make_load.ensures.line

pub returns-in-Ok-Load-clause-refusal : goal.returns-in-Ok-Load-clause-refusal
returns-in-Ok-Load-clause-refusal g c = IfErr-weaker c.make_load.result _ _ (λ e h. load_refuses c.in-Ok-Load.size e.status h) c.make_load.ensures.err

pub returns-in-Ok-Load-clause-ended : goal.returns-in-Ok-Load-clause-ended
returns-in-Ok-Load-clause-ended g c no_load =
    let asked = c.in-Ok-Load in
    let asks = subst (AsksFor c.args.words.now) asked.field-0-is asked.ensures.asks in
    absurd (no_load (asked.size, asks.0))

pub returns-in-Ok-Load-clause-ended_refused : goal.returns-in-Ok-Load-clause-ended_refused
returns-in-Ok-Load-clause-ended_refused g c no_load =
    let asked = c.in-Ok-Load in
    let asks = subst (AsksFor c.args.words.now) asked.field-0-is asked.ensures.asks in
    absurd (no_load (asked.size, asks.0))
