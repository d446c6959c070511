use Rattle.std.proofs.Common.{subst}
use Rattle.pgo_log_text.specs.LineNumbers.{NamesLineOf}
use Rattle.pgo_log_text.specs.ReadBundle.{NamesUntied}
use Rattle.pgo_migrate.specs.Migrates.{IsNotMigrated, IsOfTwo, IsUntiedLine}
use Rattle.pgo_front.specs.Makes.{IsLineToMigrate}
use Rattle.pgo_front.specs.Migrations.{CannotMigrate, IsMigrationLine}
use Rattle.pgo_front.proofs.Making.{bundle_stopped, end_line}
use Rattle.pgo_front.proofs.migration.migrate_text.Goals as goal

pub returns-in-Err-BadLog-clause-err : goal.returns-in-Err-BadLog-clause-err
returns-in-Err-BadLog-clause-err c =
    let stop = c.in-Err-BadLog in
    bundle_stopped (CannotMigrate c.args.text.now) _ c.as_no_bundle.result.status c.as_no_bundle.result.line
    (subst (IsNotMigrated c.args.text.now) stop.field-0-is stop.ensures.refused) c.as_no_bundle.ensures

pub returns-in-Err-BadLog-clause-line : goal.returns-in-Err-BadLog-clause-line
returns-in-Err-BadLog-clause-line c =
    let text = c.args.text.now in
    let stop = c.in-Err-BadLog in
    let there = subst (NamesLineOf text) stop.field-0-is stop.ensures.line in
    let which : IsMigrationLine text c.in-Err-BadLog.line = record {
      of_two = subst (IsOfTwo text) stop.field-0-is stop.ensures.two;
      untied = subst (IsUntiedLine text) stop.field-0-is stop.ensures.untied;
      form = subst (NamesUntied text) stop.field-0-is stop.ensures.form;
    } in
    end_line IsLineToMigrate text _ c.as_no_bundle.result.status c.as_no_bundle.result.line (there, which) c.as_no_bundle.ensures
