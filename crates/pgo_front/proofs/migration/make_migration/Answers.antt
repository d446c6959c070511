use Rattle.std.proofs.Common.{◌≡◌, ◌≤◌, length, sym, subst, IfSome}
use Rattle.std.proofs.lemmas.Result.{IfOk-weaker, IfErr-weaker}
use Rattle.pgo_front.specs.Makes.{IsLineToMigrate}
use Rattle.pgo_front.specs.Migrations.{CannotMigrate}
use Rattle.pgo_front.specs.Verdicts.{most_bundle_bytes}
use Rattle.pgo_front.proofs.Making.{makes_migration, stops_bundle, told_lines}
use Rattle.pgo_front.proofs.migration.make_migration.Goals as goal

pub returns-in-Ok-clause-ok : goal.returns-in-Ok-clause-ok
returns-in-Ok-clause-ok g c =
    let left = g.S.Source.left c.args.input.now in
    let told = subst (λ t. IfSome left (λ bs. t ≡ bs)) (sym c.as_slice.ensures.value) c.in-Ok.ensures.all in
    let short = subst (λ t. length t ≤ most_bundle_bytes) (sym c.as_slice.ensures.value) c.in-Ok.ensures.within in
    IfOk-weaker c.migrate_text.result _ _ (λ m h. makes_migration left _ m told short h (λ v w j k. c.migrations_are_judged_alike.ensures _ _ v w h j k)) c.migrate_text.ensures.ok

pub returns-in-Ok-clause-err : goal.returns-in-Ok-clause-err
returns-in-Ok-clause-err g c =
    let left = g.S.Source.left c.args.input.now in
    let told = subst (λ t. IfSome left (λ bs. t ≡ bs)) (sym c.as_slice.ensures.value) c.in-Ok.ensures.all in
    let short = subst (λ t. length t ≤ most_bundle_bytes) (sym c.as_slice.ensures.value) c.in-Ok.ensures.within in
    IfErr-weaker c.migrate_text.result _ _ (λ e h. stops_bundle CannotMigrate left _ _ _ e.status told short h) c.migrate_text.ensures.err

pub returns-in-Ok-clause-line : goal.returns-in-Ok-clause-line
returns-in-Ok-clause-line g c =
    let left = g.S.Source.left c.args.input.now in
    let told = subst (λ t. IfSome left (λ bs. t ≡ bs)) (sym c.as_slice.ensures.value) c.in-Ok.ensures.all in
    told_lines IsLineToMigrate left _ c.migrate_text.result told c.migrate_text.ensures.line
