use Rattle.std.specs.Borrow.{Bor}
use Rattle.std.proofs.Common.{ℕ, List, sym, ap, ◌∙◌}
use Rattle.pgo_base.specs.Lookup.{Vars}
use Rattle.pgo_bundle.specs.declared.log.Version as versions
use Rattle.pgo_bundle.specs.View.{bundle_log_view, version_view}
use Rattle.pgo_model.specs.ModuleView.{module_view}
use Rattle.pgo_log_text.specs.Lines.{opening}
use Rattle.pgo_log_text.proofs.BundleRead.{Head, form_read, only_read, with_line, opening_refused, part_refused, module_refused, log_refused}
use Rattle.pgo_log_text.proofs.LinesConstants.{log_of_some}
use Rattle.pgo_log_text.proofs.Ties.{first_line}
use Rattle.pgo_log_text.proofs.bundle_reader.form_of.Goals as goal

pub returns-in-Err-clause-refused : goal.returns-in-Err-clause-refused
returns-in-Err-clause-refused c =
    with_line c.args.text.now c.line_before.result c.in-Err.stop c.at_line.result c.at_line.ensures
    (opening_refused {B = versions.Version × Vars} (λ p. (version_view p.0, p.1)) c.args.text.now _ c.opening.new.cursor c.in-Err.stop c.new-cursor.ensures c.in-Err.ensures)

pub returns-in-Err-module_part-clause-refused : goal.returns-in-Err-module_part-clause-refused
returns-in-Err-module_part-clause-refused c =
    let opened = ap opening (sym c.new-cursor.ensures) ∙ c.in-Ok.ensures in
    c.refused_at.ensures c.args.text.now
    (part_refused {B = Bor (List ℕ)} (λ s. s.now) c.args.text.now c.opening.new.cursor c.module_part.new.cursor (version_view c.in-Ok.version) c.in-Ok.consts c.in-Err-module_part.stop opened c.in-Err-module_part.ensures)

pub returns-in-Err-module_of-clause-refused : goal.returns-in-Err-module_of-clause-refused
returns-in-Err-module_of-clause-refused c =
    let opened = ap opening (sym c.new-cursor.ensures) ∙ c.in-Ok.ensures in
    let head : Head c.args.text.now (version_view c.in-Ok.version) c.in-Ok.consts c.in-Ok-module_part.part.now c.module_part.new.cursor =
    record { behind = c.opening.new.cursor; opened = opened; part = c.in-Ok-module_part.ensures } in
    module_refused c.args.text.now (version_view c.in-Ok.version) c.in-Ok.consts c.in-Ok-module_part.part.now c.module_part.new.cursor c.in-Err-module_of.stop head c.in-Err-module_of.ensures.refused

pub returns-in-Ok-log_of-clause-form : goal.returns-in-Ok-log_of-clause-form
returns-in-Ok-log_of-clause-form c =
    let opened = ap opening (sym c.new-cursor.ensures) ∙ c.in-Ok.ensures in
    let head : Head c.args.text.now (version_view c.in-Ok.version) c.in-Ok.consts c.in-Ok-module_part.part.now c.module_part.new.cursor =
    record { behind = c.opening.new.cursor; opened = opened; part = c.in-Ok-module_part.ensures } in
    form_read c.args.text.now (version_view c.in-Ok.version) c.in-Ok.consts c.in-Ok-module_part.part.now c.module_part.new.cursor (module_view c.in-Ok-module_of.module) (bundle_log_view c.in-Ok-log_of.log) c.log_of.new.cursor head
    c.in-Ok-module_of.ensures.ok.spells c.in-Ok-log_of.ensures

pub returns-in-Ok-log_of-clause-only : goal.returns-in-Ok-log_of-clause-only
returns-in-Ok-log_of-clause-only c =
    let opened = ap opening (sym c.new-cursor.ensures) ∙ c.in-Ok.ensures in
    let head : Head c.args.text.now (version_view c.in-Ok.version) c.in-Ok.consts c.in-Ok-module_part.part.now c.module_part.new.cursor =
    record { behind = c.opening.new.cursor; opened = opened; part = c.in-Ok-module_part.ensures } in
    only_read c.args.text.now (version_view c.in-Ok.version) c.in-Ok.consts c.in-Ok-module_part.part.now c.module_part.new.cursor (module_view c.in-Ok-module_of.module) (bundle_log_view c.in-Ok-log_of.log) c.log_of.new.cursor head
    c.in-Ok-module_of.ensures.ok c.in-Ok-log_of.ensures

pub returns-in-Err-log_of-clause-refused : goal.returns-in-Err-log_of-clause-refused
returns-in-Err-log_of-clause-refused c =
    let opened = ap opening (sym c.new-cursor.ensures) ∙ c.in-Ok.ensures in
    let head : Head c.args.text.now (version_view c.in-Ok.version) c.in-Ok.consts c.in-Ok-module_part.part.now c.module_part.new.cursor =
    record { behind = c.opening.new.cursor; opened = opened; part = c.in-Ok-module_part.ensures } in
    c.refused_at-in-Err-log_of.ensures c.args.text.now
    (log_refused bundle_log_view c.args.text.now (version_view c.in-Ok.version) c.in-Ok.consts c.in-Ok-module_part.part.now c.module_part.new.cursor c.log_of.new.cursor (module_view c.in-Ok-module_of.module) c.in-Err-log_of.stop head
    c.in-Ok-module_of.ensures.ok c.in-Err-log_of.ensures)

pub returns-in-Ok-log_of-clause-first : goal.returns-in-Ok-log_of-clause-first
returns-in-Ok-log_of-clause-first c before is =
    let m = module_view c.in-Ok-module_of.module in
    let read =
    log_of_some (version_view c.in-Ok.version) c.in-Ok.consts m.constants m.variables c.module_part.new.cursor (bundle_log_view c.in-Ok-log_of.log) c.log_of.new.cursor c.in-Ok-log_of.ensures
    in
    first_line c.args.text.now before c.module_part.new.cursor _ c.left-left.result c.line_before-start.result is read.1.text_is c.left-left.ensures c.line_before-start.ensures
