use Rattle.std.proofs.Common.{◌≡◌, ◌≤◌, IfOk, reverse, subst, arith, ap, sym, ◌∙◌}
use Rattle.pgo_pluscal.proofs.Depths.{at_depth, end_depth}
use Rattle.pgo_pluscal.specs.PartSize.{depth, arms_depth}
use Rattle.pgo_pluscal.specs.PartView.{expansions, ending_of}
use Rattle.pgo_translate.specs.Items.{items}
use Rattle.pgo_translate.specs.Rows.{row_items}
use Rattle.pgo_translate.proofs.RowLaws.{row_around}
use Rattle.pgo_translate.proofs.labels.+labels.Goals as goal

pub arm_bodies-body-requires : goal.arm_bodies-body-requires
arm_bodies-body-requires t c =
    let s : depth c.arm-item.result ≤ arms_depth (expansions c.args.arms.now) = at_depth _ _ _ (omega arith) c.arm-item.is in
    (omega arith, tt)

pub part_items-ending_items-requires : goal.part_items-ending_items-requires
part_items-ending_items-requires t c =
    let s : depth (ending_of c.open-opened.result.ending.now) ≡ depth c.args.part.now = end_depth c.open-opened.result.steps.now (ending_of c.open-opened.result.ending.now) _ c.open-opened.ensures in
    (omega arith, tt)

pub part_items-returns : goal.part_items-returns
part_items-returns t c =
    let vs = c.args.variables.now in
    let gs = c.args.globals.now in
    let row = c.open-opened.result.steps.now in
    let end = ending_of c.open-opened.result.ending.now in
    subst (λ ts. IfOk c.row_items.result (λ v. reverse v.items ≡ ts))
    (ap (row_items row) c.in_ok-rest.ensures ∙ sym (row_around vs gs row end) ∙ ap (items vs gs) c.open-opened.ensures)
    c.row_items.ensures
