use Rattle.std.proofs.Common.{◌≡◌, ◌≤◌, [], ◌∷◌, arith}
use Rattle.std.specs.Prelude.{codes}
use Rattle.std.proofs.lemmas.Result.{IfOk-equal}
use Rattle.pgo_pluscal.proofs.Depths.{at_depth, end_depth}
use Rattle.pgo_pluscal.proofs.Room.{line_more}
use Rattle.pgo_pluscal.proofs.RowTexts.{part_text}
use Rattle.pgo_pluscal.specs.PartSize.{depth, arms_depth}
use Rattle.pgo_pluscal.specs.PartView.{expansions, ending_of}
use Rattle.pgo_pluscal.proofs.lines.+lines.Goals as goal

pub push_more_arms-push_part-requires : goal.push_more_arms-push_part-requires
push_more_arms-push_part-requires t c =
    let s : depth c.arm-item.result ≤ arms_depth (expansions c.args.arms.now) = at_depth _ _ _ (omega arith) c.arm-item.is in
    (omega arith, line_more c.args.level c.args.level _ _ (codes "} or {" ∷ []) c.in_ok-push_line.ensures (omega arith))

pub push_part-push_ending-requires : goal.push_part-push_ending-requires
push_part-push_ending-requires t c =
    let s : depth (ending_of c.open-opened.result.ending.now) ≡ depth c.args.part.now = end_depth c.open-opened.result.steps.now (ending_of c.open-opened.result.ending.now) _ c.open-opened.ensures in
    (omega arith, c.in_ok-within.ensures.room)

pub push_part-returns : goal.push_part-returns
push_part-returns t c =
    IfOk-equal c.push_closings.result _ _ _ c.push_closings.ensures
    (part_text c.args.own.now (ending_of c.open-opened.result.ending.now) _ c.args.level _ _ c.open-opened.result.steps.now _ _ _
    c.in_ok-within.ensures.text.0 c.in_ok-push_ending.ensures c.open-opened.ensures c.in_ok-within.ensures.text.1 c.saturating_sub.ensures)
