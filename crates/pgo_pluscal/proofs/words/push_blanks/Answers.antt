use Rattle.std.proofs.Common.{◌++◌, ◌-◌, ap, ◌∙◌, arith}
use Rattle.pgo_pluscal.proofs.Added.{one_less}
use Rattle.pgo_pluscal.specs.Text.{blanks}
use Rattle.pgo_pluscal.proofs.words.push_blanks.Goals as goal

pub loop-left-preserved : goal.loop-left-preserved
loop-left-preserved c =
    ap (λ l. l ++ blanks (c.loop-left.left - 1)) c.in_ok-extend_from_slice.ensures.items
    ∙ one_less c.loop-left.bytes.items c.loop-left.left (omega arith)
    ∙ c.loop-left.invariant
