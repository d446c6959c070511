use Rattle.std.proofs.Common.{◌≤◌, min, length, sym, ◌∙◌, arith}
use Rattle.pgo_bundle.specs.View.{account_view}
use Rattle.pgo_bundle.specs.ClaimView.{row_view}
use Rattle.pgo_bundle.proofs.TableLaws.{rows_end}
use Rattle.pgo_bundle.proofs.untied.broken_rows.Goals as goal

pub returns : goal.returns
returns c =
    let rs = c.args.table.now in
    let cs = c.args.accounts.now in
    let passed : min (length rs) (length cs) ≤ c.loop-k.k = omega (arith, c.loop-k-test.false, c.min-k-end.ensures) in
    sym (rows_end row_view account_view c.loop-k.k _ rs cs passed) ∙ c.loop-k.invariant
