use Rattle.std.proofs.Common.{◌≤◌, ◌<◌, ◌-◌, length, sym, ap, ◌∙◌, arith}
use Rattle.pgo_bundle.specs.Tables.{put_in}
use Rattle.pgo_bundle.specs.ClaimView.{claim_view, row_view}
use Rattle.pgo_bundle.proofs.TableLaws.{put_none, item_put, item_past}
use Rattle.pgo_bundle.proofs.claims.put_in.Goals as goal

pub returns-then-attempt-eq0 : goal.returns-then-attempt-eq0
returns-then-attempt-eq0 c =
    let row = row_view c.args.row.now in
    sym (ap (λ n. put_in n (claim_view c.args.claim) row) c.if-attempt-eq0.true ∙ put_none (claim_view c.args.claim) row)

pub returns-then-i-len : goal.returns-then-i-len
returns-then-i-len c =
    let below : c.args.attempt - 1 < length c.args.row.now.items = omega (arith, c.if-i-len.true, c.len.ensures) in
    item_put claim_view c.args.row.now.items c.args.attempt (claim_view c.args.claim) c.and_also.result c.index.result.now c.if-attempt-eq0.false below c.index.ensures c.and_also.ensures

pub returns-else-i-len : goal.returns-else-i-len
returns-else-i-len c =
    let past : length c.args.row.now.items ≤ c.args.attempt - 1 = omega (arith, c.if-i-len.false, c.len.ensures) in
    item_past claim_view c.args.row.now.items c.args.attempt (claim_view c.args.claim) c.if-attempt-eq0.false past
