use Rattle.std.proofs.Common.{◌≤◌, ◌<◌, length, arith}
use Rattle.pgo_bundle.specs.ClaimView.{claim_view, row_view}
use Rattle.pgo_bundle.proofs.TableLaws.{row_claimed, none_claimed}
use Rattle.pgo_bundle.proofs.claims.put_claim.Goals as goal

pub returns-then-k-len : goal.returns-then-k-len
returns-then-k-len c =
    let below : c.args.instance < length c.args.table.now.items = omega (arith, c.if-k-len.true, c.len.ensures) in
    row_claimed row_view c.args.table.now.items c.args.instance c.args.attempt (claim_view c.args.claim) c.put_in.new.row c.index_mut.result.now below c.index_mut.ensures.value c.put_in.ensures

pub returns-else-k-len : goal.returns-else-k-len
returns-else-k-len c =
    let past : length c.args.table.now.items ≤ c.args.instance = omega (arith, c.if-k-len.false, c.len.ensures) in
    none_claimed row_view c.args.table.now.items c.args.instance c.args.attempt (claim_view c.args.claim) past
