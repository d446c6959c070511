-- Each turn of the loop is a turn of the function.
use Rattle.std.proofs.Common.{map, rules, arith}
use Rattle.pgo_bundle.specs.View.{account_view}
use Rattle.std.proofs.lemmas.Grind.{common_steps}
use Rattle.pgo_show_picture.specs.Picture.{with_bands}
use Rattle.pgo_lexer.proofs.Turns.{one_more, no_more}
use Rattle.pgo_show_picture.proofs.lanes.push_bands.Goals as goal

pub loop-band-preserved : goal.loop-band-preserved
unfolding with_bands
loop-band-preserved c =
    let e = one_more (λ n. with_bands c.args.size (map account_view c.args.accounts.now) c.loop-band.band n c.loop-band.lines) c.args.count c.loop-band.band c.loop-band-test.true c.loop-band.invariant in
    first_of (search rules, grind (arith, common_steps))

pub returns : goal.returns
unfolding with_bands
returns c =
    let e = no_more (λ n. with_bands c.args.size (map account_view c.args.accounts.now) c.loop-band.band n c.loop-band.lines) c.args.count c.loop-band.band c.loop-band-test.false c.loop-band.invariant in
    first_of (search rules, grind (arith, common_steps))
