use Rattle.std.proofs.Common.{◌≡◌, ◌<◌, ◌≤◌, ◌∙◌, ◌+◌, suc, true, length, ap, subst, arith}
use Rattle.pgo_core.specs.Claims.{before, without_claim}
use Rattle.pgo_core.proofs.ClaimSteps.{before_more, remove_is, without_none}
use Rattle.pgo_core.proofs.claims.forget.Goals as goal

pub returns-then-index-r-clause-rest : goal.returns-then-index-r-clause-rest
returns-then-index-r-clause-rest c =
    let hs = c.loop-index.claims.items in
    let near : c.loop-index.index < length hs = omega (arith, c.loop-index-test.true, c.len-index-end.ensures, c.args.claims.now.ok.0, ap (λ v. length v.items) c.loop-index.invariant.1) in
    c.remove.ensures.items ∙ remove_is c.loop-index.index hs c.args.r c.index.result.now c.loop-index.invariant.0 near c.index.ensures c.if-index-r.true ∙ ap (λ v. without_claim v.items c.args.r) c.loop-index.invariant.1

pub loop-index-preserved : goal.loop-index-preserved
loop-index-preserved c =
    let hs = c.loop-index.claims.items in
    let near : c.loop-index.index < length hs = omega (arith, c.loop-index-test.true, c.len-index-end.ensures, c.args.claims.now.ok.0, ap (λ v. length v.items) c.loop-index.invariant.1) in
    let e : suc c.loop-index.index ≡ c.loop-index.index + 1 = omega arith in
    (subst (λ n. before n hs c.args.r ≡ true) e (before_more c.loop-index.index hs c.args.r c.index.result.now c.loop-index.invariant.0 near c.index.ensures c.if-index-r.false), c.loop-index.invariant.1)

pub returns-clause-rest : goal.returns-clause-rest
returns-clause-rest c =
    let hs = c.loop-index.claims.items in
    let far : length hs ≤ c.loop-index.index = omega (arith, c.loop-index-test.false, c.len-index-end.ensures, c.args.claims.now.ok.0, ap (λ v. length v.items) c.loop-index.invariant.1) in
    without_none c.loop-index.index hs c.args.r c.loop-index.invariant.0 far ∙ ap (λ v. without_claim v.items c.args.r) c.loop-index.invariant.1
