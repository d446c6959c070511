use Rattle.std.proofs.Common.{◌≡◌, ◌≤◌, length, sym, subst, IfSome}
use Rattle.std.proofs.lemmas.Result.{IfOk-weaker, IfErr-weaker}
use Rattle.pgo_front.specs.Verdicts.{most_bundle_bytes}
use Rattle.pgo_front.specs.Makes.{IsLineToCheck}
use Rattle.pgo_log_text.specs.ReadBundle.{IsNoBundle}
use Rattle.pgo_front.proofs.Making.{makes_check, stops_bundle, told_lines}
use Rattle.pgo_front.proofs.check.make_check.Goals as goal

pub returns-in-Ok-clause-ok : goal.returns-in-Ok-clause-ok
returns-in-Ok-clause-ok g c =
    let left = g.S.Source.left c.args.input.now in
    let told = subst (λ t. IfSome left (λ bs. t ≡ bs)) (sym c.as_slice.ensures.value) c.in-Ok.ensures.all in
    let short = subst (λ t. length t ≤ most_bundle_bytes) (sym c.as_slice.ensures.value) c.in-Ok.ensures.within in
    IfOk-weaker c.check_text.result _ _ (λ m h. makes_check left _ m told short h) c.check_text.ensures.ok

pub returns-in-Ok-clause-err : goal.returns-in-Ok-clause-err
returns-in-Ok-clause-err g c =
    let left = g.S.Source.left c.args.input.now in
    let told = subst (λ t. IfSome left (λ bs. t ≡ bs)) (sym c.as_slice.ensures.value) c.in-Ok.ensures.all in
    let short = subst (λ t. length t ≤ most_bundle_bytes) (sym c.as_slice.ensures.value) c.in-Ok.ensures.within in
    IfErr-weaker c.check_text.result _ _ (λ e h. stops_bundle IsNoBundle left _ _ _ e.status told short h) c.check_text.ensures.err

pub returns-in-Ok-clause-line : goal.returns-in-Ok-clause-line
returns-in-Ok-clause-line g c =
    let left = g.S.Source.left c.args.input.now in
    let told = subst (λ t. IfSome left (λ bs. t ≡ bs)) (sym c.as_slice.ensures.value) c.in-Ok.ensures.all in
    told_lines IsLineToCheck left _ c.check_text.result told c.check_text.ensures.line
