use Rattle.std.proofs.Common.{◌≡◌, ◌≤◌, length, sym, subst, IfSome}
use Rattle.std.proofs.lemmas.Result.{IfOk-weaker, IfErr-weaker}
use Rattle.pgo_show.specs.Makes.{most_bytes}
use Rattle.pgo_show.specs.Wishes.{wish_of, component_of}
use Rattle.pgo_show.proofs.Making.{explained, stops_text, lines_told}
use Rattle.pgo_show.proofs.explain.make_text.Goals as goal

pub returns-in-Ok-clause-ok : goal.returns-in-Ok-clause-ok
returns-in-Ok-clause-ok g c =
    let left = g.S.Source.left c.args.input.now in
    let told = subst (λ t. IfSome left (λ bs. t ≡ bs)) (sym c.as_slice.ensures.value) c.in-Ok.ensures.all in
    let short = subst (λ t. length t ≤ most_bytes) (sym c.as_slice.ensures.value) c.in-Ok.ensures.within in
    IfOk-weaker c.explain.result _ _ (λ v h. explained (wish_of c.args.request) left _ v.items told short h) c.explain.ensures.ok

pub returns-in-Ok-clause-err : goal.returns-in-Ok-clause-err
returns-in-Ok-clause-err g c =
    let left = g.S.Source.left c.args.input.now in
    let told = subst (λ t. IfSome left (λ bs. t ≡ bs)) (sym c.as_slice.ensures.value) c.in-Ok.ensures.all in
    let short = subst (λ t. length t ≤ most_bytes) (sym c.as_slice.ensures.value) c.in-Ok.ensures.within in
    IfErr-weaker c.explain.result _ _ (λ e h. stops_text (wish_of c.args.request) left _ _ _ e.status told short h) c.explain.ensures.err

pub returns-in-Ok-clause-line : goal.returns-in-Ok-clause-line
returns-in-Ok-clause-line g c =
    let left = g.S.Source.left c.args.input.now in
    let told = subst (λ t. IfSome left (λ bs. t ≡ bs)) (sym c.as_slice.ensures.value) c.in-Ok.ensures.all in
    lines_told (component_of (wish_of c.args.request)) left _ c.explain.result told c.explain.ensures.line
