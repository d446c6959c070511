use Rattle.std.proofs.Common.{◌≡◌, ◌∙◌, ◌+◌, [], ◌∷◌, ◌++◌, take, ap, subst, sym}
use Rattle.std.proofs.lemmas.List.{take_more}
use Rattle.pgo_lower.specs.Agree.{AreLowered, IsLowered}
use Rattle.pgo_lower.proofs.AgreeLaws.{one_more_lowered}
use Rattle.pgo_lower.proofs.lower.lower.Goals as goal

pub loop-i-preserved : goal.loop-i-preserved
loop-i-preserved c =
    let b = c.args.bound.now in
    let k = c.loop-i.i-index in
    let items = c.as_slice-i-items.result.now in
    let i = c.i-item.result in
    let codes = c.loop-i.codes.items in
    let made = c.in_ok-code.field-0 in
    let here : IsLowered b i made = subst (λ g. IsLowered g i made) c.in_ok-globals.ensures c.in_ok-code.ensures in
    let more : take (k + 1) items ≡ take k items ++ i ∷ [] = take_more items k i c.loop-i-test.true ∙ ap (λ x. take k items ++ x ∷ []) (sym c.i-item.is) in
    subst (λ l. AreLowered b (take (k + 1) items) l) (sym c.in_ok-push.ensures.items)
    (subst (λ l. AreLowered b l (codes ++ made ∷ [])) (sym more) (one_more_lowered b (take k items) codes i made c.loop-i.invariant here))
