use Rattle.std.proofs.Common.{◌≡◌, ◌∙◌, ap, Some}
use Rattle.std.proofs.lemmas.Result.{IfOk-at_ok}
use Rattle.pgo_effects.proofs.PieceLaws.{index_first}
use Rattle.pgo_effects.proofs.evaluate.add_index.Goals as goal

pub returns-in_ok-push-in-Some : goal.returns-in_ok-push-in-Some
returns-in_ok-push-in-Some c =
    let t = c.in_ok-value-in-Some in let n = c.in-Some.name in
    let v : c.in-Some.value ≡ t.value = cc (t.ensures.first) in
    let i = IfOk-at_ok _ (IfOk-at_ok _ t.ensures.second c.both-names.ensures.first) c.copy.ensures in
    let b = IfOk-at_ok _ (IfOk-at_ok _ t.ensures.second c.both-names.ensures.second) c.from_slice.ensures in
    index_first _ _ _ _ _ _ _ (c.in-Some.is ∙ ap (λ w. Some (n, w)) v) b i c.in_ok-push-in-Some.ensures.items
