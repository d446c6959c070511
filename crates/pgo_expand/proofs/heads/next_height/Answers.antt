use Rattle.std.proofs.Common.{◌≡◌, ◌∙◌, ◌++◌, ◌∷◌, [], map, ap, sym}
use Rattle.std.proofs.lemmas.List.{append-nil}
use Rattle.pgo_measure.specs.Heights.{capped}
use Rattle.pgo_expand.specs.Module as expected
use Rattle.pgo_expand.proofs.Heights.{joined_same, steps_twice, drop_end}
use Rattle.pgo_expand.proofs.heads.next_height.Goals as goal

pub returns : goal.returns
returns c =
    let all : map (λ h. capped (expected.step_height h)) c.args.ids.now ≡ c.loop-height.items.items =
    c.loop-height.invariant
    ∙ ap (λ r. c.loop-height.items.items ++ map (λ h. capped (expected.step_height h)) r) (drop_end c.args.ids.now c.loop-height.height-index c.loop-height-test.false)
    ∙ append-nil c.loop-height.items.items in
    c.joined_all.ensures
    ∙ joined_same c.as_slice.result.now (expected.next_items c.args.ids.now)
    (ap (map capped) (c.as_slice.ensures.value ∙ c.in_ok-push-2.ensures.items ∙ ap (λ l. l ++ 1 ∷ []) (sym all)) ∙ steps_twice c.args.ids.now)
