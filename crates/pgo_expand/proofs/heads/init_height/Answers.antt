use Rattle.std.proofs.Common.{◌≡◌, ◌∙◌, ◌++◌, ◌∷◌, [], map, ap}
use Rattle.pgo_measure.specs.Heights.{capped}
use Rattle.pgo_expand.specs.Items.{capped_items}
use Rattle.pgo_expand.specs.Module as expected
use Rattle.pgo_expand.proofs.Heights.{joined_same, init_same}
use Rattle.pgo_expand.proofs.heads.init_height.Goals as goal

pub returns : goal.returns
returns c =
    let globals : c.add_globals.new.items.items ≡ map (λ d. capped (expected.global_item d)) c.args.spec.now.globals =
    c.in_ok-add_globals.ensures
    ∙ ap (λ l. l ++ map (λ d. capped (expected.global_item d)) c.as_slice.result.now) c.new-items.ensures.items
    ∙ ap (map (λ d. capped (expected.global_item d))) c.as_slice.ensures in
    c.joined_all.ensures
    ∙ joined_same c.as_slice-2.result.now (expected.init_items c.args.spec.now)
    (ap (map capped)
    (c.as_slice-2.ensures.value ∙ c.in_ok-add_all_own.ensures
    ∙ ap (λ l. l ++ capped_items c.args.ids.now c.args.own.now) (c.in_ok-push.ensures.items ∙ (λ k. globals k ++ (c.place_item.ensures k ∷ [])))
    ∙ ap (λ o. (map (λ d. capped (expected.global_item d)) c.args.spec.now.globals ++ (capped (expected.place_item c.args.ids.now) ∷ [])) ++ capped_items c.args.ids.now o) c.requires.own)
    ∙ init_same c.args.spec.now.globals c.args.ids.now c.args.spec.now.archetypes c.args.spec.now.processes c.requires.ids)
