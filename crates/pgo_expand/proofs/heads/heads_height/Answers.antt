use Rattle.std.proofs.Common.{◌≡◌, ◌∙◌, max, map, subst, ap}
use Rattle.std.specs.Prelude.{IfOk}
use Rattle.pgo_measure.specs.Heights.{capped}
use Rattle.pgo_expand.specs.Module as expected
use Rattle.pgo_expand.proofs.Heights.{ids_capped, joined_same, joined_capped, steps_capped, all_heads}
use Rattle.pgo_expand.proofs.heads.heads_height.Goals as goal

pub init_height-requires-clause-ids : goal.init_height-requires-clause-ids
init_height-requires-clause-ids c =
    c.as_slice-2.ensures.value ∙ c.in_ok-ids.ensures ∙ ap (λ ps. map (λ p. capped (expected.ids_height p.ids)) ps) c.as_slice.ensures ∙ ids_capped c.args.spec.now.processes

pub returns : goal.returns
returns c =
    let s = c.args.spec.now in
    let ids : c.in_ok-ids.ids.items ≡ map capped (expected.ids_heights s) =
    c.in_ok-ids.ensures ∙ ap (λ ps. map (λ p. capped (expected.ids_height p.ids)) ps) c.as_slice.ensures ∙ ids_capped s.processes in
    let next = c.in_ok-next.ensures ∙ ap (λ l. capped (expected.joined (expected.next_items l))) (c.as_slice-3.ensures.value ∙ ids)
    ∙ joined_same (expected.next_items (map capped (expected.ids_heights s))) (expected.next_items (expected.ids_heights s)) (steps_capped (expected.ids_heights s)) in
    let sets = c.joined_all-sets.ensures ∙ ap (λ l. capped (expected.joined l)) (c.as_slice-4.ensures.value ∙ ids) ∙ joined_capped (expected.ids_heights s) in
    subst (λ x. IfOk c.with_all_definitions.result (λ h. h ≡ x))
    (ap (λ m. max m (capped (expected.highest (expected.all_definitions s))))
    (c.max-3.ensures ∙ ap (λ m. max m 5) (c.max-2.ensures ∙ ap (λ m. max m c.joined_all-sets.result) c.max.ensures))
    ∙ all_heads (expected.joined (expected.init_items s)) (expected.joined (expected.next_items (expected.ids_heights s))) (expected.joined (expected.ids_heights s)) (expected.highest (expected.all_definitions s)) c.in_ok-init.init c.in_ok-next.next c.joined_all-sets.result c.in_ok-init.ensures next sets)
    c.with_all_definitions.ensures
