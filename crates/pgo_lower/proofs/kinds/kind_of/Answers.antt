use Rattle.std.proofs.Common.{◌∙◌, ◌+◌, List, drop, ap, sym}
use Rattle.std.specs.List.{filter_map, flat_map}
use Rattle.std.proofs.lemmas.List.{drop_all}
use Rattle.pgo_bound.specs.Kinds.{all_extents}
use Rattle.pgo_bound.specs.State.{target_extent}
use Rattle.pgo_bound.specs.declared.kinds.Kind.TheVariants.{Unbound}
use Rattle.pgo_syntax.specs.declared.archetype.Extent.{Extent}
use Rattle.pgo_syntax.specs.declared.bound.Instance.{Instance}
use Rattle.pgo_lower.proofs.KindLaws.{kind_is, kinds_step}
use Rattle.pgo_lower.proofs.Behind.{drop_step}
use Rattle.pgo_lower.proofs.kinds.kind_of.Goals as goal

pub loop-i-preserved : goal.loop-i-preserved
loop-i-preserved c =
    let items = c.as_slice-i-items.result.now in
    c.loop-i.invariant
    ∙ kinds_step (λ (i : Instance). filter_map (λ x. target_extent c.args.g.now x.target) i.bindings) c.loop-i.kind c.kind_with-kind.result
    (drop c.loop-i.i-index items) (drop (c.loop-i.i-index + 1) items) c.i-item.result
    (drop_step items c.loop-i.i-index c.i-item.result c.loop-i-test.true c.i-item.is)
    (c.kind_with-kind.ensures ∙ ap (λ bs. all_extents c.loop-i.kind (filter_map (λ x. target_extent c.args.g.now x.target) bs)) c.as_slice.ensures)

pub returns : goal.returns
returns c =
    let items = c.as_slice-i-items.result.now in
    let extents : List Instance → List Extent = λ is. flat_map (λ i. filter_map (λ x. target_extent c.args.g.now x.target) i.bindings) is in
    sym (sym (kind_is (extents c.args.bound.now.instances))
    ∙ ap (λ is. all_extents Unbound (extents is)) (sym c.as_slice-i-items.ensures)
    ∙ c.loop-i.invariant
    ∙ ap (λ is. all_extents c.loop-i.kind (extents is)) (drop_all c.loop-i.i-index items c.loop-i-test.false))
