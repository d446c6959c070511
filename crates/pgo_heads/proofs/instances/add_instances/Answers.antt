use Rattle.std.proofs.Common.{◌++◌, length, map, ap, sym, ◌∙◌}
use Rattle.std.proofs.lemmas.List.{append-nil, drop_all}
use Rattle.pgo_base.specs.View.{data_of}
use Rattle.pgo_bound.specs.BoundOf.{numbered, instance_with}
use Rattle.pgo_heads.specs.Views.{run_view}
use Rattle.pgo_heads.proofs.Numbered.{numbered_at}
use Rattle.pgo_bound.specs.Runs.{run_ids}
use Rattle.pgo_heads.proofs.instances.add_instances.Goals as goal

pub returns : goal.returns
returns c =
    let r = run_view c.args.run.now in
    let before = c.args.list.now.items in
    sym (append-nil c.loop-id.list.items)
    ∙ ap (λ vs. c.loop-id.list.items ++ numbered (instance_with c.in_ok-bindings.bindings.items) (length c.loop-id.list.items) (map (λ d. (r, d)) (map data_of vs))) (sym (drop_all c.loop-id.id-index c.run_ids-id-items.result.now c.loop-id-test.false))
    ∙ sym c.loop-id.invariant.same
    ∙ (λ i. before ++ numbered (instance_with (c.in_ok-bindings.ensures i)) (length before) (map (λ d. (r, d)) (c.run_ids-id-items.ensures i)))
    ∙ ap (λ is. before ++ is) (numbered_at c.args.spec.now r (length before) (run_ids r))
