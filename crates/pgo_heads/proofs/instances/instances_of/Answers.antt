use Rattle.std.proofs.Common.{◌+◌, ◌++◌, length, map, drop, arith, ap, ◌∙◌, length-append}
use Rattle.pgo_bound.specs.BoundOf.{numbered, instance_at, places_of, places_of_run}
use Rattle.pgo_heads.specs.Views.{run_view}
use Rattle.pgo_heads.proofs.Numbered.{drop_step, numbered_more, length-numbered}
use Rattle.pgo_heads.proofs.instances.instances_of.Goals as goal

pub loop-r-preserved : goal.loop-r-preserved
loop-r-preserved c =
    let rest = map run_view (drop (c.loop-r.r-index + 1) c.args.runs.now) in
    let here = places_of_run (run_view c.r-item.result) in
    let step = drop_step c.args.runs.now c.loop-r.r-index c.r-item.result c.loop-r-test.true c.r-item.is in
    let before = c.loop-r.list.items in
    let added = c.in_ok-add_instances.ensures ∙ ap (λ s. before ++ numbered (instance_at s) (length before) here) c.in_ok-indexed.ensures in
    let longer = ap length added ∙ length-append c.loop-r.list.items (numbered (instance_at c.args.spec.now) (length c.loop-r.list.items) here) ∙ ap (λ k. length c.loop-r.list.items + k) (length-numbered (instance_at c.args.spec.now) (length c.loop-r.list.items) here) in
    let left = ap (λ rs. length (places_of (map run_view rs))) step ∙ length-append here (places_of rest) in
    record {
      same = numbered_more (instance_at c.args.spec.now) c.loop-r.list.items c.add_instances.new.list.items _ here (places_of rest)
          (c.loop-r.invariant.same ∙ ap (λ rs. c.loop-r.list.items ++ numbered (instance_at c.args.spec.now) (length c.loop-r.list.items) (places_of (map run_view rs))) step) added;
      few = omega (arith, c.loop-r.invariant.few, longer, left);
    }
