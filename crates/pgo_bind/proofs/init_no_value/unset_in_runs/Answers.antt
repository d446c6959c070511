use Rattle.std.proofs.Common.{◌+◌, map, drop, option_map, ap, sym, ◌∙◌}
use Rattle.std.specs.List.{flat_map}
use Rattle.pgo_heads.specs.Refusals.{earlier, first_placed, unset_in_run}
use Rattle.pgo_heads.specs.Views.{run_view, finding_view}
use Rattle.pgo_heads.proofs.Numbered.{drop_step}
use Rattle.pgo_bind.proofs.Placed.{placed_more}
use Rattle.pgo_bind.proofs.init_no_value.unset_in_runs.Goals as goal

pub loop-r-preserved : goal.loop-r-preserved
loop-r-preserved c =
    let ds = c.args.defs.now in
    let best = option_map finding_view c.loop-r.best in
    let r = run_view c.r-item.result in
    let rest = map run_view (drop (c.loop-r.r-index + 1) c.args.runs.now) in
    ap (λ b. earlier b (first_placed (flat_map (unset_in_run ds) rest)))
    (c.earlier-best.ensures ∙ ap (earlier best) c.in_ok-found.ensures)
    ∙ sym (placed_more best (unset_in_run ds r) (flat_map (unset_in_run ds) rest))
    ∙ ap (λ rs. earlier best (first_placed (flat_map (unset_in_run ds) (map run_view rs)))) (sym (drop_step c.args.runs.now c.loop-r.r-index c.r-item.result c.loop-r-test.true c.r-item.is))
    ∙ c.loop-r.invariant
