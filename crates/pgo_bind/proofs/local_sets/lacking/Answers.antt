use Rattle.std.proofs.Common.{◌∷◌, ◌+◌, map, drop, cond, option_map, ap, sym, ◌∙◌}
use Rattle.std.specs.Prelude.{filter}
use Rattle.std.specs.List.{filter_map, flat_map}
use Rattle.pgo_heads.specs.Refusals.{earlier, first_placed, lacking, lacking_in, lacking_local, is_run}
use Rattle.pgo_heads.specs.Views.{run_view, finding_view}
use Rattle.pgo_heads.proofs.Numbered.{drop_step}
use Rattle.pgo_bind.proofs.Placed.{placed_more}
use Rattle.pgo_bind.proofs.local_sets.lacking.Goals as goal

pub loop-a-preserved-then-has : goal.loop-a-preserved-then-has
loop-a-preserved-then-has c =
    let ds = c.args.defs.now in
    let rs = map run_view c.args.runs.now in
    let l = c.args.lack in
    let a = c.a-item.result in
    let best = option_map finding_view c.loop-a.best in
    let rest = drop (c.loop-a.a-index + 1) c.args.archetypes.now in
    ap (λ b. earlier b (first_placed (lacking rest ds rs l)))
    (c.earlier-best.ensures ∙ ap (earlier best) (c.in_ok-found.ensures ∙ ap (λ ls. first_placed (filter_map (lacking_local ds l) ls)) c.as_slice.ensures))
    ∙ sym (placed_more best (lacking_in ds l a) (lacking rest ds rs l))
    ∙ sym (ap (λ b. earlier best (first_placed (flat_map (lacking_in ds l) (cond b (a ∷ filter (is_run rs) rest) (filter (is_run rs) rest))))) (ap (λ qs. is_run qs a) (sym c.in_ok-run.ensures) ∙ sym c.has.ensures ∙ c.if-has.true))
    ∙ ap (λ as'. earlier best (first_placed (lacking as' ds rs l))) (sym (drop_step c.args.archetypes.now c.loop-a.a-index a c.loop-a-test.true c.a-item.is))
    ∙ c.loop-a.invariant
