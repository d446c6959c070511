use Rattle.std.proofs.Common.{◌+◌, map, drop, ap, sym, ◌∙◌}
use Rattle.std.proofs.lemmas.List.{drop_all}
use Rattle.pgo_bound.specs.Runs.{extents_of, extents_in}
use Rattle.pgo_bound.specs.Kinds.{all_extents}
use Rattle.pgo_heads.specs.NameMaps.{kind_in}
use Rattle.pgo_heads.specs.Views.{handed_view, run_view}
use Rattle.pgo_heads.proofs.Numbered.{drop_step}
use Rattle.pgo_heads.proofs.KindLaws.{extents_step, kind_is}
use Rattle.pgo_heads.proofs.kinds.kinds_of.Goals as goal

pub loop-r-preserved-then-has_ids : goal.loop-r-preserved-then-has_ids
loop-r-preserved-then-has_ids c =
    let rest = drop (c.loop-r.r-index + 1) c.args.runs.now in
    λ n.
    c.loop-r.invariant n
    ∙ ap (λ rs. all_extents (kind_in c.loop-r.kinds n) (extents_of n (map run_view rs))) (drop_step c.args.runs.now c.loop-r.r-index c.r-item.result c.loop-r-test.true c.r-item.is)
    ∙ extents_step (kind_in c.loop-r.kinds n) n (run_view c.r-item.result) (map run_view rest) (sym c.has_ids.ensures ∙ c.if-has_ids.true)
    ∙ ap (λ hs. all_extents (all_extents (kind_in c.loop-r.kinds n) (extents_in n (map handed_view hs))) (extents_of n (map run_view rest))) (sym c.as_slice.ensures.value)
    ∙ ap (λ k. all_extents k (extents_of n (map run_view rest))) (sym (c.in_ok-add_arguments.ensures n))

pub returns : goal.returns
returns c = λ n.
    let all = extents_of n (map run_view c.args.runs.now) in
    sym (sym (kind_is all) ∙ c.loop-r.invariant n ∙ ap (λ rs. all_extents (kind_in c.loop-r.kinds n) (extents_of n (map run_view rs))) (drop_all c.loop-r.r-index c.args.runs.now c.loop-r-test.false))
