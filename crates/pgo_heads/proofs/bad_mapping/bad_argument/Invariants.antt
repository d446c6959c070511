use Rattle.std.proofs.Common.{◌≡◌, map, drop}
use Rattle.pgo_heads.specs.Views.{handed_view, run_view}
use Rattle.pgo_heads.specs.Refusals as specs
use Rattle.std.specs.Prelude.{filter}
use Rattle.pgo_bound.specs.Runs.{Handed}
use Rattle.pgo_heads.proofs.bad_mapping.bad_argument.Given as goal

abbrev pub invariant-loop-h : goal.invariant-loop-h
invariant-loop-h l =
    specs.first (map (λ (h : Handed). h.number) (filter (specs.is_bad_handed l.globals (run_view l.run)) (map handed_view l.h-items))) ≡ specs.first (map (λ (h : Handed). h.number) (filter (specs.is_bad_handed l.globals (run_view l.run)) (map handed_view (drop l.h-index l.h-items))))
