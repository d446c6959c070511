use Rattle.std.proofs.Common.{◌++◌, suc, map, arith, ap, sym, ◌∙◌}
use Rattle.std.proofs.lemmas.List.{append-nil}
use Rattle.pgo_heads.specs.Views.{handed_view}
use Rattle.pgo_heads.proofs.Matching.{handed_end}
use Rattle.pgo_heads.proofs.runs.matched.Goals as goal

pub returns : goal.returns
returns c =
    sym (c.loop-i.invariant
    ∙ ap (λ hs. map handed_view c.loop-i.list.items ++ hs) (handed_end (suc c.loop-i.i) c.loop-i.i c.args.params.now c.args.arguments.now (omega (arith, c.loop-i-test.false, c.min-n.ensures)))
    ∙ append-nil (map handed_view c.loop-i.list.items))
