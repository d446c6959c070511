use Rattle.std.proofs.Common.{[], map, ◌++◌, take, drop, ap, ◌∙◌}
use Rattle.pgo_base.specs.PairsView.{all_pairs}
use Rattle.pgo_base.specs.View.{pair_of, value_of}
use Rattle.pgo_model.specs.Operators.{sequence_at}
use Rattle.pgo_sets.proofs.Parts.{whole}
use Rattle.pgo_sets.proofs.sequences.numbered_both.Goals as goal

pub returns : goal.returns
returns c =
    let ls = all_pairs c.args.left in
    let rs = all_pairs c.args.right in
    let first = c.in_ok-add_numbered.ensures.pairs [] (ap (map pair_of) c.in_ok-both.ensures.items) in
    c.in_ok-add_numbered-2.ensures.pairs (take c.len-3.result (drop 0 (map value_of ls))) first
    ∙ (λ i. sequence_at 1 (whole ls c.len-3.result c.len-3.ensures i ++ whole rs c.len-4.result c.len-4.ensures i))
