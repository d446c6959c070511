use Rattle.std.proofs.Common.{◌≡◌, ◌++◌, map, ap, sym, ◌∙◌, subst}
use Rattle.pgo_base.specs.View.{pair_of}
use Rattle.pgo_model.specs.Operators.{function_from}
use Rattle.pgo_sets.specs.Answers.{Answers}
use Rattle.pgo_sets.proofs.Graphs.{merge_is}
use Rattle.pgo_sets.proofs.functions.merge.Goals as goal

pub returns-in_ok-add_pairs-in-Fun-Fun-2 : goal.returns-in_ok-add_pairs-in-Fun-Fun-2
returns-in_ok-add_pairs-in-Fun-Fun-2 c =
    let left = c.in-Fun-Fun.left in
    let right = c.in-Fun-Fun.right in
    let first : map pair_of c.add_pairs.new.all.items ≡ left =
    c.in_ok-add_pairs-in-Fun-Fun.ensures ∙ (λ i. map pair_of (c.new-pairs.ensures.items i) ++ c.pairs.ensures i) in
    let both : map pair_of c.add_pairs-in-Fun-Fun.new.all.items ≡ left ++ right =
    c.in_ok-add_pairs-in-Fun-Fun-2.ensures ∙ (λ i. first i ++ c.pairs-in-Fun-Fun.ensures i) in
    rw (c.in-Fun-Fun.is-0, c.in-Fun-Fun.is-1) (subst (Answers c.function_of.result) (ap function_from both ∙ sym (merge_is left right)) c.function_of.ensures)
