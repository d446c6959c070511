use Rattle.std.proofs.Common.{map, ◌++◌, ap, sym, subst, arith}
use Rattle.pgo_base.specs.Data.{keys}
use Rattle.pgo_base.specs.PairsView.{all_pairs}
use Rattle.pgo_base.specs.Sets.{IsSorted}
use Rattle.pgo_base.specs.View.{value_of}
use Rattle.pgo_model.specs.Operators.{function_from}
use Rattle.pgo_sets.specs.Answers.{Answers}
use Rattle.pgo_sets.proofs.Numbered.{sorted_sequence}
use Rattle.pgo_sets.proofs.Parts.{long_both}
use Rattle.pgo_sets.proofs.sequences.joined.Goals as goal

pub returns-then-len-gt-MOST_MEMBERS : goal.returns-then-len-gt-MOST_MEMBERS
returns-then-len-gt-MOST_MEMBERS c = long_both (all_pairs c.args.left) (all_pairs c.args.right) (omega (arith, c.if-len-gt-MOST_MEMBERS.true, c.len.ensures, c.len-2.ensures))

pub sorted_function-requires : goal.sorted_function-requires
sorted_function-requires c =
    subst (λ ps. IsSorted (keys ps)) (sym c.in_ok-numbered_both.ensures) (sorted_sequence 1 (map value_of (all_pairs c.args.left) ++ map value_of (all_pairs c.args.right)))

pub returns : goal.returns
returns c = subst (Answers c.sorted_function.result) (ap function_from c.in_ok-numbered_both.ensures) c.sorted_function.ensures
