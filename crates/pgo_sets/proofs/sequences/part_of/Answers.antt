use Rattle.std.proofs.Common.{map, take, drop, ap, sym, subst, arith}
use Rattle.std.proofs.lemmas.List.{length-map}
use Rattle.pgo_base.specs.Data.{keys}
use Rattle.pgo_base.specs.PairsView.{all_pairs}
use Rattle.pgo_base.specs.Sets.{IsSorted}
use Rattle.pgo_base.specs.View.{value_of}
use Rattle.pgo_model.specs.Operators.{function_from}
use Rattle.pgo_sets.specs.Answers.{Answers}
use Rattle.pgo_sets.proofs.Numbered.{sorted_sequence}
use Rattle.pgo_sets.proofs.Parts.{long_part}
use Rattle.pgo_sets.proofs.sequences.part_of.Goals as goal

pub returns-then-count-gt-MOST_MEMBERS : goal.returns-then-count-gt-MOST_MEMBERS
returns-then-count-gt-MOST_MEMBERS c =
    let ps = all_pairs c.args.pairs in
    long_part (map value_of ps) c.args.from c.args.count (omega (arith, c.requires, length-map ps value_of)) c.if-count-gt-MOST_MEMBERS.true

pub sorted_function-requires : goal.sorted_function-requires
sorted_function-requires c =
    subst (λ ps. IsSorted (keys ps)) (sym c.in_ok-numbered_part.ensures) (sorted_sequence 1 (take c.args.count (drop c.args.from (map value_of (all_pairs c.args.pairs)))))

pub returns : goal.returns
returns c = subst (Answers c.sorted_function.result) (ap function_from c.in_ok-numbered_part.ensures) c.sorted_function.ensures
