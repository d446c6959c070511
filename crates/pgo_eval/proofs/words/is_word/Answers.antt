-- Two texts are one where they stand at one place of the order.
use Rattle.std.proofs.Common.{rules}
use Rattle.std.proofs.lemmas.Grind.{common_steps}
use Rattle.std.specs.Ordering.{nat_cmp}
use Rattle.std.specs.Cmp.{unsigned_ties}
use Rattle.std.specs.Cmp.Lexicographic.{lists_ties}
use Rattle.pgo_eval.proofs.words.is_word.Goals as goal

pub returns : goal.returns
returns c =
    let ties = lists_ties nat_cmp unsigned_ties c.args.x.now c.args.word.now in
    first_of (search rules, grind common_steps)
