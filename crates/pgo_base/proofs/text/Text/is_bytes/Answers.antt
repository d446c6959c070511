-- Two texts are one where they stand at one place of the order.
use Rattle.std.proofs.Common.{rules}
use Rattle.std.proofs.lemmas.Grind.{common_steps}
use Rattle.std.specs.Ordering.{nat_cmp}
use Rattle.std.specs.Cmp.{unsigned_ties}
use Rattle.std.specs.Cmp.Lexicographic.{lists_ties}
use Rattle.pgo_base.proofs.text.Text.is_bytes.Goals as goal

pub returns : goal.returns
returns c =
    let ties = lists_ties nat_cmp unsigned_ties c.args.bytes.now c.args.self.now in
    first_of (search rules, grind common_steps)
