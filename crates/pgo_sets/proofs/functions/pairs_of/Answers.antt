use Rattle.std.proofs.Common.{sym, subst}
use Rattle.pgo_base.specs.Data.{keys}
use Rattle.pgo_base.specs.Sets.{IsSorted}
use Rattle.pgo_sets.proofs.functions.pairs_of.Goals as goal

pub returns-clause-sorted : goal.returns-clause-sorted
returns-clause-sorted c = subst (λ ps. IsSorted (keys ps)) (sym c.in_ok-pairs.ensures.pairs) c.in_ok-pairs.ensures.sorted
