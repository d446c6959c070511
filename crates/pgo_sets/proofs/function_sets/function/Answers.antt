use Rattle.std.proofs.Common.{sym, subst}
use Rattle.pgo_base.specs.Data.{keys}
use Rattle.pgo_base.specs.Sets.{IsSorted}
use Rattle.pgo_sets.proofs.Choosing.{sorted_pairs_at}
use Rattle.pgo_sets.proofs.function_sets.function.Goals as goal

pub sorted_function-requires : goal.sorted_function-requires
sorted_function-requires c = subst (λ ps. IsSorted (keys ps)) (sym c.in_ok-pairs.ensures) (sorted_pairs_at c.args.choices.now c.args.number c.requires.sorted)
