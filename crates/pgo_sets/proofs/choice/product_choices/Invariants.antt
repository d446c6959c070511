use Rattle.std.proofs.Common.{map}
use Rattle.pgo_base.specs.View.{data_of}
use Rattle.pgo_model.specs.Operators.{sequence_at}
use Rattle.pgo_sets.specs.Choices.{choice_of}
use Rattle.pgo_sets.proofs.Each.{EachFrom}
use Rattle.pgo_sets.proofs.Paired.{choice_pair}
use Rattle.pgo_sets.proofs.choice.product_choices.Given as goal

abbrev pub invariant-loop-i : goal.invariant-loop-i
invariant-loop-i l = EachFrom choice_pair (sequence_at 1 (map data_of l.factors)) (map choice_of l.choices.items) l.i
