use Rattle.std.proofs.Common.{map}
use Rattle.pgo_base.specs.PairsView.{all_pairs}
use Rattle.pgo_base.specs.View.{pair_of}
use Rattle.pgo_sets.specs.Choices.{choice_of}
use Rattle.pgo_sets.proofs.Each.{EachFrom}
use Rattle.pgo_sets.proofs.Paired.{choice_pair}
use Rattle.pgo_sets.proofs.choice.record_choices.Given as goal

abbrev pub invariant-loop-i : goal.invariant-loop-i
invariant-loop-i l = EachFrom choice_pair (map pair_of (all_pairs l.fields)) (map choice_of l.choices.items) l.i
