use Rattle.std.proofs.Common.{◌≡◌, map, drop}
use Rattle.pgo_base.specs.PairsView.{all_pairs}
use Rattle.pgo_base.specs.View.{pair_of}
use Rattle.pgo_model.specs.FunctionSets.{graph_fits}
use Rattle.pgo_sets.specs.Choices.{choice_of}
use Rattle.pgo_sets.proofs.choice.pairs_fit.Given as goal

abbrev pub invariant-loop-i : goal.invariant-loop-i
invariant-loop-i l = graph_fits (map choice_of l.choices) (map pair_of (all_pairs l.pairs)) ≡ graph_fits (map choice_of (drop l.i l.choices)) (map pair_of (drop l.i (all_pairs l.pairs)))
