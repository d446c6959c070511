use Rattle.std.proofs.Common.{sym, subst, arith}
use Rattle.pgo_base.specs.PairsView.{all_pairs}
use Rattle.pgo_sets.specs.Answers.{Answers}
use Rattle.pgo_sets.proofs.Parts.{later_is}
use Rattle.pgo_sets.proofs.sequences.later_elements.Goals as goal

pub returns : goal.returns
returns c = subst (Answers c.part_of.result) (sym (later_is (all_pairs c.args.pairs) c.len-count.result c.len-count.ensures (omega arith))) c.part_of.ensures
