use Rattle.std.proofs.Common.{sym, ◌∙◌}
use Rattle.pgo_eval.proofs.FewChoices.{few_empty}
use Rattle.pgo_eval.proofs.choice.are_few.Goals as goal

pub returns-then-has_empty : goal.returns-then-has_empty
returns-then-has_empty c = c.if-has_empty.true ∙ few_empty c.args.bound.now (sym c.has_empty.ensures ∙ c.if-has_empty.true)
