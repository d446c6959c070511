use Rattle.std.proofs.Common.{ap, sym, ◌∙◌, subst}
use Rattle.pgo_base.specs.View.{data_of}
use Rattle.pgo_model.specs.Operators.{power}
use Rattle.pgo_sets.specs.Answers.{Answers}
use Rattle.pgo_sets.proofs.Subsets.{power_is}
use Rattle.pgo_sets.proofs.powers.power.Goals as goal

pub returns-in-Set : goal.returns-in-Set
returns-in-Set c = subst (Answers c.subsets.result) (sym (ap (λ v. power (data_of v)) c.in-Set.is ∙ power_is c.in-Set.set)) c.subsets.ensures
