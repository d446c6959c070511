use Rattle.std.proofs.Common.{ap, sym, ◌∙◌, subst}
use Rattle.pgo_model.specs.Operators.{set_from}
use Rattle.pgo_sets.specs.Answers.{Answers}
use Rattle.pgo_sets.proofs.Graphs.{domain_is}
use Rattle.pgo_sets.proofs.functions.domain.Goals as goal

pub returns-in_ok-keys_of-in-Fun : goal.returns-in_ok-keys_of-in-Fun
returns-in_ok-keys_of-in-Fun c = rw (c.in-Fun.is) (subst (Answers c.sorted_set.result) (ap set_from c.in_ok-keys_of-in-Fun.ensures.keys ∙ sym (domain_is c.in-Fun.function)) c.sorted_set.ensures)
