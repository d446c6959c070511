use Rattle.std.proofs.Common.{ap, sym, ◌∙◌, subst}
use Rattle.pgo_model.specs.Operators.{set_from}
use Rattle.pgo_sets.specs.Answers.{Answers}
use Rattle.pgo_sets.proofs.Members.{intersect_is}
use Rattle.pgo_sets.proofs.set_operators.intersect.Goals as goal

pub returns-in_ok-kept-in-Set-Set : goal.returns-in_ok-kept-in-Set-Set
returns-in_ok-kept-in-Set-Set c =
    rw (c.in-Set-Set.is-0, c.in-Set-Set.is-1) (subst (Answers c.sorted_set.result) (ap set_from c.in_ok-kept-in-Set-Set.ensures.members ∙ sym (intersect_is c.in-Set-Set.left c.in-Set-Set.right)) c.sorted_set.ensures)
