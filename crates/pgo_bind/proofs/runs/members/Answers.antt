use Rattle.std.proofs.Common.{Some, ap, sym, ◌∙◌}
use Rattle.pgo_base.specs.Data.{members-items}
use Rattle.pgo_base.specs.View.{data_of}
use Rattle.pgo_model.specs.Operators.{members_of}
use Rattle.pgo_bind.proofs.runs.members.Goals as goal

pub returns-in_ok-copies-in-Set : goal.returns-in_ok-copies-in-Set
returns-in_ok-copies-in-Set c =
    ap Some (c.in_ok-copies-in-Set.ensures ∙ c.members.ensures ∙ sym (members-items c.in-Set.set)) ∙ ap (λ v. members_of (data_of v)) (sym c.in-Set.is)
