use Rattle.std.proofs.Common.{◌∙◌}
use Rattle.pgo_effects.proofs.PieceLaws.{from_none}
use Rattle.pgo_effects.proofs.assign.assign_all.Goals as goal

pub returns : goal.returns
returns c = c.in_ok-todos.ensures ∙ from_none c.new-effects.result.items c.new-effects.ensures.items _
