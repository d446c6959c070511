use Rattle.pgo_check.proofs.Places.{string_is}
use Rattle.pgo_check.proofs.states.is_string.Goals as goal

pub returns-in-Str : goal.returns-in-Str
returns-in-Str c = rw (c.in-Some.is, c.in-Str.is) (string_is c.in-Str.t c.args.text.now c.is.result c.is.ensures)
