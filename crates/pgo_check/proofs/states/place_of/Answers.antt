use Rattle.std.proofs.Common.{sym, ◌∙◌}
use Rattle.pgo_base.specs.View.{data_of}
use Rattle.pgo_check.proofs.Places.{place_is, place_none}
use Rattle.pgo_check.proofs.states.place_of.Goals as goal

pub returns-in-Some : goal.returns-in-Some
returns-in-Some c = c.at.ensures ∙ sym (place_is (data_of c.args.id.now) (data_of c.in-Some.f.now) c.args.s.now (sym c.in-Some.ensures))

pub returns-in-None : goal.returns-in-None
returns-in-None c = sym (place_none (data_of c.args.id.now) c.args.s.now (sym c.in-None.ensures))
