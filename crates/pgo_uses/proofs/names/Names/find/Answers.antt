use Rattle.std.proofs.Common.{ap, sym, ◌∙◌}
use Rattle.pgo_uses.specs.Names.{number_at}
use Rattle.pgo_uses.proofs.FirstNumbers.{found_at}
use Rattle.pgo_uses.proofs.names.Names.find.Goals as goal

pub returns : goal.returns
returns c = c.number_at.ensures ∙ ap (number_at c.args.self.now) c.position.ensures ∙ sym (found_at c.args.name.now c.args.self.now)
