use Rattle.std.proofs.Common.{ap, ◌∙◌}
use Rattle.pgo_uses.specs.Names.{has_row}
use Rattle.pgo_uses.proofs.Among.{among_push}
use Rattle.pgo_uses.proofs.names.Names.add.Goals as goal

pub returns : goal.returns
returns c = λ x. ap (has_row x) c.in_ok-push.ensures ∙ among_push x c.args.self.now (c.args.name.now, 0)
