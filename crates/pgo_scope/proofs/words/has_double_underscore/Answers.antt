use Rattle.std.proofs.Common.{ap, sym, ◌∙◌, false}
use Rattle.pgo_scope.specs.Doubles.{double_behind}
use Rattle.pgo_scope.proofs.Doubled.{has_double_is}
use Rattle.pgo_scope.proofs.words.has_double_underscore.Goals as goal

pub loop-b-init : goal.loop-b-init
loop-b-init c = has_double_is c.args.name.now ∙ ap (double_behind false) (sym c.as_bytes-bytes.ensures)
