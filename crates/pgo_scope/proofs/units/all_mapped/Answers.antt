use Rattle.std.proofs.Common.{◌∙◌}
use Rattle.pgo_scope.specs.Targets.{is_named}
use Rattle.pgo_scope.proofs.Targeting.{all_kinds_are}
use Rattle.pgo_scope.proofs.units.all_mapped.Goals as goal

pub returns : goal.returns
returns c = c.in_ok-all.ensures ∙ all_kinds_are (is_named c.in_ok-named.named) c.args.processes.now c.in_ok-named.ensures c.args.list.now
