use Rattle.std.proofs.Common.{◌≤◌, map, sym, subst}
use Rattle.pgo_heads.specs.Views.{run_view}
use Rattle.pgo_heads.proofs.Numbered.{length_places}
use Rattle.pgo_bind.proofs.bind.bound_system.Goals as goal

pub instances_of-requires : goal.instances_of-requires
instances_of-requires c = subst (λ n. n ≤ 64) (sym (length_places (map run_view c.args.runs.now))) c.requires.few_instances
