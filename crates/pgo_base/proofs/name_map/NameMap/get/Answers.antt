use Rattle.std.proofs.Common.{◌∙◌, ap}
use Rattle.pgo_base.specs.NameMaps.{found}
use Rattle.pgo_base.proofs.name_map.NameMap.get.Goals as goal

pub returns : goal.returns
unfolding found
returns g c = c.get.ensures.value ∙ ap (found c.args.self.now) c.as_bytes.ensures
