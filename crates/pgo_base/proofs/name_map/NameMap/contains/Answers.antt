use Rattle.std.proofs.Common.{◌∙◌, ap}
use Rattle.pgo_base.specs.NameMaps.{found, has_name}
use Rattle.pgo_base.proofs.name_map.NameMap.contains.Goals as goal

pub returns : goal.returns
unfolding found
returns g c = c.contains_key.ensures ∙ ap (has_name c.args.self.now) c.as_bytes.ensures
