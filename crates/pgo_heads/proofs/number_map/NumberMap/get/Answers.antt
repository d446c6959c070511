use Rattle.std.proofs.Common.{◌∙◌}
use Rattle.pgo_heads.specs.NameMaps.{numbered}
use Rattle.pgo_heads.proofs.number_map.NumberMap.get.Goals as goal

pub returns : goal.returns
unfolding numbered
returns g c = c.copied.ensures ∙ c.get.ensures.value
