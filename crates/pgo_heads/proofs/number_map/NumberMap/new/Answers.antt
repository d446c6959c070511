use Rattle.std.proofs.Common.{refl}
use Rattle.pgo_heads.specs.NameMaps.{numbered}
use Rattle.pgo_heads.proofs.number_map.NumberMap.new.Goals as goal

pub returns : goal.returns
unfolding numbered
returns g c = λ n. rw c.new.ensures.empty refl
