use Rattle.std.proofs.Common.{refl}
use Rattle.pgo_base.specs.NameMaps.{found}
use Rattle.pgo_base.proofs.name_map.NameMap.new.Goals as goal

pub returns : goal.returns
unfolding found
returns g c = λ n. rw c.new.ensures.empty refl
