-- The items of a list that several owners may share.
use Rattle.std.specs.Prelude.{List, [], Option, Some, None}
use Rattle.std.specs.Arc.{arc_value}
use Rattle.std.specs.declared.sync.Arc.{Arc}
use Rattle.std.specs.declared.vec.Vec.{Vec}

-- no item where there is no list
abbrev pub shared_items : {X Y Z : Type 0} → Option (Arc (Vec X Y) Z) → List X
shared_items None = []
shared_items (Some list) = (arc_value list).items
