-- What ends statements in a row, as the expansion that it stands for.
use Rattle.std.specs.Prelude.{List, map}
use Rattle.pgo_base.specs.Lookup.{Name}
use Rattle.pgo_pluscal.specs.PartView.{expansions}
use Rattle.pgo_sections.specs.Expansion.{Expansion, If, Either, End}
use Rattle.pgo_walk.specs.Emitted.{left_in}
use Rattle.pgo_walk.specs.declared.make.RowEnd.{RowEnd}
use Rattle.pgo_walk.specs.declared.make.RowEnd.TheVariants as ends

-- the end, where x is the expansion of the state behind it
abbrev pub ended : List Name → RowEnd → Expansion → Expansion
ended vs (ends.If e other) x = If e x (left_in vs other)
ended vs (ends.Either arms) x = Either (expansions (map (left_in vs) arms.items))
ended vs (ends.End changes label) x = End changes.items label
