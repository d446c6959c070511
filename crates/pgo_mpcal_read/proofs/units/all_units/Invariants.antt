use Rattle.std.proofs.Common.{◌≡◌, ◌-◌, length}
use Rattle.pgo_mpcal_read.specs.ReadingStatements.{goes_on}
use Rattle.pgo_mpcal_read.specs.ReadingSpec.{unit}
use Rattle.pgo_mpcal_read.specs.Units.{no_units}
use Rattle.pgo_expr_read.specs.Steps.{folded}
use Rattle.pgo_mpcal_read.proofs.units.all_units.Given as goal

abbrev pub invariant-loop-turn : goal.invariant-loop-turn
invariant-loop-turn l = folded goes_on unit (length l.fn.cursor) no_units l.fn.cursor ≡ folded goes_on unit (l._turn-end - l._turn) l.all l.cursor
