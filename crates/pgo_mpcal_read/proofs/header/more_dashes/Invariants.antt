use Rattle.std.proofs.Common.{◌≡◌, ◌-◌, length}
use Rattle.pgo_mpcal_read.specs.ReadingSpec.{more_dashes}
use Rattle.pgo_mpcal_read.proofs.header.more_dashes.Given as goal

abbrev pub invariant-loop-turn : goal.invariant-loop-turn
invariant-loop-turn l = record {
  same : more_dashes (length l.fn.cursor) 0 l.fn.first l.fn.cursor ≡ more_dashes (l._turn-end - l._turn) l.count l.stop l.cursor;
  counted : l.count ≡ l._turn;
}
