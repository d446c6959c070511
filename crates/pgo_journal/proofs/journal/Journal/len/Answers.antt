use Rattle.std.proofs.Common.{arith}
use Rattle.pgo_journal.proofs.Sound.{entries_within}
use Rattle.pgo_journal.proofs.journal.Journal.len.Goals as goal

pub overflow_cast-result : goal.overflow_cast-result
overflow_cast-result c =
    let i = c.self.inside in
    let w = entries_within i.start i.entries.items i.notes.items i.steps i.room _ _ c.self.invariant in omega (arith, w.1, c.len.ensures)
