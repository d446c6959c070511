use Rattle.std.proofs.Common.{arith}
use Rattle.pgo_journal.proofs.Sound.{sound_opened}
use Rattle.pgo_journal.proofs.journal.Journal.open.Goals as goal

pub invariant_of-result : goal.invariant_of-result
invariant_of-result c =
    rw (c.in_ok-entries.ensures.items, c.in_ok-list.ensures.items) (sound_opened c.args.start c.args.steps c.args.notes _ _ (omega (arith, c.ranges.steps.fits)) c.in_ok-entries.ensures.capacity c.in_ok-list.ensures.capacity)
