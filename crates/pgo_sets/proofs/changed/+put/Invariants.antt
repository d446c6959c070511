use Rattle.std.proofs.Common.{◌+◌, ◌*◌, length}
use Rattle.pgo_sets.proofs.changed.+put.Given as goal

abbrev pub decreases-put_within : goal.decreases-put_within
decreases-put_within l = 2 * length l.path.now

abbrev pub decreases-put_in : goal.decreases-put_in
decreases-put_in l = 2 * length l.rest.now + 1
