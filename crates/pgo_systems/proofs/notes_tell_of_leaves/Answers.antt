use Rattle.std.proofs.Common.{suc}
use Rattle.pgo_model.specs.Accounts.{at}
use Rattle.pgo_model.specs.Choice.{Seeded, words_of}
use Rattle.pgo_model.specs.Core.{rules_of}
use Rattle.pgo_model.specs.Machine.{Noted}
use Rattle.pgo_meaning.specs.System.{system_of}
use Rattle.pgo_systems.proofs.notes_tell_of_leaves.Goals as goal

pub returns-clause-note : goal.returns-clause-note
returns-clause-note c b settings f n is =
    c.attempts_tell.ensures.notes b n.instance (at (rules_of (system_of b) settings) f n.position) (words_of (Seeded settings.seed n.instance n.attempt)) n.kind is.1

pub returns-clause-record : goal.returns-clause-record
returns-clause-record c b settings run f k i p kind accounts e =
    c.attempts_tell.ensures.notes b k (at (rules_of (system_of b) settings) f p) (words_of (Seeded settings.seed k (suc i))) kind (accounts.told i (Noted kind p) e).2.1
