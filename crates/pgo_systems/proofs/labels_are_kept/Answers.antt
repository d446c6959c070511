use Rattle.pgo_systems.proofs.Places.{at_label, still_at_labels}
use Rattle.pgo_systems.proofs.Targets.{ends_known}
use Rattle.pgo_systems.proofs.labels_are_kept.Goals as goal

pub returns-clause-ends : goal.returns-clause-ends
returns-clause-ends c b i known = ends_known b i known

pub returns-clause-place : goal.returns-clause-place
returns-clause-place c b k i s t d prints at_k ends is e = at_label b k i at_k s t d prints is ends e

pub returns-clause-labels : goal.returns-clause-labels
returns-clause-labels c b k i s t d prints at_k numbered ends is h e = still_at_labels b k i at_k s t numbered d prints is ends e h
