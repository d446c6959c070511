use Rattle.pgo_sections.proofs.Closed.{defs_same}
use Rattle.pgo_sections.proofs.Macros.{read_is, write_is}
use Rattle.pgo_sections.proofs.Whole as whole
use Rattle.pgo_sections.proofs.sections_agree.Goals as goal

pub returns-clause-paths : goal.returns-clause-paths
returns-clause-paths c = whole.sections_agree

pub returns-clause-definitions : goal.returns-clause-definitions
returns-clause-definitions c vs ds s t closed not_there x args = defs_same vs s t not_there ds closed x args

pub returns-clause-reads : goal.returns-clause-reads
returns-clause-reads c k w g i block code env d run j old h = read_is k w g i block code env d run j old h

pub returns-clause-writes : goal.returns-clause-writes
returns-clause-writes c k w g i block env d run j old v h hv = write_is k w g i block env d run j old v h hv
