use Rattle.pgo_model.specs.Core.{Reaches}
use Rattle.pgo_section.specs.Programs.{IsGood}
use Rattle.pgo_closed.specs.SystemRuns.{program, world}
use Rattle.pgo_closed.proofs.MadeEntries.{opened_stays, stays}
use Rattle.pgo_closed.proofs.made_entries_stay.Goals as goal

pub returns-clause-opened : goal.returns-clause-opened
returns-clause-opened c y tree settings runs k b others = opened_stays (world y tree settings) (program y tree settings) (Reaches y) (IsGood y) runs k b others

pub returns-clause-kept : goal.returns-clause-kept
returns-clause-kept c y tree settings runs differs w b v d t turned meets h = stays (world y tree settings) (program y tree settings) (Reaches y) (IsGood y) runs differs w b v d t turned meets h
