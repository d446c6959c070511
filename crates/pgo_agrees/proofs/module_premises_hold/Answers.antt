use Rattle.pgo_agrees.proofs.ModuleAccepted.{module_accepted}
use Rattle.pgo_agrees.proofs.ModuleNames.{module_names}
use Rattle.pgo_agrees.proofs.Premises as premises
use Rattle.pgo_agrees.proofs.StartNames.{start_names}
use Rattle.pgo_agrees.proofs.module_premises_hold.Goals as goal

pub returns-clause-names : goal.returns-clause-names
returns-clause-names c s consts h =
    module_names s (premises.names s consts h) (premises.labels s consts h) (premises.fit s consts h) h.of_text

pub returns-clause-starts : goal.returns-clause-starts
returns-clause-starts c s consts h =
    start_names s (premises.names s consts h) (premises.labels s consts h) (premises.fit s consts h) h.of_text consts

pub returns-clause-all : goal.returns-clause-all
returns-clause-all c s consts h small values = module_accepted s consts h small values
