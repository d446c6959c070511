-- The core machine's law at the product's types.
use Rattle.pgo_model.specs.Core.{rules_of, Reaches}
use Rattle.pgo_model.specs.SystemState.{IsSystemState}
use Rattle.pgo_model.specs.MachineLaw.{run_turns_law}
use Rattle.pgo_model.specs.MachineRuns.{run_turns_entries}
use Rattle.pgo_model.specs.Entries.{run_leads, run_states}
use Rattle.pgo_model.proofs.core_accounts.Goals as goal

pub returns-clause-runs : goal.returns-clause-runs
returns-clause-runs c y s turns fits = (run_turns_law (rules_of y s) (Reaches y) (IsSystemState y) fits.rules turns).0

pub returns-clause-entries : goal.returns-clause-entries
returns-clause-entries c y s turns fits = run_turns_entries (rules_of y s) (Reaches y) (IsSystemState y) fits.rules turns

pub returns-clause-leads : goal.returns-clause-leads
returns-clause-leads c y s turns fits = run_leads y s fits turns

pub returns-clause-states : goal.returns-clause-states
returns-clause-states c y s turns fits n le = run_states y s fits turns n le

pub returns-clause-accounts : goal.returns-clause-accounts
returns-clause-accounts c y s turns fits = (run_turns_law (rules_of y s) (Reaches y) (IsSystemState y) fits.rules turns).1.each

pub returns-clause-joint : goal.returns-clause-joint
returns-clause-joint c y s turns fits = (run_turns_law (rules_of y s) (Reaches y) (IsSystemState y) fits.rules turns).1.joint
