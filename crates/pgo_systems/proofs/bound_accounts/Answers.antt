use Rattle.pgo_model.specs.Core.{rules_of, Reaches}
use Rattle.pgo_model.specs.MachineLaw.{run_turns_law}
use Rattle.pgo_model.specs.MachineRuns.{run_turns_entries}
use Rattle.pgo_meaning.specs.System.{system_of}
use Rattle.pgo_systems.specs.Premises.{IsGoodState}
use Rattle.pgo_systems.proofs.Run.{run_good, run_leads, run_states}
use Rattle.pgo_systems.proofs.bound_accounts.Goals as goal

pub returns-clause-runs : goal.returns-clause-runs
returns-clause-runs c b s turns h = (run_turns_law (rules_of (system_of b) s) (Reaches (system_of b)) (IsGoodState b) (c.system_fits.ensures.fits b s h) turns).0

pub returns-clause-entries : goal.returns-clause-entries
returns-clause-entries c b s turns h = run_turns_entries (rules_of (system_of b) s) (Reaches (system_of b)) (IsGoodState b) (c.system_fits.ensures.fits b s h) turns

pub returns-clause-leads : goal.returns-clause-leads
returns-clause-leads c b s turns h = run_leads b h c.values_are_given.ensures.states s (c.system_fits.ensures.fits b s h) turns

pub returns-clause-states : goal.returns-clause-states
returns-clause-states c b s turns h n le = run_states b h c.values_are_given.ensures.states s (c.system_fits.ensures.fits b s h) turns n le

pub returns-clause-good : goal.returns-clause-good
returns-clause-good c b s turns h n le = run_good b h c.values_are_given.ensures.states s (c.system_fits.ensures.fits b s h) turns n le

pub returns-clause-accounts : goal.returns-clause-accounts
returns-clause-accounts c b s turns h = (run_turns_law (rules_of (system_of b) s) (Reaches (system_of b)) (IsGoodState b) (c.system_fits.ensures.fits b s h) turns).1.each

pub returns-clause-joint : goal.returns-clause-joint
returns-clause-joint c b s turns h = (run_turns_law (rules_of (system_of b) s) (Reaches (system_of b)) (IsGoodState b) (c.system_fits.ensures.fits b s h) turns).1.joint
