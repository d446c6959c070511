use Rattle.pgo_systems.proofs.Refused.{contended_reached, machine_reached}
use Rattle.pgo_systems.proofs.pre_commits_are_of_bound_resources.Goals as goal

pub returns-clause-machine : goal.returns-clause-machine
returns-clause-machine c b settings turns h = machine_reached b settings (c.system_fits.ensures.fits b settings h) turns

pub returns-clause-contended : goal.returns-clause-contended
returns-clause-contended c b settings f h joint good = contended_reached b settings (c.system_fits.ensures.fits b settings h) f joint good
