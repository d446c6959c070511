use Rattle.pgo_bound.specs.BoundOf.{bound_of}
use Rattle.pgo_systems.proofs.States.{counted_values}
use Rattle.pgo_agrees.proofs.Premises.{refs, well}
use Rattle.pgo_runnable.proofs.Kept.{keeps}
use Rattle.pgo_runnable.proofs.accepted_states_kept.Goals as goal

pub returns-clause-values : goal.returns-clause-values
returns-clause-values c s consts counted literals =
    counted_values (bound_of s consts).start (c.values_are_given.ensures.start s consts counted literals)

pub returns-clause-keeps : goal.returns-clause-keeps
returns-clause-keeps c s consts h counted starts literals ends =
    let start = c.values_are_given.ensures.start s consts counted starts in
    keeps s consts h (counted_values (bound_of s consts).start start) (c.system_states.ensures.bound s consts (refs s consts h)) start literals ends (λ k i at_k. c.system_fits.ensures.owns s consts k i (well s consts h).variables_differ at_k)

pub returns-clause-fits : goal.returns-clause-fits
returns-clause-fits c s consts settings h counted starts literals ends =
    let start = c.values_are_given.ensures.start s consts counted starts in
    c.system_fits.ensures.fits (bound_of s consts) settings
    (keeps s consts h (counted_values (bound_of s consts).start start) (c.system_states.ensures.bound s consts (refs s consts h)) start literals ends (λ k i at_k. c.system_fits.ensures.owns s consts k i (well s consts h).variables_differ at_k))
