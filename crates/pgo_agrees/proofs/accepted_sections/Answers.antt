use Rattle.pgo_bound.specs.BoundOf.{bound_of}
use Rattle.pgo_agrees.proofs.Premises.{refs, keeps_elements}
use Rattle.pgo_agrees.proofs.accepted_sections.Goals as goal

pub returns-clause-state : goal.returns-clause-state
returns-clause-state c s consts k i t u d prints h at_k is_t leads values =
    c.ends_are_states.ensures.state (bound_of s consts) k i t u d prints at_k (keeps_elements s consts h k i at_k) is_t leads values

pub returns-clause-domains : goal.returns-clause-domains
returns-clause-domains c s consts k i t u d prints h at_k is_t leads values =
    c.ends_are_states.ensures.domains (bound_of s consts) k i t u d prints at_k (keeps_elements s consts h k i at_k) is_t leads values

pub returns-clause-resources : goal.returns-clause-resources
returns-clause-resources c s consts k i t d h at_k sound is_t =
    c.sections_touch.ensures.resources (bound_of s consts) k i t d at_k sound (c.system_states.ensures.bound s consts (refs s consts h)) (keeps_elements s consts h k i at_k) is_t

pub returns-clause-bound : goal.returns-clause-bound
returns-clause-bound c s consts k i t d h at_k =
    c.sections_touch.ensures.bound (bound_of s consts) k i t d at_k (keeps_elements s consts h k i at_k)

pub returns-clause-system : goal.returns-clause-system
returns-clause-system c s consts t h sound =
    c.system_states.ensures.same (bound_of s consts) t sound (c.system_states.ensures.bound s consts (refs s consts h))
