use Rattle.pgo_systems.proofs.Fitted.{fitted, resource_numbers, all_resources}
use Rattle.pgo_bound.specs.BoundOf.{bound_of}
use Rattle.pgo_systems.proofs.Owned.{owns_apart}
use Rattle.pgo_systems.proofs.system_fits.Goals as goal

pub returns-clause-fits : goal.returns-clause-fits
returns-clause-fits c b settings h =
    fitted b h c.values_are_given.ensures.states c.sections_touch.ensures.resources c.sections_touch.ensures.bound settings

pub returns-clause-owns : goal.returns-clause-owns
returns-clause-owns c s consts k i differ at_k = owns_apart s consts differ k i at_k

pub returns-clause-kept : goal.returns-clause-kept
returns-clause-kept c s consts h = record {
  sound = h.sound;
  globals = c.system_states.ensures.bound s consts h.refs;
  differ = h.differ;
  counted = c.values_are_given.ensures.start s consts h.constants h.start;
  elements = h.elements;
  literals = λ k i at_k. c.values_are_given.ensures.literals s consts i h.constants h.start (h.texts k i at_k);
  ends = λ k i at_k. c.labels_are_kept.ensures.ends (bound_of s consts) i (h.gotos k i at_k);
  owns = λ k i at_k. owns_apart s consts h.differ k i at_k;
}

pub returns-clause-numbers : goal.returns-clause-numbers
returns-clause-numbers c b n r h at_n = resource_numbers b h n r at_n

pub returns-clause-resources : goal.returns-clause-resources
returns-clause-resources c b k s d h is = all_resources b h c.sections_touch.ensures.resources k s d is
