use Rattle.std.proofs.Common.{refl, inl}
use Rattle.pgo_bound.specs.BoundOf.{bound_of}
use Rattle.pgo_systems.specs.Counted.{counted}
use Rattle.pgo_systems.proofs.Blocks.{section_within}
use Rattle.pgo_systems.proofs.States.{is_value, counted_values, sect_within}
use Rattle.pgo_systems.proofs.StatementCode.{sections_fit}
use Rattle.pgo_systems.proofs.Starts.{definitions_fit, start_counted}
use Rattle.pgo_values.proofs.Trees.{tree_within}
use Rattle.pgo_systems.proofs.values_are_given.Goals as goal

pub returns-clause-values : goal.returns-clause-values
returns-clause-values c e s v l a h = tree_within counted e s l a v h

pub returns-clause-are_values : goal.returns-clause-are_values
returns-clause-are_values c v h = is_value v h

pub returns-clause-sections : goal.returns-clause-sections
returns-clause-sections c k code d t prints seen start l e =
    let all = section_within counted k seen code d t prints start l (inl (λ x. refl)) e in
    (all, counted_values t all)

pub returns-clause-start : goal.returns-clause-start
returns-clause-start c s consts h f = start_counted s consts h f

pub returns-clause-literals : goal.returns-clause-literals
returns-clause-literals c s consts i h f fit = record { definitions = definitions_fit counted s consts h f; sections = sections_fit counted (bound_of s consts) i fit }

pub returns-clause-states : goal.returns-clause-states
returns-clause-states c b k i s t d prints at_k keeps l is e =
    let all = sect_within counted b k i s d t prints at_k l is.state.state is.counted (inl (λ x. refl)) e in
    record { state = c.ends_are_states.ensures.domains b k i s t d prints at_k keeps is.state e (counted_values t all); counted = all }
