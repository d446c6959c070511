use Rattle.pgo_values.proofs.Definitions.{definitions_within}
use Rattle.pgo_values.proofs.Trees.{tree_within}
use Rattle.pgo_values.proofs.values_stay_within.Goals as goal

pub returns-clause-values : goal.returns-clause-values
returns-clause-values c limits e s v l a h = tree_within limits e s l a v h

pub returns-clause-definitions : goal.returns-clause-definitions
returns-clause-definitions c limits ds h = definitions_within limits ds h
