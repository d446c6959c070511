-- A key with the set from which the value there comes, and the lists of one member from each of these sets.
use Rattle.std.specs.Prelude.{ℕ, ◌/◌, ◌%◌, false, List, [], ◌∷◌, map, get_or, Option}
use Rattle.pgo_base.specs.Data.{Data, boolean}
use Rattle.pgo_base.specs.View.{data_of}
use Rattle.pgo_model.specs.FunctionSets.{choice_count, paired}
use Rattle.pgo_model.specs.Operators.{function_from}
use Rattle.pgo_sets.specs.declared.choice.Choice.{Choice}

abbrev pub choice_of : Choice → Data × List Data
choice_of c = (data_of c.key, c.members.now)

abbrev pub key_in : Choice → Data
key_in c = data_of c.key

abbrev pub members_in : Choice → List Data
members_in c = c.members.now

-- the list with this number among those of one member from each: the last member goes first to the next
abbrev pub choice_at : ℕ → List (List Data) → List Data
choice_at k [] = []
choice_at k (ms ∷ rest) = get_or ms (k / choice_count rest) (boolean false) ∷ choice_at (k % choice_count rest) rest

-- the pairs of the function with this number, and that function
abbrev pub pairs_at : ℕ → List Choice → List (Data × Data)
pairs_at k cs = paired (map choice_of cs) (choice_at k (map members_in cs))

abbrev pub function_at : ℕ → List Choice → Option Data
function_at k cs = function_from (pairs_at k cs)
