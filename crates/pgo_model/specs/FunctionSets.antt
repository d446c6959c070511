-- Sets of functions: products, all functions from one set to another, and sets of records. Each is given by its
-- keys in order, and at each key the members of the set from which the value there comes.
use Rattle.std.specs.Prelude.{ℕ, ◌*◌, Bool, true, false, ◌&&◌, List, [], ◌∷◌, length, map, Option, Some, option_map, option_and_then}
use Rattle.pgo_base.specs.Data.{Data, function, graph}
use Rattle.pgo_base.specs.Pairs.{pairs_in_order}
use Rattle.pgo_model.specs.Operators.{both, each, same_data, contains, where_few, set_from, function_from, members_of, sequence_at, choices}

-- the keys, each with the members that the value there may be
abbrev pub Choices : Type 0
Choices = List (Data × List Data)

-- how many lists of one member from each there are
abbrev pub choice_count : List (List Data) → ℕ
choice_count [] = 1
choice_count (ms ∷ rest) = length ms * choice_count rest

-- the pairs of each key and its value
abbrev pub paired : Choices → List Data → List (Data × Data)
paired [] vs = []
paired (c ∷ cs) [] = []
paired (c ∷ cs) (v ∷ vs) = (c.0, v) ∷ paired cs vs

-- the set of all these functions
abbrev pub functions_over : Choices → Option Data
functions_over cs =
    let mss = map (λ c. c.1) cs in
    where_few (choice_count mss) (λ _. option_and_then set_from (each (λ vs. function_from (paired cs vs)) (choices mss)))

-- whether a function with this graph is one of them
abbrev pub graph_fits : Choices → List (Data × Data) → Bool
graph_fits [] [] = true
graph_fits [] (p ∷ ps) = false
graph_fits (c ∷ cs) [] = false
graph_fits (c ∷ cs) (p ∷ ps) = same_data p.0 c.0 && (contains p.1 c.1 && graph_fits cs ps)

-- whether a value is one of them
abbrev pub fits : Choices → Data → Bool
fits cs (function ps) = graph_fits cs (graph ps)
fits cs _ = false

-- the members of the set at each key, where all are sets
abbrev pub choices_of : List (Data × Data) → Option Choices
choices_of = each (λ p. option_map (λ ms. (p.0, ms)) (members_of p.1))

-- a product of sets: its members are sequences
abbrev pub product_choices : List Data → Option Choices
product_choices ss = choices_of (sequence_at 1 ss)

-- all functions from one set to another
abbrev pub function_choices : Data → Data → Option Choices
function_choices x y = both (λ ms ns. Some (map (λ m. (m, ns)) ms)) (members_of x) (members_of y)

-- a set of records, whose fields are strings; of a field that stands twice the left one counts, and the other need be
-- no set
abbrev pub record_choices : List (Data × Data) → Option Choices
record_choices ps = choices_of (pairs_in_order ps)

-- x \X y
abbrev pub product : Data → Data → Option Data
product x y = option_and_then functions_over (product_choices (x ∷ y ∷ []))

-- [x -> y]
abbrev pub functions : Data → Data → Option Data
functions x y = option_and_then functions_over (function_choices x y)
