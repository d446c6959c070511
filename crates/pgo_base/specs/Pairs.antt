-- Pairs of a key and its value, in the order of the keys, each key once.
use Rattle.std.specs.Prelude.{List, [], ◌∷◌}
use Rattle.std.specs.Ordering.{match_ordering}
use Rattle.pgo_base.specs.Data.{Data}
use Rattle.pgo_base.specs.Order.{data_cmp}

-- a pair put in order of the keys, in place of one with its key
abbrev pub insert_pair : Data × Data → List (Data × Data) → List (Data × Data)
insert_pair p [] = p ∷ []
insert_pair p (q ∷ qs) = match_ordering (data_cmp p.0 q.0) (p ∷ q ∷ qs) (p ∷ qs) (q ∷ insert_pair p qs)

-- the pairs in order of the keys; of several with one key the first counts
abbrev pub pairs_in_order : List (Data × Data) → List (Data × Data)
pairs_in_order [] = []
pairs_in_order (p ∷ ps) = insert_pair p (pairs_in_order ps)
