-- What is left of an attempt before its first event.
use Rattle.std.proofs.Common.{◌≡◌, ℕ, List, [], ap}
use Rattle.pgo_model.specs.Outcome.{NoValue, most_leaves}
use Rattle.pgo_model.specs.System.{Words}
use Rattle.pgo_tries.specs.Sections.{along}
use Rattle.pgo_workers.specs.Tried.{LeafTree, and_then, on_end, trying}
use Rattle.pgo_workers.specs.Walk.{Stop, Sticks}
use Rattle.pgo_accesses.specs.Accesses.{no_value}

-- where there is no value
pub no_walk : (leaf : List ℕ → LeafTree) (first : Words) → leaf [] ≡ no_value → trying leaf first most_leaves [] ≡ Stop (Sticks NoValue)
no_walk leaf first e = ap (λ t. and_then t (on_end first (λ q. trying leaf first 65535 q))) e

-- at the first leaf
pub first_walk : (first now : Words) (w : LeafTree) (again leaf : Words → LeafTree) → now ≡ first → w ≡ leaf first → ((d : Words) → again d ≡ leaf d)
    → and_then w (on_end now (λ path. trying (λ path. again (along 0 path now)) now 65535 path)) ≡ trying (λ path. leaf (along 0 path first)) first most_leaves []
first_walk first now w again leaf f e h = λ j. and_then (e j) (on_end (f j) (λ path. trying (λ path. h (along 0 path (f j)) j) (f j) 65535 path))

pub leaves_same : (first : Words) (leaf other : List ℕ → LeafTree) → ((path : List ℕ) → leaf path ≡ other path) → trying leaf first most_leaves [] ≡ trying other first most_leaves []
leaves_same first leaf other h = λ j. trying (λ path. h path j) first most_leaves []
