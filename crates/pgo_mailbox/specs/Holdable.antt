-- Values that a queue can hold.
use Rattle.std.specs.Prelude.{◌≡◌, ◌≤◌, List, [], length, Some}
use Rattle.pgo_base.specs.Data.{Data, function, graph}
use Rattle.pgo_model.specs.Sequences.{elements}
use Rattle.pgo_mailbox.specs.Queues.{Fits}

-- a sequence of few enough messages
abbrev pub IsShort : Data → Type 0
IsShort v = (xs : List Data) × (elements v ≡ Some xs) × (length xs ≤ 65536)

abbrev pub Holdable : Data → Type 0
Holdable v = (xs : List Data) × (elements v ≡ Some xs) × Fits xs

-- the pairs of a function
abbrev pub pairs_in : Data → List (Data × Data)
pairs_in (function ps) = graph ps
pairs_in _ = []
