-- When data is a value: a set is a sorted list of members, each once, and a function a list of pairs sorted by key, each
-- key once. How many members a value has at most is tested where one is built.
use Rattle.pgo_base.specs.Data.{Data, boolean, integer, string, model, set, function, Items, no_items, item, members, Pairs, no_pairs, pair, graph, keys}
use Rattle.pgo_base.specs.Sets.{IsSorted}
use Rattle.pgo_model.specs.Operators.{fits_i64}
use Rattle.std.specs.Prelude.{IsTrue}

abbrev mutual
  pub IsValue : Data → Type 0
  IsValue (boolean b) = Unit {0}
  IsValue (integer z) = IsTrue (fits_i64 z)
  IsValue (string s) = Unit {0}
  IsValue (model s) = Unit {0}
  IsValue (set xs) = AreValues xs × IsSorted (members xs)
  IsValue (function ps) = ArePairs ps × IsSorted (keys (graph ps))

  pub AreValues : Items → Type 0
  AreValues no_items = Unit {0}
  AreValues (item x xs) = IsValue x × AreValues xs

  pub ArePairs : Pairs → Type 0
  ArePairs no_pairs = Unit {0}
  ArePairs (pair k v ps) = IsValue k × IsValue v × ArePairs ps
