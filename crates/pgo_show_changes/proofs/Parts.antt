-- The pairs of a function.
use Rattle.std.proofs.Common.{◌≡◌, List}
use Rattle.pgo_base.specs.Data.{Data, graph, pairs, graph-pairs}

pub graph_of : (ps : List (Data × Data)) → graph (pairs ps) ≡ ps
graph_of ps = graph-pairs ps
