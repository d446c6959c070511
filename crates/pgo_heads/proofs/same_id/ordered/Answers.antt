use Rattle.pgo_heads.proofs.Ordered.{sorted_ordered}
use Rattle.pgo_heads.proofs.same_id.ordered.Goals as goal

pub returns : goal.returns
returns c = sorted_ordered c.args.values.items c.sort.new.self.items c.in_ok-sort.ensures.permutation c.in_ok-sort.ensures.sorted
