use Rattle.std.proofs.Common.{ap, ◌∙◌, arith}
use Rattle.pgo_base.specs.Tree.{tuple, trees}
use Rattle.pgo_rewrite.proofs.Counts.{several}
use Rattle.pgo_rewrite.proofs.walk.index_of.Goals as goal

pub returns-then-len-ne1 : goal.returns-then-len-ne1
returns-then-len-ne1 c = ap (λ l. tuple (trees l)) c.from_vec.ensures ∙ several c.args.list.items (λ h. omega arith)
