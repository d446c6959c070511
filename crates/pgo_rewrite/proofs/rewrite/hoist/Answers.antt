use Rattle.std.proofs.Common.{ap}
use Rattle.pgo_base.specs.ExprView.{tree}
use Rattle.pgo_meaning.specs.Parameters.{all_mapped}
use Rattle.pgo_rewrite.proofs.RewrittenLaws.{hoists}
use Rattle.pgo_rewrite.specs.Views.{read_views}
use Rattle.pgo_rewrite.proofs.rewrite.hoist.Goals as goal

pub returns : goal.returns
returns c =
    hoists (all_mapped c.args.bindings.now) _ (tree c.args.e.now) c.args.used _ _ _ _ c.new-scope.ensures (ap read_views c.new.ensures.items)
    c.in_ok-rest.ensures.rest c.in_ok-rest.ensures.reads c.in_ok-rest.ensures.used
