use Rattle.std.proofs.Common.{suc, sym, subst, [], ◌∷◌, ◌++◌}
use Rattle.std.proofs.lemmas.Result.{IfOk-weaker}
use Rattle.pgo_base.specs.Bound.{IsBound}
use Rattle.pgo_base.specs.Data.{Data}
use Rattle.pgo_base.specs.Size.{graph_size}
use Rattle.pgo_base.specs.View.{data_of}
use Rattle.pgo_base.proofs.ValuePlaces.{bound_behind}
use Rattle.pgo_base.proofs.value.Fun.extent_behind.Goals as goal

pub returns : goal.returns
returns c =
    let p : Data × Data = (data_of c.args.key.now, data_of c.args.value.now) in
    let k = bound_behind c.extent.result.bound c.extent_of.result.bound c.extent_of-2.result.bound p.0 p.1 c.args.self.now c.extent.ensures c.extent_of.ensures c.extent_of-2.ensures in
    IfOk-weaker c.and_more.result _ _ (λ e h. subst (λ b. IsBound b (suc (graph_size (c.args.self.now ++ p ∷ [])))) (sym h) k) c.and_more.ensures
