use Rattle.std.proofs.Common.{suc, sym, subst}
use Rattle.std.proofs.lemmas.Result.{IfOk-weaker}
use Rattle.pgo_base.specs.Bound.{IsBound}
use Rattle.pgo_base.specs.Size.{graph_size}
use Rattle.pgo_base.specs.ValuePlace.{set_value}
use Rattle.pgo_base.specs.View.{data_of}
use Rattle.pgo_base.proofs.ValuePlaces.{bound_set}
use Rattle.pgo_base.proofs.value.Fun.extent_with.Goals as goal

pub returns : goal.returns
returns c =
    let k = bound_set c.extent.result.bound c.extent_of.result.bound c.args.place (data_of c.args.value.now) c.args.self.now c.extent.ensures c.extent_of.ensures in
    IfOk-weaker c.exchanged.result _ _ (λ e h. subst (λ b. IsBound b (suc (graph_size (set_value c.args.place (data_of c.args.value.now) c.args.self.now)))) (sym h) k) c.exchanged.ensures
