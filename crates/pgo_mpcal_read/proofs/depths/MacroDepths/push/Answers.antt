use Rattle.std.proofs.Common.{◌++◌, ◌∷◌, [], ap, sym, ◌∙◌}
use Rattle.pgo_base.specs.NameMaps.{found}
use Rattle.pgo_mpcal_read.specs.Depths.{first_depth}
use Rattle.pgo_mpcal_read.proofs.FirstDepths.{first_behind}
use Rattle.pgo_mpcal_read.proofs.depths.MacroDepths.push.Goals as goal

pub invariant_of-self-2 : goal.invariant_of-self-2
invariant_of-self-2 c = λ n.
    first_behind (found c.self.inside.first) (found c.set_first.new.self) c.self.inside.list.items c.args.depth c.self.invariant c.in_ok-set_first.ensures.noted n
    ∙ ap (λ ms. first_depth ms n) (ap (λ ms. ms ++ c.args.depth ∷ []) (sym c.reserve.ensures.items) ∙ sym c.push_reserved.ensures.items)
