use Rattle.std.proofs.Common.{suc, ap, sym, ◌∙◌, subst}
use Rattle.pgo_base.specs.View.{data_of}
use Rattle.pgo_base.specs.Size.{depth}
use Rattle.pgo_base.specs.Bound.{IsBound}
use Rattle.pgo_base.specs.Falls.{items_depth-items, pairs_depth-pairs}
use Rattle.pgo_base.proofs.extent.extent_of.Goals as goal

pub returns-in-Set : goal.returns-in-Set
returns-in-Set c = subst (IsBound c.extent.result.bound) (ap suc (sym (items_depth-items c.in-Set.s)) ∙ ap (λ v. depth (data_of v)) (sym c.in-Set.is)) c.extent.ensures

pub returns-in-Fun : goal.returns-in-Fun
returns-in-Fun c = subst (IsBound c.extent-in-Fun.result.bound) (ap suc (sym (pairs_depth-pairs c.in-Fun.f)) ∙ ap (λ v. depth (data_of v)) (sym c.in-Fun.is)) c.extent-in-Fun.ensures
