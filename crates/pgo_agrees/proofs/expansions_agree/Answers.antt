use Rattle.std.proofs.Common.{◌∙◌, ap, sym, subst, ◌↔◌}
use Rattle.pgo_bound.specs.BoundOf.{bound_of}
use Rattle.pgo_bound.specs.State.{id_of}
use Rattle.pgo_meaning.specs.Sect.{Allows}
use Rattle.pgo_meaning.specs.TreeAllows.{TreeAllows}
use Rattle.pgo_agrees.proofs.Limits.{small, trees_are}
use Rattle.pgo_agrees.specs.Trees.{trees_in}
use Rattle.pgo_agrees.proofs.expansions_agree.Goals as goal

pub returns : goal.returns
returns c = λ text s consts p k i l t u spells passes is at_k is_l is_t is_u at_l.
    subst (λ ts. TreeAllows ts (bound_of s consts) l (id_of i) t u ↔ Allows (bound_of s consts) k t u)
    (sym (ap trees_in is ∙ trees_are s))
    (c.accepted_trees_agree.ensures s consts k i l t u (c.texts_are_accepted.ensures.accepted text s consts spells passes.names passes.labels passes.binding) (small s passes.limits) at_k is_l is_t is_u at_l)
