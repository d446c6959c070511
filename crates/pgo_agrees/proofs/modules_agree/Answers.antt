use Rattle.std.proofs.Common.{sym, subst}
use Rattle.pgo_bound.specs.BoundOf.{bound_of}
use Rattle.pgo_translate.specs.Agrees.{Agrees}
use Rattle.pgo_translate.specs.ModuleOf.{module_with, constants_with}
use Rattle.pgo_agrees.proofs.Limits.{small}
use Rattle.pgo_agrees.proofs.modules_agree.Goals as goal

pub returns : goal.returns
returns c text s consts p spells passes values is =
    let accepted = c.texts_are_accepted.ensures.accepted text s consts spells passes.names passes.labels passes.binding in
    subst (λ q. Agrees (module_with q) (constants_with s consts) (bound_of s consts)) (sym is) (c.module_agrees.ensures s consts (c.module_premises_hold.ensures.all s consts accepted (small s passes.limits) values))
