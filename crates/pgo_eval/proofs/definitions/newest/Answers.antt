use Rattle.std.proofs.Common.{get_or, ap, ◌∙◌, arith}
use Rattle.pgo_base.specs.declared.module.Defined.{Defined}
use Rattle.std.proofs.Common.{List, take, length}
use Rattle.pgo_eval.proofs.NewestFound.{newest_at, is_in, none_found}
use Rattle.pgo_eval.proofs.definitions.newest.Goals as goal

pub returns-in-Some-get : goal.returns-in-Some-get
returns-in-Some-get c =
    let d = c.in-Some-get.definition.now in
    newest_at c.args.x.now c.args.defs.now c.args.count c.in-Some.before d c.in-Some.ensures
    (c.in-Some-get.ensures.lookup.1 ∙ ap (λ (ds : List Defined). get_or ds c.in-Some.before d) c.as_slice.ensures)

pub returns-in-None-get : goal.returns-in-None-get
returns-in-None-get c =
    absurd (omega (arith, is_in c.args.x.now c.args.defs.now c.args.count c.in-Some.before c.in-Some.ensures, c.in-None-get.ensures.lookup.3, ap (λ (ds : List Defined). length ds) c.as_slice.ensures))

pub returns-in-None : goal.returns-in-None
returns-in-None c = none_found c.args.x.now (take c.args.count c.args.defs.now) c.in-None.ensures
