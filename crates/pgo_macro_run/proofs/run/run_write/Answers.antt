use Rattle.std.proofs.Common.{sym, subst}
use Rattle.pgo_base.specs.View.{data_of}
use Rattle.pgo_macro_run.specs.Answers.{WritesSo}
use Rattle.pgo_macro_run.proofs.BlockReads.{writes_itself}
use Rattle.pgo_macro_run.proofs.run.run_write.Goals as goal

pub returns-in-Identity : goal.returns-in-Identity
returns-in-Identity c =
    let ds = c.args.env.defs.now in
    let id = data_of c.args.env.id.now in
    let old = data_of c.args.old.now in
    let v = data_of c.args.v in
    let p = c.args.picks.now in
    subst (λ m. WritesSo m ds id old v p p c.checked.result) (sym c.in-Identity.is) (writes_itself ds id old v p c.checked.result c.checked.ensures)
