use Rattle.std.proofs.Common.{sym, subst}
use Rattle.pgo_base.specs.View.{data_of}
use Rattle.pgo_macro_run.specs.Answers.{ReadsSo}
use Rattle.pgo_macro_run.proofs.BlockReads.{reads_itself}
use Rattle.pgo_macro_run.proofs.run.run_read.Goals as goal

pub returns-in-Identity : goal.returns-in-Identity
returns-in-Identity c =
    let ds = c.args.env.defs.now in
    let id = data_of c.args.env.id.now in
    let old = data_of c.args.old.now in
    let p = c.args.picks.now in
    subst (λ m. ReadsSo m ds id old p p c.read_itself.result) (sym c.in-Identity.is) (reads_itself ds id old p c.read_itself.result c.read_itself.ensures)
