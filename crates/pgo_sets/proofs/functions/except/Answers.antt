use Rattle.std.proofs.Common.{ap, sym, ◌∙◌, subst}
use Rattle.pgo_base.specs.View.{data_of}
use Rattle.pgo_model.specs.Operators.{except}
use Rattle.pgo_sets.specs.Answers.{Answers}
use Rattle.pgo_sets.proofs.Graphs.{except_is}
use Rattle.pgo_sets.proofs.functions.except.Goals as goal

pub returns-in-Fun : goal.returns-in-Fun
returns-in-Fun c =
    let i = data_of c.args.i.now in
    let v = data_of c.args.v.now in
    subst (Answers c.with_value_at.result) (sym (ap (λ f. except (data_of f) i v) c.in-Fun.is ∙ except_is c.in-Fun.function i v)) c.with_value_at.ensures
