use Rattle.std.proofs.Common.{ap, sym, ◌∙◌, subst}
use Rattle.pgo_base.specs.View.{data_of}
use Rattle.pgo_model.specs.Sequences.{append}
use Rattle.pgo_sets.specs.Answers.{Answers}
use Rattle.pgo_sets.proofs.Appending.{append_is}
use Rattle.pgo_sets.proofs.sequences.append_to.Goals as goal

pub returns-in-Fun : goal.returns-in-Fun
returns-in-Fun c =
    let x = data_of c.args.x in
    subst (Answers c.with_behind.result) (sym (append_is c.in-Fun.function x) ∙ ap (λ v. append (data_of v) x) (sym c.in-Fun.is)) c.with_behind.ensures
