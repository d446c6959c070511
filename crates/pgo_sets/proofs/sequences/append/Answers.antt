use Rattle.std.proofs.Common.{ap, sym, ◌∙◌, subst}
use Rattle.pgo_base.specs.View.{data_of}
use Rattle.pgo_model.specs.Sequences.{append}
use Rattle.pgo_sets.specs.Answers.{Answers}
use Rattle.pgo_sets.proofs.Appending.{Longer, append_is}
use Rattle.pgo_sets.proofs.sequences.append.Goals as goal

pub returns-in_ok-copy-in-Fun-2 : goal.returns-in_ok-copy-in-Fun-2
returns-in_ok-copy-in-Fun-2 c =
    let x = data_of c.args.x.now in
    subst (Answers c.with_behind.result) ((λ i. Longer (c.in_ok-copy-in-Fun.ensures i) (data_of (c.in_ok-copy-in-Fun-2.ensures i))) ∙ sym (append_is c.in-Fun.function x) ∙ ap (λ v. append (data_of v) x) (sym c.in-Fun.is)) c.with_behind.ensures
