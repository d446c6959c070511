-- The first number of an index stays.
use Rattle.std.proofs.Common.{cond, Some, sym, ap, ◌∙◌}
use Rattle.pgo_base.specs.View.{data_of}
use Rattle.pgo_model.specs.Operators.{same_data}
use Rattle.pgo_code.specs.Elements.{numbered}
use Rattle.pgo_code.proofs.ElementLaws.{number_stays, number_added}
use Rattle.pgo_code.proofs.elements.number_first.Goals as goal

pub returns-then-contains_key : goal.returns-then-contains_key
unfolding numbered
returns-then-contains_key c = λ v. number_stays (numbered c.args.numbers.now) (data_of c.args.index.now) c.args.number (sym c.if-contains_key.ensures) (data_of v)

pub returns : goal.returns
unfolding numbered
returns c = λ v.
    let m = c.args.numbers.now in
    c.in_ok-insert.ensures.updates.0 v
    ∙ ap (λ x. cond (same_data (data_of x) (data_of v)) (Some c.args.number) (numbered m (data_of v))) c.in_ok-key.ensures
    ∙ number_added (numbered m) (data_of c.args.index.now) c.args.number (sym c.if-contains_key.ensures) (data_of v)
