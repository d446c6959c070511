use Rattle.std.proofs.Common.{◌≡◌, is_none, false, rules, map, ap, sym, ◌∙◌, subst}
use Rattle.pgo_base.specs.View.{data_of, pair_of}
use Rattle.pgo_model.specs.Operators.{replace_at, function_of}
use Rattle.pgo_sets.specs.Answers.{Answers}
use Rattle.pgo_sets.specs.Replaced.{with_value}
use Rattle.pgo_sets.proofs.Graphs.{with_value_there, function_sorted}
use Rattle.pgo_sets.proofs.functions.with_value_at.Goals as goal

pub returns : goal.returns
returns c =
    let k = data_of c.args.key.now in
    let v = data_of c.args.value.now in
    let none : is_none c.value_at.result ≡ false = search rules in
    let there : with_value k v c.args.function.now ≡ function_of (replace_at k v c.args.function.now) = with_value_there c.value_at.result (λ r. data_of r.now) k v c.args.function.now none c.value_at.ensures in
    subst (Answers c.sorted_function.result) (function_sorted (map pair_of c.in_ok-replaced.field-0.items) c.in_ok-replaced.ensures.sorted ∙ ap function_of c.in_ok-replaced.ensures.pairs ∙ sym there) c.sorted_function.ensures
