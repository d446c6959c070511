use Rattle.std.proofs.Common.{◌≡◌, map, sym, subst, Err, rules}
use Rattle.pgo_base.specs.View.{data_of}
use Rattle.pgo_model.specs.FunctionSets.{functions_over}
use Rattle.pgo_sets.specs.Answers.{Answers}
use Rattle.pgo_sets.specs.Choices.{choice_of, function_at}
use Rattle.pgo_sets.proofs.Stops.{stopped}
use Rattle.pgo_sets.proofs.Choosing.{over_many, exact_count, over_none, over_some, over_all}
use Rattle.pgo_sets.proofs.Upward.{pushed}
use Rattle.pgo_sets.proofs.function_sets.functions_over.Goals as goal

pub returns-then-count-gt-MOST_MEMBERS : goal.returns-then-count-gt-MOST_MEMBERS
returns-then-count-gt-MOST_MEMBERS c = over_many c.args.choices.now c.count-count.result c.count-count.ensures c.if-count-gt-MOST_MEMBERS.true

pub returns-in_err-function : goal.returns-in_err-function
returns-in_err-function c =
    let cs = c.args.choices.now in
    let k = c.loop-number.number in
    let e : c.from_residual-in_err-function.result ≡ Err c.in_err-function.field-0.0 = search rules in
    let exact = exact_count cs c.count-count.result c.count-count.ensures c.if-count-gt-MOST_MEMBERS.false in
    subst (λ r. Answers r (functions_over (map choice_of cs))) (sym e) (stopped c.in_err-function.field-0.0 (function_at k cs) (functions_over (map choice_of cs)) (λ n. over_none cs c.count-count.result (map data_of c.loop-number.all.items) k exact c.if-count-gt-MOST_MEMBERS.false c.loop-number.invariant c.loop-number-test.true n) c.in_err-function.ensures)

pub loop-number-preserved : goal.loop-number-preserved
loop-number-preserved c =
    let cs = c.args.choices.now in
    let exact = exact_count cs c.count-count.result c.count-count.ensures c.if-count-gt-MOST_MEMBERS.false in
    over_some cs c.count-count.result (map data_of c.loop-number.all.items) (map data_of c.push.new.self.items) c.loop-number.number (data_of c.in_ok-function.field-0) exact c.loop-number.invariant c.loop-number-test.true c.in_ok-function.ensures (pushed c.loop-number.all.items c.push.new.self.items c.in_ok-function.field-0 c.in_ok-push.ensures.items)

pub returns : goal.returns
returns c =
    let cs = c.args.choices.now in
    let exact = exact_count cs c.count-count.result c.count-count.ensures c.if-count-gt-MOST_MEMBERS.false in
    subst (Answers c.set_of.result) (sym (over_all cs c.count-count.result (map data_of c.loop-number.all.items) c.loop-number.number exact c.if-count-gt-MOST_MEMBERS.false c.loop-number.invariant c.loop-number-test.false)) c.set_of.ensures
