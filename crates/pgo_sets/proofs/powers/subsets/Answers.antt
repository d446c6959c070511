use Rattle.std.proofs.Common.{◌≡◌, ◌<◌, ◌≤◌, ◌^◌, ap, sym, ◌∙◌, subst, length, map, Err, rules, arith}
use Rattle.std.proofs.lemmas.List.{length-map}
use Rattle.pgo_base.specs.View.{data_of}
use Rattle.pgo_model.specs.Operators.{set_from}
use Rattle.pgo_sets.specs.Answers.{Answers}
use Rattle.pgo_sets.specs.Chosen.{powers, subset_at}
use Rattle.pgo_sets.proofs.Stops.{stopped}
use Rattle.pgo_sets.proofs.Subsets.{powers_many, powers_none, powers_some, powers_all}
use Rattle.pgo_sets.proofs.Upward.{pushed}
use Rattle.pgo_sets.proofs.powers.subsets.Goals as goal

pub returns-then-members-gt-MOST_IN_POWER : goal.returns-then-members-gt-MOST_IN_POWER
returns-then-members-gt-MOST_IN_POWER c =
    let vs = c.members-members.result.now in
    ap powers (sym c.members-members.ensures) ∙ powers_many (map data_of vs) (omega (arith, c.if-members-gt-MOST_IN_POWER.true, length-map vs data_of))

pub returns-in_err-subset : goal.returns-in_err-subset
returns-in_err-subset c =
    let vs = c.members-members.result.now in
    let k = c.loop-number.number in
    let e : c.from_residual-in_err-subset.result ≡ Err c.in_err-subset.field-0.0 = search rules in
    let below : k < 2 ^ length vs = omega (arith, c.loop-number-test.true, c.count_subsets-count.ensures) in
    subst (λ r. Answers r (powers c.args.set.now)) (sym e) (stopped c.in_err-subset.field-0.0 (set_from (subset_at k (map data_of vs))) (powers c.args.set.now) (λ n. ap powers (sym c.members-members.ensures) ∙ powers_none vs (map data_of c.loop-number.all.items) k c.if-members-gt-MOST_IN_POWER.false c.loop-number.invariant below n) c.in_err-subset.ensures)

pub loop-number-preserved : goal.loop-number-preserved
loop-number-preserved c =
    let vs = c.members-members.result.now in
    let k = c.loop-number.number in
    let below : k < 2 ^ length vs = omega (arith, c.loop-number-test.true, c.count_subsets-count.ensures) in
    powers_some vs (map data_of c.loop-number.all.items) (map data_of c.push.new.self.items) k (data_of c.in_ok-subset.field-0) c.loop-number.invariant below c.in_ok-subset.ensures (pushed c.loop-number.all.items c.push.new.self.items c.in_ok-subset.field-0 c.in_ok-push.ensures.items)

pub returns : goal.returns
returns c =
    let vs = c.members-members.result.now in
    let k = c.loop-number.number in
    let above : 2 ^ length vs ≤ k = omega (arith, c.loop-number-test.false, c.count_subsets-count.ensures) in
    subst (Answers c.set_of.result) (sym (ap powers (sym c.members-members.ensures) ∙ powers_all vs (map data_of c.loop-number.all.items) k c.if-members-gt-MOST_IN_POWER.false c.loop-number.invariant above)) c.set_of.ensures
