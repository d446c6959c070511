use Rattle.std.proofs.Common.{rules, ◌∙◌, sym, subst, Some}
use Rattle.pgo_words.specs.FailureItems.{FailuresOnly, ReadsPairs}
use Rattle.pgo_words.proofs.FailureReads.{reads_start, reads_step, reads_none, last_some, last_none}
use Rattle.pgo_words.proofs.failures.read_failures.Goals as goal

pub loop-first-init : goal.loop-first-init
loop-first-init c = (c.utf8.text, subst (λ l. ReadsPairs c.args.text.now l c.args.text.now) (sym c.new-pairs.ensures.items) (reads_start c.args.text.now))

pub returns-in-None : goal.returns-in-None
returns-in-None c =
    reads_none c.args.text.now c.loop-first.pairs.items c.loop-first.rest.now c.loop-first.invariant.1
    (c.in-Some.first, c.in-Some.later) c.in-Some.ensures c.in-None.ensures

pub loop-first-preserved : goal.loop-first-preserved
loop-first-preserved c = (
  search rules,
  subst (λ l. ReadsPairs c.args.text.now l c.in-Some.later.now) (sym c.in_ok-push-in-Some-read_failure.ensures.items)
      (reads_step c.args.text.now c.loop-first.pairs.items c.loop-first.rest.now c.loop-first.invariant.1
      (c.in-Some.first, c.in-Some.later) c.in-Some-read_failure.pair c.in-Some.ensures c.in-Some-read_failure.ensures),
)

pub returns-in_ok-push-in-Some-read_failure-2 : goal.returns-in_ok-push-in-Some-read_failure-2
returns-in_ok-push-in-Some-read_failure-2 c =
    subst (λ ps. FailuresOnly (Some c.args.text.now) (Some ps)) (sym (c.from_vec.ensures ∙ c.in_ok-push-in-Some-read_failure-2.ensures.items))
    (last_some c.args.text.now c.loop-first.pairs.items c.loop-first.rest.now c.loop-first.invariant.1
    c.in-Some-read_failure-2.pair c.in_default.ensures c.in-Some-read_failure-2.ensures)

pub returns-in-None-read_failure : goal.returns-in-None-read_failure
returns-in-None-read_failure c =
    last_none c.args.text.now c.loop-first.pairs.items c.loop-first.rest.now c.loop-first.invariant.1 c.in_default.ensures c.in-None-read_failure.ensures
