use Rattle.std.proofs.Common.{rules, ◌<◌, ◌≤◌, ◌+◌, ◌^◌, length, map, drop, sym, subst, ◌∙◌}
use Rattle.std.proofs.lemmas.List.{drop_all}
use Rattle.pgo_bundle.specs.View.{attempt_view}
use Rattle.pgo_show_text.specs.Causes.{all_counted}
use Rattle.pgo_show_text.proofs.Counted.{AreKeptAt, refused_on, other_on, at_end}
use Rattle.pgo_show_text.proofs.causes.causes.Goals.{then-is_refused+in_ok-count_one, else-is_refused}
use Rattle.pgo_show_text.proofs.causes.causes.Goals as goal

pub loop-attempt-preserved : goal.loop-attempt-preserved
loop-attempt-preserved c =
    let xs = c.args.attempts.now in let k = c.loop-attempt.attempt-index in let cs = c.loop-attempt.found.items in let a = c.attempt-item.result in
    elim c.if-is_refused.branch [
      | then-is_refused+in_ok-count_one w ↦
          subst (λ f. AreKeptAt (map attempt_view xs) (map attempt_view (drop (k + 1) xs)) f.items (k + 1)) (sym w.found-is)
          (refused_on attempt_view xs k a cs _ c.loop-attempt-test.true c.attempt-item.is (sym c.is_refused.ensures ∙ w.if-is_refused.true) w.in_ok-count_one.ensures c.loop-attempt.invariant)
      | else-is_refused w ↦
          subst (λ f. AreKeptAt (map attempt_view xs) (map attempt_view (drop (k + 1) xs)) f.items (k + 1)) (sym w.found-is)
          (other_on attempt_view xs k a cs c.loop-attempt-test.true c.attempt-item.is (sym c.is_refused.ensures ∙ w.if-is_refused.false) c.loop-attempt.invariant)
    ]

pub returns : goal.returns
returns c =
    let xs = c.args.attempts.now in let k = c.loop-attempt.attempt-index in let cs = c.loop-attempt.found.items in
    let past : length xs ≤ k = search in
    let small : all_counted cs < 2 ^ 64 = search rules in
    let end = at_end attempt_view xs (drop k xs) cs (drop_all k xs past) (c.loop-attempt.invariant.0, c.loop-attempt.invariant.1) in
    (end.0, end.1, small)
