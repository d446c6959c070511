use Rattle.std.proofs.Common.{[], ◌∷◌, ◌+◌, ◌++◌, ℕ, suc, decimal, refl, sym, ap, ◌∙◌, append-nil, add-one}
use Rattle.pgo_bundle.specs.Accounts.{attempt_fields, attempt_lines}
use Rattle.pgo_bundle.specs.View.{attempt_view}
use Rattle.pgo_model.specs.Bundle.{fields}
use Rattle.pgo_model.specs.ModuleText.{Line, line}
use Rattle.pgo_log_write.proofs.Joined.{each_step}
use Rattle.pgo_log_write.proofs.log.push_attempts.Goals as goal

pub loop-i-preserved : goal.loop-i-preserved
loop-i-preserved c =
    let i = c.loop-i.i in
    let x = c.index-attempts-i.result in
    let before = c.loop-i.bytes.items in
    let first : ℕ → Line = λ n. line (fields (decimal n ∷ attempt_fields (attempt_view x))) in
    each_step attempt_view (λ n y. line (fields (decimal n ∷ attempt_fields y)) ∷ []) attempt_lines (λ n y ys. refl) c.args.attempts.now i (suc i) (suc (i + 1)) x before c.push_attempt.new.bytes.items _
    c.loop-i-test.true c.index-attempts-i.is (ap suc (add-one i)) (c.in_ok-push_attempt.ensures ∙ ap (λ n. before ++ first n) (add-one i) ∙ ap (λ t. before ++ t) (sym (append-nil (first (suc i))))) c.loop-i.invariant
