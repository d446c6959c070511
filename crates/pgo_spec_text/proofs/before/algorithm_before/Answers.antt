-- The tokens of the algorithm, by the function on lists: whole, or not.
use Rattle.std.proofs.Common.{◌≡◌, List, ℕ, IfOk, ◌+◌, length, take, drop, ◌∙◌, ap, subst}
use Rattle.pgo_spec_text.specs.Cutting.{body_start}
use Rattle.pgo_spec_text.specs.Prefixes.{IsPartBefore}
use Rattle.pgo_spec_text.proofs.Prefixed.{algorithm_whole, algorithm_not_whole}
use Rattle.pgo_spec_text.proofs.before.algorithm_before.Goals as goal

pub returns-in-Ok-clause-tokens : goal.returns-in-Ok-clause-tokens
returns-in-Ok-clause-tokens c = λ before e.
    algorithm_whole c.args.text.now before c.args.body.now c.args.behind.now c.args.used c.args.fault c.in-Ok.tokens c.marked_before.result e c.requires.small c.in-Ok.ensures.value c.marked_before.ensures.marked

pub returns-in-Err-Syntax-clause-tokens : goal.returns-in-Err-Syntax-clause-tokens
returns-in-Err-Syntax-clause-tokens c = λ before e.
    let text = c.args.text.now in
    let body = c.args.body.now in
    let start = body_start text (body, c.args.behind.now) in
    let P : ℕ → List ℕ → Type 0 = λ n x. IfOk c.part_before.result (IsPartBefore (take n x) (drop n x) c.args.fault) in
    let same = c.body_start-start.ensures.value in
    let front : c.first.result.now ≡ take (start + length body) text = c.first.ensures ∙ ap (λ n. take (n + length body) text) same in
    algorithm_not_whole text before body c.args.behind.now c.args.used c.args.fault c.part_before.result e
    (rw c.in-Err-Syntax.field-0-is at c.in-Err-Syntax.ensures.value)
    (subst (λ n. P n (take (start + length body) text)) same (subst (λ x. P c.body_start-start.result x) front c.part_before.ensures.tokens))
