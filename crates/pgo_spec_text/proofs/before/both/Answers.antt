-- Both lists, where the function on lists ends the header before the fault.
use Rattle.std.proofs.Common.{◌≡◌, ◌-◌, ◌∙◌, None, Some, drop, is_some, false, refl, sym, ap, subst, arith}
use Rattle.pgo_spec_text.specs.Prefixes.{IsAlgorithmBefore}
use Rattle.pgo_spec_text.specs.Searching.{inside}
use Rattle.pgo_spec_text.specs.SpecText.{most_tokens}
use Rattle.pgo_spec_text.proofs.Prefixed.{ends_behind, comment_there, header_counted, both_by}
use Rattle.pgo_spec_text.proofs.before.both.Goals as goal

pub returns-then-fault-at-clause-tokens : goal.returns-then-fault-at-clause-tokens
returns-then-fault-at-clause-tokens c = λ e.
    c.header_alone.ensures.tokens (ends_behind c.args.text.now c.args.start c.args.fault c.args.head c.requires.within e (omega arith))

pub returns-in-None-clause-tokens : goal.returns-in-None-clause-tokens
returns-in-None-clause-tokens c = λ e.
    absurd (let there = comment_there c.args.text.now c.args.start c.args.head c.requires.within e in
    let none : inside (drop c.args.head.at c.args.text.now) ≡ None = ap inside (sym c.skip.ensures.value) ∙ sym c.in-None.ensures.value in
    let q : is_some (inside (drop c.args.head.at c.args.text.now)) ≡ false = ap is_some none in
    cc)

pub returns-in_ok-algorithm_before-in-Some-clause-tokens :
    goal.returns-in_ok-algorithm_before-in-Some-clause-tokens
returns-in_ok-algorithm_before-in-Some-clause-tokens c = λ e.
    let text = c.args.text.now in
    let head = c.args.head in
    let body = c.in-Some.body.now in
    let behind = c.in-Some.behind.now in
    let a = c.in_ok-algorithm_before-in-Some.field-0 in
    let there : inside (drop head.at text) ≡ Some (body, behind) = ap inside (sym c.skip.ensures.value) ∙ sym c.in-Some.ensures.value in
    let counted = header_counted text c.args.start head c.requires.within c.requires.small e in
    both_by text body behind c.args.start c.args.fault head (record { header = c.in_ok-header.header; algorithm = Some a }) a c.requires.within e there (omega arith)
    (c.in_ok-header.ensures.marked counted) refl
    (λ before q. subst (λ n. IsAlgorithmBefore before body (most_tokens - n) c.args.fault a) c.len-used.ensures (c.in_ok-algorithm_before-in-Some.ensures.tokens before q))
