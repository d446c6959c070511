use Rattle.std.proofs.Common.{◌≡◌, ◌∙◌, suc, false, ap, sym, subst, arith}
use Rattle.std.specs.Prelude.{IfOk}
use Rattle.pgo_syntax.specs.Statement.{labeled}
use Rattle.pgo_syntax.specs.StatementSize.{height, labeled_height}
use Rattle.pgo_syntax.specs.StatementView.{statement}
use Rattle.pgo_labels.specs.NeedsLabel as spec
use Rattle.pgo_labels.proofs.Lasts.{IsLast, is_last}
use Rattle.pgo_labels.proofs.needs_label.+jumps.Goals as goal

pub jumps-requires-in-Some : goal.jumps-requires-in-Some
jumps-requires-in-Some t c =
    let last : IsLast c.as_slice.result.now c.in-Some.last.now = is_last _ _ c.in-Some.ensures.value in
    let whole : height (statement c.args.s.now) ≡ suc (labeled_height (labeled c.in-Block.block)) = ap (λ s. height (statement s)) c.in-Block.is in
    let block = ap (λ b. labeled_height (labeled b)) c.as_slice.ensures in
    (omega (arith, last.low, whole, block), tt)

pub returns-in-Some : goal.returns-in-Some
returns-in-Some t c =
    let last : IsLast c.as_slice.result.now c.in-Some.last.now = is_last _ _ c.in-Some.ensures.value in
    subst (λ x. IfOk c.jumps-in-Some.result (λ b. b ≡ x))
    (sym (ap (λ s. spec.jumps (statement s)) c.in-Block.is ∙ ap (λ b. spec.last_jumps false (labeled b)) (sym c.as_slice.ensures) ∙ last.decides false))
    c.jumps-in-Some.ensures
