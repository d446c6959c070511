use Rattle.std.proofs.Common.{rules, of_calls, ◌≡◌, true, [], ◌++◌, option_map, ap, sym, ◌∙◌}
use Rattle.pgo_base.specs.ExprView.{tree}
use Rattle.pgo_uses.specs.Uses.{inside}
use Rattle.pgo_scope.specs.NameUsage.{usage_of}
use Rattle.pgo_scope.specs.Usage.{join, left_shape, left_uses, either_usage, usage_if, reads, base_usage, writes_at}
use Rattle.pgo_scope.proofs.Gathering.{either_assoc, reads_after}
use Rattle.pgo_scope.proofs.macro_table.add_write_if.Goals as goal

pub returns : goal.returns
returns c = λ p.
    let w = usage_of c.args.found.now p in
    let a = c.args.around in
    let s = c.args.shape in
    let t = tree c.args.e.now in
    let is : c.args.is ≡ true = search (rules, of_calls) in
    let us : c.as_slice.result.now ≡ left_uses [] (inside a) t = c.as_slice.ensures.value ∙ c.in_ok-add_left_uses.ensures ∙ (λ i. c.new-uses.ensures.items i ++ left_uses [] (c.plainly.ensures i) t) in
    let shape : c.join.result ≡ join (left_shape t) s = c.join.ensures ∙ ap (λ h. join h s) c.left_shape.ensures in
    c.in_ok-add_reads.ensures p
    ∙ reads_after (usage_of c.add_base.new.found p) p c.as_slice.result.now
    ∙ (λ i. either_usage (c.in_ok-add_base.ensures p i) (reads p (us i)))
    ∙ either_assoc w (base_usage p (option_map (λ x. x.now) c.left_base.result) c.join.result) (reads p (left_uses [] (inside a) t))
    ∙ (λ i. either_usage w (either_usage (base_usage p (c.left_base.ensures i) (shape i)) (reads p (left_uses [] (inside a) t))))
    ∙ sym (ap (λ z. either_usage w (usage_if z (writes_at s a p t))) is)
