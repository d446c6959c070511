use Rattle.std.proofs.Common.{true, false, ap, ◌∙◌}
use Rattle.pgo_base.specs.ExprView.{tree}
use Rattle.pgo_uses.specs.declared.uses.Shape.TheVariants.{Bare, OneIndex, Further}
use Rattle.pgo_scope.specs.NameUsage.{usage_of}
use Rattle.pgo_scope.specs.Usage.{either_usage, usage_if, reads_at, writes_at}
use Rattle.pgo_scope.proofs.Gathering.{seven}
use Rattle.pgo_scope.proofs.macro_table.add_passed.Goals as goal

pub returns : goal.returns
returns g = λ p.
    let w = g.args.w in
    let r = g.args.around in
    let t = tree g.args.e.now in
    let a = usage_if w.plain (reads_at false false r p t) in
    let b = usage_if w.indexed (reads_at false true r p t) in
    let c = usage_if w.hidden (reads_at true false r p t) in
    let d = usage_if w.hidden_indexed (reads_at true true r p t) in
    let e = usage_if w.bare (writes_at Bare r p t) in
    let f = usage_if w.one_index (writes_at OneIndex r p t) in
    let h = usage_if w.further (writes_at Further r p t) in
    let two = g.in_ok-add_read_if-2.ensures p ∙ ap (λ z. either_usage z b) (g.in_ok-add_read_if.ensures p) in
    let three = g.in_ok-add_read_if-3.ensures p ∙ ap (λ z. either_usage z c) two in
    let four = g.in_ok-add_read_if-4.ensures p ∙ ap (λ z. either_usage z d) three in
    let five = g.in_ok-add_write_if.ensures p ∙ ap (λ z. either_usage z e) four in
    let six = g.in_ok-add_write_if-2.ensures p ∙ ap (λ z. either_usage z f) five in
    g.in_ok-add_write_if-3.ensures p ∙ ap (λ z. either_usage z h) six ∙ seven (usage_of g.args.found.now p) a b c d e f h
