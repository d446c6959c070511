use Rattle.std.proofs.Common.{◌++◌, map, drop, ap, ◌∙◌, arith}
use Rattle.pgo_base.specs.ExprView.{tree}
use Rattle.pgo_scope.specs.Binders.{some_binds}
use Rattle.pgo_scope.specs.Twice.{captured_at}
use Rattle.pgo_scope.proofs.CaptureLaws.{captured_more, captured_last}
use Rattle.pgo_scope.proofs.captures.add_captured_in.Goals as goal

pub loop-i-preserved : goal.loop-i-preserved
loop-i-preserved c =
    let see = some_binds c.args.binders.now in
    let k = c.args.captures.now in
    let e = c.index-args-i.result in
    let out = c.loop-i.out.items in
    captured_more see k.own k.handed.items c.args.around c.args.args.now c.loop-i.i e out c.add_captured_at.new.out.items _ (omega arith) c.index-args-i.is
    (c.in_ok-add_captured_at.ensures ∙ ap (λ s. out ++ captured_at (see s) c.args.around (tree e)) c.places_at-places.ensures)
    c.loop-i.invariant

pub returns : goal.returns
returns c =
    let see = some_binds c.args.binders.now in
    let k = c.args.captures.now in
    captured_last (map see (drop c.loop-i.i k.handed.items)) (see k.own) c.args.around c.args.args.now c.loop-i.i c.loop-i.out.items _ (omega arith) c.loop-i.invariant
