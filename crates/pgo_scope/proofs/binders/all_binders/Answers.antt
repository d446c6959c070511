use Rattle.std.proofs.Common.{◌≡◌, ◌++◌, ap, ◌∙◌, arith}
use Rattle.pgo_uses.specs.AllUses.{macro_uses}
use Rattle.pgo_scope.specs.Binders.{binds}
use Rattle.pgo_scope.proofs.BinderLaws.{binders_more, binders_all}
use Rattle.pgo_scope.proofs.binders.all_binders.Goals as goal

pub loop-i-preserved : goal.loop-i-preserved
loop-i-preserved c =
    let here = macro_uses c.loop-i.i c.index-list-i.result in
    let us : c.as_slice.result.now ≡ here = c.as_slice.ensures.value ∙ c.in_ok-add_macro.ensures ∙ ap (λ l. l ++ here) c.new-uses.ensures.items in
    λ j x. binders_more c.args.list.now c.loop-i.i j c.index-list-i.result c.as_slice.result.now x (binds c.loop-i.binders j x) (binds c.add_uses.new.self j x) (omega arith) c.index-list-i.is us (c.in_ok-add_uses.ensures j x) (c.loop-i.invariant j x)

pub returns : goal.returns
returns c = λ j x. binders_all c.args.list.now c.loop-i.i j x (binds c.loop-i.binders j x) (omega arith) (c.loop-i.invariant j x)
