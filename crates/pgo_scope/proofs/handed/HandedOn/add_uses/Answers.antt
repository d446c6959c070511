use Rattle.std.proofs.Common.{◌≡◌, [], drop, ap, sym, ◌∙◌}
use Rattle.std.proofs.lemmas.List.{drop_all}
use Rattle.pgo_uses.specs.Names.{has_row}
use Rattle.pgo_scope.specs.Binders.{some_binds, is_handed}
use Rattle.pgo_scope.proofs.CaptureLaws.{handed_from, handed_is}
use Rattle.pgo_scope.proofs.handed.HandedOn.add_uses.Goals as goal

pub returns : goal.returns
returns c = λ b p x.
    let v = some_binds b c.args.places.now x in
    let us = c.args.uses.now in
    let n = c.loop-u.u-index in
    let end : drop n us ≡ [] = drop_all n us c.loop-u-test.false in
    ap (handed_from (has_row p c.loop-u.seen) (is_handed b c.loop-u.self p x) v p) (sym end)
    ∙ c.loop-u.invariant b p x
    ∙ handed_is (is_handed b c.args.self.now p x) v p us
