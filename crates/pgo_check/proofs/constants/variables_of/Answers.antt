use Rattle.std.proofs.Common.{◌+◌, ◌∷◌, map, drop, ap, sym, ◌∙◌}
use Rattle.std.proofs.lemmas.List.{drop_more, drop_all}
use Rattle.pgo_base.specs.Lookup.{find}
use Rattle.pgo_base.specs.View.{data_of, named_data}
use Rattle.pgo_check.proofs.ConstantDefinitions.{variable_more}
use Rattle.pgo_check.proofs.constants.variables_of.Goals as goal

pub loop-p-init : goal.loop-p-init
loop-p-init c = λ x h. ap (find x) (sym c.as_slice-p-items.ensures)

pub loop-p-preserved : goal.loop-p-preserved
loop-p-preserved c =
    let i = c.loop-p.p-index in
    let ps = c.as_slice-p-items.result.now in
    let p = c.p-item.result in
    let next = drop_more ps i p c.loop-p-test.true ∙ ap (λ q. q ∷ drop (i + 1) ps) (sym c.p-item.is) in
    λ x h. variable_more c.loop-p.names c.set.new.self tt c.args.s.now p.0 (data_of p.1) (map named_data (drop (i + 1) ps)) c.in_ok-set.ensures.noted (λ y f. c.loop-p.invariant y f ∙ ap (λ l. find y (map named_data l)) next) x h

pub returns : goal.returns
returns c = λ x h. c.loop-p.invariant x h ∙ ap (λ l. find x (map named_data l)) (drop_all c.loop-p.p-index c.as_slice-p-items.result.now c.loop-p-test.false)
