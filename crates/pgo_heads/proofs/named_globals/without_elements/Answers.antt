use Rattle.std.proofs.Common.{◌≡◌, ◌-◌, map, drop, arith, ap, sym, ◌∙◌, false}
use Rattle.std.specs.Prelude.{unwrap_or}
use Rattle.pgo_heads.specs.NameMaps.{found}
use Rattle.pgo_heads.specs.Refusals.{names_no_elements}
use Rattle.pgo_heads.specs.Views.{global_view}
use Rattle.pgo_heads.proofs.NamedGlobals.{none_left, one_more}
use Rattle.pgo_heads.proofs.named_globals.without_elements.Goals as goal

pub loop-i-init : goal.loop-i-init
loop-i-init c =
    (λ n. ap (λ o. unwrap_or o false) (c.new-known.ensures n) ∙ sym (none_left c.args.list.now _ n (omega arith)), omega arith)

pub loop-i-preserved : goal.loop-i-preserved
loop-i-preserved c = (
  λ n. one_more c.args.list.now (c.loop-i.i - 1) c.loop-i.i c.index-list-i.result n (found c.loop-i.known n) (found c.put_first.new.known n)
      (omega (arith, c.loop-i.invariant.1)) (omega arith) c.index-list-i.is (c.in_ok-put_first.ensures n) (c.loop-i.invariant.0 n),
  omega (arith, c.loop-i.invariant.1),
)

pub returns : goal.returns
returns c =
    let z : c.loop-i.i ≡ 0 = omega arith in
    λ n. c.loop-i.invariant.0 n ∙ ap (λ i. names_no_elements (map global_view (drop i c.args.list.now)) n) z
