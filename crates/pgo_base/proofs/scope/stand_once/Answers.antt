use Rattle.std.proofs.Common.{◌≡◌, ◌<◌, ◌-◌, ◌+◌, ◌∷◌, length, map, drop, ap, sym, ◌∙◌, subst, arith}
use Rattle.std.specs.Prelude.{true, cond, Some, is_some}
use Rattle.pgo_base.specs.Lists.{StandOnce}
use Rattle.pgo_base.specs.NameMaps.{found, has_name}
use Rattle.pgo_base.specs.Lookup.{Name, same_name}
use Rattle.pgo_base.specs.States.{name_in}
use Rattle.pgo_base.specs.View.{named_data}
use Rattle.pgo_base.proofs.NamesOnce.{Covers, drop_step, noted_more, one_more}
use Rattle.pgo_base.proofs.scope.stand_once.Goals as goal

noted : (c : goal.In_ok-set) (x : Name) → has_name c.set.new.self x ≡ cond (same_name x c.index-list-i.result.0) true (has_name c.loop-i.names x)
noted c x =
    ap is_some (c.in_ok-set.ensures.noted x)
    ∙ ap (λ q. is_some (cond (same_name x q.0) (Some tt) (found c.loop-i.names x))) (sym c.index-list-i.is)
    ∙ noted_more (same_name x c.index-list-i.result.0) tt (found c.loop-i.names x)

pub loop-i-preserved : goal.loop-i-preserved
loop-i-preserved c =
    let list = c.args.list.now in
    let k = c.loop-i.i - 1 in
    let p = c.index-list-i.result in
    let old = c.loop-i.names in
    let new = c.set.new.self in
    let n : k < length list = omega (arith, c.loop-i.invariant.2, c.loop-i-test.true) in
    let j : k + 1 ≡ c.loop-i.i = omega (arith, c.loop-i-test.true) in
    let d : drop k list ≡ p ∷ drop c.loop-i.i list = drop_step list k p n c.index-list-i.is ∙ ap (λ q. p ∷ drop q list) j in
    let m = one_more (has_name old) (has_name new) p (drop c.loop-i.i list) c.loop-i.invariant.0 (ap (λ q. has_name old q.0) c.index-list-i.is ∙ sym c.contains.ensures ∙ c.if-contains.false) (noted c) c.loop-i.invariant.1 in (
      subst (Covers (has_name new)) (sym d) m.0,
      subst (λ vs. StandOnce (map name_in (map named_data vs))) (sym d) m.1,
      omega (arith, n),
    )
