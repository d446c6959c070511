use Rattle.std.proofs.Common.{◌≡◌, ◌+◌, ◌/◌, ◌++◌, [], ◌∷◌, ap, ◌∙◌, subst, sym, map}
use Rattle.pgo_base.specs.View.{data_of}
use Rattle.pgo_sets.proofs.Subsets.{ChosenFrom, chosen_in, chosen_out}
use Rattle.pgo_sets.proofs.Upward.{pushed}
use Rattle.pgo_sets.proofs.powers.subset.Goals as goal
use Rattle.pgo_sets.proofs.powers.subset.Goals.{then-rest-half+in_ok-copy+in_ok-push, else-rest-half}

pub loop-m-preserved : goal.loop-m-preserved
loop-m-preserved c =
    let vs = c.args.members.now in
    let done = map data_of c.loop-m.some.items in
    let i = c.loop-m.m-index in
    let m = c.m-item.result in
    elim c.if-rest-half.branch [
      | then-rest-half+in_ok-copy+in_ok-push w ↦
          let next : map data_of c.if-rest-half.some.items ≡ done ++ data_of m ∷ [] =
          pushed c.loop-m.some.items c.if-rest-half.some.items w.in_ok-copy.field-0 (ap (λ s. s.items) w.some-is ∙ w.in_ok-push.ensures.items) ∙ ap (λ v. done ++ data_of v ∷ []) w.in_ok-copy.ensures in
          subst (λ r. ChosenFrom c.args.number vs (map data_of c.if-rest-half.some.items) r (c.loop-m.half / 2) (i + 1)) (sym w.rest-is) (chosen_in c.args.number vs done _ c.loop-m.rest c.loop-m.half i m c.loop-m.invariant c.loop-m-test.true c.m-item.is w.if-rest-half.true next)
      | else-rest-half w ↦
          subst (λ s. ChosenFrom c.args.number vs (map data_of s.items) c.if-rest-half.rest (c.loop-m.half / 2) (i + 1)) (sym w.some-is) (chosen_out c.args.number vs done c.loop-m.rest _ c.loop-m.half i m c.loop-m.invariant c.loop-m-test.true c.m-item.is w.if-rest-half.false w.rest-is)
    ]
