use Rattle.std.proofs.Common.{◌≡◌, ◌++◌, [], ◌∷◌, List, drop, ◌+◌, ap, ◌∙◌, sym, arith}
use Rattle.std.specs.Prelude.{◌||◌, is_some}
use Rattle.pgo_base.specs.Lookup.{Name, same_name}
use Rattle.pgo_model.specs.Names.{is_among}
use Rattle.pgo_syntax.specs.declared.name.PlacedName.{PlacedName}
use Rattle.pgo_base.specs.NameMaps.{found}
use Rattle.pgo_labels.specs.Lent.{lent}
use Rattle.pgo_labels.specs.LabelTwice.{repeated}
use Rattle.pgo_labels.proofs.Repeats.{front_of, again, fresh, noted, lent_push}
use Rattle.pgo_labels.proofs.label_twice.repeated.Goals as goal
use Rattle.pgo_labels.proofs.label_twice.repeated.Goals.{then-contains+in_ok-push, else-contains}

pub loop-label-preserved : goal.loop-label-preserved
loop-label-preserved c =
    let passed : List Name = c.loop-label.invariant.0 in
    let l : PlacedName = c.label-item.result.now in
    let known : c.contains.result ≡ is_among l.name passed = c.contains.ensures ∙ c.loop-label.invariant.1 l.name in
    let rest : List PlacedName = lent (drop (c.loop-label.label-index + 1) c.args.labels.now) in
    let made : lent c.loop-label.names.items ++ repeated passed (l ∷ rest) ≡ repeated [] (lent c.args.labels.now) =
    ap (λ r. lent c.loop-label.names.items ++ repeated passed r) (sym (front_of c.args.labels.now c.loop-label.label-index c.label-item.result (omega arith) c.label-item.is)) ∙ c.loop-label.invariant.2 in (
      l.name ∷ passed,
      λ n. ap is_some (c.in_ok-set.ensures.noted n) ∙ noted (same_name n l.name) _ (found c.loop-label.before n) ∙ ap (λ b. same_name n l.name || b) (c.loop-label.invariant.1 n),
      elim c.if-contains.branch [
        | then-contains+in_ok-push w ↦
            ap (λ v. lent v.items ++ repeated (l.name ∷ passed) rest) w.names-is
            ∙ ap (λ ns. lent ns ++ repeated (l.name ∷ passed) rest) w.in_ok-push.ensures.items
            ∙ ap (λ ns. ns ++ repeated (l.name ∷ passed) rest) (lent_push c.loop-label.names.items c.label-item.result)
            ∙ again passed (lent c.loop-label.names.items) rest (repeated [] (lent c.args.labels.now)) l (sym known ∙ w.if-contains.true) made
        | else-contains w ↦
            ap (λ v. lent v.items ++ repeated (l.name ∷ passed) rest) w.names-is
            ∙ fresh passed (lent c.loop-label.names.items) rest (repeated [] (lent c.args.labels.now)) l (sym known ∙ w.if-contains.false) made
      ],
    )
