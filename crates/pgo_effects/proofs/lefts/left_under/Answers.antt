use Rattle.std.proofs.Common.{◌≡◌, ◌+◌, ap, sym, ◌∙◌, refl, drop, ◌∷◌, List, arith}
use Rattle.pgo_meaning.specs.MacrosPlaced.{Arguments}
use Rattle.pgo_effects.specs.Puts.{puts_left}
use Rattle.pgo_effects.proofs.Rests.{first_of_rest}
use Rattle.pgo_effects.proofs.lefts.left_under.Goals as goal

pub loop-es-preserved : goal.loop-es-preserved
loop-es-preserved c =
    let xs = c.deref-layers.result.now in let n = c.loop-es.es-index in let es = c.es-item.result in
    let d : drop n xs ≡ es ∷ drop (n + 1) xs = first_of_rest xs n (n + 1) es refl (omega arith) c.es-item.is in
    ap (puts_left (drop (n + 1) xs)) c.in_ok-done-2.ensures ∙ sym (ap (λ (l : List Arguments). puts_left l c.loop-es.done) d) ∙ c.loop-es.invariant
