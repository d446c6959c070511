use Rattle.std.proofs.Common.{rules, ◌≡◌, ◌+◌, [], ◌∷◌, ◌++◌, take, ap, sym, ◌∙◌, arith}
use Rattle.std.proofs.lemmas.Grind.{common_steps}
use Rattle.std.proofs.lemmas.List.{length-take-le}
use Rattle.pgo_uses.specs.Names.{Rows}
use Rattle.pgo_scope.specs.Seen.{any_rows, unbound_row, unbound_rows}
use Rattle.pgo_scope.proofs.Clashing.{any_more, unbound_more, take_more}
use Rattle.pgo_scope.proofs.clash.add_clashes.Goals as goal

pub loop-i-preserved : goal.loop-i-preserved
loop-i-preserved c =
    let xs = c.args.names.now in
    let i = c.loop-i.i in
    let x = c.index-names-i.result in
    let row : Rows = (x.written, 0) ∷ [] in
    let more : take (i + 1) xs ≡ take i xs ++ x ∷ [] = take_more xs i x (omega arith) c.index-names-i.is in (
      first_of (search rules, grind (arith, common_steps)),
      c.in_ok-meet.ensures.any ∙ ap (λ l. l ++ row) c.loop-i.invariant.1 ∙ sym (ap any_rows more ∙ any_more (take i xs) x),
      c.in_ok-meet.ensures.unbound ∙ ap (λ l. l ++ unbound_row i x) c.loop-i.invariant.2 ∙ sym (ap (unbound_rows 0) more ∙ unbound_more 0 i (take i xs) x (omega (arith, length-take-le i xs (omega arith)))),
    )
