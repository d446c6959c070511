use Rattle.std.proofs.Common.{◌≡◌, ◌++◌, ◌∷◌, ◌+◌, [], length, length-append, ap, sym, subst, ◌∙◌, arith}
use Rattle.pgo_links.specs.LinkView.{AreLinked, numbered}
use Rattle.pgo_links.proofs.Linking.{linked_more}
use Rattle.pgo_links.proofs.linked.linked.Goals as goal

pub loop-content-preserved : goal.loop-content-preserved
loop-content-preserved g c =
    let ls = c.loop-content.links in let xs = c.loop-content.yielded in let x = c.in-Some.content in let inv = c.loop-content.invariant in
    let is : c.push.new.self.items ≡ ls.items ++ c.new.result ∷ [] = c.in_ok-push.ensures.items in
    let longer : length c.push.new.self.items ≡ length ls.items + 1 = ap length is ∙ length-append ls.items (c.new.result ∷ []) in
    let more = length-append xs (x ∷ []) in let many = inv.many in
    let fewer = ap length c.in-Some.ensures.steps.0 in
    record {
      count = grind (arith, longer, inv.count, fewer);
      many = omega (arith, longer, more, many);
      linked = subst (AreLinked g.R.Resource.shows (xs ++ x ∷ [])) (sym is)
          (linked_more g.R.Resource.shows xs ls.items x c.new.result many (c.new.ensures ∙ ap (λ n. numbered n (g.R.Resource.shows x)) (c.len-number.ensures ∙ ls.ok.0)) inv.linked);
    }
