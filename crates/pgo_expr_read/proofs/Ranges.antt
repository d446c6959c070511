-- What is read of a set that names are bound over is what is spelled.
use Rattle.std.proofs.Common.{◌≡◌, ◌≤◌, ℕ, List, [], ◌∷◌, ◌++◌, Option, Some, None, refl, ap, sym, ◌∙◌, subst, arith}
use Rattle.pgo_base.specs.declared.expr.Word.{Word}
use Rattle.pgo_base.specs.Tree.{Tree}
use Rattle.pgo_base.specs.Tree as e
use Rattle.pgo_lexer.specs.declared.token.Token.{Token}
use Rattle.pgo_expr_read.specs.declared.lookahead.Next.{Next}
use Rattle.pgo_expr_read.specs.declared.lookahead.Next.TheVariants as next
use Rattle.pgo_expr_read.specs.declared.table.Form.{Form}
use Rattle.pgo_expr_read.specs.declared.table.Form.TheVariants as form
use Rattle.pgo_expr_read.specs.declared.read.Ending.{Ending}
use Rattle.pgo_expr_read.specs.declared.read.Ending.TheVariants as ending
use Rattle.pgo_expr_read.specs.declared.read.Read.{Read}
use Rattle.pgo_expr_read.specs.Fronts.{IsRange, Ended}
use Rattle.pgo_expr_read.specs.Heights.{height}
use Rattle.pgo_expr_read.specs.Lookahead as look
use Rattle.pgo_expr_read.specs.Lookahead.{endless, endless_of}
use Rattle.pgo_expr_read.specs.Reading.{made, leaf, range_by, range, expr}
use Rattle.pgo_expr_read.specs.Spells.{Range}
use Rattle.pgo_expr_read.specs.Spells as s
use Rattle.pgo_expr_read.proofs.Parts.{give_some, raised_some}
use Rattle.pgo_expr_read.proofs.Sound.{sound}
use Rattle.pgo_expr_read.proofs.Reach.{node_gives, inside}
use Rattle.pgo_expr_read.proofs.Heads.{starts, not_endless}
use Rattle.pgo_expr_read.proofs.Complete.{reach}

front_any : (limit : ℕ) (i : List Token) (r : Read Tree) (rest : List Token) → expr limit 0 i ≡ Some (r, rest) → IsRange limit i r rest
front_any limit i r rest got =
    let g = (sound limit 0 i r rest got).0 in
    record { front = g.front; split = g.split; range = s.any g.spelled; height = g.height; within = g.within }

front_of : (o : Option Word) (limit : ℕ) (k : Token) (i : List Token) (r : Read Tree) (rest : List Token) → endless_of k ≡ o → range_by limit (expr limit) 0 o (k ∷ i) ≡ Some (r, rest) → IsRange limit (k ∷ i) r rest
unfolding leaf
front_of (Some v) limit k i r rest is got =
    let g = give_some _ _ _ _ got in
    let q = raised_some limit form.Closed ending.Closed 0 (e.word v) r g.0 in
    let P : Read Tree → Type 0 = λ x. IsRange limit (k ∷ i) x rest in
    subst P (sym q.1) (record { front = k ∷ []; split = ap (λ z. k ∷ z) g.1; range = s.endless is; height = refl; within = omega (arith, q.0) })
front_of None limit k i r rest is got = front_any limit (k ∷ i) r rest got

pub range_front : (limit : ℕ) (i : List Token) (r : Read Tree) (rest : List Token) → range limit (expr limit) 0 i ≡ Some (r, rest) → IsRange limit i r rest
unfolding range
range_front limit [] r rest got = front_any limit [] r rest got
range_front limit (k ∷ i) r rest got = front_of (endless_of k) limit k i r rest refl got

ended : (o : Ending) (x : Next) → x ≡ next.End → Ended o x
ended o x h = let P : Next → Type 0 = λ z. Ended o z in subst P (sym h) tt

pub range_whole : (front : List Token) (a : Tree) → Range front a → (limit : ℕ) (rest : List Token) → height a ≤ limit → look.after rest ≡ next.End → (f : Form) × (o : Ending) × (range limit (expr limit) 0 (front ++ rest) ≡ Some (made f o (height a) a, rest))
unfolding range leaf
range_whole front a (s.any {f} {o} d) limit rest h ends =
    (f, o, ap (λ z. range_by limit (expr limit) 0 z (front ++ rest)) (not_endless rest (starts d)) ∙ inside f o front a (reach d) limit rest h (ended o (look.after rest) ends))
range_whole front a (s.endless {k} {w = v} is) limit rest h ends =
    (form.Closed, ending.Closed, ap (λ z. range_by limit (expr limit) 0 z (k ∷ rest)) is ∙ node_gives limit form.Closed ending.Closed 0 (e.word v) rest refl h)
