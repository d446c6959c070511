-- Expressions within lists of tokens with places.
use Rattle.std.proofs.Common.{◌≡◌, ◌-◌, ℕ, List, [], ◌∷◌, ◌++◌, length, drop, Some, None, refl, ap, sym, ◌∙◌, subst, arith}
use Rattle.std.proofs.lemmas.List.{length-append}
use Rattle.pgo_base.specs.Tree.{Tree}
use Rattle.pgo_lexer.specs.declared.token.Lexeme.{Lexeme}
use Rattle.pgo_lexer.specs.declared.token.Token.{Token}
use Rattle.pgo_expr_read.specs.declared.lookahead.Next.{Next}
use Rattle.pgo_expr_read.specs.declared.lookahead.Next.TheVariants as next
use Rattle.pgo_expr_read.specs.declared.read.Ending.{Ending}
use Rattle.pgo_expr_read.specs.declared.read.Read.{Read}
use Rattle.pgo_expr_read.specs.Fronts.{Ended}
use Rattle.pgo_expr_read.specs.Lookahead.{tokens_of}
use Rattle.pgo_expr_read.specs.Parsers as expression_parsers
use Rattle.pgo_expr_read.specs.Reading as expressions
use Rattle.pgo_expr_read.specs.Spells.{Spelled, Range}
use Rattle.pgo_expr_read.proofs.Exact.{front, read_whole}
use Rattle.pgo_expr_read.proofs.Ranges.{range_front, range_whole}
use Rattle.pgo_mpcal_read.specs.Elements.{IsExpressionWithin, IsExpression, most_height}
use Rattle.pgo_mpcal_read.specs.Elements as elements
use Rattle.pgo_mpcal_read.specs.Reading.{expression, expression_within, range, on_tokens, left_of}
use Rattle.pgo_expr_read.proofs.Steps.{some_pair}
use Rattle.pgo_mpcal_read.proofs.Parts.{Front, Sound, Reach, Quiet}

pub tokens_append : (xs ys : List Lexeme) → tokens_of (xs ++ ys) ≡ tokens_of xs ++ tokens_of ys
tokens_append [] ys = refl
tokens_append (x ∷ xs) ys = ap (λ z. x.token ∷ z) (tokens_append xs ys)

tokens_length : (xs : List Lexeme) → length (tokens_of xs) ≡ length xs
tokens_length [] = refl
tokens_length (x ∷ xs) = let e = tokens_length xs in omega (arith, e)

-- the tokens that have this front
pub record Cut (i : List Lexeme) (xs : List Token) : Type 0 where
  pub front : List Lexeme
  pub split : i ≡ front ++ drop (length xs) i
  pub same : tokens_of front ≡ xs

cut : (xs : List Token) (i : List Lexeme) (rest : List Token) → tokens_of i ≡ xs ++ rest → Cut i xs
cut [] i rest e = record { front = []; split = refl; same = refl }
cut (x ∷ xs) [] rest e = cc
cut (x ∷ xs) (l ∷ i) rest e =
    let first : l.token ≡ x = cc in
    let others : tokens_of i ≡ xs ++ rest = cc in
    let c = cut xs i rest others in
    record { front = l ∷ c.front; split = ap (λ z. l ∷ z) c.split; same = ap (λ z. z ∷ tokens_of c.front) first ∙ ap (λ z. x ∷ z) c.same }

long : (xs rest : List Token) (i : List Lexeme) → tokens_of i ≡ xs ++ rest → length i - length rest ≡ length xs
long xs rest i e =
    let a = tokens_length i in
    let b : length (tokens_of i) ≡ length (xs ++ rest) = ap length e in
    let c = length-append xs rest in
    omega (arith, a, b, c)

pub drop_front : (xs ys : List Lexeme) → drop (length xs) (xs ++ ys) ≡ ys
drop_front [] ys = refl
drop_front (x ∷ xs) ys = drop_front xs ys

-- what is left, where these tokens are read
left_is : (xs : List Token) (rest : List Token) (i : List Lexeme) (c : Cut i xs) → tokens_of i ≡ xs ++ rest → i ≡ c.front ++ left_of i (length rest)
left_is xs rest i c e = c.split ∙ ap (λ n. c.front ++ drop n i) (sym (long xs rest i e))

left_gives : (xs rest : List Lexeme) → left_of (xs ++ rest) (length (tokens_of rest)) ≡ rest
left_gives xs rest =
    let a = tokens_length rest in
    let b = length-append xs rest in
    let same : length (xs ++ rest) - length (tokens_of rest) ≡ length xs = omega (arith, a, b) in
    ap (λ n. drop n (xs ++ rest)) same ∙ drop_front xs rest

sound_by : (limit : ℕ) (o : expression_parsers.Outcome (Read Tree)) (i : List Lexeme) (a : Tree) (rest : List Lexeme) → expressions.expr limit 0 (tokens_of i) ≡ o → on_tokens i o ≡ Some (a, rest) → Front (IsExpressionWithin limit) i a rest
sound_by limit (Some p) i a rest is got =
    let g = front limit 0 (tokens_of i) p.0 p.1 is in
    let c = cut g.front i p.1 g.split in
    let q = some_pair _ _ _ _ got in
    let x = g.height in
    let low = g.within in
    let P : List Token → Type 0 = λ z. Spelled p.0.form p.0.ending z p.0.tree in
    let Q : Tree → Type 0 = λ z. Front (IsExpressionWithin limit) i z rest in
    subst Q q.0 (record { front = c.front; split = left_is g.front p.1 i c g.split ∙ ap (λ z. c.front ++ z) q.1; holds = record { spells = (p.0.form, p.0.ending, subst P (sym c.same) g.spelled, omega (arith, x, low)) } })
sound_by limit None i a rest is got = cc

pub sound_within : (limit : ℕ) → Sound (IsExpressionWithin limit) (expression_within limit)
unfolding expression_within
sound_within limit i a rest got = sound_by limit (expressions.expr limit 0 (tokens_of i)) i a rest refl got

pub sound_expression : Sound IsExpression expression
sound_expression i a rest got = sound_within most_height i a rest got

range_by : (o : expression_parsers.Outcome (Read Tree)) (i : List Lexeme) (a : Tree) (rest : List Lexeme) → expressions.range most_height (expressions.expr most_height) 0 (tokens_of i) ≡ o → on_tokens i o ≡ Some (a, rest) → Front elements.IsRange i a rest
range_by (Some p) i a rest is got =
    let g = range_front most_height (tokens_of i) p.0 p.1 is in
    let c = cut g.front i p.1 g.split in
    let q = some_pair _ _ _ _ got in
    let x = g.height in
    let low = g.within in
    let P : List Token → Type 0 = λ z. Range z p.0.tree in
    let Q : Tree → Type 0 = λ z. Front elements.IsRange i z rest in
    subst Q q.0 (record { front = c.front; split = left_is g.front p.1 i c g.split ∙ ap (λ z. c.front ++ z) q.1; holds = record { range = subst P (sym c.same) g.range; low = omega (arith, x, low) } })
range_by None i a rest is got = cc

pub sound_range : Sound elements.IsRange range
unfolding range
sound_range i a rest got = range_by (expressions.range most_height (expressions.expr most_height) 0 (tokens_of i)) i a rest refl got

quiet_ends : (o : Ending) (x : Next) → x ≡ next.End → Ended o x
quiet_ends o x h = let P : Next → Type 0 = λ z. Ended o z in subst P (sym h) tt

pub reach_within : (limit : ℕ) → Reach (IsExpressionWithin limit) (expression_within limit) Quiet
unfolding expression_within
reach_within limit xs a d rest q =
    let k = d.spells in
    let got = read_whole k.0 k.1 (tokens_of xs) a k.2 limit (tokens_of rest) k.3 (quiet_ends k.1 _ q) in
    ap (λ z. on_tokens (xs ++ rest) (expressions.expr limit 0 z)) (tokens_append xs rest) ∙ ap (on_tokens (xs ++ rest)) got ∙ ap (λ z. Some (a, z)) (left_gives xs rest)

pub reach_expression : Reach IsExpression expression Quiet
reach_expression xs a d rest q = reach_within most_height xs a d rest q

pub reach_range : Reach elements.IsRange range Quiet
unfolding range
reach_range xs a d rest q =
    let got = range_whole (tokens_of xs) a d.range most_height (tokens_of rest) d.low q in
    ap (λ z. on_tokens (xs ++ rest) (expressions.range most_height (expressions.expr most_height) 0 z)) (tokens_append xs rest) ∙ ap (on_tokens (xs ++ rest)) got.2 ∙ ap (λ z. Some (a, z)) (left_gives xs rest)
