-- The line of Spec, and the closing row behind any text.
use Rattle.std.proofs.Common.{◌≡◌, ◌≤◌, ◌+◌, ℕ, true, false, List, [], ◌∷◌, ◌++◌, length, refl, ap, sym, ◌∙◌, subst, arith, lit≤}
use Rattle.std.specs.Prelude.{codes}
use Rattle.std.proofs.lemmas.Bool.{eq-eqb}
use Rattle.std.proofs.lemmas.List.{length-append}
use Rattle.pgo_base.specs.declared.expr.Infix.TheVariants as op
use Rattle.pgo_model.specs.ModuleText.{line}
use Rattle.pgo_lexer.specs.declared.token.Token.{Token}
use Rattle.pgo_lexer.specs.declared.token.Token.TheVariants as t
use Rattle.pgo_lexer.specs.declared.token.Lexeme.{Lexeme}
use Rattle.pgo_lexer.specs.declared.symbol.Bracket.TheVariants as bracket
use Rattle.pgo_lexer.specs.declared.symbol.Symbol.TheVariants as symbol
use Rattle.pgo_lexer.specs.Lexemes as l
use Rattle.pgo_expr_read.specs.Lookahead.{tokens_of}
use Rattle.pgo_spec_text.specs.SpecText.{Cut, Anything}
use Rattle.pgo_spec_text.specs.SpecText as c
use Rattle.pgo_mpcal_read.specs.Elements.{Spot, at, word}
use Rattle.pgo_expr_write.proofs.Lexed.{SignsEnd, Lexed, single, end}
use Rattle.pgo_expr_write.proofs.Lexed as w
use Rattle.pgo_expr_write.proofs.FixedWords.{defines, infix_said, square_open, square_close}
use Rattle.pgo_expr_write.proofs.Leaves.{name_said}
use Rattle.pgo_module_spells.specs.Grammar.{IsEnding, ending}
use Rattle.pgo_module_spells.specs.Spells.{is_defines, is_row, EndsWithRow}
use Rattle.pgo_module_spells.specs.Spells as s
use Rattle.pgo_module_write.proofs.Spaces.{Between, none, other, apart, Begins, begins_between, no_row_other, no_row_apart}
use Rattle.pgo_module_write.proofs.Cuts.{column_of}
use Rattle.pgo_module_write.proofs.Blocks.{Said, line_said}
use Rattle.pgo_module_write.proofs.TokenShapes.{one_token, no_token}

-- two `==`
abbrev pub row : Spot → Spot → List Lexeme
row p q = at p symbol.Defines ∷ (at q symbol.Defines ∷ [])

-- what is said of the tokens with a row behind them
abbrev pub Closed : (List Lexeme → Type 0) → List Lexeme → Type 0
Closed R ts = (p q : Spot) → R (ts ++ row p q)

-- ---- `Spec == Init /\ [][Next]_vars`

abbrev square_tokens : List Token
square_tokens = t.Symbol (symbol.Open bracket.Square) ∷ (t.Name (codes "Next") ∷ (t.Symbol (symbol.Close bracket.Square) ∷ (t.Name (codes "_vars") ∷ [])))

square_lexed : Lexed [] false (codes "[Next]_vars") square_tokens
square_lexed =
    square_open (codes "Next]_vars") (refl, refl, refl)
    (name_said (codes "Next") (codes "]_vars") (refl, lit≤ tt) (refl, refl)
    (square_close (codes "_vars") (name_said (codes "_vars") [] (refl, lit≤ tt) tt end)))

abbrev spec_tokens : List Token
spec_tokens = t.Symbol symbol.Defines ∷ (t.Name (codes "Init") ∷ (t.Symbol (symbol.Infix op.And) ∷ (t.Symbol symbol.Box ∷ square_tokens)))

spec_lexed : Lexed [] true (codes "Spec == Init /\\ [][Next]_vars") (t.Name (codes "Spec") ∷ spec_tokens)
spec_lexed =
    name_said (codes "Spec") (codes " == Init /\\ [][Next]_vars") (refl, lit≤ tt) (refl, refl)
    (defines (name_said (codes "Init") (codes " /\\ [][Next]_vars") (refl, lit≤ tt) (refl, refl)
    (infix_said op.And (single 91 (93 ∷ []) (w.sign (91 ∷ 93 ∷ []) (codes "Next]_vars") 91 symbol.Box refl refl refl refl refl) refl refl square_lexed))))

onto : {ls rest us : List Lexeme} (r : Lexeme) → ls ≡ r ∷ rest → rest ≡ us → ls ≡ r ∷ us
onto r e h = e ∙ ap (λ z. r ∷ z) h

-- `[Next]_vars`
record AreSquare (ls : List Lexeme) : Type 0 where
  o : Spot
  x : Spot
  c : Spot
  v : Spot
  is : ls ≡ at o (symbol.Open bracket.Square) ∷ (word x (codes "Next") ∷ (at c (symbol.Close bracket.Square) ∷ (word v (codes "_vars") ∷ [])))

square_shape : (ls : List Lexeme) → tokens_of ls ≡ square_tokens → AreSquare ls
square_shape ls e =
    let o = one_token ls _ _ e in
    let x = one_token o.rest _ _ o.same in
    let c = one_token x.rest _ _ x.same in
    let v = one_token c.rest _ _ c.same in
    record {
      o = o.spot;
      x = x.spot;
      c = c.spot;
      v = v.spot;
      is = onto (at o.spot (symbol.Open bracket.Square)) o.is
          (onto (word x.spot (codes "Next")) x.is (onto (at c.spot (symbol.Close bracket.Square)) c.is (onto (word v.spot (codes "_vars")) v.is (no_token v.rest v.same))));
    }

spec_shape : (ls : List Lexeme) → tokens_of ls ≡ t.Name (codes "Spec") ∷ spec_tokens → Closed IsEnding ls
spec_shape ls e =
    let n = one_token ls _ _ e in
    let d = one_token n.rest _ _ n.same in
    let i = one_token d.rest _ _ d.same in
    let a = one_token i.rest _ _ i.same in
    let b = one_token a.rest _ _ a.same in
    let q = square_shape b.rest b.same in
    let whole = onto (word n.spot (codes "Spec")) n.is (onto (at d.spot symbol.Defines) d.is (onto (word i.spot (codes "Init")) i.is
    (onto (at a.spot (symbol.Infix op.And)) a.is (onto (at b.spot symbol.Box) b.is q.is)))) in
    λ p r. subst (λ z. IsEnding (z ++ row p r)) (sym whole)
    (ending {n = n.spot} {d = d.spot} {i = i.spot} {a = a.spot} {b = b.spot} {o = q.o} {x = q.x} {c = q.c} {v = q.v} {p = p} {q = r})

pub spec_said : SignsEnd → Said (Closed IsEnding) (line (codes "Spec == Init /\\ [][Next]_vars"))
spec_said ends = line_said ends (codes "Spec == Init /\\ [][Next]_vars") (t.Name (codes "Spec")) spec_tokens spec_lexed refl refl spec_shape

-- ---- the row

same_defines : (k : Token) → w.is_defines k ≡ is_defines k
same_defines (t.Symbol symbol.Defines) = refl
same_defines _ = refl

-- no two tokens before the row are one
pub ends_with_row : {o n : ℕ} {ls : List Lexeme} → Between w.is_defines o ls n → (a b : Lexeme) → n ≤ a.start → is_row a b ≡ true → EndsWithRow (ls ++ (a ∷ (b ∷ [])))
ends_with_row (none e) a b h is = s.row is
ends_with_row (other {l = l} {ls = ls} not_defines low some d) a b h is = first_behind ls (ends_with_row d a b h is)
  where
    first_behind : (xs : List Lexeme) → EndsWithRow (xs ++ (a ∷ (b ∷ []))) → EndsWithRow (l ∷ (xs ++ (a ∷ (b ∷ []))))
    first_behind [] then = s.before (no_row_other is_defines l a (sym (same_defines l.token) ∙ not_defines)) then
    first_behind (x ∷ xs) then = s.before (no_row_other is_defines l x (sym (same_defines l.token) ∙ not_defines)) then
ends_with_row (apart {l = l} {ls = ls} low some d) a b h is = first_behind ls (begins_between (a ∷ (b ∷ [])) d h) (ends_with_row d a b h is)
  where
    first_behind : (xs : List Lexeme) → Begins (l.stop + 1) (xs ++ (a ∷ (b ∷ []))) → EndsWithRow (xs ++ (a ∷ (b ∷ []))) → EndsWithRow (l ∷ (xs ++ (a ∷ (b ∷ []))))
    first_behind [] begins then = s.before (no_row_apart is_defines l a (omega (arith, begins))) then
    first_behind (x ∷ xs) begins then = s.before (no_row_apart is_defines l x (omega (arith, begins))) then

-- the row's tokens where it stands
abbrev pub first_spot : List ℕ → Spot
first_spot before = record { column = column_of before; start = length before; stop = length before + 2 }

abbrev pub second_spot : List ℕ → Spot
second_spot before = first_spot (before ++ (61 ∷ 61 ∷ []))

pub row_is : (before : List ℕ) → is_row (at (first_spot before) symbol.Defines) (at (second_spot before) symbol.Defines) ≡ true
row_is before = eq-eqb (length (before ++ (61 ∷ 61 ∷ []))) (length before + 2) (length-append before (61 ∷ 61 ∷ []))

pub row_cut : SignsEnd → (before : List ℕ) → Cut Anything before (line (codes "====")) [] (row (first_spot before) (second_spot before))
row_cut ends before =
    c.token (61 ∷ 61 ∷ []) (ends (61 ∷ 61 ∷ []) (61 ∷ 10 ∷ []) 61 symbol.Defines refl refl refl refl refl)
    (c.token (61 ∷ 61 ∷ []) (ends (61 ∷ 61 ∷ []) [] 10 symbol.Defines refl refl refl refl refl) (c.pass (10 ∷ []) (l.blank refl) tt c.end))
