-- Tokens at their places, from the tokens without them: names with commas between them, and the head of a definition.
use Rattle.std.proofs.Common.{◌≡◌, List, [], ◌∷◌, ◌++◌, refl, ap, sym, ◌∙◌, subst}
use Rattle.std.proofs.lemmas.List.{append_assoc}
use Rattle.pgo_base.specs.Lookup.{Name}
use Rattle.pgo_base.specs.Tree.{Tree}
use Rattle.pgo_model.specs.Val.{Means}
use Rattle.pgo_lexer.specs.declared.symbol.Bracket.TheVariants as bracket
use Rattle.pgo_lexer.specs.declared.symbol.Symbol.TheVariants as symbol
use Rattle.pgo_lexer.specs.declared.token.Lexeme.{Lexeme}
use Rattle.pgo_lexer.specs.declared.token.Token.{Token}
use Rattle.pgo_lexer.specs.declared.token.Token.TheVariants as t
use Rattle.pgo_expr_read.specs.Lookahead.{tokens_of}
use Rattle.pgo_expr_read.specs.Spells.{names, more_names}
use Rattle.pgo_syntax.specs.declared.name.PlacedName.{PlacedName}
use Rattle.pgo_mpcal_read.specs.Elements.{Spot, lexeme, at, word, placed, IsName, Items, Behind}
use Rattle.pgo_mpcal_read.specs.Elements as l
use Rattle.pgo_syntax.specs.PlacedNames.{names_of}
use Rattle.pgo_module_spells.specs.Grammar.{IsExpression, IsDefined}
use Rattle.pgo_module_spells.specs.Grammar as g
use Rattle.pgo_module_write.proofs.NameLines.{head_tokens}

pub record OneToken (ls : List Lexeme) (k : Token) (ts : List Token) : Type 0 where
  pub spot : Spot
  pub rest : List Lexeme
  pub is : ls ≡ lexeme spot k ∷ rest
  pub same : tokens_of rest ≡ ts

pub one_token : (ls : List Lexeme) (k : Token) (ts : List Token) → tokens_of ls ≡ k ∷ ts → OneToken ls k ts
one_token [] k ts e = absurd (let z = e in cc)
one_token (r ∷ rs) k ts e =
    let token_is : r.token ≡ k = cc in
    record {
      spot = record { column = r.column; start = r.start; stop = r.stop };
      rest = rs;
      is = λ i. record { token = token_is i; column = r.column; start = r.start; stop = r.stop } ∷ rs;
      same = cc;
    }

pub no_token : (ls : List Lexeme) → tokens_of ls ≡ [] → ls ≡ []
no_token [] e = refl
no_token (r ∷ rs) e = absurd (let z = e in cc)

pub record Parted (ls : List Lexeme) (ts us : List Token) : Type 0 where
  pub front : List Lexeme
  pub rest : List Lexeme
  pub is : ls ≡ front ++ rest
  pub front_is : tokens_of front ≡ ts
  pub rest_is : tokens_of rest ≡ us

pub parted : (ts us : List Token) (ls : List Lexeme) → tokens_of ls ≡ ts ++ us → Parted ls ts us
parted [] us ls e = record { front = []; rest = ls; is = refl; front_is = refl; rest_is = e }
parted (k ∷ ts) us ls e =
    let o = one_token ls k (ts ++ us) e in
    let p = parted ts us o.rest o.same in
    record { front = lexeme o.spot k ∷ p.front; rest = p.rest; is = o.is ∙ ap (λ z. lexeme o.spot k ∷ z) p.is; front_is = ap (λ z. k ∷ z) p.front_is; rest_is = p.rest_is }

-- ---- names

pub record AreMore (ls : List Lexeme) (xs : List Name) : Type 0 where
  pub placed_names : List PlacedName
  pub behind : Behind IsName symbol.Comma ls placed_names
  pub same : names_of placed_names ≡ xs

pub more_shape : (xs : List Name) (ls : List Lexeme) → tokens_of ls ≡ more_names xs → AreMore ls xs
more_shape [] ls e = record { placed_names = []; behind = subst (λ z. Behind IsName symbol.Comma z []) (sym (no_token ls e)) l.no_more; same = refl }
more_shape (x ∷ xs) ls e =
    let comma = one_token ls (t.Symbol symbol.Comma) (t.Name x ∷ more_names xs) e in
    let name_is = one_token comma.rest (t.Name x) (more_names xs) comma.same in
    let others = more_shape xs name_is.rest name_is.same in
    let whole : ls ≡ at comma.spot symbol.Comma ∷ (word name_is.spot x ∷ name_is.rest) = comma.is ∙ ap (λ z. at comma.spot symbol.Comma ∷ z) name_is.is in
    record {
      placed_names = placed name_is.spot x ∷ others.placed_names;
      behind = subst (λ z. Behind IsName symbol.Comma z (placed name_is.spot x ∷ others.placed_names)) (sym whole) (l.one_more l.name others.behind);
      same = ap (λ z. x ∷ z) others.same;
    }

pub record AreItems (ls : List Lexeme) (xs : List Name) : Type 0 where
  pub placed_names : List PlacedName
  pub items : Items IsName symbol.Comma ls placed_names
  pub same : names_of placed_names ≡ xs

pub names_shape : (x : Name) (xs : List Name) (ls : List Lexeme) → tokens_of ls ≡ names x xs → AreItems ls (x ∷ xs)
names_shape x xs ls e =
    let name_is = one_token ls (t.Name x) (more_names xs) e in
    let others = more_shape xs name_is.rest name_is.same in
    record {
      placed_names = placed name_is.spot x ∷ others.placed_names;
      items = subst (λ z. Items IsName symbol.Comma z (placed name_is.spot x ∷ others.placed_names)) (sym name_is.is) (l.items l.name others.behind);
      same = ap (λ z. x ∷ z) others.same;
    }

-- ---- heads of definitions

-- what stands before `==`
pub record IsHead (hs : List Lexeme) (x : Name) (ps : List Name) : Type 0 where
  pub defined : (d : Spot) (ts : List Lexeme) (e : Tree) → IsExpression ts e → IsDefined (hs ++ (at d symbol.Defines ∷ ts)) (Means x ps e)

-- a head with parameters, from its parts
with_names : (n o c : Spot) (x y : Name) (ys : List Name) (front : List Lexeme) → AreItems front (y ∷ ys)
    → IsHead (word n x ∷ (at o (symbol.Open bracket.Round) ∷ (front ++ (at c (symbol.Close bracket.Round) ∷ [])))) x (y ∷ ys)
with_names n o c x y ys front items = record {
  defined = λ d ts body is.
      let P : List Lexeme → Type 0 = λ z. IsDefined (word n x ∷ (at o (symbol.Open bracket.Round) ∷ z)) (Means x (y ∷ ys) body) in
      let Q : List Name → Type 0 = λ qs. IsDefined (word n x ∷ (at o (symbol.Open bracket.Round) ∷ (front ++ (at c (symbol.Close bracket.Round) ∷ (at d symbol.Defines ∷ ts))))) (Means x qs body) in
      subst P (sym (append_assoc front (at c (symbol.Close bracket.Round) ∷ []) (at d symbol.Defines ∷ ts)))
      (subst Q items.same (g.with_parameters {n = n} {o = o} c d {x = x} items.items is));
}

pub head_shape : (x : Name) (ps : List Name) (hs : List Lexeme) → tokens_of hs ≡ head_tokens x ps → IsHead hs x ps
head_shape x [] hs e =
    let name_is = one_token hs (t.Name x) [] e in
    let whole : hs ≡ word name_is.spot x ∷ [] = name_is.is ∙ ap (λ z. word name_is.spot x ∷ z) (no_token name_is.rest name_is.same) in
    subst (λ z. IsHead z x []) (sym whole) (record { defined = λ d ts body is. g.without_parameters is })
head_shape x (y ∷ ys) hs e =
    let closing = t.Symbol (symbol.Close bracket.Round) ∷ [] in
    let name_is = one_token hs (t.Name x) (t.Symbol (symbol.Open bracket.Round) ∷ (names y ys ++ closing)) e in
    let open_is = one_token name_is.rest (t.Symbol (symbol.Open bracket.Round)) (names y ys ++ closing) name_is.same in
    let parts = parted (names y ys) closing open_is.rest open_is.same in
    let close_is = one_token parts.rest (t.Symbol (symbol.Close bracket.Round)) [] parts.rest_is in
    let end_is = close_is.is ∙ ap (λ z. at close_is.spot (symbol.Close bracket.Round) ∷ z) (no_token close_is.rest close_is.same) in
    let whole : hs ≡ word name_is.spot x ∷ (at open_is.spot (symbol.Open bracket.Round) ∷ (parts.front ++ (at close_is.spot (symbol.Close bracket.Round) ∷ []))) =
    name_is.is ∙ ap (λ z. word name_is.spot x ∷ z) (open_is.is ∙ ap (λ z. at open_is.spot (symbol.Open bracket.Round) ∷ z) (parts.is ∙ ap (λ z. parts.front ++ z) end_is)) in
    subst (λ z. IsHead z x (y ∷ ys)) (sym whole) (with_names name_is.spot open_is.spot close_is.spot x y ys parts.front (names_shape y ys parts.front parts.front_is))
