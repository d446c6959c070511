-- Taking a reader's steps apart, and putting them together.
use Rattle.std.proofs.Common.{◌≡◌, ℕ, pos, Bool, true, false, List, [], ◌∷◌, ◌++◌, Some, None, refl, ap, ◌∙◌, subst, cond}
use Rattle.pgo_lexer.specs.declared.token.Lexeme.{Lexeme}
use Rattle.pgo_lexer.specs.declared.token.Token.{Token}
use Rattle.pgo_lexer.specs.declared.token.Token.TheVariants as t
use Rattle.pgo_expr_read.specs.declared.lookahead.Next.TheVariants as next
use Rattle.pgo_expr_read.specs.Kinds.{Name}
use Rattle.pgo_expr_read.specs.Lookahead as look
use Rattle.pgo_expr_read.specs.Lookahead.{tokens_of}
use Rattle.pgo_syntax.specs.declared.name.PlacedName.{PlacedName}
use Rattle.pgo_lexer.specs.declared.symbol.Symbol.{Symbol}
use Rattle.pgo_expr_read.specs.Signs.{is_sign}
use Rattle.pgo_mpcal_read.specs.Signs.{sees}
use Rattle.pgo_mpcal_read.specs.Elements.{Spot, at, word, numeral, placed, IsName}
use Rattle.pgo_mpcal_read.specs.Elements as elements
use Rattle.pgo_expr_read.specs.Steps.{and_then, pure, skip}
use Rattle.pgo_mpcal_read.specs.Reading.{Parser, past, expect, mark, name, name_of, number, number_of}
use Rattle.pgo_expr_read.proofs.Signs.{token_of_sign, own_sign}
use Rattle.pgo_expr_read.proofs.Steps.{some_pair, bind_then}

-- a front of the tokens is so, and the rest follows
pub record Front {A : Type 0} (R : List Lexeme → A → Type 0) (i : List Lexeme) (a : A) (rest : List Lexeme) : Type 0 where
  pub front : List Lexeme
  pub split : i ≡ front ++ rest
  pub holds : R front a

-- what is read is so
abbrev pub Sound : {A : Type 0} → (List Lexeme → A → Type 0) → Parser A → Type 0
Sound {A} R p = (i : List Lexeme) (a : A) (rest : List Lexeme) → p i ≡ Some (a, rest) → Front R i a rest

-- what is so is read, where such tokens follow
abbrev pub Reach : {A : Type 0} → (List Lexeme → A → Type 0) → Parser A → (List Lexeme → Type 0) → Type 0
Reach {A} R p F = (front : List Lexeme) (a : A) → R front a → (rest : List Lexeme) → F rest → p (front ++ rest) ≡ Some (a, rest)

-- what follows ends an expression
abbrev pub Quiet : List Lexeme → Type 0
Quiet rest = look.after (tokens_of rest) ≡ next.End

abbrev pub spot : Lexeme → Spot
spot l = record { column = l.column; start = l.start; stop = l.stop }

-- ---- steps apart: what was read, and what follows

pub front_then : {A B : Type 0} (R : List Lexeme → A → Type 0) (p : Parser A) → Sound R p → (i : List Lexeme) (f : A → Parser B) (y : B × List Lexeme) (C : Type 0) → and_then (p i) f ≡ Some y
    → ((xs : List Lexeme) (a : A) (j : List Lexeme) → i ≡ xs ++ j → R xs a → f a j ≡ Some y → C) → C
front_then R p s i f y C e k = bind_then (p i) f y C e (λ a j got e. let g = s i a j got in k g.front a j g.split g.holds e)

sign_at : (v : Symbol) (l : Lexeme) (rest : List Lexeme) → is_sign v l.token ≡ true → l ∷ rest ≡ at (spot l) v ∷ rest
sign_at v l rest h = ap (λ k. elements.lexeme (spot l) k ∷ rest) (token_of_sign v l.token h)

expect_by : {B : Type 0} (b : Bool) (v : Symbol) (l : Lexeme) (rest : List Lexeme) (f : Unit {0} → Parser B) (y : B × List Lexeme) (C : Type 0) → is_sign v l.token ≡ b → and_then (cond b (Some (tt, rest)) None) f ≡ Some y
    → ((p : Spot) (j : List Lexeme) → l ∷ rest ≡ at p v ∷ j → f tt j ≡ Some y → C) → C
expect_by true v l rest f y C is e k = k (spot l) rest (sign_at v l rest is) e
expect_by false v l rest f y C is e k = cc

pub expect_then : {B : Type 0} (v : Symbol) (i : List Lexeme) (f : Unit {0} → Parser B) (y : B × List Lexeme) (C : Type 0) → and_then (expect v i) f ≡ Some y
    → ((p : Spot) (j : List Lexeme) → i ≡ at p v ∷ j → f tt j ≡ Some y → C) → C
unfolding expect
expect_then v [] f y C e k = cc
expect_then v (l ∷ rest) f y C e k = expect_by (is_sign v l.token) v l rest f y C refl e k

mark_by : {B : Type 0} (b : Bool) (v : Symbol) (l : Lexeme) (rest : List Lexeme) (f : ℕ → Parser B) (y : B × List Lexeme) (C : Type 0) → is_sign v l.token ≡ b → and_then (cond b (Some (l.start, rest)) None) f ≡ Some y
    → ((p : Spot) (j : List Lexeme) → l ∷ rest ≡ at p v ∷ j → f p.start j ≡ Some y → C) → C
mark_by true v l rest f y C is e k = k (spot l) rest (sign_at v l rest is) e
mark_by false v l rest f y C is e k = cc

pub mark_then : {B : Type 0} (v : Symbol) (i : List Lexeme) (f : ℕ → Parser B) (y : B × List Lexeme) (C : Type 0) → and_then (mark v i) f ≡ Some y
    → ((p : Spot) (j : List Lexeme) → i ≡ at p v ∷ j → f p.start j ≡ Some y → C) → C
unfolding mark
mark_then v [] f y C e k = cc
mark_then v (l ∷ rest) f y C e k = mark_by (is_sign v l.token) v l rest f y C refl e k

name_by : {B : Type 0} (c : Token) (l : Lexeme) (rest : List Lexeme) (f : PlacedName → Parser B) (y : B × List Lexeme) (C : Type 0) → l.token ≡ c → and_then (name_of c l.start rest) f ≡ Some y
    → ((p : Spot) (x : Name) (j : List Lexeme) → l ∷ rest ≡ word p x ∷ j → f (placed p x) j ≡ Some y → C) → C
name_by (t.Name x) l rest f y C is e k = k (spot l) x rest (ap (λ z. elements.lexeme (spot l) z ∷ rest) is) e
name_by _ l rest f y C is e k = cc

pub name_then : {B : Type 0} (i : List Lexeme) (f : PlacedName → Parser B) (y : B × List Lexeme) (C : Type 0) → and_then (name i) f ≡ Some y
    → ((p : Spot) (x : Name) (j : List Lexeme) → i ≡ word p x ∷ j → f (placed p x) j ≡ Some y → C) → C
name_then [] f y C e k = cc
name_then (l ∷ rest) f y C e k = name_by l.token l rest f y C refl e k

number_by : {B : Type 0} (c : Token) (l : Lexeme) (rest : List Lexeme) (f : ℕ → Parser B) (y : B × List Lexeme) (C : Type 0) → l.token ≡ c → and_then (number_of c rest) f ≡ Some y
    → ((p : Spot) (n : ℕ) (j : List Lexeme) → l ∷ rest ≡ numeral p n ∷ j → f n j ≡ Some y → C) → C
number_by (t.Number (pos n)) l rest f y C is e k = k (spot l) n rest (ap (λ z. elements.lexeme (spot l) z ∷ rest) is) e
number_by _ l rest f y C is e k = cc

pub number_then : {B : Type 0} (i : List Lexeme) (f : ℕ → Parser B) (y : B × List Lexeme) (C : Type 0) → and_then (number i) f ≡ Some y
    → ((p : Spot) (n : ℕ) (j : List Lexeme) → i ≡ numeral p n ∷ j → f n j ≡ Some y → C) → C
number_then [] f y C e k = cc
number_then (l ∷ rest) f y C e k = number_by l.token l rest f y C refl e k

eaten_by : {B : Type 0} (b : Bool) (v : Symbol) (p q : Parser B) (l : Lexeme) (rest : List Lexeme) (y : B × List Lexeme) (C : Type 0) → is_sign v l.token ≡ b → (cond {A = Parser B} b p q) (cond b rest (l ∷ rest)) ≡ Some y
    → ((s : Spot) (j : List Lexeme) → l ∷ rest ≡ at s v ∷ j → p j ≡ Some y → C) → (is_sign v l.token ≡ false → q (l ∷ rest) ≡ Some y → C) → C
eaten_by true v p q l rest y C is e k m = k (spot l) rest (sign_at v l rest is) e
eaten_by false v p q l rest y C is e k m = m is e

-- a sign that may be next
pub eaten_then : {B : Type 0} (v : Symbol) (p q : Parser B) (i : List Lexeme) (y : B × List Lexeme) (C : Type 0) → (cond {A = Parser B} (sees v i) p q) (past v i) ≡ Some y
    → ((s : Spot) (j : List Lexeme) → i ≡ at s v ∷ j → p j ≡ Some y → C) → (sees v i ≡ false → q i ≡ Some y → C) → C
unfolding past
eaten_then v p q [] y C e k m = m refl e
eaten_then v p q (l ∷ rest) y C e k m = eaten_by (is_sign v l.token) v p q l rest y C refl e k m

-- what comes after a sign that is seen
pub seen : (v : Symbol) (i : List Lexeme) → sees v i ≡ true → (p : Spot) × (i ≡ at p v ∷ skip i)
seen v [] h = cc
seen v (l ∷ rest) h = (spot l, sign_at v l rest h)

pub sound_name : Sound IsName name
sound_name i a rest got =
    let e : and_then (name i) pure ≡ Some (a, rest) = ap (λ o. and_then o pure) got in
    name_then i pure (a, rest) (Front IsName i a rest) e (λ p x j is e.
    let q = some_pair _ _ _ _ e in
    let P : PlacedName → Type 0 = λ z. Front IsName i z rest in
    subst P q.0 (record { front = word p x ∷ []; split = is ∙ ap (λ z. word p x ∷ z) q.1; holds = elements.name }))

-- ---- steps together

pub expect_gives : (v : Symbol) (p : Spot) (i : List Lexeme) → expect v (at p v ∷ i) ≡ Some (tt, i)
unfolding expect
expect_gives v p i = ap (λ b. cond b (Some (tt, i)) None) (own_sign v)

pub mark_gives : (v : Symbol) (p : Spot) (i : List Lexeme) → mark v (at p v ∷ i) ≡ Some (p.start, i)
unfolding mark
mark_gives v p i = ap (λ b. cond b (Some (p.start, i)) None) (own_sign v)

pub eat_true : {B : Type 0} (v : Symbol) (p q : Parser B) (s : Spot) (i : List Lexeme) → (cond {A = Parser B} (sees v (at s v ∷ i)) p q) (past v (at s v ∷ i)) ≡ p i
unfolding past
eat_true {B} v p q s i = ap (λ b. (cond {A = Parser B} b p q) (cond b i (at s v ∷ i))) (own_sign v)

pub eat_false : {B : Type 0} (v : Symbol) (p q : Parser B) (i : List Lexeme) → sees v i ≡ false → (cond {A = Parser B} (sees v i) p q) (past v i) ≡ q i
unfolding past
eat_false {B} v p q i h = ap (λ b. (cond {A = Parser B} b p q) (cond b (skip i) i)) h
