-- What holds of each token of a text's part holds of those of its parts, of the items of its lists, and of the tokens with the marks of junction lists.
use Rattle.std.proofs.Common.{ℕ, Bool, List, [], ◌∷◌, ◌++◌}
use Rattle.std.specs.List.{AllByRecursion}
use Rattle.pgo_lexer.specs.Layout.{Marked, Bullets}
use Rattle.pgo_lexer.specs.Layout as mark
use Rattle.pgo_lexer.specs.declared.symbol.Junction.{Junction}
use Rattle.pgo_lexer.specs.declared.symbol.Symbol.{Symbol}
use Rattle.pgo_lexer.specs.declared.symbol.Symbol.TheVariants as symbol
use Rattle.pgo_lexer.specs.declared.token.Lexeme.{Lexeme}
use Rattle.pgo_lexer.specs.declared.token.Token.{Token}
use Rattle.pgo_lexer.specs.declared.token.Token.TheVariants as t
use Rattle.pgo_expr_read.specs.Lookahead.{tokens_of}
use Rattle.pgo_mpcal_read.specs.Elements.{Behind, Items, InBrackets, Row}
use Rattle.pgo_mpcal_read.specs.Elements as elements

pub cut : {A : Type 0} (P : A → Type 0) (xs ys : List A) → AllByRecursion P (xs ++ ys) → AllByRecursion P xs × AllByRecursion P ys
cut P [] ys h = (tt, h)
cut P (x ∷ xs) ys h = let q = cut P xs ys h.1 in ((h.0, q.0), q.1)

pub all_joined : {A : Type 0} (P : A → Type 0) (xs ys : List A) → AllByRecursion P xs → AllByRecursion P ys → AllByRecursion P (xs ++ ys)
all_joined P [] ys h g = g
all_joined P (x ∷ xs) ys h g = (h.0, all_joined P xs ys h.1 g)

pub one_more : {A : Type 0} (P : A → Type 0) (xs : List A) (x : A) → AllByRecursion P xs → P x → AllByRecursion P (xs ++ x ∷ [])
one_more P xs x h g = all_joined P xs (x ∷ []) h (g, tt)

pub tokens_each : (P : Token → Type 0) (ls : List Lexeme) → AllByRecursion (λ l. P l.token) ls → AllByRecursion P (tokens_of ls)
tokens_each P [] h = tt
tokens_each P (l ∷ ls) h = (h.0, tokens_each P ls h.1)

-- ---- lists

module _ (P : Lexeme → Type 0) {A : Type 0} (Item : List Lexeme → A → Type 0) (Q : A → Type 0) (item : (xs : List Lexeme) (a : A) → Item xs a → AllByRecursion P xs → Q a) where
  all_behind : (v : Symbol) (xs : List Lexeme) (as' : List A) → Behind Item v xs as' → AllByRecursion P xs → AllByRecursion Q as'
  all_behind v xs as' elements.no_more h = tt
  all_behind v xs as' (elements.one_more {xs = ys} {ys = zs} {a = a} {as' = bs} i r) h =
      let q = cut P ys zs h.1 in (item ys a i q.0, all_behind v zs bs r q.1)

  pub all_items : (v : Symbol) (xs : List Lexeme) (as' : List A) → Items Item v xs as' → AllByRecursion P xs → AllByRecursion Q as'
  all_items v xs as' (elements.items {xs = ys} {ys = zs} {a = a} {as' = bs} i r) h =
      let q = cut P ys zs h in (item ys a i q.0, all_behind v zs bs r q.1)

  pub all_in_brackets : (xs : List Lexeme) (as' : List A) → InBrackets Item xs as' → AllByRecursion P xs → AllByRecursion Q as'
  all_in_brackets xs as' elements.empty h = tt
  all_in_brackets xs as' (elements.some c {xs = ys} {as' = bs} i) h = all_items symbol.Comma ys bs i (cut P ys _ h.1).0

  pub all_in_row : (xs : List Lexeme) (as' : List A) → Row Item xs as' → AllByRecursion P xs → AllByRecursion Q as'
  all_in_row xs as' elements.nothing h = tt
  all_in_row xs as' (elements.another {xs = ys} {ys = zs} {a = a} {as' = bs} i r) h =
      let q = cut P ys zs h in (item ys a i q.0, all_in_row zs bs r q.1)

-- ---- marks of junction lists

module _ (P : Token → Type 0) (open_is : (o : Junction) → P (t.ListOpen o)) (next_is : P t.ListNext) (close_is : P t.ListClose) where
  abbrev Each : List Lexeme → Type 0
  Each = AllByRecursion (λ l. P l.token)

  mutual
    pub all_marked : {s : Bool} {b : ℕ} {p q : Bool} {rs ms : List Lexeme} → Marked s b p rs ms q → Each rs → Each ms
    all_marked mark.done h = tt
    all_marked (mark.plain l r d) h = (h.0, all_marked d h.1)
    all_marked (mark.separator l k d) h = (h.0, all_marked d h.1)
    all_marked (mark.bracket z {xs = xs} {ms = ms} {ns = ns} l k d m c e) h =
        let q = cut _ xs _ h.1 in (h.0, all_joined _ ms (z ∷ ns) (all_marked d q.0) (q.1.0, all_marked e q.1.1))
    all_marked (mark.list {op = o} {xs = xs} {ys = ys} {ls = ls} {ms = ms} {ns = ns} l k d bs past e) h =
        let q = cut _ xs _ h.1 in
        let r = cut _ ys _ q.1 in
        (open_is o, all_joined _ ls _ (all_marked d q.0) (all_joined _ ms _ (all_bullets bs r.0) (close_is, all_marked e r.1)))

    all_bullets : {o : Junction} {c : ℕ} {p q : Bool} {ys ms : List Lexeme} → Bullets o c p ys ms q → Each ys → Each ms
    all_bullets mark.none h = tt
    all_bullets (mark.next {xs = xs} {ms = ms} k e d bs) h =
        let q = cut _ xs _ h.1 in (next_is, all_joined _ ms _ (all_marked d q.0) (all_bullets bs q.1))
