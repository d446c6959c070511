-- What a text spells is well formed, and what is well formed is spelled by its canonical text.
use Rattle.std.proofs.Common.{◌≡◌, ◌≤◌, ℕ, Bool, true, false, ◌&&◌, ◌||◌, not, List, [], ◌∷◌, ◌++◌, length, Some, None, Option, Result, Ok, Err, IfOk, refl, ap, sym, subst, arith, cond, nat_eq}
use Rattle.std.proofs.lemmas.Bool.{and_parts, eqb-true}
use Rattle.std.proofs.lemmas.Bool.Decides.{nat_tests}
use Rattle.std.proofs.lemmas.List.{append-nil}
use Rattle.pgo_base.specs.Tree.{Tree}
use Rattle.pgo_model.specs.ExprText.{expr_text}
use Rattle.pgo_lexer.specs.declared.token.Token.{Token}
use Rattle.pgo_lexer.specs.declared.token.Lexeme.{Lexeme}
use Rattle.pgo_lexer.specs.declared.symbol.Junction.{Junction}
use Rattle.pgo_lexer.specs.Lexemes.{IsPiece, Quoted, Lexes, all_are, is_printed, is_plain}
use Rattle.pgo_lexer.specs.Lexemes as l
use Rattle.pgo_lexer.specs.Layout.{Marked, Bullets, list_close}
use Rattle.pgo_lexer.specs.Layout as m
use Rattle.pgo_expr_read.specs.declared.table.Form.{Form}
use Rattle.pgo_expr_read.specs.declared.read.Ending.{Ending}
use Rattle.pgo_expr_read.specs.Heights.{height}
use Rattle.pgo_expr_read.specs.Lookahead.{tokens_of, is_mapped, has_mapped}
use Rattle.pgo_expr_read.specs.Spells.{Spelled, Spells}
use Rattle.pgo_expr_read.specs.Texts.{SpellsText, most_tokens}
use Rattle.pgo_expr_write.specs.WellFormed.{IsWellFormed, is_string_byte}
use Rattle.pgo_expr_write.proofs.Lexed.{SignsEnd, Lexed, end, plain, tokenized}
use Rattle.pgo_expr_write.proofs.Inners.{inner_of, outer_said, regroup}
use Rattle.pgo_expr_write.proofs.Canonical.{outer}
use Rattle.pgo_expr_write.proofs.Formed.{Told, AllTold, formed}

-- ---- the tokens of a text

plain_told : (b : ℕ) → is_plain b ≡ true → is_string_byte b ≡ true
plain_told b h = let p = and_parts (is_printed b) (not (nat_eq b 34) && not (nat_eq b 92)) h in grind (arith, nat_tests, p)

IsTold : ℕ → Type 0
IsTold b = is_string_byte b ≡ true

some_told : (c b : ℕ) → ◌≡◌ {A = Option ℕ} (Some c) (Some b) → IsTold c → IsTold b
some_told c b h t = subst IsTold (let z : c ≡ b = cc in z) t

module _ (c b : ℕ) where
  by_t : (v : Bool) → nat_eq c 116 ≡ v → cond v (Some 9) None ≡ Some b → IsTold b
  unfolding IsTold
  by_t true e h = some_told 9 b h refl
  by_t false e h = cc

  by_n : (v : Bool) → nat_eq c 110 ≡ v → cond v (Some 10) (cond (nat_eq c 116) (Some 9) None) ≡ Some b → IsTold b
  unfolding IsTold
  by_n true e h = some_told 10 b h refl
  by_n false e h = by_t (nat_eq c 116) refl h

  self_told : (u v : Bool) → nat_eq c 34 ≡ u → nat_eq c 92 ≡ v → (u || v) ≡ true → IsTold c
  unfolding IsTold
  self_told true v e f h = subst (λ z. is_string_byte z ≡ true) (sym (eqb-true c 34 e)) refl
  self_told false true e f h = subst (λ z. is_string_byte z ≡ true) (sym (eqb-true c 92 f)) refl
  self_told false false e f h = cc

  by_self : (v : Bool) → (nat_eq c 34 || nat_eq c 92) ≡ v → cond v (Some c) (cond (nat_eq c 110) (Some 10) (cond (nat_eq c 116) (Some 9) None)) ≡ Some b → IsTold b
  by_self true e h = some_told c b h (self_told (nat_eq c 34) (nat_eq c 92) refl refl e)
  by_self false e h = by_n (nat_eq c 110) refl h

string_told : {bs s : List ℕ} → Quoted bs s → all_are is_string_byte s ≡ true
unfolding IsTold
string_told l.none = refl
string_told (l.plain {b = b} is d) = λ i. plain_told b is i && string_told d i
string_told (l.escape {b = b} {c = c} is d) = λ i. by_self c b (nat_eq c 34 || nat_eq c 92) refl is i && string_told d i

abbrev pub ToldBy : Option Token → Type 0
ToldBy (Some k) = Told k
ToldBy None = Unit {0}

pub piece_told : {front rest : List ℕ} {o : Option Token} → IsPiece front rest o → ToldBy o
piece_told (l.blank h) = tt
piece_told (l.line r) = tt
piece_told (l.comment c) = tt
piece_told (l.number r d small) = small
piece_told (l.word r f) = tt
piece_told (l.name r is short) = (is, short)
piece_told (l.underscore h) = tt
piece_told (l.string q) = string_told q
piece_told (l.slashed r f) = tt
piece_told (l.dollar r f) = tt
piece_told (l.sign is) = tt

abbrev pub TheyTell : List Lexeme → Type 0
TheyTell [] = Unit {0}
TheyTell (r ∷ rs) = Told r.token × TheyTell rs

pub lexes_told : {c o : ℕ} {bs : List ℕ} {ls : List Lexeme} → Lexes c o bs ls → TheyTell ls
lexes_told l.end = tt
lexes_told (l.pass front is d) = lexes_told d
lexes_told (l.token front is d) = (piece_told is, lexes_told d)

parts_told : (xs ys : List Lexeme) → TheyTell (xs ++ ys) → TheyTell xs × TheyTell ys
parts_told [] ys h = (tt, h)
parts_told (r ∷ xs) ys h = let q = parts_told xs ys h.1 in ((h.0, q.0), q.1)

both_told : (xs ys : List Lexeme) → TheyTell xs → TheyTell ys → TheyTell (xs ++ ys)
both_told [] ys h k = k
both_told (r ∷ xs) ys h k = (h.0, both_told xs ys h.1 k)

mutual
  pub marked_told : {u : Bool} {b : ℕ} {p q : Bool} {rs ms : List Lexeme} → Marked u b p rs ms q → TheyTell rs → TheyTell ms
  marked_told m.done h = tt
  marked_told (m.plain low is d) h = (h.0, marked_told d h.1)
  marked_told (m.separator low is d) h = (h.0, marked_told d h.1)
  marked_told (m.bracket z {xs = xs} {rs = rs} {ms = ms} {ns = ns} low is d low2 is2 d') h =
      let q = parts_told xs (z ∷ rs) h.1 in
      (h.0, both_told ms (z ∷ ns) (marked_told d q.0) (q.1.0, marked_told d' q.1.1))
  marked_told (m.list {xs = xs} {ys = ys} {rs = rs} {ls = ls} {ms = ms} {ns = ns} low is d d' past d'') h =
      let q = parts_told xs (ys ++ rs) h.1 in
      let r = parts_told ys rs q.1 in
      (tt, both_told ls (ms ++ (list_close ∷ ns)) (marked_told d q.0) (both_told ms (list_close ∷ ns) (bullets_told d' r.0) (tt, marked_told d'' r.1)))

  pub bullets_told : {op : Junction} {c : ℕ} {p q : Bool} {rs ms : List Lexeme} → Bullets op c p rs ms q → TheyTell rs → TheyTell ms
  bullets_told m.none h = tt
  bullets_told (m.next {xs = xs} {ys = ys} {ms = ms} {ns = ns} is here d d') h =
      let q = parts_told xs ys h.1 in
      (tt, both_told ms ns (marked_told d q.0) (bullets_told d' q.1))

neither : (x y : Bool) → (x || y) ≡ false → (x ≡ false) × (y ≡ false)
neither true y h = cc
neither false y h = (refl, h)

pub all_told : (ls : List Lexeme) → TheyTell ls → has_mapped (tokens_of ls) ≡ false → AllTold (tokens_of ls)
all_told [] h plain = tt
all_told (r ∷ rs) h plain = let q = neither (is_mapped r.token) (has_mapped (tokens_of rs)) plain in (h.0, q.0, all_told rs h.1 q.1)

-- ---- both directions

pub well_formed : (limit : ℕ) (text : List ℕ) (a : Tree) → SpellsText limit text a → IsWellFormed a
well_formed limit text a h =
    let k = h.tokenized in
    formed h.spells.2 (all_told h.tokens (marked_told k.marked.1 (lexes_told k.lexed)) h.plain)

spells_text : SignsEnd → (limit : ℕ) (text : List ℕ) (ts : List Token) (a : Tree) (f : Form) (o : Ending) → Lexed [] false text ts → Spelled f o ts a → height a ≤ limit → length text ≤ most_tokens → SpellsText limit text a
spells_text ends limit text ts a f o d is low short =
    let w = tokenized ends text ts d short in
    let P : List Token → Type 0 = λ z. Spells limit z a in
    let Q : List Token → Type 0 = λ z. has_mapped z ≡ false in
    record { tokens = w.lexemes; tokenized = w.tokenized; spells = subst P (sym w.same) (f, o, is, low); plain = subst Q (sym w.same) (plain d) }

pub operand_back : SignsEnd → (limit : ℕ) (a : Tree) → IsWellFormed a → height a ≤ limit → length (expr_text false a) ≤ most_tokens → SpellsText limit (expr_text false a) a
operand_back ends limit a h low short =
    let i = inner_of a (outer a h) in
    spells_text ends limit (expr_text false a) i.tokens a _ _ (regroup _ _ _ _ (append-nil (expr_text false a)) (append-nil i.tokens) (i.said [] false [] [] tt end)) i.spelled low short

pub body_back : SignsEnd → (limit : ℕ) (a : Tree) → IsWellFormed a → height a ≤ limit → length (expr_text true a) ≤ most_tokens → SpellsText limit (expr_text true a) a
body_back ends limit a h low short =
    let o = outer a h in
    spells_text ends limit (expr_text true a) o.tokens a o.outermost o.last (regroup _ _ _ _ (append-nil (expr_text true a)) (append-nil o.tokens) (outer_said a o [] false [] [] tt end)) o.spelled low short

-- what is answered to the writer's call
abbrev SpellsIt : Tree → List ℕ → Type 0
SpellsIt a t = (limit : ℕ) → IsWellFormed a → height a ≤ limit → length t ≤ most_tokens → SpellsText limit t a

pub answer_back : {E : Type 0} (text : Tree → List ℕ) → ((limit : ℕ) (a : Tree) → IsWellFormed a → height a ≤ limit → length (text a) ≤ most_tokens → SpellsText limit (text a) a)
    → (r : Result (List ℕ) E) (a : Tree) → IfOk r (λ t. t ≡ text a) → IfOk r (SpellsIt a)
answer_back text back (Ok t) a is = λ limit h low short.
    let P : List ℕ → Type 0 = λ z. SpellsText limit z a in
    subst P (sym is) (back limit a h low (omega (arith, ap length is, short)))
answer_back text back (Err e) a is = tt
