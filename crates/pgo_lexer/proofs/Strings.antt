-- A string is read as the rule of its escapes says.
use Rattle.std.proofs.Common.{◌≡◌, ◌≤◌, ◌+◌, ℕ, zero, suc, Bool, true, false, not, ◌&&◌, cond, nat_eq, List, [], ◌∷◌, ◌++◌, length, drop, Option, Some, None, refl, sym, ◌∙◌, ap, arith}
use Rattle.std.proofs.lemmas.Bool.{and_parts, eqb-true}
use Rattle.std.proofs.lemmas.List.{append_assoc, append-nil}
use Rattle.pgo_lexer.specs.declared.string.Char.{Char}
use Rattle.pgo_lexer.specs.declared.string.Char.TheVariants as char
use Rattle.pgo_lexer.specs.Lexemes.{is_printed, is_plain, escaped, Quoted}
use Rattle.pgo_lexer.specs.Lexemes as q
use Rattle.pgo_lexer.specs.Pieces.{char_at, escape, plain, by_char, chars}
use Rattle.pgo_lexer.proofs.Runs.{cond_true, cond_false}

-- the bytes begin with a string's content and its closing quote
pub record Content (done : List ℕ) (at : ℕ) (bs : List ℕ) (p : List ℕ × ℕ) : Type 0 where
  pub inner : List ℕ
  pub string : List ℕ
  pub rest : List ℕ
  pub split : bs ≡ inner ++ (34 ∷ rest)
  pub is : Quoted inner string
  pub text : p.0 ≡ done ++ string
  pub long : p.1 ≡ at + length inner + 1

char_if : (go : ℕ → ℕ → Option (List ℕ × ℕ)) (done : List ℕ) (at : ℕ) (p : List ℕ × ℕ) (t : Bool) (x y : Char) (Goal : Type 0) → by_char go done at (cond t x y) ≡ Some p
    → (t ≡ true → by_char go done at x ≡ Some p → Goal) → (t ≡ false → by_char go done at y ≡ Some p → Goal) → Goal
char_if go done at p true x y Goal e f g = f refl e
char_if go done at p false x y Goal e f g = g refl e

no_char : (p : List ℕ × ℕ) (Goal : Type 0) → None ≡ Some p → Goal
no_char p Goal e = absurd (cc)

at_end : (done : List ℕ) (at b : ℕ) (bs : List ℕ) (p : List ℕ × ℕ) → nat_eq b 34 ≡ true → Some (done, at + 1) ≡ Some p → Content done at (b ∷ bs) p
at_end done at b bs p t e =
    let same : (done, at + 1) ≡ p = cc in
    record { inner = []; string = []; rest = bs; split = (λ i. eqb-true b 34 t i ∷ bs); is = q.none; text = ap (λ x. x.0) (sym same) ∙ sym (append-nil done); long = ap (λ x. x.1) (sym same) ∙ (omega arith) }

at_plain : (done : List ℕ) (at b : ℕ) (bs : List ℕ) (p : List ℕ × ℕ) → is_plain b ≡ true → Content (done ++ b ∷ []) (at + 1) bs p → Content done at (b ∷ bs) p
at_plain done at b bs p t h = record {
  inner = b ∷ h.inner;
  string = b ∷ h.string;
  rest = h.rest;
  split = ap (λ x. b ∷ x) h.split;
  is = q.plain t h.is;
  text = h.text ∙ append_assoc done (b ∷ []) h.string;
  long = h.long ∙ (omega arith);
}

at_escape : (done : List ℕ) (at b c x : ℕ) (bs : List ℕ) (p : List ℕ × ℕ) → nat_eq b 92 ≡ true → escaped c ≡ Some x → Content (done ++ x ∷ []) (at + 2) bs p → Content done at (b ∷ (c ∷ bs)) p
at_escape done at b c x bs p t e h = record {
  inner = 92 ∷ (c ∷ h.inner);
  string = x ∷ h.string;
  rest = h.rest;
  split = (λ i. eqb-true b 92 t i ∷ (c ∷ h.split i));
  is = q.escape e h.is;
  text = h.text ∙ append_assoc done (x ∷ []) h.string;
  long = h.long ∙ (omega arith);
}

escape_by : (n : ℕ) (done : List ℕ) (at b c : ℕ) (bs : List ℕ) (p : List ℕ × ℕ) (o : Option ℕ) → nat_eq b 92 ≡ true → escaped c ≡ o
    → by_char (λ b' k. chars n (done ++ b' ∷ []) (at + k) (drop k (b ∷ (c ∷ bs)))) done at (escape o) ≡ Some p
    → ((x : ℕ) → chars n (done ++ x ∷ []) (at + 2) bs ≡ Some p → Content (done ++ x ∷ []) (at + 2) bs p) → Content done at (b ∷ (c ∷ bs)) p
escape_by n done at b c bs p None t is e ih = no_char p _ e
escape_by n done at b c bs p (Some x) t is e ih = at_escape done at b c x bs p t is (ih x e)

pub content_sound : (n : ℕ) (done : List ℕ) (at : ℕ) (bs : List ℕ) (p : List ℕ × ℕ) → chars n done at bs ≡ Some p → Content done at bs p
unfolding chars char_at
content_sound zero done at bs p e = no_char p _ e
content_sound (suc n) done at [] p e = no_char p _ e
content_sound (suc n) done at (b ∷ []) p e =
    let go : ℕ → ℕ → Option (List ℕ × ℕ) = λ b' k. chars n (done ++ b' ∷ []) (at + k) (drop k (b ∷ [])) in
    char_if go done at p (nat_eq b 34) char.End (plain b) (Content done at (b ∷ []) p) e
    (λ t e. at_end done at b [] p t e)
    (λ _ e. char_if go done at p (is_plain b) (char.Byte b 1) char.Bad (Content done at (b ∷ []) p) e
    (λ t e. at_plain done at b [] p t (content_sound n (done ++ b ∷ []) (at + 1) [] p e))
    (λ _ e. no_char p _ e))
content_sound (suc n) done at (b ∷ (c ∷ bs)) p e =
    let go : ℕ → ℕ → Option (List ℕ × ℕ) = λ b' k. chars n (done ++ b' ∷ []) (at + k) (drop k (b ∷ (c ∷ bs))) in
    let G : Type 0 = Content done at (b ∷ (c ∷ bs)) p in
    char_if go done at p (nat_eq b 34) char.End _ G e
    (λ t e. at_end done at b (c ∷ bs) p t e)
    (λ _ e. char_if go done at p (nat_eq b 92) (escape (escaped c)) (plain b) G e
    (λ t e. escape_by n done at b c bs p (escaped c) t refl e (λ x e. content_sound n (done ++ x ∷ []) (at + 2) bs p e))
    (λ _ e. char_if go done at p (is_plain b) (char.Byte b 1) char.Bad G e
    (λ t e. at_plain done at b (c ∷ bs) p t (content_sound n (done ++ b ∷ []) (at + 1) (c ∷ bs) p e))
    (λ _ e. no_char p _ e)))

-- ---- the other way round

quote_char : (rest : List ℕ) → char_at (34 ∷ rest) ≡ char.End
unfolding char_at
quote_char [] = refl
quote_char (c ∷ rest) = refl

not_true : (t : Bool) → not t ≡ true → t ≡ false
not_true true h = cc
not_true false h = refl

plain_char : (b : ℕ) (bs : List ℕ) → is_plain b ≡ true → char_at (b ∷ bs) ≡ char.Byte b 1
unfolding char_at
plain_char b [] h =
    let parts = and_parts (is_printed b) (not (nat_eq b 34) && not (nat_eq b 92)) h in
    let others = and_parts (not (nat_eq b 34)) (not (nat_eq b 92)) parts.1 in
    cond_false (nat_eq b 34) char.End (plain b) (not_true (nat_eq b 34) others.0) ∙ cond_true (is_plain b) (char.Byte b 1) char.Bad h
plain_char b (c ∷ bs) h =
    let parts = and_parts (is_printed b) (not (nat_eq b 34) && not (nat_eq b 92)) h in
    let others = and_parts (not (nat_eq b 34)) (not (nat_eq b 92)) parts.1 in
    cond_false (nat_eq b 34) char.End _ (not_true (nat_eq b 34) others.0) ∙ cond_false (nat_eq b 92) (escape (escaped c)) (plain b) (not_true (nat_eq b 92) others.1)
    ∙ cond_true (is_plain b) (char.Byte b 1) char.Bad h

escape_char : (c b : ℕ) (bs : List ℕ) → escaped c ≡ Some b → char_at (92 ∷ (c ∷ bs)) ≡ char.Byte b 2
unfolding char_at
escape_char c b bs e = ap escape e

pub content_complete : {inner string : List ℕ} → Quoted inner string → (n : ℕ) (done : List ℕ) (at : ℕ) (rest : List ℕ) → length inner + 1 ≤ n → chars n done at (inner ++ (34 ∷ rest)) ≡ Some (done ++ string, at + length inner + 1)
unfolding chars
content_complete q.none zero done at rest h = absurd (omega arith)
content_complete q.none (suc n) done at rest h =
    let go : ℕ → ℕ → Option (List ℕ × ℕ) = λ b k. chars n (done ++ b ∷ []) (at + k) (drop k (34 ∷ rest)) in
    let number : at + 1 ≡ at + 0 + 1 = omega arith in
    ap (by_char go done at) (quote_char rest) ∙ (λ i. Some (sym (append-nil done) i, number i))
content_complete (q.plain {b} {bs} {string} t d) zero done at rest h = absurd (omega arith)
content_complete (q.plain {b} {bs} {string} t d) (suc n) done at rest h =
    let go : ℕ → ℕ → Option (List ℕ × ℕ) = λ x k. chars n (done ++ x ∷ []) (at + k) (drop k (b ∷ (bs ++ (34 ∷ rest)))) in
    let number : (at + 1) + length bs + 1 ≡ at + length (b ∷ bs) + 1 = omega arith in
    ap (by_char go done at) (plain_char b (bs ++ (34 ∷ rest)) t) ∙ content_complete d n (done ++ b ∷ []) (at + 1) rest (omega arith)
    ∙ (λ i. Some (append_assoc done (b ∷ []) string i, number i))
content_complete (q.escape {b} {c} {bs} {string} e d) zero done at rest h = absurd (omega arith)
content_complete (q.escape {b} {c} {bs} {string} e d) (suc n) done at rest h =
    let go : ℕ → ℕ → Option (List ℕ × ℕ) = λ x k. chars n (done ++ x ∷ []) (at + k) (drop k (92 ∷ (c ∷ (bs ++ (34 ∷ rest))))) in
    let number : (at + 2) + length bs + 1 ≡ at + length (92 ∷ (c ∷ bs)) + 1 = omega arith in
    ap (by_char go done at) (escape_char c b (bs ++ (34 ∷ rest)) e) ∙ content_complete d n (done ++ b ∷ []) (at + 2) rest (omega arith)
    ∙ (λ i. Some (append_assoc done (b ∷ []) string i, number i))
