-- Parts of a text that are cut into pieces, one behind the other, and the columns in them.
use Rattle.std.proofs.Common.{◌≡◌, ◌≤◌, ◌+◌, ◌-◌, ◌%◌, ℕ, Bool, true, false, not, cond, nat_eq, List, [], ◌∷◌, ◌++◌, Some, None, refl, ap, sym, ◌∙◌, subst, arith}
use Rattle.std.proofs.lemmas.Bool.{and_parts}
use Rattle.std.proofs.lemmas.List.{append_assoc, append-nil}
use Rattle.std.proofs.lemmas.List.Sums.{fold-append}
use Rattle.pgo_lexer.specs.declared.token.Lexeme.{Lexeme}
use Rattle.pgo_lexer.specs.Lexemes.{IsPiece, column_behind, columns_behind, all_are, is_in_line}
use Rattle.pgo_spec_text.specs.SpecText.{Cut, Anything, lexeme}
use Rattle.pgo_spec_text.specs.SpecText as c

-- ---- columns

abbrev pub column_of : List ℕ → ℕ
column_of before = columns_behind 0 before

pub column_further : (before piece : List ℕ) → column_of (before ++ piece) ≡ columns_behind (column_of before) piece
column_further before piece = fold-append column_behind 0 before piece

by_byte : (c b : ℕ) (newline tab : Bool) → not newline ≡ true → c ≤ cond newline 0 (cond tab (c + (8 - c % 8)) (c + 1))
by_byte c b true tab h = cc
by_byte c b false true h = omega arith
by_byte c b false false h = omega arith

byte_further : (c b : ℕ) → is_in_line b ≡ true → c ≤ column_behind c b
unfolding column_behind
byte_further c b h = by_byte c b (nat_eq b 10) (nat_eq b 9) h

bytes_further : (c : ℕ) (bs : List ℕ) → all_are is_in_line bs ≡ true → c ≤ columns_behind c bs
bytes_further c [] h = omega arith
bytes_further c (b ∷ bs) h =
    let q = and_parts (is_in_line b) (all_are is_in_line bs) h in
    omega (arith, byte_further c b q.0, bytes_further (column_behind c b) bs q.1)

-- behind bytes of the same line
pub column_after : (before piece : List ℕ) → all_are is_in_line piece ≡ true → column_of before ≤ column_of (before ++ piece)
column_after before piece h = omega (arith, column_further before piece, bytes_further (column_of before) piece h)

-- behind a newline
pub line_begins : (before : List ℕ) → column_of (before ++ 10 ∷ []) ≡ 0
unfolding column_behind
line_begins before = column_further before (10 ∷ [])

-- behind a byte of one column
pub one_further : (before : List ℕ) (b n m : ℕ) → column_of before ≡ n → m ≡ n + 1 → nat_eq b 10 ≡ false → nat_eq b 9 ≡ false → column_of (before ++ b ∷ []) ≡ m
unfolding column_behind
one_further before b n m h e newline tab =
    column_further before (b ∷ []) ∙ (λ i. cond (newline i) 0 (cond (tab i) (column_of before + (8 - column_of before % 8)) (column_of before + 1))) ∙ omega (arith, h, e)

-- behind `/\` in column 2
pub bullet_further : (before : List ℕ) → column_of before ≡ 2 → 3 ≤ column_of (before ++ (47 ∷ 92 ∷ []))
unfolding column_behind
bullet_further before h =
    let e : column_of (before ++ (47 ∷ 92 ∷ [])) ≡ column_of before + 1 + 1 = column_further before (47 ∷ 92 ∷ []) in
    omega (arith, e, h)

-- ---- cuts

-- the same behind what is the same
pub cut_behind : (before other part rest : List ℕ) {ls : List Lexeme} → before ≡ other → Cut Anything before part rest ls → Cut Anything other part rest ls
cut_behind before other part rest {ls} e d = subst (λ z. Cut Anything z part rest ls) e d

cut_onto : {before part rest : List ℕ} {ls : List Lexeme} → Cut Anything before part rest ls → (more behind : List ℕ) (ms : List Lexeme) → rest ≡ more ++ behind → Cut Anything (before ++ part) more behind ms
    → Cut Anything before (part ++ more) behind (ls ++ ms)
cut_onto (c.end {before = before}) more behind ms e d = cut_behind _ _ more behind (append-nil before) d
cut_onto (c.pass {before = before} piece {part = part} {rest = rest} {ls = ls} is allowed d) more behind ms e k =
    let group = append_assoc piece part more in
    let goes = cut_onto d more behind ms e (cut_behind _ _ more behind (sym (append_assoc before piece part)) k) in
    let same : part ++ rest ≡ (part ++ more) ++ behind = ap (λ z. part ++ z) e ∙ sym (append_assoc part more behind) in
    subst (λ z. Cut Anything before z behind (ls ++ ms)) (sym group) (c.pass piece (subst (λ z. IsPiece piece z None) same is) allowed goes)
cut_onto (c.token {before = before} piece {part = part} {rest = rest} {ls = ls} {token = token} is d) more behind ms e k =
    let group = append_assoc piece part more in
    let goes = cut_onto d more behind ms e (cut_behind _ _ more behind (sym (append_assoc before piece part)) k) in
    let same : part ++ rest ≡ (part ++ more) ++ behind = ap (λ z. part ++ z) e ∙ sym (append_assoc part more behind) in
    subst (λ z. Cut Anything before z behind (lexeme token before piece ∷ (ls ++ ms))) (sym group) (c.token piece (subst (λ z. IsPiece piece z (Some token)) same is) goes)

-- a part, and a part behind it
pub cut_both : (before part more behind : List ℕ) {ls ms : List Lexeme} → Cut Anything before part (more ++ behind) ls → Cut Anything (before ++ part) more behind ms → Cut Anything before (part ++ more) behind (ls ++ ms)
cut_both before part more behind {ms = ms} d k = cut_onto d more behind ms refl k
