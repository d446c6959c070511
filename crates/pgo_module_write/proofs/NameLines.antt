-- Names of a line, and the head of a definition, before what follows them.
use Rattle.std.proofs.Common.{◌≡◌, ℕ, Bool, true, false, nat_eq, List, [], ◌∷◌, ◌++◌, refl, ap, sym, ◌∙◌, subst}
use Rattle.std.specs.Prelude.{codes}
use Rattle.std.proofs.lemmas.Bool.{and_parts, eqb-true}
use Rattle.std.proofs.lemmas.List.{append_assoc, append-nil}
use Rattle.pgo_base.specs.Lookup.{Name}
use Rattle.pgo_model.specs.ValueText.{is_word_byte}
use Rattle.pgo_model.specs.ExprText.{names_text}
use Rattle.pgo_model.specs.ModuleText.{parameters_text}
use Rattle.pgo_lexer.specs.declared.symbol.Bracket.{Bracket}
use Rattle.pgo_lexer.specs.declared.symbol.Bracket.TheVariants as bracket
use Rattle.pgo_lexer.specs.declared.symbol.Symbol.TheVariants as symbol
use Rattle.pgo_lexer.specs.declared.token.Token.{Token}
use Rattle.pgo_lexer.specs.declared.token.Token.TheVariants as t
use Rattle.pgo_lexer.specs.Lexemes.{all_are}
use Rattle.pgo_expr_read.specs.Spells.{names}
use Rattle.pgo_expr_write.specs.Pieces.{Piece, piece_text, pieces_text, names_from}
use Rattle.pgo_expr_write.specs.WellFormed.{IsName, AreNames}
use Rattle.pgo_expr_write.proofs.Lexed.{Lexed}
use Rattle.pgo_expr_write.proofs.FixedWords.{Ends, Begins, round_open, round_close}
use Rattle.pgo_expr_write.proofs.Leaves.{name_bytes, name_said, name_begins}
use Rattle.pgo_expr_write.proofs.ListTexts.{names_is}
use Rattle.pgo_expr_write.proofs.ItemRows.{names_said}
use Rattle.pgo_expr_write.proofs.Inners.{ahead, regroup}
use Rattle.pgo_module_write.proofs.Placed.{begins_blank}

ahead_is : (ps : List Piece) (rest : List ℕ) → ahead ps rest ≡ pieces_text ps ++ rest
ahead_is [] rest = refl
ahead_is (p ∷ ps) rest = ap (λ z. piece_text p ++ z) (ahead_is ps rest) ∙ sym (append_assoc (piece_text p) (pieces_text ps) rest)

names_ahead : (xs : List Name) (rest : List ℕ) → ahead (names_from 0 xs) rest ≡ names_text xs ++ rest
names_ahead xs rest = ahead_is (names_from 0 xs) rest ∙ ap (λ z. z ++ rest) (names_is xs)

pub names_before : (x : Name) (xs : List Name) → IsName x → AreNames xs → (st : List Bracket) (p : Bool) (rest : List ℕ) (us : List Token) → Ends rest → Lexed st true rest us
    → Lexed st p (names_text (x ∷ xs) ++ rest) (names x xs ++ us)
names_before x xs h hs st p rest us ends d = regroup _ _ _ _ (names_ahead (x ∷ xs) rest) refl (names_said x xs h hs st p rest us ends d)

group : (a b c d : List ℕ) → a ++ (b ++ c ++ d) ≡ (a ++ b ++ c) ++ d
group a b c d = ap (λ z. a ++ z) (append_assoc b c d) ∙ sym (append_assoc a b (c ++ d)) ∙ sym (append_assoc (a ++ b) c d)

names_begin : (x : Name) (xs : List Name) → IsName x → (rest : List ℕ) → Begins (names_text (x ∷ xs) ++ rest)
names_begin x [] h rest = name_begins x rest h
names_begin x (y ∷ ys) h rest = subst Begins (group x (codes ", ") (names_text (y ∷ ys)) rest) (name_begins x (codes ", " ++ names_text (y ∷ ys) ++ rest) h)

-- ---- heads

abbrev pub head_text : Name → List Name → List ℕ
head_text x ps = x ++ parameters_text ps

abbrev pub head_tokens : Name → List Name → List Token
head_tokens x [] = t.Name x ∷ []
head_tokens x (y ∷ ys) = t.Name x ∷ (t.Symbol (symbol.Open bracket.Round) ∷ (names y ys ++ (t.Symbol (symbol.Close bracket.Round) ∷ [])))

pub head_before : (x : Name) (ps : List Name) → IsName x → AreNames ps → (rest : List ℕ) (us : List Token) → Ends rest → Lexed [] true rest us → Lexed [] true (head_text x ps ++ rest) (head_tokens x ps ++ us)
head_before x [] h hs rest us ends d = regroup _ _ _ _ (ap (λ z. z ++ rest) (sym (append-nil x))) refl (name_said x rest h ends d)
head_before x (y ∷ ys) h hs rest us ends d =
    let inside = names_before y ys hs.0 hs.1 (bracket.Round ∷ []) false (41 ∷ rest) (t.Symbol (symbol.Close bracket.Round) ∷ us) (refl, refl) (round_close rest d) in
    let behind = name_said x (40 ∷ (names_text (y ∷ ys) ++ 41 ∷ rest)) h (refl, refl) (round_open (names_text (y ∷ ys) ++ 41 ∷ rest) (names_begin y ys hs.0 (41 ∷ rest)) inside) in
    regroup _ _ _ _ (bytes x (names_text (y ∷ ys)) rest)
    (ap (λ z. t.Name x ∷ (t.Symbol (symbol.Open bracket.Round) ∷ z)) (sym (append_assoc (names y ys) (t.Symbol (symbol.Close bracket.Round) ∷ []) us))) behind
  where
    bytes : (a b c : List ℕ) → a ++ (40 ∷ (b ++ 41 ∷ c)) ≡ (a ++ (codes "(" ++ b ++ codes ")")) ++ c
    bytes a b c = ap (λ z. a ++ (40 ∷ z)) (sym (append_assoc b (41 ∷ []) c)) ∙ sym (append_assoc a (40 ∷ (b ++ 41 ∷ [])) c)

-- a line that begins with a name begins with no blank
word_no_blank : (b : ℕ) (c : Bool) → nat_eq b 32 ≡ c → is_word_byte b ≡ true → nat_eq b 32 ≡ false
word_no_blank b true e h = absurd (let z = sym (ap is_word_byte (eqb-true b 32 e)) ∙ h in cc)
word_no_blank b false e h = e

pub no_blank : (x rest : List ℕ) → IsName x → begins_blank (x ++ rest) ≡ false
no_blank [] rest h = absurd (let z = h.0 in cc)
no_blank (b ∷ bs) rest h = word_no_blank b (nat_eq b 32) refl (and_parts (is_word_byte b) (all_are is_word_byte bs) (name_bytes (b ∷ bs) h.0)).0
