-- What is lexed as part of a line has its tokens at their places in the whole text.
use Rattle.std.proofs.Common.{◌≡◌, ◌+◌, ℕ, Bool, true, false, ◌||◌, nat_eq, List, [], ◌∷◌, ◌++◌, length, Some, refl, ap, arith}
use Rattle.std.proofs.lemmas.List.{length-append}
use Rattle.pgo_lexer.specs.declared.token.Token.{Token}
use Rattle.pgo_lexer.specs.declared.token.Token.TheVariants as t
use Rattle.pgo_lexer.specs.declared.token.Lexeme.{Lexeme}
use Rattle.pgo_lexer.specs.declared.symbol.Symbol.TheVariants as symbol
use Rattle.pgo_lexer.specs.declared.symbol.Bracket.{Bracket}
use Rattle.pgo_lexer.specs.declared.kind.Kind.TheVariants as kind
use Rattle.pgo_lexer.specs.Kinds.{kind_of}
use Rattle.pgo_lexer.specs.Lexemes.{IsPiece}
use Rattle.pgo_lexer.specs.Lexemes as l
use Rattle.pgo_lexer.specs.Layout.{AllFrom}
use Rattle.pgo_expr_read.specs.Lookahead.{tokens_of, is_mapped}
use Rattle.pgo_spec_text.specs.SpecText.{Cut, Anything, lexeme}
use Rattle.pgo_spec_text.specs.SpecText as c
use Rattle.pgo_expr_write.proofs.Lexed.{SignsEnd, Lexed, as_piece, defines_written, is_defines}
use Rattle.pgo_expr_write.proofs.Lexed as w
use Rattle.pgo_module_write.proofs.LinePieces.{IsGap, token_in_line, before_gap}
use Rattle.pgo_module_write.proofs.FlatTokens.{Flat, Nest, whole, done, nest_plain, nest_open, nest_close, from_less, whole_line}
use Rattle.pgo_module_write.proofs.Spaces.{Between, none, other, apart, between_wider}
use Rattle.pgo_module_write.proofs.Cuts.{column_of, column_after}

-- the first token stands in this column
abbrev pub Leads : ℕ → List Lexeme → Type 0
Leads c [] = Unit {0}
Leads c (r ∷ rs) = r.column ≡ c

abbrev pub begins_blank : List ℕ → Bool
begins_blank [] = false
begins_blank (b ∷ bs) = nat_eq b 32

record Placed (st : List Bracket) (p : Bool) (before part rest : List ℕ) (ts : List Token) : Type 0 where
  lexemes : List Lexeme
  cut : Cut Anything before part rest lexemes
  same : tokens_of lexemes ≡ ts
  nest : Nest st p lexemes
  between : Between is_defines (length before) lexemes (length before + length part)
  from : AllFrom (column_of before) lexemes
  leads : begins_blank part ≡ false → Leads (column_of before) lexemes

right_false : (a b : Bool) → (a || b) ≡ false → b ≡ false
right_false true b h = cc
right_false false b h = h

open_apart : (k : Token) {z : Bracket} → kind_of k ≡ kind.Open z → is_defines k ≡ false
open_apart (t.Symbol symbol.Defines) h = cc
open_apart _ h = refl

close_apart : (k : Token) {z : Bracket} → kind_of k ≡ kind.Close z → is_defines k ≡ false
close_apart (t.Symbol symbol.Defines) h = cc
close_apart _ h = refl

module _ (ends : SignsEnd) (g : ℕ) (gap : IsGap g) (more : List ℕ) where
  -- one more token
  further : {st : List Bracket} {p : Bool} (before front rest : List ℕ) (b : ℕ) (k : Token) (ts : List Token) {ks : List Bracket} {u : Bool} → IsPiece (b ∷ front) rest (Some k) → is_defines k ≡ false
      → (q : Placed ks u (before ++ (b ∷ front)) rest (g ∷ more) ts) → Nest st p (lexeme k before (b ∷ front) ∷ q.lexemes) → Placed st p before (b ∷ (front ++ rest)) (g ∷ more) (k ∷ ts)
  further before front rest b k ts is not_apart q nest = record {
    lexemes = lexeme k before (b ∷ front) ∷ q.lexemes;
    cut = c.token (b ∷ front) (before_gap g gap more is) q.cut;
    same = ap (λ z. k ∷ z) q.same;
    nest = nest;
    between = other not_apart (omega arith) (omega arith) (between_wider (length before + length (b ∷ front)) (length before + length (b ∷ (front ++ rest))) (omega (arith, length-append before (b ∷ front))) (omega (arith, length-append before (b ∷ front), length-append front rest)) q.between);
    from = (omega arith, from_less (column_of before) (column_of (before ++ (b ∷ front))) q.lexemes (column_after before (b ∷ front) (token_in_line is)) q.from);
    leads = λ h. refl;
  }

  placed : {st : List Bracket} {p : Bool} {bs : List ℕ} {ts : List Token} → Lexed st p bs ts → (before : List ℕ) → Placed st p before bs (g ∷ more) ts
  placed w.end before = record { lexemes = []; cut = c.end; same = refl; nest = whole done; between = none (omega arith); from = tt; leads = λ h. tt }
  placed (w.blank {rest = rest} d) before =
      let q = placed d (before ++ (32 ∷ [])) in
      record {
        lexemes = q.lexemes;
        cut = c.pass (32 ∷ []) (l.blank refl) tt q.cut;
        same = q.same;
        nest = q.nest;
        between = between_wider (length before) (length before + length (32 ∷ rest)) (omega (arith, length-append before (32 ∷ []))) (omega (arith, length-append before (32 ∷ []))) q.between;
        from = from_less (column_of before) (column_of (before ++ (32 ∷ []))) q.lexemes (column_after before (32 ∷ []) refl) q.from;
        leads = λ h. absurd (let z = h in cc);
      }
  placed (w.defines {rest = rest} d) before =
      let sign = before ++ (61 ∷ 61 ∷ []) in
      let q = placed d (sign ++ (32 ∷ [])) in
      record {
        lexemes = lexeme (t.Symbol symbol.Defines) before (61 ∷ 61 ∷ []) ∷ q.lexemes;
        cut = c.token (61 ∷ 61 ∷ []) (before_gap g gap more (as_piece ends (defines_written rest))) (c.pass (32 ∷ []) (l.blank refl) tt q.cut);
        same = ap (λ z. t.Symbol symbol.Defines ∷ z) q.same;
        nest = nest_plain (lexeme (t.Symbol symbol.Defines) before (61 ∷ 61 ∷ [])) refl q.nest;
        between = apart (omega arith) (omega arith)
            (between_wider (length before + 2 + 1) (length before + length (61 ∷ 61 ∷ 32 ∷ rest)) (omega (arith, length-append before (61 ∷ 61 ∷ []), length-append sign (32 ∷ []))) (omega (arith, length-append before (61 ∷ 61 ∷ []), length-append sign (32 ∷ []))) q.between);
        from = (omega arith, from_less (column_of before) (column_of (sign ++ (32 ∷ []))) q.lexemes (omega (arith, column_after before (61 ∷ 61 ∷ []) refl, column_after sign (32 ∷ []) refl)) q.from);
        leads = λ h. refl;
      }
  placed (w.single b front {rest = rest} {k = k} {ts = ts} is not_apart may d) before =
      let q = placed d (before ++ (b ∷ front)) in
      further before front rest b k ts (as_piece ends is) (right_false (is_mapped k) (is_defines k) not_apart) q (nest_plain (lexeme k before (b ∷ front)) may q.nest)
  placed (w.opening b front {rest = rest} {k = k} {ts = ts} is no_mapped may d) before =
      let q = placed d (before ++ (b ∷ front)) in
      further before front rest b k ts (as_piece ends is) (open_apart k may) q (nest_open (lexeme k before (b ∷ front)) may q.nest)
  placed (w.closing b front {rest = rest} {k = k} {ts = ts} is no_mapped may d) before =
      let q = placed d (before ++ (b ∷ front)) in
      further before front rest b k ts (as_piece ends is) (close_apart k may) q (nest_close (lexeme k before (b ∷ front)) may q.nest)

-- a part of a line whose brackets are closed, before a gap
pub record Laid (p : Bool) (before part rest : List ℕ) (ts : List Token) : Type 0 where
  pub lexemes : List Lexeme
  pub cut : Cut Anything before part rest lexemes
  pub same : tokens_of lexemes ≡ ts
  pub behind : Bool
  pub flat : Flat p lexemes behind
  pub between : Between is_defines (length before) lexemes (length before + length part)
  pub from : AllFrom (column_of before) lexemes
  pub leads : begins_blank part ≡ false → Leads (column_of before) lexemes

pub laid : SignsEnd → (g : ℕ) → IsGap g → (more : List ℕ) → {p : Bool} {bs : List ℕ} {ts : List Token} → Lexed [] p bs ts → (before : List ℕ) → Laid p before bs (g ∷ more) ts
laid ends g gap more d before =
    let q = placed ends g gap more d before in
    let n = whole_line q.nest in
    record { lexemes = q.lexemes; cut = q.cut; same = q.same; behind = n.behind; flat = n.flat; between = q.between; from = q.from; leads = q.leads }
