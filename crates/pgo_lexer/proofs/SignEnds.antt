-- A sign ends before a byte with which no longer sign begins.
use Rattle.std.proofs.Common.{◌≡◌, ◌<◌, ℕ, Bool, true, false, not, ◌&&◌, List, [], ◌∷◌, ◌++◌, length, Some, None, refl, sym, ◌∙◌, ap, arith}
use Rattle.std.proofs.lemmas.Bool.{and_parts, eq-eqb}
use Rattle.std.proofs.lemmas.List.{append_assoc}
use Rattle.pgo_model.specs.ValueText.{same_bytes}
use Rattle.pgo_model.specs.Names.{same_bytes-is}
use Rattle.pgo_lexer.specs.declared.token.Token.TheVariants as t
use Rattle.pgo_lexer.specs.declared.symbol.Symbol.{Symbol}
use Rattle.pgo_lexer.specs.Symbols.{Row, find, signs, is_beginning, begins_no_row}
use Rattle.pgo_lexer.specs.Lexemes.{IsPiece, opens, opens_line, opens_word}
use Rattle.pgo_lexer.specs.Lexemes as l
use Rattle.pgo_lexer.proofs.Runs.{cond_false}

beginning : (xs more : List ℕ) → is_beginning xs (xs ++ more) ≡ true
beginning [] more = refl
beginning (x ∷ xs) more = λ i. eq-eqb x x refl i && beginning xs more i

not_true : (b : Bool) → not b ≡ true → b ≡ false
not_true true h = cc
not_true false h = refl

none_longer : (xs more : List ℕ) (rows : List Row) → begins_no_row xs rows ≡ true → find (xs ++ more) rows ≡ None
none_longer xs more [] h = refl
none_longer xs more (r ∷ rs) h =
    let q = and_parts (not (is_beginning xs r.0)) (begins_no_row xs rs) h in
    go (same_bytes (xs ++ more) r.0) refl (not_true (is_beginning xs r.0) q.0) (none_longer xs more rs q.1)
  where
    go : (v : Bool) → same_bytes (xs ++ more) r.0 ≡ v → is_beginning xs r.0 ≡ false → find (xs ++ more) rs ≡ None → find (xs ++ more) (r ∷ rs) ≡ None
    go true same apart ih = absurd (let e = sym (beginning xs more) ∙ ap (is_beginning xs) (same_bytes-is (xs ++ more) r.0 same) ∙ apart in cc)
    go false other apart ih = cond_false _ _ _ other ∙ ih

longest : (front rest : List ℕ) (b : ℕ) → begins_no_row (front ++ b ∷ []) signs ≡ true → (more behind : List ℕ) → b ∷ rest ≡ more ++ behind → 0 < length more → find (front ++ more) signs ≡ None
longest front rest b h [] behind split some = absurd (omega arith)
longest front rest b h (x ∷ more) behind split some =
    let same : b ≡ x = cc in
    ap (λ y. find (front ++ (y ∷ more)) signs) (sym same) ∙ ap (λ y. find y signs) (sym (append_assoc front (b ∷ []) more)) ∙ none_longer (front ++ b ∷ []) more signs h

pub sign_ends : (front rest : List ℕ) (b : ℕ) (symbol : Symbol) → find front signs ≡ Some symbol → begins_no_row (front ++ b ∷ []) signs ≡ true
    → opens (front ++ b ∷ rest) ≡ false → opens_line (front ++ b ∷ rest) ≡ false → opens_word (front ++ b ∷ rest) ≡ false
    → IsPiece front (b ∷ rest) (Some (t.Symbol symbol))
sign_ends front rest b symbol found h c n w = l.sign (record { found = found; longest = λ more behind split some. longest front rest b h more behind split some; no_comment = c; no_line = n; no_word = w })
