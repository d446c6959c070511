-- The clauses of the public calls, from the laws of the tokens and of the marks.
use Rattle.std.proofs.Common.{◌≡◌, ◌≤◌, ◌+◌, ℕ, List, [], ◌∷◌, length, Option, Some, None, Result, Ok, Err, IfOk, refl, sym, ◌∙◌, ap, subst, arith}
use Rattle.std.specs.List.{All}
use Rattle.std.proofs.lemmas.List.{length-append}
use Rattle.std.proofs.lemmas.List.Elements.{All-nil, All-cons}
use Rattle.pgo_lexer.specs.declared.token.Lexeme.{Lexeme}
use Rattle.pgo_lexer.specs.declared.errors.TextStop.{TextStop}
use Rattle.pgo_lexer.specs.declared.errors.TextStop.TheVariants.{Syntax, NoMemory}
use Rattle.pgo_lexer.specs.Answers.{Gives}
use Rattle.pgo_lexer.specs.Lexemes.{Lexes}
use Rattle.pgo_lexer.specs.Lexemes as l
use Rattle.pgo_lexer.specs.Layout.{Marks}
use Rattle.pgo_lexer.specs.Lexing.{and_then, lexed}
use Rattle.pgo_lexer.specs.Marking.{marked, tokens}
use Rattle.pgo_lexer.specs.Tokenized.{Tokenized, IsOrNoMemory, SpansTo, Spans}
use Rattle.pgo_lexer.proofs.Runs.{no_some}
use Rattle.pgo_lexer.proofs.PieceComplete.{piece_found}
use Rattle.pgo_lexer.proofs.LexedExact.{lexed_sound, lexed_complete}
use Rattle.pgo_lexer.proofs.MarksComplete.{marks_only}
use Rattle.pgo_lexer.proofs.MarksSound.{marks_found}

sound_by : (limit : ℕ) (text : List ℕ) (ts : List Lexeme) (o : Option (List Lexeme)) → lexed limit (length text) 0 0 [] text ≡ o → and_then o marked ≡ Some ts → Tokenized limit text ts
sound_by limit text ts None is e = no_some ts _ e
sound_by limit text ts (Some unmarked) is e =
    let r = lexed_sound limit (length text) 0 0 [] unmarked text (omega arith) is in
    record { unmarked = unmarked; lexed = subst (λ x. Lexes 0 0 text x) (sym r.both) r.is; few = r.few; marked = marks_found unmarked ts e }

tokens_sound : (limit : ℕ) (text : List ℕ) (ts : List Lexeme) → tokens limit text ≡ Some ts → Tokenized limit text ts
tokens_sound limit text ts e = sound_by limit text ts (lexed limit (length text) 0 0 [] text) refl e

tokens_complete : (limit : ℕ) (text : List ℕ) (ts : List Lexeme) → Tokenized limit text ts → tokens limit text ≡ Some ts
tokens_complete limit text ts h = ap (λ o. and_then o marked) (lexed_complete h.lexed limit (length text) [] (omega arith) (omega (arith, h.few))) ∙ marks_only h.unmarked ts h.marked

pub result_found : (limit : ℕ) (text : List ℕ) (r : Result (List Lexeme) TextStop) → Gives (tokens limit text) r → IfOk r (λ ts. Tokenized limit text ts)
result_found limit text (Ok ts) e = tokens_sound limit text ts e
result_found limit text (Err (Syntax n)) e = tt
result_found limit text (Err NoMemory) e = tt

pub result_only : (limit : ℕ) (text : List ℕ) (r : Result (List Lexeme) TextStop) → Gives (tokens limit text) r → (ts : List Lexeme) → Tokenized limit text ts → IsOrNoMemory r ts
result_only limit text (Ok us) e ts h = let q = sym e ∙ tokens_complete limit text ts h in cc
result_only limit text (Err (Syntax n)) e ts h = absurd (let q = sym e ∙ tokens_complete limit text ts h in cc)
result_only limit text (Err NoMemory) e ts h = tt

pub one_list : (limit : ℕ) (text : List ℕ) (a b : List Lexeme) → Tokenized limit text a → Tokenized limit text b → a ≡ b
one_list limit text a b h k = let q = sym (tokens_complete limit text a h) ∙ tokens_complete limit text b k in cc

-- ---- without a limit

within : (text : List ℕ) (column offset : ℕ) (a : List Lexeme) (limit : ℕ) → Lexes column offset text a → length a ≤ limit → lexed limit (length text) column offset [] text ≡ Some a
within text column offset a limit h few = lexed_complete h limit (length text) [] (omega arith) (omega (arith, few))

pub one_lexed : (column offset : ℕ) (text : List ℕ) (a b : List Lexeme) → Lexes column offset text a → Lexes column offset text b → a ≡ b
one_lexed column offset text a b h k =
    let q = sym (within text column offset a (length a + length b) h (omega arith)) ∙ within text column offset b (length a + length b) k (omega arith) in
    cc

pub one_marked : (unmarked a b : List Lexeme) → Marks unmarked a → Marks unmarked b → a ≡ b
one_marked unmarked a b h k = let q = sym (marks_only unmarked a h) ∙ marks_only unmarked b k in cc

-- ---- spans

spans_later : (offset later end : ℕ) (ls : List Lexeme) → offset ≤ later → SpansTo later ls end → SpansTo offset ls end
spans_later offset later end [] h s = omega (arith, h, s)
spans_later offset later end (l ∷ ls) h s = (omega (arith, h, s.0), s.1)

pub spans_of : {column offset : ℕ} {text : List ℕ} {ls : List Lexeme} → Lexes column offset text ls → (end : ℕ) → end ≡ offset + length text → SpansTo offset ls end
spans_of (l.end {column} {offset}) end e = omega (arith, e)
spans_of (l.pass {column} {offset} front {rest} {ls} is d) end e =
    let long = length-append front rest in
    spans_later offset (offset + length front) end ls (omega arith) (spans_of d end (omega (arith, e, long)))
spans_of (l.token {column} {offset} front {rest} {ls} {token} is d) end e =
    let long = length-append front rest in
    let some = (piece_found is).some in
    (omega arith, (omega (arith, some), spans_of d end (omega (arith, e, long))))

pub spans : (column offset : ℕ) (text : List ℕ) (tokens : List Lexeme) → Lexes column offset text tokens → Spans offset text tokens
spans column offset text tokens d = spans_of d (offset + length text) refl

-- ---- tokens begin within the text

starts_of : {column offset : ℕ} {text : List ℕ} {ls : List Lexeme} → Lexes column offset text ls → (end : ℕ) → offset + length text ≤ end → All (λ t. t.start ≤ end) ls
starts_of (l.end {column} {offset}) end e = All-nil (λ (t : Lexeme). t.start ≤ end)
starts_of (l.pass {column} {offset} front {rest} {ls} is d) end e = starts_of d end (let long = length-append front rest in omega (arith, e, long))
starts_of (l.token {column} {offset} front {rest} {ls} {token} is d) end e =
    let long = length-append front rest in
    All-cons (λ (t : Lexeme). t.start ≤ end) (record { token = token; column = column; start = offset; stop = offset + length front }) ls (omega (arith, e)) (starts_of d end (omega (arith, e, long)))

pub lexed_starts : (limit : ℕ) (text : List ℕ) (ls : List Lexeme) → lexed limit (length text) 0 0 [] text ≡ Some ls → All (λ t. t.start ≤ length text) ls
lexed_starts limit text ls e =
    let r = lexed_sound limit (length text) 0 0 [] ls text (omega arith) e in
    subst (All (λ (t : Lexeme). t.start ≤ length text)) (sym r.both) (starts_of r.is (length text) (omega arith))
