-- Where the tokens of a part begin: no further than it ends.
use Rattle.std.proofs.Common.{◌≡◌, ◌≤◌, ◌+◌, ◌-◌, ℕ, List, [], ◌∷◌, ◌++◌, length, drop, take, Some, Result, Ok, Err, IfErr, sym, ◌∙◌, ap, subst, arith}
use Rattle.std.specs.List.{All}
use Rattle.std.proofs.lemmas.List.{take-append-drop, length-append}
use Rattle.std.proofs.lemmas.List.Elements.{All-nil, All-cons}
use Rattle.pgo_lexer.specs.declared.token.Lexeme.{Lexeme}
use Rattle.pgo_lexer.specs.declared.errors.TextStop.{TextStop}
use Rattle.pgo_lexer.specs.declared.errors.TextStop.TheVariants.{Syntax, NoMemory}
use Rattle.pgo_lexer.specs.Offsets.{IsWithin}
use Rattle.pgo_spec_text.specs.declared.cut.Head.{Head}
use Rattle.pgo_spec_text.specs.SpecText.{Cut, mpcal, most_tokens}
use Rattle.pgo_spec_text.specs.SpecText as s
use Rattle.pgo_spec_text.specs.Searching.{inside}
use Rattle.pgo_spec_text.specs.Cutting.{algorithm_in}
use Rattle.pgo_spec_text.proofs.Bodies.{inside_sound}
use Rattle.pgo_spec_text.proofs.AlgorithmExact.{algorithm_sound}
use Rattle.pgo_spec_text.proofs.Exact.{algorithm_there, body_behind}
use Rattle.pgo_spec_text.proofs.Prefixed.{HeaderIs, header_read}

cut_starts : {Allowed : List ℕ → Type 0} {before part rest : List ℕ} {ls : List Lexeme} → Cut Allowed before part rest ls → (end : ℕ) → length before + length part ≤ end → All (λ t. t.start ≤ end) ls
cut_starts (s.end {before} {rest}) end e = All-nil (λ (t : Lexeme). t.start ≤ end)
cut_starts (s.pass {before} piece {part} {rest} {ls} is allowed d) end e =
    cut_starts d end (let long = length-append piece part in let longer = length-append before piece in omega (arith, e, long, longer))
cut_starts (s.token {before} piece {part} {rest} {ls} {token} is d) end e =
    let long = length-append piece part in
    let longer = length-append before piece in
    All-cons (λ (t : Lexeme). t.start ≤ end) (s.lexeme token before piece) ls (omega (arith, e)) (cut_starts d end (omega (arith, e, long, longer)))

pub header_starts : (text : List ℕ) (start : ℕ) (h : Head) → start ≤ length text → HeaderIs text start (Some h) → All (λ t. t.start ≤ h.at) h.tokens
header_starts text start h within e =
    let r = header_read text start h within e in
    let long = length-append (take start text) r.part in
    let at = r.at in
    subst (All (λ (t : Lexeme). t.start ≤ h.at)) (sym r.tokens) (cut_starts r.cut h.at (omega (arith, long, at)))

-- the tokens in the body of a comment begin before what stands behind it
body_starts : (text before body behind : List ℕ) (used : ℕ) (ls : List Lexeme) → text ≡ before ++ (body ++ ((42 ∷ 41 ∷ []) ++ behind)) → algorithm_in text used (body, behind) ≡ Some ls → All (λ t. t.start ≤ length text - length behind) ls
body_starts text before body behind used ls e got =
    let a = algorithm_sound (most_tokens - used) (length body) ls 0 before body [] (omega arith) (sym (algorithm_there text before body behind used e) ∙ got) in
    let n = ap length e ∙ length-append before (body ++ ((42 ∷ 41 ∷ []) ++ behind)) in
    let m = length-append body ((42 ∷ 41 ∷ []) ++ behind) in
    let l = ap length a.split ∙ length-append a.part a.rest in
    subst (All (λ (t : Lexeme). t.start ≤ length text - length behind)) (sym a.tokens) (cut_starts a.cut (length text - length behind) (omega (arith, n, m, l)))

pub algorithm_starts : (text body behind : List ℕ) (at used : ℕ) (ls : List Lexeme) → inside (drop at text) ≡ Some (body, behind) → algorithm_in text used (body, behind) ≡ Some ls → All (λ t. t.start ≤ length text - length behind) ls
algorithm_starts text body behind at used ls there got =
    let k = inside_sound (drop at text) body behind there in
    let full : text ≡ take at text ++ ([] ++ (k.comment ++ behind)) = sym (take-append-drop at text) ∙ (λ j. take at text ++ k.both j) in
    body_starts text (take at text ++ ([] ++ (k.opening ++ mpcal))) body behind used ls
    (body_behind text (take at text) [] k.opening body behind (full ∙ (λ j. take at text ++ ([] ++ (k.is.both j ++ behind))))) got

pub within_more : {A : Type 0} (r : Result A TextStop) (n m : ℕ) → n ≤ m → IfErr r (IsWithin n) → IfErr r (IsWithin m)
within_more (Ok x) n m less h = tt
within_more (Err (Syntax offset)) n m less h = omega (arith, less, h)
within_more (Err NoMemory) n m less h = tt
