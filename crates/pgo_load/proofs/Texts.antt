-- The text of a load, put together.
use Rattle.std.proofs.Common.{◌≡◌, ℕ, zero, suc, List, [], ◌∷◌, ◌++◌, decimal, refl, sym, ap, ◌∙◌, append_assoc, ◌+◌, add-one}
use Rattle.std.specs.Prelude.{codes}
use Rattle.std.proofs.lemmas.List.{append-nil}
use Rattle.pgo_model.specs.ModuleText.{Line, line, flatten}
use Rattle.pgo_log_text.proofs.LinesEntries.{flatten_append}
use Rattle.pgo_load.specs.Load.{head, tail, numbered, ping_line, pong_line, load_text}
use Rattle.pgo_load.specs.Numbered.{numbered_line}

-- a line more
one_more_line : (make : ℕ → Line) (n : ℕ) (before : List ℕ) → before ++ flatten (numbered make n) ++ make (suc n) ≡ before ++ flatten (numbered make (suc n))
one_more_line make n before =
    append_assoc before (flatten (numbered make n)) (make (suc n))
    ∙ ap (λ z. before ++ z) (ap (λ z. flatten (numbered make n) ++ z) (sym (append-nil (make (suc n)))) ∙ sym (flatten_append (numbered make n) (make (suc n) ∷ [])))

pub one_more : (make : ℕ → Line) (n : ℕ) (before : List ℕ) → before ++ flatten (numbered make n) ++ make (n + 1) ≡ before ++ flatten (numbered make (n + 1))
one_more make n before = rw add-one (one_more_line make n before)

-- lines that are the same one by one
same_lines : (make other : ℕ → Line) → ((n : ℕ) → make n ≡ other n) → (n : ℕ) → numbered make n ≡ numbered other n
same_lines make other same zero = refl
same_lines make other same (suc n) = λ i. same_lines make other same n i ++ (same (suc n) i ∷ [])

-- a newline at the end of a line with a number
newline : (a b c d : List ℕ) → a ++ (d ++ (b ++ (d ++ (c ++ 10 ∷ [])))) ≡ line (a ++ (d ++ (b ++ (d ++ c))))
newline a b c d = simp append_assoc

all_lines : (a b c d : List Line) → flatten a ++ flatten b ++ flatten c ++ flatten d ≡ flatten (a ++ (b ++ (c ++ d)))
all_lines a b c d = simp (flatten_append, append_assoc)

-- the text is its parts
pub text_made : (size : ℕ) → flatten head ++ flatten (numbered (numbered_line (codes "fair process (Ping") (codes " = ") (codes ") == instance APing(ref net[_]) mapping net[_] via ReliableFIFOLink;\n")) size) ++ flatten (numbered (numbered_line (codes "fair process (Pong") (codes " = N + ") (codes ") == instance APong(ref net[_]) mapping net[_] via ReliableFIFOLink;\n")) size) ++ flatten tail ≡ load_text size
text_made size =
    let pings = same_lines _ ping_line (λ n. newline (codes "fair process (Ping") (codes " = ") (codes ") == instance APing(ref net[_]) mapping net[_] via ReliableFIFOLink;") (decimal n)) size in
    let pongs = same_lines _ pong_line (λ n. newline (codes "fair process (Pong") (codes " = N + ") (codes ") == instance APong(ref net[_]) mapping net[_] via ReliableFIFOLink;") (decimal n)) size in
    (λ i. flatten head ++ flatten (pings i) ++ flatten (pongs i) ++ flatten tail) ∙ all_lines head (numbered ping_line size) (numbered pong_line size) tail
