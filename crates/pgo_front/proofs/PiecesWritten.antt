-- A text that is written piece by piece.
use Rattle.std.proofs.Common.{◌≡◌, ◌≤◌, ℕ, ◌+◌, ◌-◌, List, length, take, drop, min, Option, ap, sym, ◌∙◌, subst, arith}
use Rattle.std.proofs.Math.Seq.{take-length, take-take}
use Rattle.std.proofs.lemmas.List.{take_min}
use Rattle.pgo_io.specs.Sink.{Grows, GrowsByPrefix}
use Rattle.pgo_io.proofs.Pieces.{grows_more}

-- the next piece of a text of which i bytes are written
abbrev pub IsNext : List ℕ → ℕ → List ℕ → Type 0
IsNext xs i piece = piece ≡ take (length piece) (take (length xs - i) (drop i xs))

pub piece_written : (a b c : Option (List ℕ)) (xs piece : List ℕ) (i : ℕ) → IsNext xs i piece → Grows a b (take i xs) → Grows b c piece → Grows a c (take (i + length piece) xs)
piece_written a b c xs piece i e g h = grows_more a b c xs i (length piece) g (subst (Grows b c) e h)

pub piece_in_part : (a b c : Option (List ℕ)) (xs piece : List ℕ) (i : ℕ) → IsNext xs i piece → Grows a b (take i xs) → GrowsByPrefix b c piece → GrowsByPrefix a c xs
piece_in_part a b c xs piece i e g (n, h) =
    let m = min n (length piece) in
    let below : m ≤ length piece = omega arith in
    (i + m, grows_more a b c xs i m g (subst (Grows b c) (sym (take_min n piece) ∙ ap (take m) e ∙ take-take m (length piece) (take (length xs - i) (drop i xs)) below) h))

-- an output that took all of a text, and holds the same since, has taken a prefix of it
pub all_in_part : (a b c : Option (List ℕ)) (xs : List ℕ) → Grows a b xs → c ≡ b → GrowsByPrefix a c xs
all_in_part a b c xs g same = (length xs, subst (Grows a c) (sym (take-length xs)) (subst (λ t. Grows a t xs) (sym same) g))
