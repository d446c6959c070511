-- Lines that are written one after another.
use Rattle.std.proofs.Common.{◌≡◌, ◌<◌, ◌+◌, ℕ, suc, List, [], ◌∷◌, ◌++◌, length, take, drop, get_or, Option, ap, sym, ◌∙◌, subst, arith, append_assoc, append-nil}
use Rattle.std.proofs.Math.Seq.{take-suc, drop-cons, take-append_seam}
use Rattle.std.proofs.lemmas.List.{take-append-drop}
use Rattle.pgo_io.specs.Sink.{Grows, GrowsByPrefix}
use Rattle.pgo_io.proofs.Pieces.{grows_twice}
use Rattle.pgo_model.specs.ModuleText.{Line, flatten}
use Rattle.pgo_log_text.proofs.LinesEntries.{flatten_append}

-- the lines up to the next one
pub one_line_more : (ls : List Line) (i : ℕ) (l : Line) → i < length ls → l ≡ get_or ls i l → flatten (take (i + 1) ls) ≡ flatten (take i ls) ++ l
one_line_more ls i l below l_is =
    ap flatten (ap (λ n. take n ls) (one_more i) ∙ take-suc ls i l below ∙ ap (λ y. take i ls ++ y ∷ []) (sym l_is))
    ∙ flatten_append (take i ls) (l ∷ []) ∙ ap (λ t. flatten (take i ls) ++ t) (append-nil l)
  where
    one_more : (k : ℕ) → k + 1 ≡ suc k
    one_more k = omega arith

-- all lines, from the next one on
around : (ls : List Line) (i : ℕ) (l : Line) → i < length ls → l ≡ get_or ls i l → flatten ls ≡ flatten (take i ls) ++ (l ++ flatten (drop (suc i) ls))
around ls i l below l_is =
    ap flatten (sym (take-append-drop i ls)) ∙ flatten_append (take i ls) (drop i ls)
    ∙ ap (λ t. flatten (take i ls) ++ flatten t) (drop-cons ls i l below ∙ ap (λ y. y ∷ drop (suc i) ls) (sym l_is))

-- an output that took the first lines and then the next has taken these lines
pub line_written : (a b c : Option (List ℕ)) (ls : List Line) (i : ℕ) (l : Line) → i < length ls → l ≡ get_or ls i l
    → Grows a b (flatten (take i ls)) → Grows b c l → Grows a c (flatten (take (i + 1) ls))
line_written a b c ls i l below l_is g h = subst (Grows a c) (sym (one_line_more ls i l below l_is)) (grows_twice a b c (flatten (take i ls)) l g h)

-- an output that took the first lines and then a prefix of the next has taken a prefix of all lines
pub prefix_written : (a b c : Option (List ℕ)) (ls : List Line) (i : ℕ) (l : Line) → i < length ls → l ≡ get_or ls i l
    → Grows a b (flatten (take i ls)) → GrowsByPrefix b c l → GrowsByPrefix a c (flatten ls)
prefix_written a b c ls i l below l_is g (n, h) =
    (length (flatten (take i ls) ++ take n l), subst (Grows a c) (sym front) (grows_twice a b c (flatten (take i ls)) (take n l) g h))
  where
    split : flatten ls ≡ (flatten (take i ls) ++ take n l) ++ (drop n l ++ flatten (drop (suc i) ls))
    split =
        around ls i l below l_is
        ∙ ap (λ t. flatten (take i ls) ++ (t ++ flatten (drop (suc i) ls))) (sym (take-append-drop n l))
        ∙ regroup (flatten (take i ls)) (take n l) (drop n l) (flatten (drop (suc i) ls))
      where
        regroup : (p q r s : List ℕ) → p ++ ((q ++ r) ++ s) ≡ (p ++ q) ++ (r ++ s)
        regroup p q r s = simp append_assoc

    front : take (length (flatten (take i ls) ++ take n l)) (flatten ls) ≡ flatten (take i ls) ++ take n l
    front =
        ap (take (length (flatten (take i ls) ++ take n l))) split
        ∙ take-append_seam (flatten (take i ls) ++ take n l) (drop n l ++ flatten (drop (suc i) ls))
