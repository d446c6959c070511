-- Whether a log's records are tied, by its version, and the line of its first line.
use Rattle.std.proofs.Common.{◌≡◌, ◌+◌, ◌-◌, ◌^◌, ℕ, min, List, ◌++◌, length, length-append, take, Some, None, sym, ap, subst, ◌∙◌, arith}
use Rattle.std.proofs.lemmas.List.{take-append-le, take_all}
use Rattle.pgo_bundle.specs.BundleLog.{One, Two, BundleLog}
use Rattle.pgo_bundle.specs.Places.{lines_before}
use Rattle.pgo_bundle.specs.Untied.{Untied, untied_at}
use Rattle.pgo_bundle.proofs.Saturated.{sum_behind}
use Rattle.pgo_log_text.specs.IsBundle.{IsTiedAs}
use Rattle.pgo_log_text.specs.LineNumbers.{newlines}
use Rattle.pgo_log_text.specs.ReadBundle.{IsUntiedAt, TellsTie}

-- those of version 1 needn't be
pub one_tied : (l : BundleLog) (first : ℕ) → l.version ≡ One → TellsTie l first None
one_tied l first v = subst (λ w. IsTiedAs w l) (sym v) tt

pub two_tied : (l : BundleLog) (first : ℕ) → l.version ≡ Two → untied_at l ≡ None → TellsTie l first None
two_tied l first v e = subst (λ w. IsTiedAs w l) (sym v) e

pub two_untied : (l : BundleLog) (u : Untied) (first count n : ℕ) → l.version ≡ Two → untied_at l ≡ Some u → count ≡ min (lines_before l u) (2 ^ 64 - 1) → n ≡ min (first + count) (2 ^ 64 - 1) → IsUntiedAt l first n
two_untied l u first count n v e lines sum = (u, v, e, sum_behind (2 ^ 64 - 1) first (lines_before l u) count n lines sum)

pub not_tied : (l : BundleLog) (first n : ℕ) → IsUntiedAt l first n → IsTiedAs l.version l → ⊥
not_tied l first n h tied =
    let none : untied_at l ≡ None = subst (λ w. IsTiedAs w l) h.1 tied in
    let both = sym h.2 ∙ none in
    absurd (cc)

-- the line before which a text's last bytes are left
pub first_line : (text before r bytes : List ℕ) (left line : ℕ) → text ≡ before ++ bytes → r ≡ bytes → left ≡ length r → line ≡ min (1 + newlines (take (length text - left) text)) (2 ^ 64 - 1)
    → line ≡ min (1 + newlines before) (2 ^ 64 - 1)
first_line text before r bytes left line is same count e =
    let whole = ap length is ∙ length-append before bytes in
    let long = ap length same in
    let there : length text - left ≡ length before = omega (arith, whole, count, long) in
    let front : take (length text - left) text ≡ before =
    (λ i. take (there i) (is i)) ∙ take-append-le (length before) before bytes (omega arith) ∙ take_all (length before) before (omega arith)
    in
    e ∙ ap (λ z. min (1 + newlines z) (2 ^ 64 - 1)) front
