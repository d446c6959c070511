-- A comment goes on behind what its first bytes are.
use Rattle.std.proofs.Common.{◌≡◌, ℕ, zero, suc, ◌+◌, ◌-◌, ◌<◌, ◌≤◌, true, false, List, [], ◌∷◌, length, drop, Some, None, refl, ap, ◌∙◌, cond, arith}
use Rattle.pgo_lexer.specs.Pieces.{behind_comment}
use Rattle.pgo_lexer.specs.Lexemes.{opens, closes}

pub behind_open : (d : ℕ) (bs : List ℕ) → 0 < d → opens bs ≡ true → behind_comment d bs ≡ behind_comment (d + 1) (drop 2 bs)
unfolding behind_comment
behind_open zero bs h e = absurd (omega arith)
behind_open (suc d) [] h e = cc
behind_open (suc d) (b ∷ []) h e = cc
behind_open (suc d) (b ∷ (c ∷ bs)) h e =
    ap (λ x. cond x (behind_comment (suc (suc d)) bs) (cond (closes (b ∷ (c ∷ bs))) (behind_comment d bs) (behind_comment (suc d) (c ∷ bs)))) e
    ∙ (let same : suc (suc d) ≡ suc d + 1 = omega arith in ap (λ n. behind_comment n bs) same)

pub behind_close : (d : ℕ) (bs : List ℕ) → 0 < d → opens bs ≡ false → closes bs ≡ true → behind_comment d bs ≡ behind_comment (d - 1) (drop 2 bs)
unfolding behind_comment
behind_close zero bs h e k = absurd (omega arith)
behind_close (suc d) [] h e k = cc
behind_close (suc d) (b ∷ []) h e k = cc
behind_close (suc d) (b ∷ (c ∷ bs)) h e k =
    ap (λ x. cond x (behind_comment (suc (suc d)) bs) (cond (closes (b ∷ (c ∷ bs))) (behind_comment d bs) (behind_comment (suc d) (c ∷ bs)))) e
    ∙ ap (λ x. cond x (behind_comment d bs) (behind_comment (suc d) (c ∷ bs))) k
    ∙ (let same : d ≡ suc d - 1 = omega arith in ap (λ n. behind_comment n bs) same)

pub behind_other : (d : ℕ) (bs : List ℕ) → 0 < d → 0 < length bs → opens bs ≡ false → closes bs ≡ false → behind_comment d bs ≡ behind_comment d (drop 1 bs)
unfolding behind_comment
behind_other zero bs h l e k = absurd (omega arith)
behind_other (suc d) [] h l e k = absurd (omega arith)
behind_other (suc d) (b ∷ []) h l e k = refl
behind_other (suc d) (b ∷ (c ∷ bs)) h l e k =
    ap (λ x. cond x (behind_comment (suc (suc d)) bs) (cond (closes (b ∷ (c ∷ bs))) (behind_comment d bs) (behind_comment (suc d) (c ∷ bs)))) e
    ∙ ap (λ x. cond x (behind_comment d bs) (behind_comment (suc d) (c ∷ bs))) k

pub behind_none : (d : ℕ) (bs : List ℕ) → 0 < d → length bs ≡ 0 → behind_comment d bs ≡ None
unfolding behind_comment
behind_none zero bs h l = absurd (omega arith)
behind_none (suc d) [] h l = refl
behind_none (suc d) (b ∷ bs) h l = absurd (omega arith)

pub behind_all : (d : ℕ) (bs : List ℕ) → d ≡ 0 → behind_comment d bs ≡ Some bs
unfolding behind_comment
behind_all zero bs h = refl
behind_all (suc d) bs h = absurd (omega arith)

-- such fronts have two bytes
pub opens_two : (bs : List ℕ) → opens bs ≡ true → 2 ≤ length bs
opens_two [] e = cc
opens_two (b ∷ []) e = cc
opens_two (b ∷ (c ∷ bs)) e = omega arith

pub closes_two : (bs : List ℕ) → closes bs ≡ true → 2 ≤ length bs
closes_two [] e = cc
closes_two (b ∷ []) e = cc
closes_two (b ∷ (c ∷ bs)) e = omega arith

pub ruleset comments = (behind_open, behind_close, behind_other, behind_none, behind_all, opens_two, closes_two)
