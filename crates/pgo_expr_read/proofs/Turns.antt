-- Levels, and what is left to close, by a count of turns.
use Rattle.std.proofs.Common.{◌≡◌, ℕ, suc, ◌-◌, ◌<◌, ap, sym, ◌∙◌, subst, refl, arith, List, [], ◌∷◌, length, Some, Result}
use Rattle.pgo_base.specs.Tree.{Tree}
use Rattle.pgo_lexer.specs.declared.token.Token.{Token}
use Rattle.pgo_lexer.specs.declared.errors.TextStop.{TextStop}
use Rattle.pgo_expr_read.specs.declared.lookahead.Opener.{Opener}
use Rattle.pgo_expr_read.specs.declared.read.Read.{Read}
use Rattle.pgo_expr_read.specs.Reading.{Parser, Outcome, Reads, and_then, close, closes, level, expr}

reads_suc : (n least : ℕ) (i : List Token) (r : Result (Read Tree) TextStop) (new : List Token) → Reads (level (suc n) (expr n) least i) r new → Reads (expr (suc n) least i) r new
unfolding expr
reads_suc n least i r new h = h

pub reads_level : (n least : ℕ) (i : List Token) (r : Result (Read Tree) TextStop) (new : List Token) → 0 < n → Reads (level n (expr (n - 1)) least i) r new → Reads (expr n least i) r new
reads_level n least i r new some h =
    let up : n ≡ suc (n - 1) = omega arith in
    let P : ℕ → Type 0 = λ m. Reads (level m (expr (n - 1)) least i) r new in
    let Q : ℕ → Type 0 = λ m. Reads (expr m least i) r new in
    subst Q (sym up) (reads_suc (n - 1) least i r new (subst P up h))

-- nothing is left to close
pub closes_empty : (limit : ℕ) (ex : ℕ → Parser (Read Tree)) (os : List Opener) (r : Read Tree) (i : List Token) → length os ≡ 0 → closes limit ex os r i ≡ Some (r, i)
unfolding closes
closes_empty limit ex [] r i e = refl
closes_empty limit ex (o ∷ os) r i e = absurd (omega (arith, e))

-- one is closed
pub closes_step : (limit : ℕ) (ex : ℕ → Parser (Read Tree)) (all os : List Opener) (o : Opener) (r : Read Tree) (i : List Token) (whole : Outcome (Read Tree)) → whole ≡ closes limit ex all r i → all ≡ o ∷ os → whole ≡ and_then (close limit ex o r i) (closes limit ex os)
unfolding closes
closes_step limit ex all os o r i whole e f = e ∙ ap (λ z. closes limit ex z r i) f
