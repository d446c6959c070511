-- A statement, by how deep it may be.
use Rattle.std.proofs.Common.{◌≡◌, ℕ, suc, ◌-◌, ◌<◌, sym, subst, arith, List, Result}
use Rattle.pgo_lexer.specs.declared.token.Lexeme.{Lexeme}
use Rattle.pgo_lexer.specs.declared.errors.TextStop.{TextStop}
use Rattle.pgo_syntax.specs.Statement.{Statement}
use Rattle.pgo_mpcal_read.specs.declared.with_depth.WithDepth.{WithDepth}
use Rattle.pgo_mpcal_read.specs.declared.depths.MacroDepth.{MacroDepth}
use Rattle.pgo_expr_read.specs.Steps.{Reads}
use Rattle.pgo_mpcal_read.specs.ReadingStatements.{any_form, statement}

reads_suc : (ms : List MacroDepth) (n : ℕ) (i : List Lexeme) (r : Result (WithDepth Statement) TextStop) (new : List Lexeme) → Reads (any_form ms (suc n) (statement ms n) i) r new → Reads (statement ms (suc n) i) r new
unfolding statement
reads_suc ms n i r new h = h

pub reads_form : (ms : List MacroDepth) (n : ℕ) (i : List Lexeme) (r : Result (WithDepth Statement) TextStop) (new : List Lexeme) → 0 < n → Reads (any_form ms n (statement ms (n - 1)) i) r new → Reads (statement ms n i) r new
reads_form ms n i r new some h =
    let up : n ≡ suc (n - 1) = omega arith in
    let P : ℕ → Type 0 = λ m. Reads (any_form ms m (statement ms (n - 1)) i) r new in
    let Q : ℕ → Type 0 = λ m. Reads (statement ms m i) r new in
    subst Q (sym up) (reads_suc ms (n - 1) i r new (subst P up h))
