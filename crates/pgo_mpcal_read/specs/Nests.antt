-- A function value that reads statements up to a depth.
use Rattle.std.specs.Prelude.{ℕ, List, Result}
use Rattle.std.specs.declared.alloc.Global.{Global}
use denote.Ref.{Bor, MutBor}
use Rattle.pgo_lexer.specs.declared.token.Lexeme.{Lexeme}
use Rattle.pgo_lexer.specs.declared.errors.TextStop.{TextStop}
use Rattle.pgo_syntax.specs.Statement.{Statement}
use Rattle.pgo_mpcal_read.specs.declared.with_depth.WithDepth.{WithDepth}
use Rattle.pgo_mpcal_read.specs.declared.depths.MacroDepth.{MacroDepth}
use Rattle.pgo_expr_read.specs.Steps.{Reads}
use Rattle.pgo_mpcal_read.specs.ReadingStatements.{statement}

pub record Nests (below : ℕ) (pre : Global → Bor (List MacroDepth) → MutBor (List Lexeme) → ℕ → Type 0)
    (post : Global → Bor (List MacroDepth) → MutBor (List Lexeme) → ℕ → Result (WithDepth Statement) TextStop → MutBor (List Lexeme) → Type 0) : Type 0 where
  pub callable : (alloc : Global) (ms : Bor (List MacroDepth)) (old : MutBor (List Lexeme)) → pre alloc ms old below
  pub reads : (alloc : Global) (ms : Bor (List MacroDepth)) (old new : MutBor (List Lexeme)) (r : Result (WithDepth Statement) TextStop) → post alloc ms old below r new
      → Reads (statement ms.now below old.now) r new.now
