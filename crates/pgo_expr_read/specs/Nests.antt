-- A function value that reads expressions up to a height.
use Rattle.std.specs.Prelude.{ℕ, List, Result}
use Rattle.std.specs.declared.alloc.Global.{Global}
use denote.Ref.{MutBor}
use Rattle.pgo_base.specs.Tree.{Tree}
use Rattle.pgo_lexer.specs.declared.token.Token.{Token}
use Rattle.pgo_lexer.specs.declared.errors.TextStop.{TextStop}
use Rattle.pgo_expr_read.specs.declared.read.Read.{Read}
use Rattle.pgo_expr_read.specs.Reading.{Reads, expr}

pub record Nests (below : ℕ) (pre : Global → MutBor (List Token) → ℕ → ℕ → Type 0)
    (post : Global → MutBor (List Token) → ℕ → ℕ → Result (Read Tree) TextStop → MutBor (List Token) → Type 0) : Type 0 where
  pub callable : (alloc : Global) (old : MutBor (List Token)) (least : ℕ) → pre alloc old below least
  pub reads : (alloc : Global) (old new : MutBor (List Token)) (least : ℕ) (r : Result (Read Tree) TextStop) → post alloc old below least r new
      → Reads (expr below least old.now) r new.now
