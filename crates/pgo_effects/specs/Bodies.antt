-- What the macro in a place does.
use Rattle.std.specs.Prelude.{ℕ, List, map, Option, Some, None, option_map, slice_get, take}
use Rattle.pgo_syntax.specs.Statement.{block, labeled}
use Rattle.pgo_syntax.specs.declared.macros.Macro.{Macro}
use Rattle.pgo_meaning.specs.MacrosPlaced.{Body, Bodies, placed, bodies}

-- what a macro does, where these are the macros before it
abbrev pub body_after : Bodies → Macro → Body
body_after ms m = record { parameters = map (λ p. p.name) m.params; statement = placed ms (block 0 (labeled m.body)) }

-- what the macro in this place does, with those before it in place
abbrev pub body_at : List Macro → Option ℕ → Option Body
body_at ms None = None
body_at ms (Some i) = option_map (λ m. body_after (bodies (take i ms)) m) (slice_get ms i)
