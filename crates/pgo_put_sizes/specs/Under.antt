-- The arguments of macros put into a part of an expression, one after another, the innermost macro's first.
use Rattle.std.specs.Prelude.{List, [], ◌∷◌}
use Rattle.pgo_base.specs.Lookup.{Name}
use Rattle.pgo_base.specs.Tree.{Tree}
use Rattle.pgo_sections.specs.Replaced.{replaced}
use Rattle.pgo_meaning.specs.MacrosPlaced.{argument}
use Rattle.pgo_effects.specs.Puts.{Layers}

-- these names are bound around the part within its expression
abbrev pub puts_under : Layers → List Name → Tree → Tree
puts_under [] under e = e
puts_under (es ∷ ls) under e = puts_under ls under (replaced (argument es) under e)
