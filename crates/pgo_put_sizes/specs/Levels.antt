-- The nodes of an expression with arguments in place, one level at a time.
use Rattle.std.specs.Prelude.{ℕ, suc, ◌+◌, if◌then◌else◌, List, [], ◌∷◌, Option, Some, None}
use Rattle.pgo_base.specs.Lookup.{Name}
use Rattle.pgo_base.specs.Tree.{Tree}
use Rattle.pgo_effects.specs.Puts.{Layers}
use Rattle.pgo_model.specs.Options.{on}
use Rattle.pgo_operands.specs.Operands.{operands}
use Rattle.pgo_put_sizes.specs.Under.{puts_under}
use Rattle.pgo_rewrite.specs.Scoped.{names_by, under_at}
use Rattle.pgo_sections.specs.Access.{name_alone}
use Rattle.pgo_model.specs.Names.{is_among}
use Rattle.pgo_sizes.specs.Sums.{nodes_in}
use Rattle.pgo_sizes.specs.Tuples.{own_nodes}

-- operands, of which the first has the number i: around number i the names `around i` are bound
abbrev pub parts_under : Layers → (ℕ → List Name) → ℕ → List Tree → List Tree
parts_under ls around i [] = []
parts_under ls around i (t ∷ ts) = puts_under ls (around i) t ∷ parts_under ls around (suc i) ts

-- the operands of an expression
abbrev pub operands_under : Layers → List Name → Tree → List Tree
operands_under ls under t = parts_under ls (under_at t (names_by t) under) 0 (operands t)

-- the nodes of an expression itself and those of its operands
abbrev pub level_nodes : Layers → List Name → Tree → ℕ
level_nodes ls under t = own_nodes t + nodes_in (operands_under ls under t)

-- the name that an expression is, where it is not bound around
abbrev pub free_name : List Name → Tree → Option Name
free_name under t = on None (name_alone t) (λ x. if is_among x under then None else Some x)
