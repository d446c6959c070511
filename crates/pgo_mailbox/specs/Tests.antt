-- What is tested of a macro's blocks, statement by statement.
use Rattle.std.specs.Prelude.{Bool, true, false, not, ◌&&◌, if◌then◌else◌, zero, pos, codes, List, [], ◌∷◌, Option, Some, None}
use Rattle.pgo_base.specs.Data.{Data}
use Rattle.pgo_base.specs.Lookup.{Name, same_name}
use Rattle.pgo_base.specs.Tree.{Tree, name, number, binary, call, Trees, no_trees, more_trees}
use Rattle.pgo_base.specs.declared.expr.Infix.TheVariants as infixs
use Rattle.pgo_model.specs.Options.{on}
use Rattle.pgo_model.specs.Written.{content_name, value_name}
use Rattle.pgo_syntax.specs.Statement.{Statement, assign, await_that, with_in, yield_as, block, LabeledStatements, no_labeled, more_labeled}
use Rattle.pgo_syntax.specs.declared.assignment.Assignment.{Assignment}
use Rattle.pgo_syntax.specs.declared.binding.Origin.{Origin}
use Rattle.pgo_syntax.specs.declared.binding.Origin.TheVariants.{Equals, In}
use Rattle.pgo_syntax.specs.declared.binding.WithName.{WithName}
use Rattle.pgo_syntax.specs.declared.bound.Mapping.{Mapping}
use Rattle.pgo_syntax.specs.declared.bound.Mapping.TheVariants.{Macro}
use Rattle.pgo_syntax.specs.declared.macros.MappingMacro.{MappingMacro}
use Rattle.pgo_syntax.specs.declared.name.PlacedName.{PlacedName}
use Rattle.pgo_mailbox.specs.Channel.{Block}

-- the name x
abbrev pub is_name : Name → Tree → Bool
is_name x (name y) = same_name x y
is_name x _ = false

-- the one expression `$variable`
abbrev pub is_content_alone : Trees → Bool
is_content_alone (more_trees t no_trees) = is_name content_name t
is_content_alone _ = false

-- `$variable` and `$value`
abbrev pub are_names : Tree → Tree → Bool
are_names t u = is_name content_name t && is_name value_name u

abbrev pub are_both : Trees → Bool
are_both (more_trees t (more_trees u no_trees)) = are_names t u
are_both _ = false

-- `f($variable)`
abbrev pub is_of_content : Name → Tree → Bool
is_of_content f (call g ts) = same_name f g && is_content_alone ts
is_of_content f _ = false

-- `Append($variable, $value)`
abbrev pub is_append : Tree → Bool
is_append (call g ts) = same_name (codes "Append") g && are_both ts
is_append _ = false

abbrev pub is_zero : Tree → Bool
is_zero (number (pos zero)) = true
is_zero _ = false

-- `Len($variable) > 0`
abbrev pub is_filled : Tree → Bool
is_filled (binary infixs.Greater a b) = is_of_content (codes "Len") a && is_zero b
is_filled _ = false

-- a name but those of the content and the value
abbrev pub is_free : Tree → Bool
is_free (name x) = not (same_name content_name x) && not (same_name value_name x)
is_free _ = false

abbrev pub limit : Tree → Option Tree
limit t = if is_free t then Some t else None

-- the c of `Len($variable) < c`
abbrev pub limit_in : Tree → Option Tree
limit_in (binary infixs.Less a b) = if is_of_content (codes "Len") a then limit b else None
limit_in _ = None

-- two statements without labels
abbrev pub pair : Option PlacedName × Statement → Option PlacedName × Statement → Option (Statement × Statement)
pair (None, a) (None, b) = Some (a, b)
pair _ _ = None

abbrev pub two : Block → Option (Statement × Statement)
two (a ∷ b ∷ []) = pair a b
two _ = None

abbrev pub awaits_message : Statement → Bool
awaits_message (await_that p e) = is_filled e
awaits_message _ = false

abbrev pub is_yield : Name → Statement → Bool
is_yield x (yield_as p e) = is_name x e
is_yield x _ = false

abbrev pub yields_append : Statement → Bool
yields_append (yield_as p e) = is_append e
yields_append _ = false

-- `$variable := Tail($variable)`
abbrev pub is_tail : Assignment → Bool
is_tail a = (same_name content_name a.left.name.name && elim a.left.path [ [] ↦ true | s ∷ ss ↦ false ]) && is_of_content (codes "Tail") a.right

abbrev pub is_tail_alone : List Assignment → Bool
is_tail_alone (a ∷ []) = is_tail a
is_tail_alone _ = false

abbrev pub drops_first : Statement → Bool
drops_first (assign p as') = is_tail_alone as'
drops_first _ = false

abbrev pub is_head : Origin → Bool
is_head (Equals e) = is_of_content (codes "Head") e
is_head (In e) = false

abbrev pub rows_of : LabeledStatements → Block
rows_of no_labeled = []
rows_of (more_labeled x t ls) = (x, t) ∷ rows_of ls

abbrev pub rest_in : Name → Block → Bool
rest_in x b = on false (two b) (λ p. drops_first p.0 && is_yield x p.1)

abbrev pub is_rest : Name → Statement → Bool
is_rest x (block p ls) = rest_in x (rows_of ls)
is_rest x _ = false

abbrev pub takes_under : WithName → Statement → Bool
takes_under w t = (not (same_name content_name w.name.name) && is_head w.origin) && is_rest w.name.name t

abbrev pub takes_alone : List WithName → Statement → Bool
takes_alone (w ∷ []) t = takes_under w t
takes_alone _ t = false

abbrev pub takes_message : Statement → Bool
takes_message (with_in p ws t) = takes_alone ws t
takes_message _ = false

-- the channel's read
abbrev pub is_read : Block → Bool
is_read b = on false (two b) (λ p. awaits_message p.0 && takes_message p.1)

abbrev pub limit_of : Statement → Option Tree
limit_of (await_that p e) = limit_in e
limit_of _ = None

-- the capacity in the channel's write
abbrev pub write_limit : Block → Option Tree
write_limit b = on None (two b) (λ p. if yields_append p.1 then limit_of p.0 else None)

-- the capacity of a reliable channel
abbrev pub channel_capacity : MappingMacro → Option Tree
channel_capacity m = if is_read m.read then write_limit m.write else None

-- a read of the whole by the channel's read
abbrev pub takes_first : Mapping → Option Data → Bool
takes_first (Macro m) None = is_read m.read
takes_first _ _ = false

-- the capacity of a write of the whole by the channel's write
abbrev pub whole_limit : Mapping → Option Data → Option Tree
whole_limit (Macro m) None = write_limit m.write
whole_limit _ _ = None
