-- The arguments of macros within one another, put in place one after another: the innermost macro's first.
use Rattle.std.specs.Prelude.{List, [], ◌∷◌}
use Rattle.pgo_base.specs.Lookup.{Name}
use Rattle.pgo_base.specs.Tree.{Tree, name}
use Rattle.pgo_syntax.specs.Statement.{Statement, Statements, LabeledStatements, GuardedStatements}
use Rattle.pgo_syntax.specs.declared.assignment.Assignment.{Assignment}
use Rattle.pgo_syntax.specs.declared.assignment.Left.{Left}
use Rattle.pgo_syntax.specs.declared.binding.Origin.{Origin}
use Rattle.pgo_syntax.specs.declared.binding.WithName.{WithName}
use Rattle.pgo_meaning.specs.MacrosPlaced.{Arguments, put_tree, put_left, put_origin, marked, put, put_each, put_among, put_guarded}

abbrev pub Layers : Type 0
Layers = List Arguments

abbrev pub puts : Layers → Statement → Statement
puts [] t = t
puts (es ∷ ls) t = puts ls (put es t)

abbrev pub puts_each : Layers → Statements → Statements
puts_each [] ts = ts
puts_each (es ∷ ls) ts = puts_each ls (put_each es ts)

abbrev pub puts_among : Layers → LabeledStatements → LabeledStatements
puts_among [] ts = ts
puts_among (es ∷ ls) ts = puts_among ls (put_among es ts)

abbrev pub puts_guarded : Layers → GuardedStatements → GuardedStatements
puts_guarded [] bs = bs
puts_guarded (es ∷ ls) bs = puts_guarded ls (put_guarded es bs)

abbrev pub puts_tree : Layers → Tree → Tree
puts_tree [] e = e
puts_tree (es ∷ ls) e = puts_tree ls (put_tree es e)

abbrev pub puts_left : Layers → Left → Left
puts_left [] l = l
puts_left (es ∷ ls) l = puts_left ls (put_left es l)

abbrev pub puts_assignment : Layers → Assignment → Assignment
puts_assignment ls a = record { left = puts_left ls a.left; right = puts_tree ls a.right }

abbrev pub puts_origin : Layers → Origin → Origin
puts_origin [] o = o
puts_origin (es ∷ ls) o = puts_origin ls (put_origin es o)

-- the name of a `with`, with a mark for each macro around
abbrev pub marked_by : Layers → Name → Name
marked_by [] x = x
marked_by (es ∷ ls) x = marked_by ls (marked x)

abbrev pub puts_name : Layers → WithName → WithName
puts_name ls w = record { name = record { name = marked_by ls w.name.name; place = w.name.place }; origin = puts_origin ls w.origin }

-- the arguments behind such a name
abbrev pub behind_name : Layers → Name → Layers
behind_name [] x = []
behind_name (es ∷ ls) x = ((x, name (marked x)) ∷ es) ∷ behind_name ls (marked x)

abbrev pub puts_names : Layers → List WithName → List WithName
puts_names ls [] = []
puts_names ls (w ∷ ws) = puts_name ls w ∷ puts_names (behind_name ls w.name.name) ws

abbrev pub behind_names : Layers → List WithName → Layers
behind_names ls [] = ls
behind_names ls (w ∷ ws) = behind_names (behind_name ls w.name.name) ws
