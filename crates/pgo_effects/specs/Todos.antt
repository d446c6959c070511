-- The code that has not been looked at.
use Rattle.std.specs.Prelude.{List, map, Option, Some, None, option_map}
use denote.Ref.{Bor}
use Rattle.pgo_base.specs.Tree.{name}
use Rattle.pgo_base.specs.ExprView.{tree}
use Rattle.pgo_model.specs.Written.{done}
use Rattle.pgo_syntax.specs.Statement.{labeled, guarded}
use Rattle.pgo_syntax.specs.StatementView.{statement, labeled_pair, branch_parts}
use Rattle.pgo_syntax.specs.declared.statement.Stmt.{Stmt}
use Rattle.pgo_sections.specs.Code.{Code, Empty, Skip, Become, Set, Goto, Seq, Yield, Write, content_name, value_name}
use Rattle.pgo_meaning.specs.Statements.{Setting, code, branches, in_order}
use Rattle.pgo_rewrite.specs.Views.{mapped_view}
use Rattle.pgo_effects.specs.declared.change.Change.{Change}
use Rattle.pgo_effects.specs.declared.change.Change.TheVariants as changes
use Rattle.pgo_effects.specs.declared.todo.Part.{Part}
use Rattle.pgo_effects.specs.declared.todo.Part.TheVariants as parts
use Rattle.pgo_effects.specs.declared.todo.Todo.{Todo}
use Rattle.pgo_effects.specs.declared.todo.Todo.TheVariants as todos
use Rattle.pgo_effects.specs.Around.{Surroundings, around_view, stands, stands_among, stands_guarded, written_label}
use Rattle.pgo_effects.specs.PlaceView.{place_view}

abbrev pub change_code : Change → Code
change_code changes.Nothing = Empty
change_code (changes.Become p w) = Become (place_view p) w
change_code (changes.Set b p e) = Set b (place_view p) (tree e)
change_code (changes.Write m i w) = Write m.global.now i w (mapped_view m).writes

module _ (s : Setting) where
  -- the last `else`
  abbrev pub otherwise : Surroundings → Option (Bor Stmt) → Code
  otherwise a None = Empty
  otherwise a (Some t) = code s (written_label s a.label) (stands a (statement t.now))

  abbrev pub part_code : Surroundings → Part → Code
  part_code a (parts.Statement t) = code s (written_label s a.label) (stands a (statement t.now))
  part_code a (parts.Order ts) = in_order s (written_label s a.label) (stands_among a (labeled (map labeled_pair ts.now)))
  part_code a (parts.Branches bs t) =
      branches s (written_label s a.label) (stands_guarded a (guarded (map branch_parts bs.now))) (otherwise a t)
  part_code a (parts.Loop t) = Seq (code s (written_label s a.label) (stands a (statement t.now))) (Goto (written_label s a.label))

  abbrev pub code_of : Todo → Code
  code_of todos.Empty = Empty
  code_of todos.Skip = Skip
  code_of todos.End = Goto done
  code_of (todos.Goto l) = Goto (written_label s (option_map (λ x. x.now) l))
  code_of (todos.Change c) = change_code c
  code_of todos.Content = Yield (name content_name)
  code_of todos.Value = Yield (name value_name)
  code_of (todos.Text p a) = part_code (around_view a) p

  abbrev pub codes_of : List Todo → List Code
  codes_of ts = map code_of ts
