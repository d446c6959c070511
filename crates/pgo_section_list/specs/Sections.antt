-- The section of a label, as code that has not been looked at.
use Rattle.std.specs.Prelude.{List, [], ◌∷◌, ◌++◌, map, Option, None, option_map}
use denote.Ref.{Bor}
use Rattle.pgo_base.specs.Lookup.{Name}
use Rattle.pgo_base.specs.declared.text.Text.{Text}
use Rattle.pgo_model.specs.Written.{done}
use Rattle.pgo_syntax.specs.Statement.{Statement, skip, assign, if_then, if_else, while_do, either_of, await_that, with_in, print_out, assert_that, go_to, call_macro, yield_as, block, Statements, no_statements, more_statements, LabeledStatements, no_labeled, more_labeled, GuardedStatements, no_guarded, more_guarded, labeled}
use Rattle.pgo_syntax.specs.StatementView.{statement, labeled_pair}
use Rattle.pgo_syntax.specs.declared.name.PlacedName.{PlacedName}
use Rattle.pgo_sections.specs.Code.{Code, Seq, Goto}
use Rattle.pgo_meaning.specs.Labels.{own, labelled, within}
use Rattle.pgo_meaning.specs.MacrosPlaced.{Bodies, bodies, placed, placed_among}
use Rattle.pgo_meaning.specs.Statements.{Setting, in_order}
use Rattle.pgo_effects.specs.Around.{Surroundings, written_label}
use Rattle.pgo_effects.specs.SettingView.{setting_view}
use Rattle.pgo_effects.specs.Todos.{code_of, codes_of}
use Rattle.pgo_section_list.specs.declared.inner.Inner.{Inner}
use Rattle.pgo_section_list.specs.declared.inner.Inner.TheVariants as inners
use Rattle.pgo_section_list.specs.declared.sections.End.{End}
use Rattle.pgo_section_list.specs.declared.sections.End.TheVariants as ends
use Rattle.pgo_section_list.specs.declared.sections.Follow.{Follow}
use Rattle.pgo_section_list.specs.declared.sections.Section.{Section}
use Rattle.pgo_section_list.specs.declared.sections.Source.{Source}

-- one after the other, and then c
abbrev pub in_sequence : List Code → Code → Code
in_sequence [] c = c
in_sequence (d ∷ ds) c = Seq d (in_sequence ds c)

abbrev pub section_view : Setting → Section → Name × Code
section_view s p = (p.label, in_sequence (codes_of s p.todos.items) (code_of s p.end))

abbrev pub label_above : Setting → Option (Bor Text) → Name
label_above s x = written_label s (option_map (λ x. x.now) x)

abbrev pub end_code : Setting → End → Code
end_code s ends.Done = Goto done
end_code s (ends.Again x) = Goto (label_above s x)

-- what follows a statement
abbrev pub follow_code : Setting → Follow → Code
follow_code s f = in_sequence (codes_of s f.todos.items) (end_code s f.end)

-- What comes behind a statement that stands in another one: what comes behind that one; the rest of a block, and then that; or the
-- jump to the label of a `while`.
pub data Next : Type 0 where
  outer : Next
  rest : (ts : LabeledStatements) → Next
  again : Next

-- a statement that stands in another one, its label, and what comes behind it
abbrev pub Item : Type 0
Item = Option PlacedName × Statement × Next

abbrev pub see : Inner → Item
see (inners.Row l r) = (l.now.label, statement l.now.statement, rest (labeled (map labeled_pair r.now)))
see (inners.Alone t) = (None, statement t.now, outer)
see (inners.Loop t) = (None, statement t.now, again)

abbrev pub block_items : LabeledStatements → List Item
block_items no_labeled = []
block_items (more_labeled x t ts) = (x, t, rest ts) ∷ block_items ts

abbrev pub alternative_items : Statements → List Item
alternative_items no_statements = []
alternative_items (more_statements t ts) = (None, t, outer) ∷ alternative_items ts

abbrev pub branch_items : GuardedStatements → List Item
branch_items no_guarded = []
branch_items (more_guarded p e t bs) = (None, t, outer) ∷ branch_items bs

-- the statements that stand directly in this one
abbrev pub items : Statement → List Item
items (skip p) = []
items (assign p as') = []
items (if_then p bs) = branch_items bs
items (if_else p bs t) = branch_items bs ++ (None, t, outer) ∷ []
items (while_do p e t) = (None, t, again) ∷ []
items (either_of p ts) = alternative_items ts
items (await_that p e) = []
items (with_in p ws t) = (None, t, outer) ∷ []
items (print_out p e) = []
items (assert_that p e) = []
items (go_to p x) = []
items (call_macro p m es) = []
items (yield_as p e) = []
items (block p ls) = block_items ls

-- around statements of a process's own text, below a label
abbrev pub surroundings : Source → Option (Bor Text) → Surroundings
surroundings o x = record { layers = []; bodies = bodies o.macros.now; label = option_map (λ x. x.now) x }

module _ (s : Setting) (ms : Bodies) where
  abbrev pub next_code : Name → Next → Code → Code
  next_code l outer c = c
  next_code l (rest ts) c = Seq (in_order s l (placed_among ms ts)) c
  next_code l again c = Goto l

  -- the sections of a statement's own label and of those in it; c is what follows the statement in which it stands
  abbrev pub item_sections : Name → Code → Item → List (Name × Code)
  item_sections l c i =
      own s i.0 (placed ms i.1) (next_code l i.2 c) ++ within s (labelled s l i.0) (placed ms i.1) (next_code l i.2 c)

  abbrev pub all_sections : Name → Code → List Item → List (Name × Code)
  all_sections l c [] = []
  all_sections l c (i ∷ is) = item_sections l c i ++ all_sections l c is

-- those of statements of a source
abbrev pub source_sections : Source → Name → Code → List Item → List (Name × Code)
source_sections o l c is = all_sections (setting_view o.setting) (bodies o.macros.now) l c is
