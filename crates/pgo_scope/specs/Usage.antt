-- What a macro does with each of its parameters, with the macros that it calls put in place.
--
-- Where a body is put in place of its call, an argument stands wherever the parameter stood. So what becomes of the
-- argument is decided by how the parameter is used: plainly or hidden, before one index or not, and on the
-- left, with what follows it. These are found once for each macro, from its own body and from those of the macros before
-- it that it calls, to which it hands its parameters on. No body is put in place, and the findings are those that putting
-- bodies in place would give: an argument's own names keep their order and their forms, and of its place only the
-- usage matters.
use Rattle.std.specs.Prelude.{ℕ, suc, Bool, true, false, not, ◌&&◌, ◌||◌, if◌then◌else◌, List, [], ◌∷◌, ◌++◌, slice_get, Option, Some, None}
use Rattle.pgo_base.specs.Tree.{Tree, name, index, field}
use Rattle.pgo_base.specs.Lookup.{Name, same_name}
use Rattle.pgo_syntax.specs.declared.macros.Macro.{Macro}
use Rattle.pgo_syntax.specs.Lefts.{only}
use Rattle.pgo_uses.specs.declared.uses.Around.{Around}
use Rattle.pgo_uses.specs.declared.uses.Shape.{Shape}
use Rattle.pgo_uses.specs.declared.uses.Shape.TheVariants.{Bare, OneIndex, Further}
use Rattle.pgo_uses.specs.declared.uses.Form.{Form}
use Rattle.pgo_uses.specs.declared.uses.Form.TheVariants as forms
use Rattle.pgo_uses.specs.declared.uses.Use.{Use}
use Rattle.pgo_uses.specs.Names.{Rows, first_at}
use Rattle.pgo_uses.specs.Tables.{macro_rows}
use Rattle.pgo_uses.specs.Uses.{uses, inside}
use Rattle.pgo_uses.specs.AllUses.{macro_uses, names_of}
use Rattle.pgo_scope.specs.declared.usage.Usage.{Usage}

-- what follows a left side that itself goes on as the first
abbrev pub join : Shape → Shape → Shape
join Bare s = s
join OneIndex Bare = OneIndex
join OneIndex OneIndex = Further
join OneIndex Further = Further
join Further s = Further

-- the variable of a left side, `x`, `x[i]`, `x.f` and so on; none where the expression is no left side
abbrev pub left_base : Tree → Option Name
left_base (name x) = Some x
left_base (index t ts) = elim (only ts) [ None ↦ None | Some i ↦ left_base t ]
left_base (field t x) = left_base t
left_base _ = None

-- how it goes on
abbrev pub left_shape : Tree → Shape
left_shape (index t ts) = join (left_shape t) OneIndex
left_shape (field t x) = Further
left_shape _ = Bare

-- the names in its path
abbrev pub left_uses : List Name → Around → Tree → List Use
left_uses ns a (index t ts) = elim (only ts) [ None ↦ [] | Some i ↦ left_uses ns a t ++ uses ns (inside a) i ]
left_uses ns a (field t x) = left_uses ns a t
left_uses ns a _ = []

abbrev pub no_usage : Usage
no_usage = record { plain = false; indexed = false; hidden = false; hidden_indexed = false; bare = false; one_index = false; further = false }

abbrev pub either_usage : Usage → Usage → Usage
either_usage v w = record {
  plain = v.plain || w.plain;
  indexed = v.indexed || w.indexed;
  hidden = v.hidden || w.hidden;
  hidden_indexed = v.hidden_indexed || w.hidden_indexed;
  bare = v.bare || w.bare;
  one_index = v.one_index || w.one_index;
  further = v.further || w.further;
}

-- read, under a binder or so, before one index or not
abbrev pub read_usage : Bool → Bool → Usage
read_usage false false = record no_usage { plain = true }
read_usage false true = record no_usage { indexed = true }
read_usage true false = record no_usage { hidden = true }
read_usage true true = record no_usage { hidden_indexed = true }

-- assigned, with what follows
abbrev pub write_usage : Shape → Usage
write_usage Bare = record no_usage { bare = true }
write_usage OneIndex = record no_usage { one_index = true }
write_usage Further = record no_usage { further = true }

abbrev pub is_assigned : Usage → Bool
is_assigned w = w.bare || w.one_index || w.further

abbrev pub usage_if : Bool → Usage → Usage
usage_if b w = if b then w else no_usage

-- the usage of p where this use reads it
abbrev pub read_of : Name → Use → Form → Usage
read_of p u forms.Alone = usage_if (same_name p u.name) (read_usage u.around.hidden u.around.indexed)
read_of p u _ = no_usage

-- w, and the usage of p where these read it
abbrev pub reads_from : Usage → Name → List Use → Usage
reads_from w p [] = w
reads_from w p (u ∷ us) = reads_from (either_usage w (read_of p u u.form)) p us

abbrev pub reads : Name → List Use → Usage
reads p us = reads_from no_usage p us

-- the same, of an expression that is put where a parameter is read so
abbrev pub reads_at : Bool → Bool → Around → Name → Tree → Usage
reads_at hidden indexed a p t = reads p (uses [] (record a { hidden = hidden; indexed = indexed }) t)

-- assigned, where p is the variable
abbrev pub base_usage : Name → Option Name → Shape → Usage
base_usage p None s = no_usage
base_usage p (Some x) s = usage_if (same_name p x) (write_usage s)

-- the usage of p, where an expression is put where a parameter is assigned, and something follows
abbrev pub writes_at : Shape → Around → Name → Tree → Usage
writes_at s a p t =
    either_usage (base_usage p (left_base t) (join (left_shape t) s))
    (reads p (left_uses [] (inside a) t))

-- the usage of p, where an expression is put for a parameter of this usage
abbrev pub passed_usage : Usage → Around → Name → Tree → Usage
passed_usage w a p t =
    either_usage (usage_if w.plain (reads_at false false a p t))
    (either_usage (usage_if w.indexed (reads_at false true a p t))
    (either_usage (usage_if w.hidden (reads_at true false a p t))
    (either_usage (usage_if w.hidden_indexed (reads_at true true a p t))
    (either_usage (usage_if w.bare (writes_at Bare a p t))
    (either_usage (usage_if w.one_index (writes_at OneIndex a p t))
    (usage_if w.further (writes_at Further a p t)))))))

-- the names of all macros, and of the first of them the parameters, each with its usage
abbrev pub MacroTable : Type 0
MacroTable = Rows × List (List (Name × Usage))

-- w, and the usage of p in the arguments of a call of a macro with these parameters
abbrev pub call_usage_from : Usage → List (Name × Usage) → Around → Name → List Tree → Usage
call_usage_from w [] a p ts = w
call_usage_from w (q ∷ qs) a p [] = w
call_usage_from w (q ∷ qs) a p (t ∷ ts) = call_usage_from (either_usage w (passed_usage q.1 a p t)) qs a p ts

abbrev pub call_usage : List (Name × Usage) → Around → Name → List Tree → Usage
call_usage qs a p ts = call_usage_from no_usage qs a p ts

abbrev pub or_none : Option (List (Name × Usage)) → List (Name × Usage)
or_none None = []
or_none (Some ps) = ps

-- the one in this place
abbrev pub item_at : {A : Type 0} → Option ℕ → List A → Option A
item_at None xs = None
item_at (Some i) xs = slice_get xs i

-- the parameters of the macro; none where there is none of the name, or where it is not among the first ones
abbrev pub parameters_of : MacroTable → Name → List (Name × Usage)
parameters_of table m = or_none (item_at (first_at m table.0) table.1)

-- the usage of p by this use: an argument of a call counts by what becomes of it
abbrev pub usage_by : MacroTable → Name → Use → Form → Usage
usage_by table p u forms.Alone = usage_if (not u.around.passed && same_name p u.name) (read_usage u.around.hidden u.around.indexed)
usage_by table p u (forms.Assigned s) = usage_if (same_name p u.name) (write_usage s)
usage_by table p u (forms.Called ts) = call_usage (parameters_of table u.name) u.around p ts
usage_by table p u _ = no_usage

-- w, and the usage of p by all of these
abbrev pub usage_from : Usage → MacroTable → Name → List Use → Usage
usage_from w table p [] = w
usage_from w table p (u ∷ us) = usage_from (either_usage w (usage_by table p u u.form)) table p us

abbrev pub usage_in : MacroTable → Name → List Use → Usage
usage_in table p us = usage_from no_usage table p us

abbrev pub each_parameter : MacroTable → List Use → List Name → List (Name × Usage)
each_parameter table us [] = []
each_parameter table us (p ∷ ps) = (p, usage_in table p us) ∷ each_parameter table us ps

-- the table of the macros, each by those before it
abbrev pub macro_table_from : MacroTable → ℕ → List Macro → MacroTable
macro_table_from table i [] = table
macro_table_from table i (m ∷ ms) =
    macro_table_from (table.0, table.1 ++ each_parameter table (macro_uses i m) (names_of m.params) ∷ []) (suc i) ms

-- the same, where the macros have these names
abbrev pub macro_table_by : Rows → List Macro → MacroTable
macro_table_by rows ms = macro_table_from (rows, []) 0 ms

abbrev pub macro_table : List Macro → MacroTable
macro_table ms = macro_table_by (macro_rows ms) ms
