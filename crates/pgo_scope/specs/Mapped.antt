-- Rule 6: a mapped parameter is read where it may not be, or lacks its one index, or is assigned with a further path.
use Rattle.std.specs.Prelude.{ℕ, suc, Bool, true, false, not, ◌&&◌, ◌||◌, if◌then◌else◌, nat_eq, List, [], ◌∷◌, ◌++◌, slice_get, Option, Some, None, flat_map}
use Rattle.pgo_base.specs.Tree.{Tree}
use Rattle.pgo_base.specs.Lookup.{Name, same_name}
use Rattle.pgo_syntax.specs.declared.archetype.Archetype.{Archetype}
use Rattle.pgo_syntax.specs.declared.archetype.Parameter.{Parameter}
use Rattle.pgo_syntax.specs.declared.archetype.ParameterKind.{ParameterKind}
use Rattle.pgo_syntax.specs.declared.archetype.ParameterKind.TheVariants as kinds
use Rattle.pgo_syntax.specs.declared.archetype.Extent.TheVariants.{Whole, Element}
use Rattle.pgo_syntax.specs.declared.process.Argument.{Argument}
use Rattle.pgo_syntax.specs.declared.process.Argument.TheVariants as arguments
use Rattle.pgo_syntax.specs.declared.process.MappingTarget.{MappingTarget}
use Rattle.pgo_syntax.specs.declared.process.MappingTarget.TheVariants as targets
use Rattle.pgo_syntax.specs.declared.process.MappingClause.{MappingClause}
use Rattle.pgo_syntax.specs.declared.process.Process.{Process}
use Rattle.pgo_syntax.specs.declared.spec.Spec.{Spec}
use Rattle.pgo_uses.specs.declared.uses.Around.{Around}
use Rattle.pgo_uses.specs.declared.uses.Home.{Home}
use Rattle.pgo_uses.specs.declared.uses.Home.TheVariants as homes
use Rattle.pgo_uses.specs.declared.uses.Form.{Form}
use Rattle.pgo_uses.specs.declared.uses.Form.TheVariants as forms
use Rattle.pgo_uses.specs.declared.uses.Shape.{Shape}
use Rattle.pgo_uses.specs.declared.uses.Shape.TheVariants.{Bare, OneIndex, Further}
use Rattle.pgo_uses.specs.declared.uses.Use.{Use}
use Rattle.pgo_uses.specs.Uses.{uses, inside}
use Rattle.pgo_uses.specs.AllUses.{all_uses}
use Rattle.pgo_scope.specs.declared.errors.ScopeError.TheVariants as errors
use Rattle.pgo_scope.specs.declared.finding.Finding.{Finding}
use Rattle.pgo_scope.specs.declared.mapped.Mapped.{Mapped}
use Rattle.pgo_scope.specs.declared.mapped.Mapped.TheVariants.{Unmapped, AsWhole, ByElement}
use Rattle.pgo_scope.specs.declared.usage.Usage.{Usage}
use Rattle.pgo_scope.specs.Findings.{found_if, found_where}
use Rattle.pgo_scope.specs.Usage.{MacroTable, macro_table, parameters_of, join, left_base, left_shape, left_uses}

-- the argument is this global as a `ref`
abbrev pub is_ref_to : Name → Option Argument → Bool
is_ref_to g None = false
is_ref_to g (Some (arguments.Value p e)) = false
is_ref_to g (Some (arguments.Ref x extent)) = same_name g x.name

-- a clause names the argument with this number, from 0
abbrev pub names_argument : ℕ → List Argument → MappingTarget → Bool
names_argument n es (targets.Argument p m extent) = nat_eq m (suc n)
names_argument n es (targets.Global g extent) = is_ref_to g.name (slice_get es n)

abbrev pub some_clause : ℕ → List Argument → List MappingClause → Bool
some_clause n es [] = false
some_clause n es (c ∷ cs) = names_argument n es c.target || some_clause n es cs

-- a clause of some process of the archetype names the parameter with this number
abbrev pub some_process : Name → ℕ → List Process → Bool
some_process r n [] = false
some_process r n (p ∷ ps) = (same_name r p.archetype.name && some_clause n p.arguments p.clauses) || some_process r n ps

-- `ref x[_]` is always mapped, `ref x` where a clause names it
abbrev pub mapped_kind : Bool → ParameterKind → Mapped
mapped_kind b kinds.Value = Unmapped
mapped_kind b (kinds.Ref Element) = ByElement
mapped_kind b (kinds.Ref Whole) = if b then AsWhole else Unmapped

-- the parameter of the name, among these from number n on
abbrev pub mapped_among : Name → List Process → ℕ → List Parameter → Name → Mapped
mapped_among r ps n [] x = Unmapped
mapped_among r ps n (p ∷ rest) x =
    if same_name x p.name.name then mapped_kind (some_process r n ps) p.kind else mapped_among r ps (suc n) rest x

abbrev pub mapped_of : List Process → Option Archetype → Name → Mapped
mapped_of ps None x = Unmapped
mapped_of ps (Some r) x = mapped_among r.name.name ps 0 r.params x

-- in a home that is no archetype's body no name is a mapped parameter
abbrev pub mapped_in : Spec → Home → Name → Mapped
mapped_in s (homes.Body j) x = mapped_of s.processes (slice_get s.archetypes j) x
mapped_in s h x = Unmapped

abbrev pub wrong_read : Around → Mapped → Bool
wrong_read a Unmapped = false
wrong_read a AsWhole = a.hidden
wrong_read a ByElement = a.hidden || not a.indexed

abbrev pub wrong_write : Shape → Mapped → Bool
wrong_write s Unmapped = false
wrong_write Bare AsWhole = false
wrong_write OneIndex AsWhole = true
wrong_write Further AsWhole = true
wrong_write Bare ByElement = true
wrong_write OneIndex ByElement = false
wrong_write Further ByElement = true

abbrev pub mapped_read : Spec → Use → List Finding
mapped_read s u =
    found_if (wrong_read u.around (mapped_in s u.around.home u.name)) u.around.place (errors.MappedReadHere u.name)

abbrev pub mapped_write : Spec → Around → Name → Shape → List Finding
mapped_write s a x shape = found_if (wrong_write shape (mapped_in s a.home x)) a.place (errors.MappedReadHere x)

-- the names that are read among these
abbrev pub read_of : Spec → Use → Form → List Finding
read_of s u forms.Alone = mapped_read s u
read_of s u f = []

abbrev pub read_use : Spec → Use → List Finding
read_use s u = read_of s u u.form

-- an argument where its parameter is read so
abbrev pub argument_read : Spec → Around → Bool → Bool → Tree → List Finding
argument_read s a hidden indexed t = flat_map (read_use s) (uses [] (record a { hidden = hidden; indexed = indexed }) t)

abbrev pub base_written : Spec → Around → Option Name → Shape → List Finding
base_written s a None shape = []
base_written s a (Some x) shape = mapped_write s a x shape

-- an argument where its parameter is assigned, and this follows
abbrev pub argument_written : Spec → Around → Shape → Tree → List Finding
argument_written s a shape t =
    base_written s a (left_base t) (join (left_shape t) shape)
    ++ flat_map (read_use s) (left_uses [] (inside a) t)

-- an argument as its parameter is read
abbrev pub argument_reads : Spec → Around → Usage → Tree → List Finding
argument_reads s a w t =
    found_where w.plain (argument_read s a false false t)
    ++ found_where w.indexed (argument_read s a false true t)
    ++ found_where w.hidden (argument_read s a true false t)
    ++ found_where w.hidden_indexed (argument_read s a true true t)

-- an argument as its parameter is used
abbrev pub argument_findings : Spec → Around → Usage → Tree → List Finding
argument_findings s a w t =
    argument_reads s a w t
    ++ found_where w.bare (argument_written s a Bare t)
    ++ found_where w.one_index (argument_written s a OneIndex t)
    ++ found_where w.further (argument_written s a Further t)

abbrev pub arguments_findings : Spec → Around → List (Name × Usage) → List Tree → List Finding
arguments_findings s a [] ts = []
arguments_findings s a (q ∷ qs) [] = []
arguments_findings s a (q ∷ qs) (t ∷ ts) = argument_findings s a q.1 t ++ arguments_findings s a qs ts

abbrev pub mapped_use_of : Spec → MacroTable → Use → Form → List Finding
mapped_use_of s table u forms.Alone = found_where (not u.around.passed) (mapped_read s u)
mapped_use_of s table u (forms.Assigned shape) = mapped_write s u.around u.name shape
mapped_use_of s table u (forms.Called ts) = arguments_findings s u.around (parameters_of table u.name) ts
mapped_use_of s table u f = []

abbrev pub mapped_use : Spec → MacroTable → Use → List Finding
mapped_use s table u = mapped_use_of s table u u.form

abbrev pub mapped_here : Spec → List Finding
mapped_here s = flat_map (mapped_use s (macro_table s.macros)) (all_uses s)
