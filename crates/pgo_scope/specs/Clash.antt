-- Rule 7: two different things have one name in the written module.
--
-- A module has the fixed names below. A constant, a definition and a global are written with their own names, and so is a
-- process. A label, a local variable and a value parameter of an archetype are written for each process P of it as `P_l`,
-- and are shown as `P.l`; they stand where the process stands. A name that an expression binds, and a definition's
-- parameter, keep their names too, and would capture what is written with the same one. Two of these don't clash.
-- Names of a `with`, macros' parameters and `ref` parameters aren't written.
use Rattle.std.specs.Prelude.{ℕ, suc, Bool, true, false, not, ◌&&◌, if◌then◌else◌, List, [], ◌∷◌, ◌++◌, codes, Option, Some, None}
use Rattle.pgo_base.specs.Lookup.{Name, same_name, find}
use Rattle.pgo_model.specs.Written.{pc, self_name, proc_set, terminating, written}
use Rattle.pgo_syntax.specs.declared.name.PlacedName.{PlacedName}
use Rattle.pgo_syntax.specs.declared.archetype.Archetype.{Archetype}
use Rattle.pgo_syntax.specs.declared.archetype.Parameter.{Parameter}
use Rattle.pgo_syntax.specs.declared.archetype.ParameterKind.TheVariants as kinds
use Rattle.pgo_syntax.specs.declared.process.Process.{Process}
use Rattle.pgo_syntax.specs.declared.spec.Spec.{Spec}
use Rattle.pgo_uses.specs.declared.uses.Form.{Form}
use Rattle.pgo_uses.specs.declared.uses.Form.TheVariants as forms
use Rattle.pgo_uses.specs.declared.uses.Use.{Use}
use Rattle.pgo_uses.specs.Names.{Rows, has_row}
use Rattle.pgo_uses.specs.AllUses.{all_uses, archetype_uses, variable_names}
use Rattle.pgo_uses.specs.Heads.{shared_names}
use Rattle.pgo_scope.specs.declared.errors.ScopeError.TheVariants as errors
use Rattle.pgo_scope.specs.declared.finding.Finding.{Finding}
use Rattle.pgo_scope.specs.declared.module_names.ModuleName.{ModuleName}
use Rattle.pgo_scope.specs.TextOrder.{in_text_order}

abbrev pub fixed_names : List Name
fixed_names =
    codes "vars" ∷ proc_set ∷ codes "Init" ∷ codes "Next" ∷ codes "Spec" ∷ terminating ∷ pc ∷ self_name ∷ []

-- a name that is written as it is
abbrev pub itself : Bool → Name → ℕ → ModuleName
itself b x p = record { written = x; shown = x; place = p; bound = b }

abbrev pub fixed_module_names : List Name → List ModuleName
fixed_module_names [] = []
fixed_module_names (x ∷ xs) = itself false x 0 ∷ fixed_module_names xs

abbrev pub shared_module_names : List PlacedName → List ModuleName
shared_module_names [] = []
shared_module_names (x ∷ xs) = itself false x.name x.place ∷ shared_module_names xs

abbrev pub bound_module_name : Use → Form → List ModuleName
bound_module_name u forms.Bound = itself true u.name u.around.place ∷ []
bound_module_name u f = []

abbrev pub bound_module_names : List Use → List ModuleName
bound_module_names [] = []
bound_module_names (u ∷ us) = bound_module_name u u.form ++ bound_module_names us

-- the names of value parameters
abbrev pub value_names : List Parameter → List Name
value_names [] = []
value_names (p ∷ ps) = elim p.kind [ kinds.Value ↦ p.name.name ∷ value_names ps | kinds.Ref extent ↦ value_names ps ]

-- a label that is not among those before it, which are rows with the number 0
abbrev pub new_label : Rows → Use → Form → Option Name
new_label before u forms.Label = if has_row u.name before then None else Some u.name
new_label before u f = None

-- labels in the order of the text, each once
abbrev pub labels_from : Rows → List Use → List Name
labels_from before [] = []
labels_from before (u ∷ us) =
    elim (new_label before u u.form) [ None ↦ labels_from before us | Some l ↦ l ∷ labels_from (before ++ (l, 0) ∷ []) us ]

-- what an archetype's processes write: value parameters, local variables, labels
abbrev pub own_names : ℕ → Archetype → List Name
own_names j r = value_names r.params ++ variable_names r.locals ++ labels_from [] (archetype_uses j r)

abbrev pub own_rows : ℕ → List Archetype → List (Name × List Name)
own_rows j [] = []
own_rows j (r ∷ rs) = (r.name.name, own_names j r) ∷ own_rows (suc j) rs

abbrev pub or_none : Option (List Name) → List Name
or_none None = []
or_none (Some ls) = ls

abbrev pub own_module_name : Process → Name → ModuleName
own_module_name p l = record { written = written p.name.name l; shown = p.name.name ++ codes "." ++ l; place = p.name.place; bound = false }

abbrev pub own_module_names : Process → List Name → List ModuleName
own_module_names p [] = []
own_module_names p (l ∷ ls) = own_module_name p l ∷ own_module_names p ls

-- a process: itself, and its names
abbrev pub process_module_names : List (Name × List Name) → List Process → List ModuleName
process_module_names rows [] = []
process_module_names rows (p ∷ ps) =
    itself false p.name.name p.name.place ∷ own_module_names p (or_none (find p.archetype.name rows)) ++ process_module_names rows ps

-- the fixed names, and then all others in the order of the text; at one place what is declared there, a process with the
-- names that it writes, and last what an expression binds
abbrev pub module_names_with : Spec → List Use → List ModuleName
module_names_with s us =
    fixed_module_names fixed_names
    ++ in_text_order (λ t. t.place) (shared_module_names (shared_names s) ++ process_module_names (own_rows 0 s.archetypes) s.processes ++ bound_module_names us)

abbrev pub clash : ModuleName → ModuleName → Bool
clash t u = same_name t.written u.written && not (t.bound && u.bound)

-- the first of these that clashes with t
abbrev pub clash_with : List ModuleName → ModuleName → List Finding
clash_with [] t = []
clash_with (u ∷ us) t =
    if clash t u then record { place = t.place; error = errors.NameClash u.shown t.shown } ∷ [] else clash_with us t

-- each name that clashes with one before it
abbrev pub clashes_from : List ModuleName → List ModuleName → List Finding
clashes_from before [] = []
clashes_from before (t ∷ ts) = clash_with before t ++ clashes_from (before ++ t ∷ []) ts

abbrev pub name_clashes : Spec → List Finding
name_clashes s = clashes_from [] (module_names_with s (all_uses s))
