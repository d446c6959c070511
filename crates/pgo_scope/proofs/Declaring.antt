-- What is looked up in rows is what the lists of declarations have.
use Rattle.std.proofs.Common.{◌≡◌, ℕ, suc, Bool, true, false, ◌||◌, List, [], ◌∷◌, ◌++◌, map, refl, ap, ◌∙◌}
use Rattle.std.specs.Prelude.{if◌then◌else◌, slice_get, Option, Some, None, option_map, is_some}
use Rattle.std.proofs.lemmas.Option.{slice_get-map}
use Rattle.pgo_base.specs.Lookup.{Name, same_name, find}
use Rattle.pgo_model.specs.Names.{is_among}
use Rattle.pgo_syntax.specs.declared.name.PlacedName.{PlacedName}
use Rattle.pgo_syntax.specs.declared.declaration.Declaration.{Declaration}
use Rattle.pgo_syntax.specs.declared.macros.Macro.{Macro}
use Rattle.pgo_syntax.specs.declared.archetype.Archetype.{Archetype}
use Rattle.pgo_syntax.specs.declared.archetype.Parameter.{Parameter}
use Rattle.pgo_syntax.specs.declared.archetype.ParameterKind.{ParameterKind}
use Rattle.pgo_syntax.specs.declared.archetype.ParameterKind.TheVariants as kinds
use Rattle.pgo_syntax.specs.declared.process.Process.{Process}
use Rattle.pgo_uses.specs.Names.{Rows, has_row, first_at}
use Rattle.pgo_uses.specs.Tables.{name_rows, variable_rows}
use Rattle.pgo_uses.specs.AllUses.{names_of, parameter_names, variable_names}
use Rattle.pgo_scope.specs.declared.mapped.Mapped.{Mapped}
use Rattle.pgo_scope.specs.Assigned.{ref_names, assignable_in, parameter_in}
use Rattle.pgo_scope.specs.Mapped.{some_process, mapped_kind, mapped_among, mapped_of}
use Rattle.pgo_scope.specs.Unknown.{is_own, is_own_of}
use Rattle.pgo_scope.specs.UnitRows.{parameter_rows, ref_rows, own_rows, assignable_rows, macro_parameter_rows, among, among_in, mapped_kinds, kinds_of, Kinds, kind_at, kind_of, kind_in}

-- one name before others
before : (b c d : Bool) → c ≡ d → (o : Option ℕ) → is_some o ≡ c → is_some (if b then Some 0 else o) ≡ b || d
before true c d e o h = refl
before false c d e o h = h ∙ e

variables : (x : Name) (ds : List Declaration) → has_row x (variable_rows ds) ≡ is_among x (variable_names ds)
variables x [] = refl
variables x (d ∷ ds) = before (same_name x d.name.name) (has_row x (variable_rows ds)) (is_among x (variable_names ds)) (variables x ds) (find x (variable_rows ds)) refl

names : (x : Name) (ns : List PlacedName) → has_row x (name_rows ns) ≡ is_among x (names_of ns)
names x [] = refl
names x (n ∷ ns) = before (same_name x n.name) (has_row x (name_rows ns)) (is_among x (names_of ns)) (names x ns) (find x (name_rows ns)) refl

-- one name before two lists
before_both : (b c : Bool) (o : Option ℕ) (m : Bool) → is_some o ≡ m || c → is_some (if b then Some 0 else o) ≡ (b || m) || c
before_both true c o m h = refl
before_both false c o m h = h

own : (x : Name) (ps : List Parameter) (ds : List Declaration) → has_row x (parameter_rows ps ++ variable_rows ds) ≡ is_among x (parameter_names ps) || is_among x (variable_names ds)
own x [] ds = variables x ds
own x (p ∷ ps) ds =
    before_both (same_name x p.name.name) (is_among x (variable_names ds)) (find x (parameter_rows ps ++ variable_rows ds)) (is_among x (parameter_names ps)) (own x ps ds)

assignable : (x : Name) (ps : List Parameter) (ds : List Declaration) → has_row x (ref_rows ps ++ variable_rows ds) ≡ is_among x (ref_names ps) || is_among x (variable_names ds)
assignable x [] ds = variables x ds
assignable x (p ∷ ps) ds = go p.kind (assignable x ps ds)
  where
    go : (k : ParameterKind) → has_row x (ref_rows ps ++ variable_rows ds) ≡ is_among x (ref_names ps) || is_among x (variable_names ds) → has_row x (ref_rows (record p { kind = k } ∷ ps) ++ variable_rows ds) ≡ is_among x (ref_names (record p { kind = k } ∷ ps)) || is_among x (variable_names ds)
    go kinds.Value h = h
    go (kinds.Ref extent) h =
        before_both (same_name x p.name.name) (is_among x (variable_names ds)) (find x (ref_rows ps ++ variable_rows ds)) (is_among x (ref_names ps)) h

mapped : (r : Name) (procs : List Process) (n : ℕ) (ps : List Parameter) (x : Name) → kind_at (first_at x (parameter_rows ps)) (mapped_kinds r procs n ps) ≡ mapped_among r procs n ps x
mapped r procs n [] x = refl
mapped r procs n (p ∷ ps) x = go (same_name x p.name.name) (mapped r procs (suc n) ps x)
  where
    next : (m : Mapped) (ms : List Mapped) (o : Option ℕ) → kind_at (option_map suc o) (m ∷ ms) ≡ kind_at o ms
    next m ms None = refl
    next m ms (Some i) = refl

    go : (b : Bool) → kind_at (first_at x (parameter_rows ps)) (mapped_kinds r procs (suc n) ps) ≡ mapped_among r procs (suc n) ps x → kind_at (if b then Some 0 else option_map suc (first_at x (parameter_rows ps))) (mapped_kind (some_process r n procs) p.kind ∷ mapped_kinds r procs (suc n) ps) ≡ (if b then mapped_kind (some_process r n procs) p.kind else mapped_among r procs (suc n) ps x)
    go true h = refl
    go false h = next (mapped_kind (some_process r n procs) p.kind) (mapped_kinds r procs (suc n) ps) (first_at x (parameter_rows ps)) ∙ h

own_at : (o : Option Archetype) (x : Name) → among (option_map own_rows o) x ≡ is_own_of o x
own_at None x = refl
own_at (Some r) x = own x r.params r.locals

assignable_at : (o : Option Archetype) (x : Name) → among (option_map assignable_rows o) x ≡ assignable_in o x
assignable_at None x = refl
assignable_at (Some r) x = assignable x r.params r.locals

mapped_at : (procs : List Process) (o : Option Archetype) (x : Name) → kind_of (option_map (kinds_of procs) o) x ≡ mapped_of procs o x
mapped_at procs None x = refl
mapped_at procs (Some r) x = mapped r.name.name procs 0 r.params x

params_at : (o : Option Macro) (x : Name) → among (option_map macro_parameter_rows o) x ≡ parameter_in o x
params_at None x = refl
params_at (Some m) x = names x m.params

pub own_found : (rows : List Rows) (rs : List Archetype) → rows ≡ map own_rows rs → (j : ℕ) (x : Name) → among_in rows j x ≡ is_own rs j x
own_found rows rs e j x = ap (λ l. among_in l j x) e ∙ ap (λ o. among o x) (slice_get-map own_rows rs j) ∙ own_at (slice_get rs j) x

pub assignable_found : (rows : List Rows) (rs : List Archetype) → rows ≡ map assignable_rows rs → (j : ℕ) (x : Name) → among_in rows j x ≡ assignable_in (slice_get rs j) x
assignable_found rows rs e j x =
    ap (λ l. among_in l j x) e ∙ ap (λ o. among o x) (slice_get-map assignable_rows rs j) ∙ assignable_at (slice_get rs j) x

pub mapped_found : (ks : List Kinds) (procs : List Process) (rs : List Archetype) → ks ≡ map (kinds_of procs) rs → (j : ℕ) (x : Name) → kind_in ks j x ≡ mapped_of procs (slice_get rs j) x
mapped_found ks procs rs e j x =
    ap (λ l. kind_in l j x) e ∙ ap (λ o. kind_of o x) (slice_get-map (kinds_of procs) rs j) ∙ mapped_at procs (slice_get rs j) x

pub params_found : (rows : List Rows) (ms : List Macro) → rows ≡ map macro_parameter_rows ms → (i : ℕ) (x : Name) → among_in rows i x ≡ parameter_in (slice_get ms i) x
params_found rows ms e i x =
    ap (λ l. among_in l i x) e ∙ ap (λ o. among o x) (slice_get-map macro_parameter_rows ms i) ∙ params_at (slice_get ms i) x
