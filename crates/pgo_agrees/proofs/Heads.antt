-- What the heads of processes name is declared.
use Rattle.std.proofs.Common.{◌≡◌, Bool, true, false, if◌then◌else◌, List, [], ◌∷◌, ◌++◌, Some, refl, ap, sym, ◌∙◌, subst, inl, inr}
use Rattle.std.specs.Prelude.{is_some}
use Rattle.pgo_base.specs.Lookup.{Name, same_name, find}
use Rattle.pgo_model.specs.Names.{same_name-is}
use Rattle.pgo_syntax.specs.declared.name.PlacedName.{PlacedName}
use Rattle.pgo_syntax.specs.declared.archetype.Extent.{Extent}
use Rattle.pgo_syntax.specs.declared.declaration.Declaration.{Declaration}
use Rattle.pgo_syntax.specs.declared.macros.MappingMacro.{MappingMacro}
use Rattle.pgo_syntax.specs.declared.process.Argument.{Argument}
use Rattle.pgo_syntax.specs.declared.process.Argument.TheVariants as arguments
use Rattle.pgo_syntax.specs.declared.process.MappingClause.{MappingClause}
use Rattle.pgo_syntax.specs.declared.process.Process.{Process}
use Rattle.pgo_syntax.specs.declared.spec.Spec.{Spec}
use Rattle.pgo_uses.specs.declared.tables.Tables.{Tables}
use Rattle.pgo_uses.specs.Names.{has_row}
use Rattle.pgo_uses.specs.Tables.{tables_of, variable_rows, mapping_rows}
use Rattle.pgo_scope.specs.Unknown.{unknown_in, unknown_argument, unknown_target, unknown_arguments, unknown_clauses, unknown_heads}
use Rattle.pgo_bound.specs.Among.{IsAmong, none_left, none_right, among_nth, nth_among}
use Rattle.pgo_bound.specs.Runs.{mapping_named}
use Rattle.pgo_meaning.specs.SystemStates.{RefsDeclared}
use Rattle.pgo_accept.proofs.Heads.{known_name}

pub record HeadKnown (ts : Tables) (p : Process) : Type 0 where
  pub arguments : unknown_arguments ts p.arguments ≡ []
  pub clauses : unknown_clauses ts p.clauses ≡ []

head_here : (ts : Tables) (p : Process) (ps : List Process) → unknown_heads ts (p ∷ ps) ≡ [] → HeadKnown ts p × (unknown_heads ts ps ≡ [])
head_here ts p ps h =
    let a = unknown_in ts.archetypes p.archetype in
    let b = unknown_arguments ts p.arguments in
    let c = unknown_clauses ts p.clauses in
    let rest = unknown_heads ts ps in
    let l = none_left (a ++ b ++ c) rest h in
    (record { arguments = none_right a b (none_left (a ++ b) c l); clauses = none_right (a ++ b) c l }, none_right (a ++ b ++ c) rest h)

pub head_known : (ts : Tables) (ps : List Process) → unknown_heads ts ps ≡ [] → (p : Process) → IsAmong p ps → HeadKnown ts p
head_known ts [] h p a = absurd a
head_known ts (q ∷ ps) h p (inl e) = subst (HeadKnown ts) (sym e) (head_here ts q ps h).0
head_known ts (q ∷ ps) h p (inr a) = head_known ts ps (head_here ts q ps h).1 p a

argument_known : (ts : Tables) (g : PlacedName) (e : Extent) (es : List Argument) → unknown_arguments ts es ≡ [] → IsAmong (arguments.Ref g e) es → has_row g.name ts.globals ≡ true
argument_known ts g e [] h a = absurd a
argument_known ts g e (x ∷ es) h (inl q) =
    known_name ts.globals g (ap (unknown_argument ts) q ∙ none_left (unknown_argument ts x) (unknown_arguments ts es) h)
argument_known ts g e (x ∷ es) h (inr a) = argument_known ts g e es (none_right (unknown_argument ts x) (unknown_arguments ts es) h) a

pub declared_row : (x : Name) (ds : List Declaration) → has_row x (variable_rows ds) ≡ true → (d : Declaration) × IsAmong d ds × (d.name.name ≡ x)
declared_row x [] h = absurd (cc)
declared_row x (d ∷ ds) h = go (same_name x d.name.name) refl h (declared_row x ds)
  where
    go : (b : Bool) → same_name x d.name.name ≡ b → is_some (if b then Some 0 else find x (variable_rows ds)) ≡ true
        → (has_row x (variable_rows ds) ≡ true → (e : Declaration) × IsAmong e ds × (e.name.name ≡ x)) → (e : Declaration) × IsAmong e (d ∷ ds) × (e.name.name ≡ x)
    go true e k more = (d, inl refl, sym (same_name-is x d.name.name e))
    go false e k more = let r = more k in (r.0, inr r.1, r.2)

-- a `ref` argument is a declared global
pub ref_declared : (s : Spec) → unknown_heads (tables_of s) s.processes ≡ [] → (p : Process) → IsAmong p s.processes → (g : PlacedName) (e : Extent) → IsAmong (arguments.Ref g e) p.arguments → (d : Declaration) × IsAmong d s.globals × (d.name.name ≡ g.name)
ref_declared s h p a g e b =
    declared_row g.name s.globals (argument_known (tables_of s) g e p.arguments (head_known (tables_of s) s.processes h p a).arguments b)

pub refs_declared : (s : Spec) → unknown_heads (tables_of s) s.processes ≡ [] → RefsDeclared s
refs_declared s h n m p g e at_n at_m =
    let d = ref_declared s h p (among_nth p s.processes n at_n) g e (among_nth (arguments.Ref g e) p.arguments m at_m) in
    let j = nth_among d.0 s.globals d.1 in
    (j.0, d.0, j.1, d.2)

-- ---- the mapping macros of clauses

clause_known : (ts : Tables) (c : MappingClause) (cs : List MappingClause) → unknown_clauses ts cs ≡ [] → IsAmong c cs → has_row c.mapping.name ts.mappings ≡ true
clause_known ts c [] h a = absurd a
clause_known ts c (d ∷ cs) h (inl e) =
    let k = none_right (unknown_target ts d.target) (unknown_in ts.mappings d.mapping) (none_left (unknown_target ts d.target ++ unknown_in ts.mappings d.mapping) (unknown_clauses ts cs) h) in
    subst (λ (z : MappingClause). has_row z.mapping.name ts.mappings ≡ true) (sym e) (known_name ts.mappings d.mapping k)
clause_known ts c (d ∷ cs) h (inr a) = clause_known ts c cs (none_right (unknown_target ts d.target ++ unknown_in ts.mappings d.mapping) (unknown_clauses ts cs) h) a

mapping_there : (x : Name) (ms : List MappingMacro) → has_row x (mapping_rows ms) ≡ true → (m : MappingMacro) × (mapping_named x ms ≡ Some m)
mapping_there x [] h = absurd (cc)
mapping_there x (m ∷ ms) h = go (same_name x m.name.name) h (mapping_there x ms)
  where
    go : (b : Bool) → is_some (if b then Some 0 else find x (mapping_rows ms)) ≡ true → (has_row x (mapping_rows ms) ≡ true → (n : MappingMacro) × (mapping_named x ms ≡ Some n))
        → (n : MappingMacro) × ((if b then Some m else mapping_named x ms) ≡ Some n)
    go true k more = (m, refl)
    go false k more = more k

-- the mapping macro of a clause is there
pub mapping_found : (s : Spec) → unknown_heads (tables_of s) s.processes ≡ [] → (p : Process) → IsAmong p s.processes → (c : MappingClause) → IsAmong c p.clauses → (m : MappingMacro) × (mapping_named c.mapping.name s.mappings ≡ Some m)
mapping_found s h p a c b =
    mapping_there c.mapping.name s.mappings (clause_known (tables_of s) c p.clauses (head_known (tables_of s) s.processes h p a).clauses b)
