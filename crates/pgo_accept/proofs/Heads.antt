-- What no finding about the heads of processes says: each has its archetype, and as many arguments as it has parameters.
use Rattle.std.proofs.Common.{◌≡◌, ℕ, zero, suc, Bool, true, false, not, if◌then◌else◌, List, [], ◌∷◌, ◌++◌, length, Option, Some, None, option_map, refl, ap, ◌∙◌, subst}
use Rattle.std.proofs.lemmas.Bool.{not-false, eqb-true}
use Rattle.std.specs.Prelude.{nat_eq, is_some}
use Rattle.pgo_base.specs.Lookup.{Name, same_name, find}
use Rattle.pgo_model.specs.Machine.{nth}
use Rattle.pgo_syntax.specs.declared.name.PlacedName.{PlacedName}
use Rattle.pgo_syntax.specs.declared.archetype.Archetype.{Archetype}
use Rattle.pgo_syntax.specs.declared.process.Process.{Process}
use Rattle.pgo_uses.specs.declared.tables.Tables.{Tables}
use Rattle.pgo_uses.specs.Names.{Rows, has_row}
use Rattle.pgo_uses.specs.Tables.{archetype_rows}
use Rattle.pgo_scope.specs.declared.errors.ScopeError.{ScopeError}
use Rattle.pgo_scope.specs.declared.errors.ScopeError.TheVariants as errors
use Rattle.pgo_scope.specs.declared.finding.Finding.{Finding}
use Rattle.pgo_scope.specs.Findings.{found_if}
use Rattle.pgo_scope.specs.Unknown.{unknown_in, unknown_arguments, unknown_clauses, unknown_heads}
use Rattle.pgo_scope.specs.Arity.{or_number, wrong_number, arity_heads}
use Rattle.pgo_bound.specs.Runs.{archetype_named}
use Rattle.pgo_bound.specs.Among.{none_left, none_right}

pub nothing_if : (b : Bool) (p : ℕ) (e : ScopeError) → found_if b p e ≡ [] → b ≡ false
nothing_if true p e h = absurd (cc)
nothing_if false p e h = refl

pub known_name : (rows : Rows) (x : PlacedName) → unknown_in rows x ≡ [] → has_row x.name rows ≡ true
known_name rows x h = not-false (has_row x.name rows) (nothing_if (not (has_row x.name rows)) x.place (errors.Unknown x.name) h)

same_number : (rows : Rows) (x : Name) (n p : ℕ) → wrong_number rows x n p ≡ [] → nat_eq (or_number (find x rows) n) n ≡ true
same_number rows x n p h =
    let b = nat_eq (or_number (find x rows) n) n in
    not-false b (nothing_if (not b) p (errors.Arity x n) h)

-- ---- each process

known_head : (ts : Tables) (ps : List Process) → unknown_heads ts ps ≡ [] → (n : ℕ) (p : Process) → nth ps n ≡ Some p → unknown_in ts.archetypes p.archetype ≡ []
known_head ts [] h n p g = absurd (cc)
known_head ts (q ∷ qs) h zero p g =
    let e : q ≡ p = cc in
    let a = none_left (unknown_in ts.archetypes q.archetype ++ unknown_arguments ts q.arguments ++ unknown_clauses ts q.clauses) (unknown_heads ts qs) h in
    let b = none_left (unknown_in ts.archetypes q.archetype ++ unknown_arguments ts q.arguments) (unknown_clauses ts q.clauses) a in
    let c = none_left (unknown_in ts.archetypes q.archetype) (unknown_arguments ts q.arguments) b in
    subst (λ r. unknown_in ts.archetypes r.archetype ≡ []) e c
known_head ts (q ∷ qs) h (suc n) p g =
    known_head ts qs (none_right (unknown_in ts.archetypes q.archetype ++ unknown_arguments ts q.arguments ++ unknown_clauses ts q.clauses) (unknown_heads ts qs) h) n p g

abbrev head_number : Tables → Process → List Finding
head_number ts p = wrong_number ts.archetypes p.archetype.name (length p.arguments) p.archetype.place

head_arity : (ts : Tables) (ps : List Process) → arity_heads ts ps ≡ [] → (n : ℕ) (p : Process) → nth ps n ≡ Some p → head_number ts p ≡ []
head_arity ts [] h n p g = absurd (cc)
head_arity ts (q ∷ qs) h zero p g =
    let e : q ≡ p = cc in subst (λ r. head_number ts r ≡ []) e (none_left (head_number ts q) (arity_heads ts qs) h)
head_arity ts (q ∷ qs) h (suc n) p g = head_arity ts qs (none_right (head_number ts q) (arity_heads ts qs) h) n p g

-- ---- rows

abbrev size_of : Archetype → ℕ
size_of a = length a.params

-- the rows have the archetype that is named
found_row : (x : Name) (as' : List Archetype) → find x (archetype_rows as') ≡ option_map size_of (archetype_named x as')
found_row x [] = refl
found_row x (a ∷ as') = go (same_name x a.name.name) (found_row x as')
  where
    go : (b : Bool) → find x (archetype_rows as') ≡ option_map size_of (archetype_named x as')
        → (if b then Some (length a.params) else find x (archetype_rows as')) ≡ option_map size_of (if b then Some a else archetype_named x as')
    go true h = refl
    go false h = h

abbrev pub HasArchetype : List Archetype → Process → Type 0
HasArchetype as' p = (a : Archetype) × (archetype_named p.archetype.name as' ≡ Some a) × (length a.params ≡ length p.arguments)

by_rows : (o : Option Archetype) (n : ℕ) → is_some (option_map size_of o) ≡ true → nat_eq (or_number (option_map size_of o) n) n ≡ true → (a : Archetype) × (o ≡ Some a) × (length a.params ≡ n)
by_rows None n h g = absurd (cc)
by_rows (Some a) n h g = (a, refl, eqb-true (length a.params) n g)

pub has_archetype : (ts : Tables) (as' : List Archetype) (ps : List Process) → ts.archetypes ≡ archetype_rows as' → unknown_heads ts ps ≡ [] → arity_heads ts ps ≡ []
    → (n : ℕ) (p : Process) → nth ps n ≡ Some p → HasArchetype as' p
has_archetype ts as' ps r h g n p k =
    let x = p.archetype.name in
    let e : find x ts.archetypes ≡ option_map size_of (archetype_named x as') = ap (find x) r ∙ found_row x as' in
    let u : is_some (find x ts.archetypes) ≡ true = known_name ts.archetypes p.archetype (known_head ts ps h n p k) in
    let v : nat_eq (or_number (find x ts.archetypes) (length p.arguments)) (length p.arguments) ≡ true = same_number ts.archetypes x (length p.arguments) p.archetype.place (head_arity ts ps g n p k) in
    by_rows (archetype_named x as') (length p.arguments)
    (subst (λ o. is_some o ≡ true) e u)
    (subst (λ o. nat_eq (or_number o (length p.arguments)) (length p.arguments) ≡ true) e v)
