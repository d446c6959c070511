-- Where bind refuses nothing, no `ref` parameter is handed a value.
use Rattle.std.proofs.Common.{◌≡◌, ℕ, Bool, true, false, List, [], ◌∷◌, map, cond, Option, Some, None, option_map, refl, subst}
use Rattle.std.specs.Prelude.{filter}
use Rattle.std.specs.List.{AllByRecursion, filter_map, flat_map, cons_option}
use Rattle.pgo_base.specs.Data.{Data}
use Rattle.pgo_base.specs.Lookup.{Name}
use Rattle.pgo_base.specs.declared.module.Defined.{Defined}
use Rattle.pgo_syntax.specs.declared.archetype.Archetype.{Archetype}
use Rattle.pgo_syntax.specs.declared.archetype.ParameterKind.{ParameterKind}
use Rattle.pgo_syntax.specs.declared.archetype.ParameterKind.TheVariants as kinds
use Rattle.pgo_syntax.specs.declared.process.Argument.{Argument}
use Rattle.pgo_syntax.specs.declared.process.Argument.TheVariants as arguments
use Rattle.pgo_syntax.specs.declared.process.Process.{Process}
use Rattle.pgo_syntax.specs.declared.spec.Spec.{Spec}
use Rattle.pgo_bound.specs.Values.{defs_of}
use Rattle.pgo_bound.specs.Runs.{Run, Handed, handed_from, archetype_named, run_with, run_of, runs_of}
use Rattle.pgo_bound.specs.BoundOf.{GlobalStart, globals_of}
use Rattle.pgo_bound.specs.Among.{none_left, none_right, empty_map}
use Rattle.pgo_heads.specs.declared.errors.BindError.{BindError}
use Rattle.pgo_heads.specs.declared.errors.BindError.TheVariants as errors
use Rattle.pgo_bind.proofs.Passing.{none_first, none_next}
use Rattle.pgo_heads.specs.Refusals.{or_that, first, is_bad_argument, is_bad_handed, bad_arguments, bad_clauses, bad_places, bad_mappings, constants_refused, ids_refused, starts_refused, heads_refused, bind_refusal}

-- a `ref` parameter that is handed a value
abbrev pub is_stray : ParameterKind → Argument → Bool
is_stray kinds.Value e = false
is_stray (kinds.Ref extent) (arguments.Value place e) = true
is_stray (kinds.Ref extent) (arguments.Ref g f) = false

abbrev pub Fits : Handed → Type 0
Fits h = is_stray h.parameter.kind h.argument ≡ false

-- the arguments of a process fit the archetype's parameters, if the archetype is there
abbrev pub ArgumentsFit : List Archetype → Process → Type 0
ArgumentsFit as' p = (a : Archetype) → archetype_named p.archetype.name as' ≡ Some a → AllByRecursion Fits (handed_from 1 a.params p.arguments)

none_mapped : {A : Type 0} (f : A → BindError) (xs : List A) → option_map f (first xs) ≡ None → xs ≡ []
none_mapped f [] h = refl
none_mapped f (x ∷ xs) h = absurd (cc)

stray_is_bad : (gs : List GlobalStart) (r : Run) (n : ℕ) (k : ParameterKind) (e : Argument) → is_bad_argument gs r n k e ≡ false → is_stray k e ≡ false
stray_is_bad gs r n kinds.Value e h = refl
stray_is_bad gs r n (kinds.Ref extent) (arguments.Value place e) h = h
stray_is_bad gs r n (kinds.Ref extent) (arguments.Ref g f) h = refl

none_bad : (gs : List GlobalStart) (r : Run) (hs : List Handed) → filter (is_bad_handed gs r) hs ≡ [] → AllByRecursion Fits hs
none_bad gs r [] h = tt
none_bad gs r (x ∷ xs) h = go (is_bad_handed gs r x) refl h (none_bad gs r xs)
  where
    go : (b : Bool) → is_bad_handed gs r x ≡ b → cond b (x ∷ filter (is_bad_handed gs r) xs) (filter (is_bad_handed gs r) xs) ≡ []
        → (filter (is_bad_handed gs r) xs ≡ [] → AllByRecursion Fits xs) → AllByRecursion Fits (x ∷ xs)
    go true e g k = absurd (cc)
    go false e g k = (stray_is_bad gs r x.number x.parameter.kind x.argument e, k g)

abbrev named_places : List GlobalStart → Run → List (Name × ℕ)
named_places gs r = map (λ n. (r.process.name.name, n)) (bad_places gs r)

run_fits : (gs : List GlobalStart) (r : Run) → named_places gs r ≡ [] → AllByRecursion Fits r.handed
run_fits gs r h =
    let a = empty_map (λ n. (r.process.name.name, n)) (bad_places gs r) h in
    let b = none_left (bad_arguments gs r) (bad_clauses r) a in
    none_bad gs r r.handed (empty_map (λ h. h.number) (filter (is_bad_handed gs r) r.handed) b)

module _ (s : Spec) (ds : List Defined) (gs : List GlobalStart) where
  with_run : (p : Process) (rs : List Run) (o : Option Archetype) → flat_map (named_places gs) (cons_option (option_map (run_with ds p) o) rs) ≡ []
      → ((a : Archetype) → o ≡ Some a → AllByRecursion Fits (handed_from 1 a.params p.arguments)) × (flat_map (named_places gs) rs ≡ [])
  with_run p rs None h = (λ a e. absurd (cc), h)
  with_run p rs (Some b) h = (
    λ a e. let same : b ≡ a = cc in
        subst (λ c. AllByRecursion Fits (handed_from 1 c.params p.arguments)) same (run_fits gs (run_with ds p b) (none_left (named_places gs (run_with ds p b)) (flat_map (named_places gs) rs) h)),
    none_right (named_places gs (run_with ds p b)) (flat_map (named_places gs) rs) h,
  )

  all_fit : (ps : List Process) → flat_map (named_places gs) (filter_map (run_of s ds) ps) ≡ [] → AllByRecursion (ArgumentsFit s.archetypes) ps
  all_fit [] h = tt
  all_fit (p ∷ ps) h =
      let r = with_run p (filter_map (run_of s ds) ps) (archetype_named p.archetype.name s.archetypes) h in
      (r.0, all_fit ps r.1)

-- no argument and no clause of a run is refused
pub no_bad_mappings : (s : Spec) (consts : List (Name × Data)) → bind_refusal s consts ≡ None → bad_mappings (globals_of s (defs_of s consts) (runs_of s (defs_of s consts))) (runs_of s (defs_of s consts)) ≡ []
no_bad_mappings s consts h =
    let ds = defs_of s consts in
    let rs = runs_of s ds in
    let gs = globals_of s ds rs in
    let heads = none_next (constants_refused s consts) (heads_refused s.archetypes ds rs gs) h in
    let bad = option_map (λ (p : Name × ℕ). errors.BadMapping p.0 p.1) (first (bad_mappings gs rs)) in
    let none = none_first bad (or_that (ids_refused rs) (starts_refused s.archetypes ds rs gs)) heads in
    none_mapped (λ (p : Name × ℕ). errors.BadMapping p.0 p.1) (bad_mappings gs rs) none

pub arguments_fit : (s : Spec) (consts : List (Name × Data)) → bind_refusal s consts ≡ None → AllByRecursion (ArgumentsFit s.archetypes) s.processes
arguments_fit s consts h =
    let ds = defs_of s consts in
    all_fit s ds (globals_of s ds (runs_of s ds)) s.processes (no_bad_mappings s consts h)
