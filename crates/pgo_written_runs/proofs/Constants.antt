-- The constants of the module: each declared one has its value, which can be written and read back.
use Rattle.std.proofs.Common.{◌≡◌, Bool, true, false, if◌then◌else◌, List, [], ◌∷◌, map, Option, Some, None, refl, ap, subst, option_map}
use Rattle.std.specs.List.{filter_map, cons_option}
use Rattle.std.specs.Prelude.{cond, filter, is_none}
use Rattle.std.proofs.lemmas.Option.{same_Some}
use Rattle.pgo_base.specs.Data.{Data}
use Rattle.pgo_base.specs.Lookup.{Name, same_name}
use Rattle.pgo_syntax.specs.declared.name.PlacedName.{PlacedName}
use Rattle.pgo_syntax.specs.declared.spec.Spec.{Spec}
use Rattle.pgo_bound.specs.Among.{empty_map}
use Rattle.pgo_bound.specs.BoundOf.{globals_of}
use Rattle.pgo_bound.specs.Runs.{runs_of}
use Rattle.pgo_bound.specs.Values.{defs_of, given_value, latest}
use Rattle.pgo_bind.proofs.Passing.{none_first}
use Rattle.pgo_expr_write.specs.WellFormed.{AreNames}
use Rattle.pgo_heads.specs.Refusals.{bind_refusal, constants_refused, first, heads_refused, missing, unknown}
use Rattle.pgo_heads.specs.declared.errors.BindError.TheVariants as errors
use Rattle.pgo_translate.specs.ModuleOf.{constants_with, named_constant}
use Rattle.pgo_log_text.specs.IsBundle.{AreCanonical, AreConstants, IsCanonicalValue}
use Rattle.pgo_written_runs.proofs.Names.{read_name}

none_listed : (xs : List Name) → option_map errors.ConstMissing (first xs) ≡ None → xs ≡ []
none_listed [] e = refl
none_listed (x ∷ xs) e = absurd (cc)

given_all : (s : Spec) (consts : List (Name × Data)) → bind_refusal s consts ≡ None → filter (λ (c : PlacedName). is_none (given_value consts c.name)) s.constants ≡ []
given_all s consts h =
    let ds = defs_of s consts in
    let all = none_first (constants_refused s consts) (heads_refused s.archetypes ds (runs_of s ds) (globals_of s ds (runs_of s ds))) h in
    let one = none_first (option_map errors.ConstMissing (first (missing s.constants consts))) (option_map errors.ConstUnknown (first (unknown s.constants consts))) all in
    empty_map (λ (c : PlacedName). c.name) (filter (λ (c : PlacedName). is_none (given_value consts c.name)) s.constants) (none_listed (missing s.constants consts) one)

module _ (consts : List (Name × Data)) where
  abbrev is_missing : PlacedName → Bool
  is_missing c = is_none (given_value consts c.name)

  names_with : (cs : List PlacedName) → filter is_missing cs ≡ [] → map (λ p. p.0) (filter_map (named_constant consts) cs) ≡ map (λ c. c.name) cs
  names_with [] h = refl
  names_with (c ∷ cs) h = go (given_value consts c.name) h (names_with cs)
    where
      go : (o : Option Data) → cond (is_none o) (c ∷ filter is_missing cs) (filter is_missing cs) ≡ [] → (filter is_missing cs ≡ [] → map (λ p. p.0) (filter_map (named_constant consts) cs) ≡ map (λ c. c.name) cs)
          → map (λ p. p.0) (cons_option (option_map (λ v. (c.name, v)) o) (filter_map (named_constant consts) cs)) ≡ c.name ∷ map (λ c. c.name) cs
      go None e more = absurd (cc)
      go (Some v) e more = ap (λ xs. c.name ∷ xs) (more e)

  latest_canonical : (x : Name) (o : Option Data) (cs : List (Name × Data)) → AreCanonical cs → ((v : Data) → o ≡ Some v → IsCanonicalValue v) → (v : Data) → latest x o cs ≡ Some v → IsCanonicalValue v
  latest_canonical x o [] h f v e = f v e
  latest_canonical x o (c ∷ cs) h f v e = latest_canonical x (if same_name x c.0 then Some c.1 else o) cs h.1 (go (same_name x c.0)) v e
    where
      go : (b : Bool) (v : Data) → (if b then Some c.1 else o) ≡ Some v → IsCanonicalValue v
      go true v k = subst IsCanonicalValue (same_Some c.1 v k) h.0
      go false v k = f v k

  constants_are : AreCanonical consts → (cs : List PlacedName) → AreNames (map (λ c. c.name) cs) → AreConstants (filter_map (named_constant consts) cs)
  constants_are h [] names = tt
  constants_are h (c ∷ cs) names = go (given_value consts c.name) refl (constants_are h cs names.1)
    where
      go : (o : Option Data) → given_value consts c.name ≡ o → AreConstants (filter_map (named_constant consts) cs) → AreConstants (cons_option (option_map (λ v. (c.name, v)) o) (filter_map (named_constant consts) cs))
      go None e r = r
      go (Some v) e r = (read_name c.name names.0, latest_canonical c.name None consts h (λ w q. absurd (cc)) v e, r)

pub constants_named : (s : Spec) (consts : List (Name × Data)) → bind_refusal s consts ≡ None → map (λ p. p.0) (constants_with s consts) ≡ map (λ c. c.name) s.constants
constants_named s consts h = names_with consts s.constants (given_all s consts h)

pub constants_canonical : (s : Spec) (consts : List (Name × Data)) → AreCanonical consts → AreNames (map (λ c. c.name) s.constants) → AreConstants (constants_with s consts)
constants_canonical s consts h names = constants_are consts h s.constants names
