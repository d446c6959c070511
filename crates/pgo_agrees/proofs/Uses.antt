-- The uses of names in each unit are uses of the specification, and none of them breaks a rule.
use Rattle.std.proofs.Common.{◌≡◌, ℕ, zero, suc, ◌+◌, false, List, [], ◌∷◌, ◌++◌, Some, refl, ap, sym, subst, inl, inr, arith}
use Rattle.std.specs.Prelude.{slice_get}
use Rattle.pgo_syntax.specs.declared.archetype.Archetype.{Archetype}
use Rattle.pgo_syntax.specs.declared.declaration.Declaration.{Declaration}
use Rattle.pgo_syntax.specs.declared.declaration.Definition.{Definition}
use Rattle.pgo_syntax.specs.declared.macros.Macro.{Macro}
use Rattle.pgo_syntax.specs.declared.macros.MappingMacro.{MappingMacro}
use Rattle.pgo_syntax.specs.declared.process.Process.{Process}
use Rattle.pgo_syntax.specs.declared.spec.Spec.{Spec}
use Rattle.pgo_uses.specs.AllUses.{definition_uses, definitions_uses, global_uses, globals_uses, macro_uses, macros_uses, mapping_uses, mappings_uses, archetype_uses, archetypes_uses, process_uses, processes_uses, all_uses}
use Rattle.pgo_uses.specs.Tables.{all_definitions, tables_of}
use Rattle.pgo_uses.specs.declared.uses.Use.{Use}
use Rattle.pgo_scope.specs.Arity.{arity_of, arity_use}
use Rattle.pgo_scope.specs.Assigned.{assigned_of, assigned_use}
use Rattle.pgo_scope.specs.Globals.{is_global, global_finding}
use Rattle.pgo_scope.specs.Mapped.{mapped_use_of, mapped_use}
use Rattle.pgo_scope.specs.Twice.{hiding_of, hiding_use}
use Rattle.pgo_scope.specs.Underscores.{has_double, double_use}
use Rattle.pgo_scope.specs.Unknown.{is_unknown, unknown_use}
use Rattle.pgo_scope.specs.Usage.{macro_table}
use Rattle.pgo_scope.specs.declared.errors.ScopeError.TheVariants as errors
use Rattle.pgo_bound.specs.Among.{IsAmong, among_left, among_right, none_flat_map}
use Rattle.pgo_accept.proofs.Heads.{nothing_if}
use Rattle.pgo_agrees.proofs.Kept.{NoFindings}

-- ---- no rule finds anything at a use

pub record FineUse (s : Spec) (u : Use) : Type 0 where
  pub among : IsAmong u (all_uses s)
  pub unknown : is_unknown (tables_of s) s.archetypes u u.form ≡ false
  pub hiding : hiding_of (tables_of s) u u.form ≡ false
  pub arity : arity_of (tables_of s) u u.form ≡ []
  pub global : is_global (tables_of s) u u.form ≡ false
  pub assigned : assigned_of s (macro_table s.macros) u u.form ≡ []
  pub mapped : mapped_use_of s (macro_table s.macros) u u.form ≡ []
  pub double : has_double u.name ≡ false

pub fine_use : (s : Spec) → NoFindings s → (u : Use) → IsAmong u (all_uses s) → FineUse s u
fine_use s k u a =
    let ts = tables_of s in
    record {
      among = a;
      unknown = nothing_if (is_unknown ts s.archetypes u u.form) u.around.place (errors.Unknown u.name) (none_flat_map (unknown_use ts s.archetypes) u (all_uses s) k.unknown a);
      hiding = nothing_if (hiding_of ts u u.form) u.around.place (errors.Twice u.name) (none_flat_map (hiding_use ts) u (all_uses s) k.hiding a);
      arity = none_flat_map (arity_use ts) u (all_uses s) k.arity a;
      global = nothing_if (is_global ts u u.form) u.around.place (errors.GlobalInArchetype u.name) (none_flat_map (global_finding ts) u (all_uses s) k.globals a);
      assigned = none_flat_map (assigned_use s (macro_table s.macros)) u (all_uses s) k.assigned a;
      mapped = none_flat_map (mapped_use s (macro_table s.macros)) u (all_uses s) k.mapped a;
      double = nothing_if (has_double u.name) u.around.place (errors.DoubleUnderscore u.name) (none_flat_map double_use u (all_uses s) k.doubles a);
    }

-- ---- units by their numbers

abbrev pub Within : List Use → List Use → Type 0
Within us vs = (u : Use) → IsAmong u us → IsAmong u vs

-- of a list of units: one of them at its number
module _ {A : Type 0} (one : ℕ → A → List Use) (all : ℕ → List A → List Use) (more : (n : ℕ) (x : A) (xs : List A) → all n (x ∷ xs) ≡ one n x ++ all (suc n) xs) where
  abbrev pub Placed : ℕ → A → List A → Type 0
  Placed n x xs = (k : ℕ) × (slice_get xs k ≡ Some x) × Within (one (n + k) x) (all n xs)

  pub at_number : (n : ℕ) (x : A) (xs : List A) → IsAmong x xs → Placed n x xs
  at_number n x [] a = absurd a
  at_number n x (y ∷ xs) (inl e) = (
    0,
    ap Some (sym e),
    λ u a. subst (IsAmong u) (sym (more n y xs)) (among_left u (one n y) (all (suc n) xs) (subst (λ z. IsAmong u (one n z)) e (subst (λ m. IsAmong u (one m x)) (let z : n + 0 ≡ n = omega arith in z) a))),
  )
  at_number n x (y ∷ xs) (inr b) =
      let r = at_number (suc n) x xs b in (
        suc r.0,
        r.1,
        λ u a. subst (IsAmong u) (sym (more n y xs)) (among_right u (one n y) (all (suc n) xs) (r.2 u (subst (λ m. IsAmong u (one m x)) (let z : n + suc r.0 ≡ suc n + r.0 = omega arith in z) a))),
      )

  pub from_start : (x : A) (xs : List A) → IsAmong x xs → (k : ℕ) × (slice_get xs k ≡ Some x) × Within (one k x) (all 0 xs)
  from_start x xs a =
      let r = at_number 0 x xs a in
      (r.0, r.1, λ u b. r.2 u (subst (λ m. IsAmong u (one m x)) (let z : r.0 ≡ 0 + r.0 = omega arith in z) b))

module _ (s : Spec) where
  abbrev ds : List Use
  ds = definitions_uses 0 (all_definitions s)

  abbrev gs : List Use
  gs = globals_uses 0 s.globals

  abbrev ms : List Use
  ms = macros_uses 0 s.macros

  abbrev ps : List Use
  ps = mappings_uses s.mappings

  abbrev rs : List Use
  rs = archetypes_uses 0 s.archetypes

  abbrev qs : List Use
  qs = processes_uses s.processes

  pub of_archetype : (a : Archetype) → IsAmong a s.archetypes → (j : ℕ) × (slice_get s.archetypes j ≡ Some a) × Within (archetype_uses j a) (all_uses s)
  of_archetype a h =
      let r = from_start archetype_uses archetypes_uses (λ n x xs. refl) a s.archetypes h in
      (r.0, r.1, λ u b. among_left u (ds ++ gs ++ ms ++ ps ++ rs) qs (among_right u (ds ++ gs ++ ms ++ ps) rs (r.2 u b)))

  -- the uses of the macro at this number
  pub of_macro_at : (m : Macro) (i : ℕ) → slice_get s.macros i ≡ Some m → Within (macro_uses i m) (all_uses s)
  of_macro_at m i h u b = among_left u (ds ++ gs ++ ms ++ ps ++ rs) qs (among_left u (ds ++ gs ++ ms ++ ps) rs (among_left u (ds ++ gs ++ ms) ps (among_right u (ds ++ gs) ms (within 0 s.macros i h (let z : 0 + i ≡ i = omega arith in z)))))
    where
      within : (n : ℕ) (xs : List Macro) (j : ℕ) → slice_get xs j ≡ Some m → n + j ≡ i → IsAmong u (macros_uses n xs)
      within n [] j g e = absurd (cc)
      within n (x ∷ xs) zero g e =
          let same : x ≡ m = cc in
          let at_n : i ≡ n = omega (arith, e) in
          among_left u (macro_uses n x) (macros_uses (suc n) xs) (subst (λ z. IsAmong u (macro_uses n z)) (sym same) (subst (λ z. IsAmong u (macro_uses z m)) at_n b))
      within n (x ∷ xs) (suc j) g e = among_right u (macro_uses n x) (macros_uses (suc n) xs) (within (suc n) xs j g (omega (arith, e)))

  pub of_definition : (d : Definition) → IsAmong d (all_definitions s) → (j : ℕ) × (slice_get (all_definitions s) j ≡ Some d) × Within (definition_uses j d) (all_uses s)
  of_definition d h =
      let r = from_start definition_uses definitions_uses (λ n x xs. refl) d (all_definitions s) h in
      (r.0, r.1, λ u b. among_left u (ds ++ gs ++ ms ++ ps ++ rs) qs (among_left u (ds ++ gs ++ ms ++ ps) rs (among_left u (ds ++ gs ++ ms) ps (among_left u (ds ++ gs) ms (among_left u ds gs (r.2 u b))))))

  pub of_mapping : (m : MappingMacro) → IsAmong m s.mappings → Within (mapping_uses m) (all_uses s)
  of_mapping m h u b =
      among_left u (ds ++ gs ++ ms ++ ps ++ rs) qs (among_left u (ds ++ gs ++ ms ++ ps) rs (among_right u (ds ++ gs ++ ms) ps (there s.mappings h)))
    where
      there : (xs : List MappingMacro) → IsAmong m xs → IsAmong u (mappings_uses xs)
      there [] c = absurd c
      there (x ∷ xs) (inl e) = among_left u (mapping_uses x) (mappings_uses xs) (subst (λ z. IsAmong u (mapping_uses z)) e b)
      there (x ∷ xs) (inr c) = among_right u (mapping_uses x) (mappings_uses xs) (there xs c)

  pub of_global : (d : Declaration) → IsAmong d s.globals → (i : ℕ) × (slice_get s.globals i ≡ Some d) × Within (global_uses i d) (all_uses s)
  of_global d h =
      let r = from_start global_uses globals_uses (λ n x xs. refl) d s.globals h in
      (r.0, r.1, λ u b. among_left u (ds ++ gs ++ ms ++ ps ++ rs) qs (among_left u (ds ++ gs ++ ms ++ ps) rs (among_left u (ds ++ gs ++ ms) ps (among_left u (ds ++ gs) ms (among_right u ds gs (r.2 u b))))))

  pub of_process : (p : Process) → IsAmong p s.processes → Within (process_uses p) (all_uses s)
  of_process p h u b = among_right u (ds ++ gs ++ ms ++ ps ++ rs) qs (there s.processes h)
    where
      there : (xs : List Process) → IsAmong p xs → IsAmong u (processes_uses xs)
      there [] c = absurd c
      there (x ∷ xs) (inl e) = among_left u (process_uses x) (processes_uses xs) (subst (λ z. IsAmong u (process_uses z)) e b)
      there (x ∷ xs) (inr c) = among_right u (process_uses x) (processes_uses xs) (there xs c)
