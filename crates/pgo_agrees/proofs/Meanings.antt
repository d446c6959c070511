-- What a name means where nothing around it gives it a meaning: a constant, an operator, a definition or `self`, and no variable nor
-- another name that the module writes.
use Rattle.std.proofs.Common.{◌≡◌, ℕ, suc, Bool, true, false, not, ◌&&◌, ◌||◌, if◌then◌else◌, nat_eq, List, [], ◌∷◌, ◌++◌, length, Option, Some, None, option_map, refl, ap, sym, ◌∙◌, subst, inl, inr, arith}
use Rattle.std.proofs.lemmas.Bool.{not-false, eqb-true}
use Rattle.std.specs.Prelude.{◌⊎◌, is_some}
use Rattle.std.specs.List.{AllByRecursion}
use Rattle.pgo_base.specs.Lookup.{Name, same_name, find}
use Rattle.pgo_model.specs.Names.{same_name-self, same_name-is, same_name-not}
use Rattle.pgo_model.specs.Written.{self_name, default_init_value}
use Rattle.pgo_syntax.specs.declared.name.PlacedName.{PlacedName}
use Rattle.pgo_syntax.specs.declared.declaration.Definition.{Definition}
use Rattle.pgo_syntax.specs.declared.process.Process.{Process}
use Rattle.pgo_syntax.specs.declared.spec.Spec.{Spec}
use Rattle.pgo_uses.specs.Heads.{definition_names, declared_names, shared_names, macro_names, mapping_names, archetype_names, process_names, unit_names}
use Rattle.pgo_uses.specs.Names.{Rows, has_row, first_at, is_below, is_earlier}
use Rattle.pgo_uses.specs.Tables.{all_definitions, name_rows, definition_rows, tables_of, operator_rows}
use Rattle.pgo_uses.specs.declared.uses.Form.TheVariants as forms
use Rattle.pgo_uses.specs.declared.uses.Home.TheVariants as homes
use Rattle.pgo_uses.specs.declared.uses.Use.{Use}
use Rattle.pgo_scope.specs.Arity.{or_number, takes, other_number, arity_of}
use Rattle.pgo_scope.specs.Clash.{itself, fixed_names, fixed_module_names, shared_module_names}
use Rattle.pgo_scope.specs.Globals.{is_global}
use Rattle.pgo_scope.specs.Twice.{is_reserved, reserved_name}
use Rattle.pgo_scope.specs.Underscores.{has_double}
use Rattle.pgo_scope.specs.Unknown.{is_constant, is_common, means, is_unknown}
use Rattle.pgo_scope.specs.declared.errors.ScopeError.TheVariants as errors
use Rattle.pgo_bound.specs.Among.{IsAmong, among_left, among_right, none_flat_map}
use Rattle.pgo_accept.proofs.Heads.{nothing_if}
use Rattle.pgo_accept.proofs.Fitting.{ArgumentsFit}
use Rattle.pgo_sections.specs.WellFormed.{NotMade}
use Rattle.pgo_agrees.specs.Accepted.{IsOfText}
use Rattle.pgo_agrees.proofs.Kept.{NoFindings}
use Rattle.pgo_agrees.proofs.Names.{single, written_marked, has_mark}
use Rattle.pgo_agrees.proofs.Stands.{or_in}
use Rattle.pgo_agrees.proofs.WrittenNames.{writes_some, counted, shared_among}
use Rattle.pgo_agrees.proofs.Uses.{FineUse}
use Rattle.pgo_agrees.proofs.Variables.{is_global as a_global, is_place, is_own, global_shared, shared_single}
use Rattle.pgo_agrees.proofs.Further.{IsTaken, is_proc_set, is_terminating, is_process, is_written, others_taken, taken_not_self}

-- ---- rows

pub named_row : (x : Name) (ns : List PlacedName) → has_row x (name_rows ns) ≡ true → (n : PlacedName) × IsAmong n ns × (x ≡ n.name)
named_row x [] h = absurd (cc)
named_row x (n ∷ ns) h = go (same_name x n.name) refl h (named_row x ns)
  where
    go : (b : Bool) → same_name x n.name ≡ b → is_some (if b then Some 0 else find x (name_rows ns)) ≡ true → (has_row x (name_rows ns) ≡ true → (m : PlacedName) × IsAmong m ns × (x ≡ m.name)) → (m : PlacedName) × IsAmong m (n ∷ ns) × (x ≡ m.name)
    go true e k more = (n, inl refl, same_name-is x n.name e)
    go false e k more = let r = more k in (r.0, inr r.1, r.2)

pub defined_row : (x : Name) (ds : List Definition) → has_row x (definition_rows ds) ≡ true → (d : Definition) × IsAmong d ds × (x ≡ d.name.name)
defined_row x [] h = absurd (cc)
defined_row x (d ∷ ds) h = go (same_name x d.name.name) refl h (defined_row x ds)
  where
    go : (b : Bool) → same_name x d.name.name ≡ b → is_some (if b then Some (length d.params) else find x (definition_rows ds)) ≡ true → (has_row x (definition_rows ds) ≡ true → (e : Definition) × IsAmong e ds × (x ≡ e.name.name)) → (e : Definition) × IsAmong e (d ∷ ds) × (x ≡ e.name.name)
    go true e k more = (d, inl refl, same_name-is x d.name.name e)
    go false e k more = let r = more k in (r.0, inr r.1, r.2)

pub defined_name : (d : Definition) (ds : List Definition) → IsAmong d ds → IsAmong d.name (definition_names ds)
defined_name d [] a = absurd a
defined_name d (e ∷ ds) (inl q) = inl (ap (λ (z : Definition). z.name) q)
defined_name d (e ∷ ds) (inr a) = inr (defined_name d ds a)

process_named : (p : Process) (ps : List Process) → IsAmong p ps → IsAmong p.name (process_names ps)
process_named p [] a = absurd a
process_named p (q ∷ ps) (inl e) = inl (ap (λ (r : Process). r.name) e)
process_named p (q ∷ ps) (inr a) = inr (process_named p ps a)

-- what is so of no name in the rows is not so of one that is found
pub row_test : (f : Name → Bool) (x : Name) (rows : Rows) → AllByRecursion (λ r. f r.0 ≡ false) rows → has_row x rows ≡ true → f x ≡ false
row_test f x [] a h = absurd (cc)
row_test f x (r ∷ rows) a h = go (same_name x r.0) refl h (row_test f x rows a.1)
  where
    go : (b : Bool) → same_name x r.0 ≡ b → is_some (if b then Some r.1 else find x rows) ≡ true → (has_row x rows ≡ true → f x ≡ false) → f x ≡ false
    go true e k more = ap f (same_name-is x r.0 e) ∙ a.0
    go false e k more = more k

operators_unmarked : AllByRecursion (λ r. has_mark r.0 ≡ false) operator_rows
operators_unmarked = (refl, (refl, (refl, (refl, (refl, (refl, (refl, (refl, tt))))))))

operators_single : AllByRecursion (λ r. has_double r.0 ≡ false) operator_rows
operators_single = (refl, (refl, (refl, (refl, (refl, (refl, (refl, (refl, tt))))))))

pub operators_not_self : AllByRecursion (λ r. same_name r.0 self_name ≡ false) operator_rows
operators_not_self = (refl, (refl, (refl, (refl, (refl, (refl, (refl, (refl, tt))))))))

pub earlier_row : (i : ℕ) (x : Name) (rows : Rows) → is_earlier i x rows ≡ true → has_row x rows ≡ true
earlier_row i x rows h = found rows (first_at x rows) refl h
  where
    found : (rs : Rows) (o : Option ℕ) → first_at x rs ≡ o → is_below i o ≡ true → has_row x rs ≡ true
    found rs None e k = absurd (cc)
    found [] (Some j) e k = absurd (cc)
    found (r ∷ rs) (Some j) e k = go (same_name x r.0) e (there rs)
      where
        there : (ss : Rows) → (q : Option ℕ) → first_at x ss ≡ q → (m : ℕ) → option_map suc q ≡ Some m → has_row x ss ≡ true
        there ss None f m g = absurd (cc)
        there [] (Some n) f m g = absurd (cc)
        there (s ∷ ss) (Some n) f m g = inner (same_name x s.0) f (there ss)
          where
            inner : (b : Bool) → (if b then Some 0 else option_map suc (first_at x ss)) ≡ Some n → ((q : Option ℕ) → first_at x ss ≡ q → (m : ℕ) → option_map suc q ≡ Some m → has_row x ss ≡ true) → is_some (if b then Some s.1 else find x ss) ≡ true
            inner true a more = refl
            inner false a more = more (first_at x ss) refl n a

        go : (b : Bool) → (if b then Some 0 else option_map suc (first_at x rs)) ≡ Some j → ((q : Option ℕ) → first_at x rs ≡ q → (m : ℕ) → option_map suc q ≡ Some m → has_row x rs ≡ true) → is_some (if b then Some r.1 else find x rs) ≡ true
        go true a more = refl
        go false a more = more (first_at x rs) refl j a

not_zero : (n : ℕ) → 0 ≡ suc n → ⊥
not_zero n h = omega (arith, h)

-- ---- names that have a meaning everywhere

abbrev pub IsCommon : Spec → Name → Type 0
IsCommon s x =
    (is_constant (tables_of s) x ≡ true) ⊎ ((has_row x (tables_of s).definitions ≡ true) ⊎ (x ≡ self_name))

abbrev pub IsApplicable : Spec → Name → Type 0
IsApplicable s x = (has_row x (tables_of s).definitions ≡ true) ⊎ (has_row x operator_rows ≡ true)

module _ (s : Spec) (k : NoFindings s) (fit : AllByRecursion (ArgumentsFit s.archetypes) s.processes) (of_text : IsOfText s) where
  contradiction : true ≡ false → ⊥
  contradiction e = cc

  -- ---- nothing that the module writes

  constant_apart : (x : Name) → has_row x (name_rows s.constants) ≡ true → IsTaken s x → ⊥
  constant_apart x h v =
      let n = named_row x s.constants h in
      let c = writes_some x (itself false n.0.name n.0.place) (shared_module_names s.constants) (shared_among n.0 s.constants n.1) (ap (same_name x) (sym n.2) ∙ same_name-self x) in
      let z = others_taken s k.clashes fit x v in
      omega (arith, c, z)

  definition_apart : (x : Name) → has_row x (definition_rows (all_definitions s)) ≡ true → IsTaken s x → ⊥
  definition_apart x h v =
      let d = defined_row x (all_definitions s) h in
      let c = writes_some x (itself false d.0.name.name d.0.name.place) (shared_module_names (definition_names (all_definitions s))) (shared_among d.0.name (definition_names (all_definitions s)) (defined_name d.0 (all_definitions s) d.1)) (ap (same_name x) (sym d.2) ∙ same_name-self x) in
      let z = others_taken s k.clashes fit x v in
      omega (arith, c, z)

  pub global_unit : (x : PlacedName) → IsAmong x (shared_names s) → IsAmong x (unit_names s)
  global_unit x a =
      let ms = macro_names s.macros in
      let ns = mapping_names s.mappings in
      let as' = archetype_names s.archetypes in
      let ps = process_names s.processes in
      let shared = shared_names s in
      among_left x (shared ++ ms ++ ns ++ as') ps (among_left x (shared ++ ms ++ ns) as' (among_left x (shared ++ ms) ns (among_left x shared ms a)))

  pub process_unit : (p : Process) → IsAmong p s.processes → IsAmong p.name (unit_names s)
  process_unit p a =
      among_right p.name (shared_names s ++ macro_names s.macros ++ mapping_names s.mappings ++ archetype_names s.archetypes) (process_names s.processes) (process_named p s.processes a)

  pub reserved_apart : (x : Name) → is_reserved x ≡ true → has_mark x ≡ false → IsTaken s x → ⊥
  reserved_apart x h m (inl (a_global d a e)) =
      let n = nothing_if (is_reserved d.name.name) d.name.place (errors.Twice d.name.name) (none_flat_map reserved_name d.name (unit_names s) k.reserved (global_unit d.name (global_shared s d a))) in
      contradiction (sym h ∙ ap is_reserved e ∙ n)
  reserved_apart x h m (inl (is_place e)) = contradiction (sym h ∙ ap is_reserved e)
  reserved_apart x h m (inl (is_own p a y b e n q)) = contradiction (sym (ap has_mark q ∙ written_marked p.name.name y) ∙ m)
  reserved_apart x h m (inr (is_proc_set e)) = contradiction (sym h ∙ ap is_reserved e)
  reserved_apart x h m (inr (is_terminating e)) = contradiction (sym h ∙ ap is_reserved e)
  reserved_apart x h m (inr (is_process p a e)) =
      let n = nothing_if (is_reserved p.name.name) p.name.place (errors.Twice p.name.name) (none_flat_map reserved_name p.name (unit_names s) k.reserved (process_unit p a)) in
      contradiction (sym h ∙ ap is_reserved e ∙ n)
  reserved_apart x h m (inr (is_written p y a b e)) = contradiction (sym (ap has_mark e ∙ written_marked p.name.name y) ∙ m)

  operator_apart : (x : Name) → has_row x operator_rows ≡ true → IsTaken s x → ⊥
  operator_apart x h v = reserved_apart x (ap (λ b. b || same_name x default_init_value) h) (row_test has_mark x operator_rows operators_unmarked h) v

  default_apart : (x : Name) → same_name x default_init_value ≡ true → IsTaken s x → ⊥
  default_apart x h v =
      let e = same_name-is x default_init_value h in reserved_apart x (ap is_reserved e) (ap has_mark e) v

  constants_apart : (x : Name) → is_constant (tables_of s) x ≡ true → IsTaken s x → ⊥
  constants_apart x h v = go (or_in (has_row x (name_rows s.constants) || has_row x operator_rows) (same_name x default_init_value) h)
    where
      first : (has_row x (name_rows s.constants) ≡ true) ⊎ (has_row x operator_rows ≡ true) → ⊥
      first (inl e) = constant_apart x e v
      first (inr e) = operator_apart x e v

      go : (has_row x (name_rows s.constants) || has_row x operator_rows ≡ true) ⊎ (same_name x default_init_value ≡ true) → ⊥
      go (inl e) = first (or_in (has_row x (name_rows s.constants)) (has_row x operator_rows) e)
      go (inr e) = default_apart x e v

  pub common_apart : (x : Name) → IsCommon s x → IsTaken s x → ⊥
  common_apart x (inl e) v = constants_apart x e v
  common_apart x (inr (inl e)) v = definition_apart x e v
  common_apart x (inr (inr e)) v = taken_not_self s k.clashes fit x v e

  pub applicable_apart : (x : Name) → IsApplicable s x → IsTaken s x → ⊥
  applicable_apart x (inl e) v = definition_apart x e v
  applicable_apart x (inr e) v = operator_apart x e v

  -- ---- no made name

  pub shared_of : (x : PlacedName) → IsAmong x (s.constants ++ definition_names (all_definitions s)) → IsAmong x (shared_names s)
  shared_of x a = among_left x (s.constants ++ definition_names (all_definitions s)) (declared_names s.globals) a

  constant_single : (x : Name) → has_row x (name_rows s.constants) ≡ true → has_double x ≡ false
  constant_single x h =
      let n = named_row x s.constants h in
      ap has_double n.2 ∙ shared_single s k fit of_text n.0 (shared_of n.0 (among_left n.0 s.constants (definition_names (all_definitions s)) n.1))

  definition_single : (x : Name) → has_row x (definition_rows (all_definitions s)) ≡ true → has_double x ≡ false
  definition_single x h =
      let d = defined_row x (all_definitions s) h in
      ap has_double d.2 ∙ shared_single s k fit of_text d.0.name (shared_of d.0.name (among_right d.0.name s.constants (definition_names (all_definitions s)) (defined_name d.0 (all_definitions s) d.1)))

  constants_single : (x : Name) → is_constant (tables_of s) x ≡ true → has_double x ≡ false
  constants_single x h = go (or_in (has_row x (name_rows s.constants) || has_row x operator_rows) (same_name x default_init_value) h)
    where
      first : (has_row x (name_rows s.constants) ≡ true) ⊎ (has_row x operator_rows ≡ true) → has_double x ≡ false
      first (inl e) = constant_single x e
      first (inr e) = row_test has_double x operator_rows operators_single e

      go : (has_row x (name_rows s.constants) || has_row x operator_rows ≡ true) ⊎ (same_name x default_init_value ≡ true) → has_double x ≡ false
      go (inl e) = first (or_in (has_row x (name_rows s.constants)) (has_row x operator_rows) e)
      go (inr e) = ap has_double (same_name-is x default_init_value e)

  pub common_single : (x : Name) → IsCommon s x → NotMade x
  common_single x (inl e) = single x (constants_single x e)
  common_single x (inr (inl e)) = single x (definition_single x e)
  common_single x (inr (inr e)) = single x (ap has_double e)

  pub applicable_single : (x : Name) → IsApplicable s x → NotMade x
  applicable_single x (inl e) = single x (definition_single x e)
  applicable_single x (inr e) = single x (row_test has_double x operator_rows operators_single e)

  -- ---- what is applied is not `self`
  pub applicable_not_self : (x : Name) → IsApplicable s x → same_name x self_name ≡ false
  applicable_not_self x (inr e) = row_test (λ y. same_name y self_name) x operator_rows operators_not_self e
  applicable_not_self x (inl e) = same_name-not x self_name not_here
    where
      not_here : x ≡ self_name → ⊥
      not_here f =
          let d = defined_row x (all_definitions s) e in
          let c = writes_some x (itself false d.0.name.name d.0.name.place) (shared_module_names (definition_names (all_definitions s))) (shared_among d.0.name (definition_names (all_definitions s)) (defined_name d.0 (all_definitions s) d.1)) (ap (same_name x) (sym d.2) ∙ same_name-self x) in
          let m = writes_some x (itself false self_name 0) (fixed_module_names fixed_names) (inr (inr (inr (inr (inr (inr (inr (inl refl)))))))) (ap (same_name x) (sym f) ∙ same_name-self x) in
          let a = counted s k.clashes x in
          omega (arith, c, m, a)

  -- ---- uses

  not_inner : (b m : Bool) → b ≡ false → (not b && not m) ≡ false → m ≡ true
  not_inner true m e h = absurd (contradiction e)
  not_inner false m e h = not-false m h

  not_inner_false : (b m : Bool) → b ≡ false → (not b && m) ≡ false → m ≡ false
  not_inner_false true m e h = absurd (contradiction e)
  not_inner_false false m e h = h

  pub alone_means : (u : Use) → FineUse s u → u.form ≡ forms.Alone → u.inner ≡ false → means (tables_of s) s.archetypes u.around.home u.name ≡ true
  alone_means u f e i =
      not_inner u.inner (means (tables_of s) s.archetypes u.around.home u.name) i (subst (λ g. is_unknown (tables_of s) s.archetypes u g ≡ false) e f.unknown)

  pub alone_no_global : (u : Use) → FineUse s u → u.form ≡ forms.Alone → u.inner ≡ false → has_row u.name (tables_of s).globals ≡ false
  alone_no_global u f e i =
      not_inner_false u.inner (has_row u.name (tables_of s).globals) i (subst (λ g. is_global (tables_of s) u g ≡ false) e f.global)

  -- in a statement
  pub common_here : (x : Name) → is_common (tables_of s) x || same_name x self_name ≡ true → has_row x (tables_of s).globals ≡ false → IsCommon s x
  common_here x h g = go (or_in (is_common (tables_of s) x) (same_name x self_name) h)
    where
      third : (is_constant (tables_of s) x ≡ true) ⊎ (has_row x (tables_of s).definitions ≡ true) → IsCommon s x
      third (inl e) = inl e
      third (inr e) = inr (inl e)

      second : (is_constant (tables_of s) x || has_row x (tables_of s).definitions ≡ true) ⊎ (has_row x (tables_of s).globals ≡ true) → IsCommon s x
      second (inl e) = third (or_in (is_constant (tables_of s) x) (has_row x (tables_of s).definitions) e)
      second (inr e) = absurd (contradiction (sym e ∙ g))

      go : (is_common (tables_of s) x ≡ true) ⊎ (same_name x self_name ≡ true) → IsCommon s x
      go (inl e) = second (or_in (is_constant (tables_of s) x || has_row x (tables_of s).definitions) (has_row x (tables_of s).globals) e)
      go (inr e) = inr (inr (same_name-is x self_name e))

  -- in a definition
  pub defined_here : (i : ℕ) (x : Name) → means (tables_of s) s.archetypes (homes.Definition i) x ≡ true → has_row x (tables_of s).globals ≡ false → IsCommon s x
  defined_here i x h g = go (or_in (is_constant (tables_of s) x || is_earlier i x (tables_of s).definitions) (has_row x (tables_of s).globals) h)
    where
      second : (is_constant (tables_of s) x ≡ true) ⊎ (is_earlier i x (tables_of s).definitions ≡ true) → IsCommon s x
      second (inl e) = inl e
      second (inr e) = inr (inl (earlier_row i x (tables_of s).definitions e))

      go : (is_constant (tables_of s) x || is_earlier i x (tables_of s).definitions ≡ true) ⊎ (has_row x (tables_of s).globals ≡ true) → IsCommon s x
      go (inl e) = second (or_in (is_constant (tables_of s) x) (is_earlier i x (tables_of s).definitions) e)
      go (inr e) = absurd (contradiction (sym e ∙ g))

  -- what has arguments is a definition or an operator
  pub applied_is : (u : Use) (n : ℕ) → FineUse s u → u.form ≡ forms.Applied (suc n) → IsApplicable s u.name
  applied_is u n f e = go u.inner (find u.name (tables_of s).definitions) (find u.name operator_rows) refl refl (same (takes (tables_of s) u) (suc n) (subst (λ g. arity_of (tables_of s) u g ≡ []) e f.arity))
    where
      same : (m j : ℕ) → other_number m j u.around.place u.name ≡ [] → nat_eq m j ≡ true
      same m j h = not-false (nat_eq m j) (nothing_if (not (nat_eq m j)) u.around.place (errors.Arity u.name j) h)

      none : nat_eq 0 (suc n) ≡ true → ⊥
      none h = not_zero n (eqb-true 0 (suc n) h)

      go : (b : Bool) (p q : Option ℕ) → find u.name (tables_of s).definitions ≡ p → find u.name operator_rows ≡ q → nat_eq (if b then 0 else or_number p (or_number q 0)) (suc n) ≡ true → IsApplicable s u.name
      go true p q g k h = absurd (none h)
      go false None None g k h = absurd (none h)
      go false (Some m) q g k h = inl (ap is_some g)
      go false None (Some m) g k h = inr (ap is_some k)
