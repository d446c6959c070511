-- Initial values, identifiers and value arguments name nothing that the module writes beside the definitions.
use Rattle.std.proofs.Common.{◌≡◌, ℕ, Bool, true, false, not, ◌||◌, List, [], ◌∷◌, ◌++◌, Option, Some, None, refl, ap, sym, ◌∙◌, subst, inl, inr, arith}
use Rattle.std.specs.Prelude.{◌⊎◌}
use Rattle.std.specs.List.{AllByRecursion}
use Rattle.std.proofs.lemmas.Bool.{or_from}
use Rattle.pgo_base.specs.Lookup.{Name, same_name}
use Rattle.pgo_base.specs.Tree.{Tree}
use Rattle.pgo_model.specs.Names.{same_name-self, same_name-not}
use Rattle.pgo_model.specs.Written.{self_name, default_init_value}
use Rattle.pgo_syntax.specs.declared.archetype.Archetype.{Archetype}
use Rattle.pgo_syntax.specs.declared.binding.Origin.{Origin}
use Rattle.pgo_syntax.specs.declared.binding.Origin.TheVariants as origins
use Rattle.pgo_syntax.specs.declared.declaration.Declaration.{Declaration}
use Rattle.pgo_syntax.specs.declared.process.Argument.{Argument}
use Rattle.pgo_syntax.specs.declared.process.Argument.TheVariants as arguments
use Rattle.pgo_syntax.specs.declared.process.Process.{Process}
use Rattle.pgo_syntax.specs.declared.spec.Spec.{Spec}
use Rattle.pgo_uses.specs.AllUses.{start, parameter_names, variable_names, parameter_uses, local_uses, initial_uses, value_uses, process_uses}
use Rattle.pgo_uses.specs.Names.{has_row, is_at}
use Rattle.pgo_uses.specs.StatementUses.{placed, origin_tree, uses_of_block}
use Rattle.pgo_uses.specs.Tables.{name_rows, tables_of, operator_rows}
use Rattle.pgo_uses.specs.Uses.{uses}
use Rattle.pgo_uses.specs.declared.uses.Around.{Around}
use Rattle.pgo_uses.specs.declared.uses.Form.TheVariants as forms
use Rattle.pgo_uses.specs.declared.uses.Home.{Home}
use Rattle.pgo_uses.specs.declared.uses.Home.TheVariants as homes
use Rattle.pgo_uses.specs.declared.uses.Use.{Use}
use Rattle.pgo_scope.specs.Clash.{itself, fixed_names, fixed_module_names, shared_module_names}
use Rattle.pgo_scope.specs.Unknown.{is_constant, is_common, is_own, means}
use Rattle.pgo_syntax.specs.Statement.{labeled}
use Rattle.pgo_bound.specs.Among.{IsAmong, among_left, among_right, among_append, all_at}
use Rattle.pgo_bound.specs.State.{variables_of}
use Rattle.pgo_bound.specs.Different.{all_from}
use Rattle.pgo_accept.proofs.Fitting.{ArgumentsFit}
use Rattle.pgo_translate.specs.Avoids.{Good, Free, Avoids}
use Rattle.pgo_translate.specs.Premises.{OriginAvoids, ArgumentAvoids, ProcessAvoids, further_names, taken_names, is_taken, is_taken_or_self}
use Rattle.pgo_agrees.specs.Accepted.{IsOfText, OriginOfText, DeclarationOfText, ArchetypeOfText, ArgumentOfText, ProcessOfText}
use Rattle.pgo_agrees.specs.Spoken.{Spoken}
use Rattle.pgo_agrees.proofs.FromUses.{IsAt, Tells, stands}
use Rattle.pgo_agrees.proofs.Further.{IsTaken, bound_not_taken}
use Rattle.pgo_agrees.proofs.FurtherNames.{name_of, named_further}
use Rattle.pgo_agrees.proofs.Hoist.{never}
use Rattle.pgo_agrees.proofs.Kept.{NoFindings, NoLabelFindings}
use Rattle.pgo_agrees.proofs.Meanings.{IsCommon, IsApplicable, named_row, row_test, operators_not_self, common_apart, applicable_apart, applicable_not_self, alone_means, alone_no_global, applied_is, common_here}
use Rattle.pgo_agrees.proofs.Names.{and_right}
use Rattle.pgo_agrees.proofs.Stands.{or_in}
use Rattle.pgo_agrees.proofs.WrittenNames.{writes_some, counted, shared_among, bound_not_fixed}
use Rattle.pgo_agrees.proofs.Uses.{FineUse, fine_use, of_global, of_archetype, of_process}
use Rattle.pgo_agrees.proofs.Variables.{not_among, variable_is}
use Rattle.pgo_agrees.proofs.Weaker.{plain}

-- ---- an expression at a home where names that stand alone are good, and so are those that are applied or bound
module _ (s : Spec) (k : NoFindings s) (fit : AllByRecursion (ArgumentsFit s.archetypes) s.processes) (of_text : IsOfText s) (bad : Name → Bool) (applied : (x : Name) → IsApplicable s x → bad x ≡ false) (bound : (u : Use) → FineUse s u → u.form ≡ forms.Bound → bad u.name ≡ false) where
  abbrev Meaning : Home → Type 0
  Meaning home = (x : Name) → means (tables_of s) s.archetypes home x ≡ true → has_row x (tables_of s).globals ≡ false → bad x ≡ false

  tells : (home : Home) → Meaning home → Tells (FineUse s) home false (λ h i x. Good bad x) (Good bad) (Good bad) (Good bad)
  tells home meaning = record { alone = alone; applied = λ u n f w e. applied u.name (applied_is s k fit of_text u n f e); binds = λ u f w e. bound u f e }
    where
      alone : (u : Use) → FineUse s u → IsAt home false u.around → u.form ≡ forms.Alone → (u.inner ≡ true → Good bad u.name) → Good bad u.name
      alone u f w e inner = go u.inner refl
        where
          go : (b : Bool) → u.inner ≡ b → Good bad u.name
          go true j = inner j
          go false j =
              meaning u.name (subst (λ z. means (tables_of s) s.archetypes z u.name ≡ true) w.0 (alone_means s k fit of_text u f e j)) (alone_no_global s k fit of_text u f e j)

  pub avoids : (home : Home) → Meaning home → (p : ℕ) (t : Tree) → Spoken t → ((u : Use) → IsAmong u (uses [] (start home p) t) → FineUse s u) → Avoids bad t
  avoids home meaning p t spoken f =
      let at' = start home p in
      let st = stands (FineUse s) home false (λ h i x. Good bad x) (Good bad) (Good bad) (Good bad) (tells home meaning) [] [] at' t (refl, refl) (λ x h. never h) spoken (all_from (FineUse s) (uses [] at' t) f) in
      plain (λ h i x. Good bad x) (Good bad) (Good bad) (Good bad) (Good bad) Free (λ h i x g. g) (λ x g. g) (λ x g. tt) (λ x g. g) [] false false t (λ x h. never h) st

module _ (s : Spec) (k : NoFindings s) (labels : NoLabelFindings s) (fit : AllByRecursion (ArgumentsFit s.archetypes) s.processes) (of_text : IsOfText s) where
  pub taken_apart : (x : Name) → (IsTaken s x → ⊥) → is_taken s x ≡ false
  taken_apart x f = not_among x (taken_names s) there
    where
      go : IsAmong x (variables_of s) ⊎ IsAmong x (further_names s) → ⊥
      go (inl b) = f (inl (variable_is s x b))
      go (inr b) = f (inr (named_further s k labels x (name_of s k labels x b)))

      there : IsAmong x (taken_names s) → ⊥
      there a = go (among_append x (variables_of s) (further_names s) a)

  common_good : (x : Name) → IsCommon s x → is_taken s x ≡ false
  common_good x c = taken_apart x (common_apart s k fit of_text x c)

  applied_good : (x : Name) → IsApplicable s x → is_taken s x ≡ false
  applied_good x c = taken_apart x (applicable_apart s k fit of_text x c)

  bound_good : (u : Use) → FineUse s u → u.form ≡ forms.Bound → is_taken s u.name ≡ false
  bound_good u f e = taken_apart u.name (bound_not_taken s k.clashes fit u f.among e)

  -- ---- what a name means
  common_or : (x : Name) → is_common (tables_of s) x ≡ true → is_common (tables_of s) x || same_name x self_name ≡ true
  common_or x h = ap (λ b. b || same_name x self_name) h

  abbrev Good' : Home → Type 0
  Good' home = (x : Name) → means (tables_of s) s.archetypes home x ≡ true → has_row x (tables_of s).globals ≡ false → is_taken s x ≡ false

  in_global : (i : ℕ) → Good' (homes.Global i)
  in_global i x h g =
      common_good x (common_here s k fit of_text x (common_or x (and_right (not (is_at i x (tables_of s).globals)) (is_common (tables_of s) x) h)) g)

  in_initial : (j : ℕ) → Good' (homes.Initial j)
  in_initial j x h g =
      common_good x (common_here s k fit of_text x (and_right (not (is_own s.archetypes j x)) (is_common (tables_of s) x || same_name x self_name) h) g)

  in_initial_set : (j : ℕ) → Good' (homes.InitialSet j)
  in_initial_set j x h g =
      common_good x (common_here s k fit of_text x (common_or x (and_right (not (is_own s.archetypes j x)) (is_common (tables_of s) x) h)) g)

  in_argument : Good' homes.Argument
  in_argument x h g = common_good x (common_here s k fit of_text x h g)

  avoids_taken : (home : Home) → Good' home → (p : ℕ) (t : Tree) → Spoken t → ((u : Use) → IsAmong u (uses [] (start home p) t) → FineUse s u) → Avoids (is_taken s) t
  avoids_taken home good p t spoken f = avoids s k fit of_text (is_taken s) applied_good bound_good home good p t spoken f

  -- ---- globals
  pub global_avoids : (d : Declaration) → IsAmong d s.globals → OriginAvoids (is_taken s) d.initial
  global_avoids d a =
      let r = of_global s d a in
      let text = all_at DeclarationOfText d s.globals of_text.globals a in
      go r.0 d.initial text.1 (λ u b. fine_use s k u (r.2 u b))
    where
      go : (i : ℕ) (o : Option Origin) → OriginOfText o → ((u : Use) → IsAmong u (elim o as (λ o. List Use) [ None ↦ [] | Some q ↦ uses [] (start (homes.Global i) d.name.place) (origin_tree q) ]) → FineUse s u) → OriginAvoids (is_taken s) o
      go i None t f = tt
      go i (Some (origins.Equals e)) t f = avoids_taken (homes.Global i) (in_global i) d.name.place e t f
      go i (Some (origins.In e)) t f = avoids_taken (homes.Global i) (in_global i) d.name.place e t f

  -- ---- locals
  initial_among : (j : ℕ) (d : Declaration) (ns : List Name) (a : Around) (ds : List Declaration) → IsAmong d ds → (u : Use) → IsAmong u (initial_uses j d) → IsAmong u (local_uses j ns a ds)
  initial_among j d ns a [] h u b = absurd h
  initial_among j d ns a (e ∷ ds) (inl q) u b =
      let own = placed ns a e.name forms.Named in
      let rest = local_uses j (ns ++ e.name.name ∷ []) a ds in
      among_left u (own ++ initial_uses j e) rest (among_right u own (initial_uses j e) (subst (λ z. IsAmong u (initial_uses j z)) q b))
  initial_among j d ns a (e ∷ ds) (inr h) u b =
      let own = placed ns a e.name forms.Named in
      among_right u (own ++ initial_uses j e) (local_uses j (ns ++ e.name.name ∷ []) a ds) (initial_among j d (ns ++ e.name.name ∷ []) a ds h u b)

  local_avoids : (j : ℕ) (d : Declaration) → OriginOfText d.initial → ((u : Use) → IsAmong u (initial_uses j d) → FineUse s u) → OriginAvoids (is_taken s) d.initial
  local_avoids j d text f = go d.initial text (λ u b. f u b)
    where
      go : (o : Option Origin) → OriginOfText o → ((u : Use) → IsAmong u (initial_uses j (record { name = d.name; initial = o })) → FineUse s u) → OriginAvoids (is_taken s) o
      go None t g = tt
      go (Some (origins.Equals e)) t g = avoids_taken (homes.Initial j) (in_initial j) d.name.place e t g
      go (Some (origins.In e)) t g = avoids_taken (homes.InitialSet j) (in_initial_set j) d.name.place e t g

  pub archetype_avoids : (a : Archetype) → IsAmong a s.archetypes → AllByRecursion (λ d. OriginAvoids (is_taken s) d.initial) a.locals
  archetype_avoids a h =
      let r = of_archetype s a h in
      let text = all_at ArchetypeOfText a s.archetypes of_text.archetypes h in
      let at' = start (homes.Body r.0) a.name.place in
      let ps = parameter_uses [] at' a.params in
      let ls = local_uses r.0 (parameter_names a.params) at' a.locals in
      let bs = uses_of_block (parameter_names a.params ++ variable_names a.locals) at' (labeled a.body) in
      all_from (λ (d : Declaration). OriginAvoids (is_taken s) d.initial) a.locals (λ d b. local_avoids r.0 d (all_at DeclarationOfText d a.locals text.1 b).1 (λ u c. fine_use s k u (r.2 u (among_left u (ps ++ ls) bs (among_right u ps ls (initial_among r.0 d (parameter_names a.params) at' a.locals b u c))))))

  -- ---- processes: their arguments, and their identifiers, which do not name `self` either
  constant_not_self : (x : Name) → has_row x (name_rows s.constants) ≡ true → x ≡ self_name → ⊥
  constant_not_self x e f =
      let n = named_row x s.constants e in
      let c = writes_some x (itself false n.0.name n.0.place) (shared_module_names s.constants) (shared_among n.0 s.constants n.1) (ap (same_name x) (sym n.2) ∙ same_name-self x) in
      let m = writes_some x (itself false self_name 0) (fixed_module_names fixed_names) (inr (inr (inr (inr (inr (inr (inr (inl refl)))))))) (ap (same_name x) (sym f) ∙ same_name-self x) in
      let a = counted s k.clashes x in
      omega (arith, c, m, a)

  constants_not_self : (x : Name) → (has_row x (name_rows s.constants) || has_row x operator_rows) || same_name x default_init_value ≡ true → same_name x self_name ≡ false
  constants_not_self x h = go (or_in (has_row x (name_rows s.constants) || has_row x operator_rows) (same_name x default_init_value) h)
    where
      first : (has_row x (name_rows s.constants) ≡ true) ⊎ (has_row x operator_rows ≡ true) → same_name x self_name ≡ false
      first (inl e) = same_name-not x self_name (constant_not_self x e)
      first (inr e) = row_test (λ y. same_name y self_name) x operator_rows operators_not_self e

      go : (has_row x (name_rows s.constants) || has_row x operator_rows ≡ true) ⊎ (same_name x default_init_value ≡ true) → same_name x self_name ≡ false
      go (inl e) = first (or_in (has_row x (name_rows s.constants)) (has_row x operator_rows) e)
      go (inr e) = same_name-not x self_name (λ f. (let q : true ≡ false = sym e ∙ ap (λ y. same_name y default_init_value) f in cc))

  common_not_self : (x : Name) → is_common (tables_of s) x ≡ true → has_row x (tables_of s).globals ≡ false → same_name x self_name ≡ false
  common_not_self x h g = go (or_in (is_constant (tables_of s) x || has_row x (tables_of s).definitions) (has_row x (tables_of s).globals) h)
    where
      second : (is_constant (tables_of s) x ≡ true) ⊎ (has_row x (tables_of s).definitions ≡ true) → same_name x self_name ≡ false
      second (inl e) = constants_not_self x e
      second (inr e) = applicable_not_self s k fit of_text x (inl e)

      go : (is_constant (tables_of s) x || has_row x (tables_of s).definitions ≡ true) ⊎ (has_row x (tables_of s).globals ≡ true) → same_name x self_name ≡ false
      go (inl e) = second (or_in (is_constant (tables_of s) x) (has_row x (tables_of s).definitions) e)
      go (inr e) = absurd (let q : true ≡ false = sym e ∙ g in cc)

  in_process : (x : Name) → means (tables_of s) s.archetypes homes.Process x ≡ true → has_row x (tables_of s).globals ≡ false → is_taken_or_self s x ≡ false
  in_process x h g =
      or_from (is_taken s x) (same_name x self_name) (common_good x (common_here s k fit of_text x (common_or x h) g)) (common_not_self x h g)

  applied_both : (x : Name) → IsApplicable s x → is_taken_or_self s x ≡ false
  applied_both x c = or_from (is_taken s x) (same_name x self_name) (applied_good x c) (applicable_not_self s k fit of_text x c)

  bound_both : (u : Use) → FineUse s u → u.form ≡ forms.Bound → is_taken_or_self s u.name ≡ false
  bound_both u f e =
      or_from (is_taken s u.name) (same_name u.name self_name) (bound_good u f e) (same_name-not u.name self_name (λ g. bound_not_fixed s k.clashes u f.among e self_name (inr (inr (inr (inr (inr (inr (inr (inl refl)))))))) (sym g)))

  ids_avoid : (p : ℕ) (o : Origin) → Spoken (origin_tree o) → ((u : Use) → IsAmong u (uses [] (start homes.Process p) (origin_tree o)) → FineUse s u) → OriginAvoids (is_taken_or_self s) (Some o)
  ids_avoid p (origins.Equals e) t f = avoids s k fit of_text (is_taken_or_self s) applied_both bound_both homes.Process in_process p e t f
  ids_avoid p (origins.In e) t f = avoids s k fit of_text (is_taken_or_self s) applied_both bound_both homes.Process in_process p e t f

  given_avoid : (es : List Argument) → AllByRecursion ArgumentOfText es → ((u : Use) → IsAmong u (value_uses es) → FineUse s u) → AllByRecursion (ArgumentAvoids (is_taken s)) es
  given_avoid [] t f = tt
  given_avoid (arguments.Value p e ∷ es) t f =
      let us = uses [] (start homes.Argument p) e in (
        avoids_taken homes.Argument in_argument p e t.0 (λ u b. f u (among_left u us (value_uses es) b)),
        given_avoid es t.1 (λ u b. f u (among_right u us (value_uses es) b)),
      )
  given_avoid (arguments.Ref g x ∷ es) t f = (tt, given_avoid es t.1 f)

  pub process_avoids : (p : Process) → IsAmong p s.processes → ProcessAvoids s p
  process_avoids p a =
      let text = all_at ProcessOfText p s.processes of_text.processes a in
      let us = uses [] (start homes.Process p.name.place) (origin_tree p.ids) in
      let fine = λ (u : Use) (b : IsAmong u (process_uses p)). fine_use s k u (of_process s p a u b) in
      record {
        ids = ids_avoid p.name.place p.ids text.1 (λ u b. fine u (among_left u us (value_uses p.arguments) b));
        arguments = given_avoid p.arguments text.2 (λ u b. fine u (among_right u us (value_uses p.arguments) b));
      }
