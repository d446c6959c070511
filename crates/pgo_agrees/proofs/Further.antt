-- What a module writes beside its variables: ProcSet, Terminating, and what processes write. No constant, definition or bound name
-- is one of these, nor is `self`.
use Rattle.std.proofs.Common.{◌≡◌, ℕ, ◌+◌, Bool, true, false, ◌==◌, List, [], ◌∷◌, ◌++◌, map, refl, ap, sym, ◌∙◌, subst, inl, inr, arith}
use Rattle.std.specs.Prelude.{◌⊎◌}
use Rattle.std.specs.List.{AllByRecursion}
use Rattle.pgo_base.specs.Lookup.{Name, same_name, find}
use Rattle.pgo_model.specs.Names.{same_name-self, is_among}
use Rattle.pgo_model.specs.Written.{self_name, proc_set, terminating, written}
use Rattle.pgo_syntax.specs.declared.process.Process.{Process}
use Rattle.pgo_syntax.specs.declared.spec.Spec.{Spec}
use Rattle.pgo_uses.specs.AllUses.{all_uses}
use Rattle.pgo_uses.specs.Heads.{definition_names, shared_names}
use Rattle.pgo_uses.specs.Tables.{all_definitions}
use Rattle.pgo_uses.specs.declared.uses.Use.{Use}
use Rattle.pgo_uses.specs.declared.uses.Form.TheVariants as forms
use Rattle.pgo_scope.specs.Clash.{itself, fixed_names, fixed_module_names, shared_module_names, or_none, own_module_name, own_module_names, process_module_names, name_clashes}
use Rattle.pgo_scope.specs.declared.module_names.ModuleName.{ModuleName}
use Rattle.pgo_bound.specs.Among.{IsAmong, among_left, among_right, among_append, among_map, from_map}
use Rattle.pgo_bound.specs.State.{variables_of}
use Rattle.pgo_accept.proofs.Fitting.{ArgumentsFit}
use Rattle.pgo_accept.proofs.WrittenOnce.{writes}
use Rattle.pgo_agrees.proofs.Names.{has_mark, written_marked}
use Rattle.pgo_agrees.proofs.WrittenNames.{writes_some, counted, bound_apart, bound_not_fixed, process_among, written_by, rows_of}
use Rattle.pgo_agrees.proofs.Variables.{IsVariable, variable_is, not_among, is_among_there, others_none, not_self, bound_no_variable}

abbrev pub further_written : Spec → List Name
further_written s = proc_set ∷ terminating ∷ map (λ (t : ModuleName). t.written) (written_by s)

-- the variables, and these
abbrev pub names_written : Spec → List Name
names_written s = variables_of s ++ further_written s

pub data IsFurther (s : Spec) (x : Name) : Type 0 where
  is_proc_set : x ≡ proc_set → IsFurther s x
  is_terminating : x ≡ terminating → IsFurther s x
  is_process : (p : Process) → IsAmong p s.processes → x ≡ p.name.name → IsFurther s x
  is_written : (p : Process) → (y : Name) → IsAmong p s.processes → IsAmong y (or_none (find p.archetype.name (rows_of s))) → x ≡ written p.name.name y → IsFurther s x

abbrev pub IsTaken : Spec → Name → Type 0
IsTaken s x = IsVariable s x ⊎ IsFurther s x

-- what is no name of the longer list is none of the shorter
fewer_left : (x : Name) (xs ys : List Name) → is_among x (xs ++ ys) ≡ false → is_among x xs ≡ false
fewer_left x xs ys h = not_among x xs (λ a. (let e = is_among_there x (xs ++ ys) (among_left x xs ys a) in let q : true ≡ false = sym e ∙ h in cc))

pub variables_among : (s : Spec) (x : Name) → is_among x (names_written s) ≡ false → is_among x (variables_of s) ≡ false
variables_among s x h = fewer_left x (variables_of s) (further_written s) h

-- ---- what processes write

own_there : (p : Process) (t : ModuleName) (ys : List Name) → IsAmong t (own_module_names p ys) → (y : Name) × IsAmong y ys × (t ≡ own_module_name p y)
own_there p t [] a = absurd a
own_there p t (y ∷ ys) (inl e) = (y, inl refl, e)
own_there p t (y ∷ ys) (inr a) = let r = own_there p t ys a in (r.0, inr r.1, r.2)

abbrev OfSome : List (Name × List Name) → ModuleName → List Process → Type 0
OfSome rows t ps =
    ((p : Process) × IsAmong p ps × (t.written ≡ p.name.name))
    ⊎ ((p : Process) × (y : Name) × IsAmong p ps × IsAmong y (or_none (find p.archetype.name rows)) × (t.written ≡ written p.name.name y))

of_some : (rows : List (Name × List Name)) (t : ModuleName) (ps : List Process) → IsAmong t (process_module_names rows ps) → OfSome rows t ps
of_some rows t [] a = absurd a
of_some rows t (p ∷ ps) (inl e) = inl (p, inl refl, ap (λ (u : ModuleName). u.written) e)
of_some rows t (p ∷ ps) (inr a) = go (among_append t (own_module_names p (or_none (find p.archetype.name rows))) (process_module_names rows ps) a) (of_some rows t ps)
  where
    later : OfSome rows t ps → OfSome rows t (p ∷ ps)
    later (inl r) = inl (r.0, inr r.1, r.2)
    later (inr r) = inr (r.0, r.1, inr r.2, r.3, r.4)

    go : IsAmong t (own_module_names p (or_none (find p.archetype.name rows))) ⊎ IsAmong t (process_module_names rows ps) → (IsAmong t (process_module_names rows ps) → OfSome rows t ps) → OfSome rows t (p ∷ ps)
    go (inl b) more =
        let r = own_there p t (or_none (find p.archetype.name rows)) b in
        inr (p, r.0, inl refl, r.1, ap (λ (u : ModuleName). u.written) r.2)
    go (inr b) more = later (more b)

pub process_itself : (rows : List (Name × List Name)) (p : Process) (ps : List Process) → IsAmong p ps → IsAmong (itself false p.name.name p.name.place) (process_module_names rows ps)
process_itself rows p [] a = absurd a
process_itself rows p (q ∷ ps) (inl e) = inl (ap (λ (r : Process). itself false r.name.name r.name.place) e)
process_itself rows p (q ∷ ps) (inr a) =
    inr (among_right (itself false p.name.name p.name.place) (own_module_names q (or_none (find q.archetype.name rows))) (process_module_names rows ps) (process_itself rows p ps a))

pub further_is : (s : Spec) (x : Name) → IsAmong x (further_written s) → IsFurther s x
further_is s x (inl e) = is_proc_set e
further_is s x (inr (inl e)) = is_terminating e
further_is s x (inr (inr a)) =
    let m = from_map (λ (t : ModuleName). t.written) x (written_by s) a in
    go m.0 m.2 (of_some (rows_of s) m.0 s.processes m.1)
  where
    go : (t : ModuleName) → x ≡ t.written → OfSome (rows_of s) t s.processes → IsFurther s x
    go t e (inl r) = is_process r.0 r.1 (e ∙ r.2)
    go t e (inr r) = is_written r.0 r.1 r.2 r.3 (e ∙ r.4)

pub taken_is : (s : Spec) (x : Name) → IsAmong x (names_written s) → IsTaken s x
taken_is s x a = go (among_append x (variables_of s) (further_written s) a)
  where
    go : IsAmong x (variables_of s) ⊎ IsAmong x (further_written s) → IsTaken s x
    go (inl b) = inl (variable_is s x b)
    go (inr b) = inr (further_is s x b)

-- ---- written by nothing else

module _ (s : Spec) (h : name_clashes s ≡ []) (fit : AllByRecursion (ArgumentsFit s.archetypes) s.processes) where
  abbrev pub Others : Name → ℕ
  Others x = writes x (shared_module_names s.constants) + writes x (shared_module_names (definition_names (all_definitions s)))

  others_further : (x : Name) → IsFurther s x → Others x ≡ 0
  others_further x (is_proc_set e) =
      let c = counted s h x in
      let k = writes_some x (itself false proc_set 0) (fixed_module_names fixed_names) (inr (inl refl)) (ap (same_name x) (sym e) ∙ same_name-self x) in
      omega (arith, c, k)
  others_further x (is_terminating e) =
      let c = counted s h x in
      let k = writes_some x (itself false terminating 0) (fixed_module_names fixed_names) (inr (inr (inr (inr (inr (inl refl)))))) (ap (same_name x) (sym e) ∙ same_name-self x) in
      omega (arith, c, k)
  others_further x (is_process p a e) =
      let c = counted s h x in
      let k = writes_some x (itself false p.name.name p.name.place) (written_by s) (process_itself (rows_of s) p s.processes a) (ap (same_name x) (sym e) ∙ same_name-self x) in
      omega (arith, c, k)
  others_further x (is_written p y a b e) =
      let c = counted s h x in
      let k = writes_some x (own_module_name p y) (written_by s) (process_among (rows_of s) p y s.processes a b) (ap (same_name x) (sym e) ∙ same_name-self x) in
      omega (arith, c, k)

  pub others_taken : (x : Name) → IsTaken s x → Others x ≡ 0
  others_taken x (inl v) = others_none s h fit x v
  others_taken x (inr v) = others_further x v

  -- none is `self`
  further_not_self : (x : Name) → IsFurther s x → x ≡ self_name → ⊥
  further_not_self x (is_proc_set e) f = let q : has_s proc_set ≡ has_s self_name = ap has_s (sym e ∙ f) in cc
    where
      has_s : Name → Bool
      has_s [] = false
      has_s (b ∷ bs) = b == 115
  further_not_self x (is_terminating e) f = let q : has_s terminating ≡ has_s self_name = ap has_s (sym e ∙ f) in cc
    where
      has_s : Name → Bool
      has_s [] = false
      has_s (b ∷ bs) = b == 115
  further_not_self x (is_process p a e) f =
      let c = counted s h x in
      let k = writes_some x (itself false p.name.name p.name.place) (written_by s) (process_itself (rows_of s) p s.processes a) (ap (same_name x) (sym e) ∙ same_name-self x) in
      let m = writes_some x (itself false self_name 0) (fixed_module_names fixed_names) (inr (inr (inr (inr (inr (inr (inr (inl refl)))))))) (ap (same_name x) (sym f) ∙ same_name-self x) in
      omega (arith, c, k, m)
  further_not_self x (is_written p y a b e) f =
      let r : has_mark x ≡ false = ap has_mark f in
      let t : has_mark x ≡ true = ap has_mark e ∙ written_marked p.name.name y in
      let z : true ≡ false = sym t ∙ r in cc

  pub taken_not_self : (x : Name) → IsTaken s x → x ≡ self_name → ⊥
  taken_not_self x (inl v) f = not_self s h fit x v f
  taken_not_self x (inr v) f = further_not_self x v f

  -- what an expression binds is none
  bound_not_further : (u : Use) → IsAmong u (all_uses s) → u.form ≡ forms.Bound → IsFurther s u.name → ⊥
  bound_not_further u a f (is_proc_set e) = bound_not_fixed s h u a f proc_set (inr (inl refl)) (sym e)
  bound_not_further u a f (is_terminating e) = bound_not_fixed s h u a f terminating (inr (inr (inr (inr (inr (inl refl)))))) (sym e)
  bound_not_further u a f (is_process p b e) =
      bound_apart s h u a f (itself false p.name.name p.name.place) (among_right (itself false p.name.name p.name.place) (shared_module_names (shared_names s)) (written_by s) (process_itself (rows_of s) p s.processes b)) refl (sym e)
  bound_not_further u a f (is_written p y b c e) =
      bound_apart s h u a f (own_module_name p y) (among_right (own_module_name p y) (shared_module_names (shared_names s)) (written_by s) (process_among (rows_of s) p y s.processes b c)) refl (sym e)

  pub bound_not_taken : (u : Use) → IsAmong u (all_uses s) → u.form ≡ forms.Bound → IsTaken s u.name → ⊥
  bound_not_taken u a f (inl v) = bound_no_variable s h fit u a f v
  bound_not_taken u a f (inr v) = bound_not_further u a f v

-- ---- and what is one of these is listed
pub further_among : (s : Spec) (x : Name) → IsFurther s x → IsAmong x (further_written s)
further_among s x (is_proc_set e) = inl e
further_among s x (is_terminating e) = inr (inl e)
further_among s x (is_process p a e) =
    let t = itself false p.name.name p.name.place in
    inr (inr (subst (λ z. IsAmong z (map (λ (u : ModuleName). u.written) (written_by s))) (sym e) (among_map (λ (u : ModuleName). u.written) t (written_by s) (process_itself (rows_of s) p s.processes a))))
further_among s x (is_written p y a b e) =
    inr (inr (subst (λ z. IsAmong z (map (λ (u : ModuleName). u.written) (written_by s))) (sym e) (among_map (λ (u : ModuleName). u.written) (own_module_name p y) (written_by s) (process_among (rows_of s) p y s.processes a b))))
