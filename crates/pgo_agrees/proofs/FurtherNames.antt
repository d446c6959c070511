-- The further definitions of a module by the specification: ProcSet, Terminating, each process and each of its labels.
use Rattle.std.proofs.Common.{◌≡◌, true, false, List, [], ◌∷◌, ◌++◌, map, Option, Some, None, refl, ap, sym, ◌∙◌, subst, inl, inr}
use Rattle.std.specs.Prelude.{◌⊎◌}
use Rattle.std.specs.List.{AllByRecursion}
use Rattle.pgo_base.specs.Lookup.{Name, same_name}
use Rattle.pgo_model.specs.Options.{on}
use Rattle.pgo_model.specs.ValueText.{is_identifier}
use Rattle.pgo_model.specs.Written.{done, proc_set, terminating, written}
use Rattle.pgo_syntax.specs.Statement.{labeled}
use Rattle.pgo_syntax.specs.declared.archetype.Archetype.{Archetype}
use Rattle.pgo_syntax.specs.declared.process.Process.{Process}
use Rattle.pgo_syntax.specs.declared.spec.Spec.{Spec}
use Rattle.pgo_uses.specs.AllUses.{parameter_names, variable_names, parameter_uses, local_uses, start}
use Rattle.pgo_uses.specs.Heads.{head_names, unit_names, named_by}
use Rattle.pgo_uses.specs.StatementUses.{uses_of_block}
use Rattle.pgo_uses.specs.declared.uses.Home.TheVariants as homes
use Rattle.pgo_labels.specs.ReservedDone.{reserved_done}
use Rattle.pgo_scope.specs.Clash.{or_none}
use Rattle.pgo_scope.specs.Underscores.{has_double, double_name}
use Rattle.pgo_scope.specs.declared.errors.ScopeError.TheVariants as errors
use Rattle.pgo_bound.specs.Among.{IsAmong, among_left, among_right, among_append, from_map, nth_among, none_flat_map, all_at}
use Rattle.pgo_bound.specs.Instances.{archetype_among}
use Rattle.pgo_bound.specs.Runs.{archetype_named}
use Rattle.pgo_bound.specs.Sound.{labels_among}
use Rattle.pgo_bound.specs.State.{variables_of}
use Rattle.pgo_accept.proofs.Heads.{nothing_if}
use Rattle.pgo_accept.proofs.Unlabelled.{macros_unlabelled}
use Rattle.pgo_accept.proofs.Variables.{found_own}
use Rattle.pgo_accept.proofs.Fitting.{ArgumentsFit}
use Rattle.pgo_sections.specs.Expand.{expansion}
use Rattle.pgo_sections.specs.WellFormed.{NotMade}
use Rattle.pgo_meaning.specs.Expansions.{expansions_of, process_bindings, process_expansions}
use Rattle.pgo_meaning.specs.LabelSections.{AreUnlabelled}
use Rattle.pgo_meaning.specs.Parameters.{places_of}
use Rattle.pgo_meaning.specs.Sections.{sections_of}
use Rattle.pgo_meaning.specs.Statements.{label_of}
use Rattle.pgo_meaning.proofs.LabelSections.{sections_are}
use Rattle.pgo_translate.specs.Premises.{process_names, further_names}
use Rattle.pgo_agrees.specs.Accepted.{IsOfText, ArchetypeOfText, LabelOfText}
use Rattle.pgo_agrees.proofs.Further.{IsFurther, is_proc_set, is_terminating, is_process, is_written}
use Rattle.pgo_agrees.proofs.Kept.{NoFindings, NoLabelFindings}
use Rattle.pgo_agrees.proofs.Labels.{label_own, label_among, label_written}
use Rattle.pgo_agrees.proofs.Meanings.{process_unit}
use Rattle.pgo_agrees.proofs.Names.{single, written_single, identifier_letter}
use Rattle.pgo_agrees.proofs.Unlabelled.{none_is_done}
use Rattle.pgo_agrees.proofs.Uses.{fine_use, of_archetype}

-- which name it is
pub data IsNameOf (s : Spec) (x : Name) : Type 0 where
  of_proc_set : x ≡ proc_set → IsNameOf s x
  of_terminating : x ≡ terminating → IsNameOf s x
  of_process : (p : Process) → IsAmong p s.processes → x ≡ p.name.name → IsNameOf s x
  of_label : (p : Process) → (a : Archetype) → (y : Name) → IsAmong p s.processes → archetype_named p.archetype.name s.archetypes ≡ Some a → IsAmong y (labels_among (labeled a.body)) → x ≡ written p.name.name y → IsNameOf s x

same_labels : (p : Name) (ns : List Name) → ((y : Name) → IsAmong y ns → same_name y done ≡ false) → map (label_of p) ns ≡ map (written p) ns
same_labels p [] f = refl
same_labels p (y ∷ ns) f =
    let first = label_written p y (f y (inl refl)) in
    let rest = same_labels p ns (λ z a. f z (inr a)) in
    (λ i. first i ∷ rest i)

first_parts : {A B : Type 0} (f : A → B) (cs : List (Name × A)) → map {A = Name × B} (λ c. c.0) (map {A = Name × A} (λ c. (c.0, f c.1)) cs) ≡ map {A = Name × A} (λ c. c.0) cs
first_parts f [] = refl
first_parts f (c ∷ cs) = ap (λ ns. c.0 ∷ ns) (first_parts f cs)

module _ (s : Spec) (k : NoFindings s) (labels : NoLabelFindings s) where
  unlabelled : AreUnlabelled s.macros
  unlabelled = macros_unlabelled s.macros labels.macros

  pub not_done : (a : Archetype) → IsAmong a s.archetypes → (y : Name) → IsAmong y (labels_among (labeled a.body)) → same_name y done ≡ false
  not_done a h y b =
      let n = nth_among y (labels_among (labeled a.body)) b in
      none_is_done a (none_flat_map reserved_done a s.archetypes labels.dones h) n.0 y n.1

  abbrev pub label_names : Process → Option Archetype → List Name
  label_names p o = on [] o (λ a. map (written p.name.name) (labels_among (labeled a.body)))

  -- the names of a process's trees are those of its labels
  pub tree_names : (p : Process) → map (λ l. l.0) (process_expansions s p) ≡ label_names p (archetype_named p.archetype.name s.archetypes)
  tree_names p = go (archetype_named p.archetype.name s.archetypes) refl
    where
      go : (o : Option Archetype) → archetype_named p.archetype.name s.archetypes ≡ o → map (λ l. l.0) (on [] o (λ a. expansions_of (variables_of s) s.macros p.name.name a (process_bindings s p a))) ≡ label_names p o
      go None e = refl
      go (Some a) e =
          let sections = sections_of s.macros p.name.name a (process_bindings s p a) in
          first_parts (expansion (variables_of s) (places_of p.name.name a (process_bindings s p a))) sections
          ∙ sections_are s.macros p.name.name a (process_bindings s p a) unlabelled
          ∙ same_labels p.name.name (labels_among (labeled a.body)) (not_done a (archetype_among p.archetype.name s.archetypes a e))

  label_case : (x : Name) (p : Process) → IsAmong p s.processes → (o : Option Archetype) → archetype_named p.archetype.name s.archetypes ≡ o → IsAmong x (label_names p o) → IsNameOf s x
  label_case x p h None e a = absurd a
  label_case x p h (Some r) e a =
      let m = from_map (written p.name.name) x (labels_among (labeled r.body)) a in of_label p r m.0 h e m.1 m.2

  process_case : (x : Name) (ps : List Process) → ((p : Process) → IsAmong p ps → IsAmong p s.processes) → IsAmong x (process_names s ps) → IsNameOf s x
  process_case x [] f a = absurd a
  process_case x (p ∷ ps) f a = go (among_append x (map (λ l. l.0) (process_expansions s p)) (p.name.name ∷ process_names s ps) a) (process_case x ps (λ q b. f q (inr b)))
    where
      go : IsAmong x (map (λ l. l.0) (process_expansions s p)) ⊎ IsAmong x (p.name.name ∷ process_names s ps) → (IsAmong x (process_names s ps) → IsNameOf s x) → IsNameOf s x
      go (inl b) more =
          label_case x p (f p (inl refl)) (archetype_named p.archetype.name s.archetypes) refl (subst (λ ns. IsAmong x ns) (tree_names p) b)
      go (inr (inl e)) more = of_process p (f p (inl refl)) e
      go (inr (inr b)) more = more b

  pub name_of : (x : Name) → IsAmong x (further_names s) → IsNameOf s x
  name_of x (inl e) = of_proc_set e
  name_of x (inr a) = go (among_append x (process_names s s.processes) (terminating ∷ []) a)
    where
      go : IsAmong x (process_names s s.processes) ⊎ IsAmong x (terminating ∷ []) → IsNameOf s x
      go (inl b) = process_case x s.processes (λ p c. c) b
      go (inr (inl e)) = of_terminating e
      go (inr (inr b)) = absurd b

  -- so the module writes it
  pub named_further : (x : Name) → IsNameOf s x → IsFurther s x
  named_further x (of_proc_set e) = is_proc_set e
  named_further x (of_terminating e) = is_terminating e
  named_further x (of_process p a e) = is_process p a e
  named_further x (of_label p a y b n c e) =
      let f = found_own p.archetype.name 0 s.archetypes a n in
      is_written p y b (subst (λ o. IsAmong y (or_none o)) (sym f.1) (label_own f.0 a y c)) e

  -- ---- no made name
  module _ (fit : AllByRecursion (ArgumentsFit s.archetypes) s.processes) (of_text : IsOfText s) where
    process_single : (p : Process) → IsAmong p s.processes → has_double p.name.name ≡ false
    process_single p a =
        let front = s.name ∷ s.extends in
        let units = s.algorithm ∷ unit_names s in
        nothing_if (has_double p.name.name) p.name.place (errors.DoubleUnderscore p.name.name) (none_flat_map double_name p.name (head_names s) k.double_heads (among_left p.name (front ++ units) (named_by s.processes) (among_right p.name front units (inr (process_unit s k fit of_text p a)))))

    label_single : (a : Archetype) → IsAmong a s.archetypes → (y : Name) → IsAmong y (labels_among (labeled a.body)) → has_double y ≡ false
    label_single a h y b =
        let j = of_archetype s a h in
        let at_start = start (homes.Body j.0) a.name.place in
        let ns = parameter_names a.params ++ variable_names a.locals in
        let ps = parameter_uses [] at_start a.params in
        let ls = local_uses j.0 (parameter_names a.params) at_start a.locals in
        let bs = uses_of_block ns at_start (labeled a.body) in
        let u = label_among (labeled a.body) y ns at_start b in
        ap has_double (sym u.3) ∙ (fine_use s k u.0 (j.2 u.0 (among_right u.0 (ps ++ ls) bs u.1))).double

    pub further_not_made : (x : Name) → IsNameOf s x → NotMade x
    further_not_made x (of_proc_set e) = single x (ap has_double e)
    further_not_made x (of_terminating e) = single x (ap has_double e)
    further_not_made x (of_process p a e) = single x (ap has_double e ∙ process_single p a)
    further_not_made x (of_label p a y b n c e) =
        let there = archetype_among p.archetype.name s.archetypes a n in
        let text = all_at ArchetypeOfText a s.archetypes of_text.archetypes there in
        let is : is_identifier y ≡ true = all_at LabelOfText y (labels_among (labeled a.body)) text.3 c in
        subst NotMade (sym e) (written_single p.name.name y (label_single a there y c) (identifier_letter y is))
