-- Each process of a module has its label actions, under the names that it writes its labels as.
use Rattle.std.proofs.Common.{◌≡◌, false, if◌then◌else◌, List, [], ◌∷◌, map, Some, refl, ap, sym, ◌∙◌, subst}
use Rattle.std.specs.List.{AllByRecursion}
use Rattle.pgo_base.specs.Lookup.{Name, same_name}
use Rattle.pgo_base.specs.Tree.{Tree}
use Rattle.pgo_model.specs.Options.{on}
use Rattle.pgo_model.specs.Written.{done, written}
use Rattle.pgo_syntax.specs.Statement.{labeled}
use Rattle.pgo_syntax.specs.declared.archetype.Archetype.{Archetype}
use Rattle.pgo_syntax.specs.declared.process.Process.{Process}
use Rattle.pgo_syntax.specs.declared.spec.Spec.{Spec}
use Rattle.pgo_bound.specs.Runs.{archetype_named}
use Rattle.pgo_bound.specs.Sound.{labels_among}
use Rattle.pgo_bound.specs.State.{variables_of}
use Rattle.pgo_sections.specs.Code.{Code}
use Rattle.pgo_sections.specs.Expand.{expansion}
use Rattle.pgo_sections.specs.Expansion.{Expansion}
use Rattle.pgo_meaning.specs.Expansions.{expansions_of, process_bindings, process_expansions}
use Rattle.pgo_meaning.specs.LabelSections.{AreUnlabelled}
use Rattle.pgo_meaning.specs.Parameters.{places_of}
use Rattle.pgo_meaning.specs.Sections.{sections_of}
use Rattle.pgo_meaning.specs.Statements.{label_of}
use Rattle.pgo_meaning.proofs.LabelSections.{sections_are}
use Rattle.pgo_module_spells.specs.Parts.{HasActions, HasProcesses}
use Rattle.pgo_translate.proofs.ByProcess.{module_is, written_process, label_actions}
use Rattle.pgo_translate.specs.ModuleOf.{module_of}

-- the labels of an archetype: there is one, and none is `Done`
pub record HasLabels (s : Spec) (p : Process) : Type 0 where
  pub archetype : Archetype
  pub named : archetype_named p.archetype.name s.archetypes ≡ Some archetype
  pub some : labels_among (labeled archetype.body) ≡ [] → ⊥
  pub dones : AllByRecursion (λ x. same_name x done ≡ false) (labels_among (labeled archetype.body))

action_names : (s : Spec) (ls : List (Name × Expansion)) → map (λ (a : Name × Tree). a.0) (label_actions s ls) ≡ map (λ (l : Name × Expansion). l.0) ls
action_names s [] = refl
action_names s (l ∷ ls) = ap (λ xs. l.0 ∷ xs) (action_names s ls)

expanded_names : (f : Code → Expansion) (cs : List (Name × Code)) → map (λ (l : Name × Expansion). l.0) (map (λ (c : Name × Code). (c.0, f c.1)) cs) ≡ map (λ (c : Name × Code). c.0) cs
expanded_names f [] = refl
expanded_names f (c ∷ cs) = ap (λ xs. c.0 ∷ xs) (expanded_names f cs)

-- a property of names
by_names : (P : Name → Type 0) (as' : List (Name × Tree)) (xs : List Name) → map (λ a. a.0) as' ≡ xs → AllByRecursion P xs → AllByRecursion (λ a. P a.0) as'
by_names P as' xs e h = go as' (subst (AllByRecursion P) (sym e) h)
  where
    go : (bs : List (Name × Tree)) → AllByRecursion P (map (λ a. a.0) bs) → AllByRecursion (λ a. P a.0) bs
    go [] k = tt
    go (b ∷ bs) k = (k.0, go bs k.1)

written_labels : (p : Name) (xs : List Name) → AllByRecursion (λ x. same_name x done ≡ false) xs → AllByRecursion (λ a. (l : Name) × (a ≡ written p l)) (map (label_of p) xs)
written_labels p [] h = tt
written_labels p (x ∷ xs) h = ((x, ap (λ b. if b then done else written p x) h.0), written_labels p xs h.1)

no_names : (as' : List (Name × Tree)) (xs : List Name) (f : Name → Name) → map (λ a. a.0) as' ≡ map f xs → as' ≡ [] → xs ≡ []
no_names as' [] f e h = refl
no_names as' (x ∷ xs) f e h = absurd (let z : [] ≡ map f (x ∷ xs) = sym (ap (map (λ (a : Name × Tree). a.0)) h) ∙ e in cc)

module _ (s : Spec) (u : AreUnlabelled s.macros) where
  names_are : (p : Process) (h : HasLabels s p) → map (λ a. a.0) (label_actions s (process_expansions s p)) ≡ map (label_of p.name.name) (labels_among (labeled h.archetype.body))
  names_are p h =
      action_names s (process_expansions s p)
      ∙ ap (λ o. map (λ (l : Name × Expansion). l.0) (on [] o (λ a. expansions_of (variables_of s) s.macros p.name.name a (process_bindings s p a)))) h.named
      ∙ expanded_names (expansion (variables_of s) (places_of p.name.name h.archetype (process_bindings s p h.archetype))) (sections_of s.macros p.name.name h.archetype (process_bindings s p h.archetype))
      ∙ sections_are s.macros p.name.name h.archetype (process_bindings s p h.archetype) u

  has_actions : (p : Process) → HasLabels s p → HasActions (written_process s p)
  has_actions p h = record {
    some = λ e. h.some (no_names (label_actions s (process_expansions s p)) (labels_among (labeled h.archetype.body)) (label_of p.name.name) (names_are p h) e);
    named =
        by_names (λ x. (l : Name) × (x ≡ written p.name.name l)) (label_actions s (process_expansions s p)) (map (label_of p.name.name) (labels_among (labeled h.archetype.body))) (names_are p h) (written_labels p.name.name (labels_among (labeled h.archetype.body)) h.dones);
  }

  each_has : (ps : List Process) → AllByRecursion (HasLabels s) ps → AllByRecursion HasActions (map (written_process s) ps)
  each_has [] h = tt
  each_has (p ∷ ps) h = (has_actions p h.0, each_has ps h.1)

  some_process : (ps : List Process) → (ps ≡ [] → ⊥) → map (written_process s) ps ≡ [] → ⊥
  some_process [] n e = n refl
  some_process (p ∷ ps) n e = cc

  pub has_processes : (s.processes ≡ [] → ⊥) → AllByRecursion (HasLabels s) s.processes → HasProcesses (module_of s)
  has_processes n h = subst HasProcesses (module_is s) (record { some = some_process s.processes n; each = each_has s.processes h })
