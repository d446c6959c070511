-- What entries that are steps of sections print.
use Rattle.std.proofs.Common.{◌≡◌, ◌≤◌, ℕ, suc, Bool, true, false, if◌then◌else◌, nat_le, List, [], ◌∷◌, map, length, Some, None, refl, ap, sym, ◌∙◌, subst, arith}
use Rattle.std.proofs.lemmas.Bool.{leb-true}
use Rattle.pgo_base.specs.Data.{Data}
use Rattle.pgo_base.specs.Lookup.{Name, Vars, find, same_name}
use Rattle.pgo_model.specs.Accounts.{EntriesMade, EntryMade}
use Rattle.pgo_model.specs.Choice.{Seeded, words_of}
use Rattle.pgo_model.specs.Core.{Settings, rules_of}
use Rattle.pgo_model.specs.Log.{Effect}
use Rattle.pgo_model.specs.Machine.{Entry, Finished, Rules, nth, state_at}
use Rattle.pgo_model.specs.Outcome.{Next}
use Rattle.pgo_model.specs.System.{Words}
use Rattle.pgo_syntax.specs.declared.bound.Bound.{Bound}
use Rattle.pgo_syntax.specs.declared.bound.Instance.{Instance}
use Rattle.pgo_syntax.specs.declared.spec.Spec.{Spec}
use Rattle.pgo_bound.specs.BoundOf.{bound_of}
use Rattle.pgo_bound.specs.State.{IsState, variables_of}
use Rattle.pgo_sections.specs.Expand.{expansion}
use Rattle.pgo_sections.specs.Expansion.{Expansion}
use Rattle.pgo_sections.specs.Nodes.{nodes}
use Rattle.pgo_meaning.specs.Attempt.{next_of_try}
use Rattle.pgo_meaning.specs.Expansions.{trees_of}
use Rattle.pgo_meaning.specs.Parameters.{places_of}
use Rattle.pgo_meaning.specs.Sect.{Sect, context_of}
use Rattle.pgo_meaning.specs.System.{system_of}
use Rattle.pgo_meaning.specs.TreesAgree.{sections_at}
use Rattle.pgo_meaning.proofs.SystemStates.{states_same}
use Rattle.pgo_systems.specs.Premises.{IsGoodState, KeepsStates}
use Rattle.pgo_systems.specs.StatementLiterals.{InstanceWithin}
use Rattle.pgo_systems.proofs.Starts.{definitions_fit}
use Rattle.pgo_systems.proofs.StatementCode.{sections_fit}
use Rattle.pgo_systems.proofs.States.{from_label}
use Rattle.pgo_expand.specs.Limits.{expand_refusal, most_height, most_nodes, nodes_in}
use Rattle.pgo_expand.specs.Module.{module_height}
use Rattle.pgo_expand.specs.declared.errors.ExpandStop.TheVariants as errors
use Rattle.pgo_agrees.specs.Accepted.{IsAccepted}
use Rattle.pgo_agrees.proofs.Premises.{own_labels}
use Rattle.pgo_accounts.proofs.InstanceLiterals.{text_fits}
use Rattle.pgo_accounts.proofs.Steps.{Leads, leads_from}
use Rattle.pgo_run_values.specs.Spellable.{AllLiteralsWritten, AllSpellable, spellable}
use Rattle.pgo_prints.specs.Prints.{EachSpellable}
use Rattle.pgo_prints.proofs.PrintCounts.{section_prints_few}
use Rattle.pgo_prints.proofs.PrintValues.{sect_prints}

-- ---- the limit on nodes

-- a tree that is found has no more nodes than all
one_of : (l : Name) (x : Expansion) (ts : List (Name × Expansion)) → find l ts ≡ Some x → nodes x ≤ nodes_in ts
one_of l x [] h = absurd (cc)
one_of l x (t ∷ ts) h = go (λ found. one_of l x ts found) (same_name l t.0) h
  where
    go : (find l ts ≡ Some x → nodes x ≤ nodes_in ts) → (b : Bool) → (if b then Some t.1 else find l ts) ≡ Some x → nodes x ≤ nodes_in (t ∷ ts)
    go below true e = let is : t.1 ≡ x = cc in let same = ap nodes is in omega (arith, same)
    go below false e = let rest = below e in omega (arith, rest)

few_nodes : (s : Spec) → expand_refusal s ≡ None → nodes_in (trees_of s) ≤ most_nodes
few_nodes s h = leb-true (nodes_in (trees_of s)) most_nodes (passed (nat_le (nodes_in (trees_of s)) most_nodes) (nat_le (module_height s) most_height) h)
  where
    passed : (a b : Bool) → (if a then (if b then None else Some (errors.Deep 513)) else Some (errors.Wide 1048577)) ≡ None → a ≡ true
    passed true b e = refl
    passed false b e = absurd (cc)

found_each : {A B : Type 0} (f : A → B) (l : Name) (cs : List (Name × A)) (c : A) → find l cs ≡ Some c → find l (map (λ q. (q.0, f q.1)) cs) ≡ Some (f c)
found_each f l [] c e = absurd (cc)
found_each f l (q ∷ cs) c e = go (λ e. found_each f l cs c e) (same_name l q.0) e
  where
    go : (find l cs ≡ Some c → find l (map (λ q. (q.0, f q.1)) cs) ≡ Some (f c)) → (b : Bool) → (if b then Some q.1 else find l cs) ≡ Some c → (if b then Some (f q.1) else find l (map (λ q. (q.0, f q.1)) cs)) ≡ Some (f c)
    go below true e = let is : q.1 ≡ c = cc in ap (λ z. Some (f z)) is
    go below false e = below e

-- ---- a section

module _ (s : Spec) (consts : List (Name × Data)) (accepted : IsAccepted s consts) (limits : expand_refusal s ≡ None) where
  sect_prints_few : (k : ℕ) (i : Instance) (u : Vars) (d : Words) (t : Vars) (prints : List Data) → nth (bound_of s consts).instances k ≡ Some i → (Sect (bound_of s consts) k u d).end ≡ Next t prints → length prints ≤ most_nodes
  sect_prints_few k i u d t prints at_k e =
      let b = bound_of s consts in
      let f = from_label b k i u d t prints at_k e in
      let x = expansion (variables_of b.spec) (places_of i.process i.archetype i.bindings) f.code in
      let here = found_each (expansion (variables_of b.spec) (places_of i.process i.archetype i.bindings)) f.label (sections_at b i) f.code f.there in
      let one = one_of f.label x (trees_of s) (own_labels s consts accepted k i at_k f.label f.code f.there ∙ here) in
      let few = section_prints_few (context_of b i u) f.code d t prints (variables_of b.spec) (places_of i.process i.archetype i.bindings) f.ends in
      let all = few_nodes s limits in
      omega (arith, one, few, all)

-- ---- entries

module _ (s : Spec) (consts : List (Name × Data)) (settings : Settings) (f : Finished Effect) where
  abbrev b : Bound
  b = bound_of s consts

  abbrev R : Rules Vars Effect
  R = rules_of (system_of b) settings

  abbrev at : ℕ → Vars
  at n = state_at R b.start f.entries n

  module _ (made : EntriesMade R f) (p : ℕ) (e : Entry Effect) (h : nth f.entries p ≡ Some e) where
    by : EntryMade R f p e
    by = made p e h

    words : (v : Words) × ((Sect b e.instance (at p) v).end ≡ Next (at (suc p)) by.prints)
    words = next_of_try b e.instance (at p) (words_of (Seeded settings.seed e.instance e.attempt)) (at (suc p)) by.prints by.outcome

    led : Leads b e.instance (at p) (at (suc p)) words.0 by.prints
    led = leads_from b e.instance (at p) (at (suc p)) words.0 by.prints words.1

    -- the entry records what its section printed
    recorded : e.change.prints ≡ by.prints
    recorded = ap (λ (c : Effect). c.prints) by.change

    pub prints_few : IsAccepted s consts → expand_refusal s ≡ None → length e.change.prints ≤ most_nodes
    prints_few accepted limits = subst (λ (ps : List Data). length ps ≤ most_nodes) (sym recorded) (sect_prints_few s consts accepted limits e.instance led.instance (at p) words.0 (at (suc p)) by.prints led.there words.1)

    pub prints_spellable : IsAccepted s consts → AllLiteralsWritten s → AllSpellable consts → KeepsStates b → IsGoodState b (at p) → AllSpellable (at p) → EachSpellable e.change.prints
    prints_spellable accepted literals spelled keeps good all =
        let i = led.instance in
        let fit : InstanceWithin spellable b i = record { definitions = definitions_fit spellable s consts spelled literals.start; sections = sections_fit spellable b i (text_fits spellable s consts literals e.instance i led.there) } in
        let is : IsState b (at p) = ((states_same b (at p) keeps.sound keeps.globals).0 good.state).state in
        subst EachSpellable (sym recorded) (sect_prints spellable b e.instance i (at p) words.0 (at (suc p)) by.prints led.there fit is all words.1)
