-- The sections of a bound specification do what the trees of its program say.
use Rattle.std.proofs.Common.{◌≡◌, ℕ, suc, Bool, true, false, ◌||◌, List, [], ◌∷◌, map, Option, Some, None, ◌⊎◌, inl, inr, refl, sym, ap, ◌∙◌, subst, arith, option_and_then}
use Rattle.pgo_base.specs.Data.{Data}
use Rattle.pgo_base.specs.Lookup.{Name, Vars, find}
use Rattle.pgo_model.specs.Core as core
use Rattle.pgo_model.specs.Core.{numbers_of, numbered}
use Rattle.pgo_model.specs.Machine.{nth}
use Rattle.pgo_model.specs.Names.{same_name-self, is_among}
use Rattle.pgo_model.specs.Options.{on}
use Rattle.pgo_model.specs.Outcome.{Kind, NoValue, most_leaves, Next, Stuck, Section}
use Rattle.pgo_model.specs.System.{System, Words, Touched}
use Rattle.pgo_model.specs.SystemState.{IsSystemState}
use Rattle.pgo_model.specs.Variables.{place_of}
use Rattle.pgo_model.specs.Written.{pc, done}
use Rattle.pgo_tries.specs.Attempts.{is_blocked}
use Rattle.pgo_tries.specs.Sections.{along}
use Rattle.pgo_syntax.specs.declared.bound.Bound.{Bound}
use Rattle.pgo_syntax.specs.declared.bound.Instance.{Instance}
use Rattle.pgo_bound.specs.Among.{nth_map}
use Rattle.pgo_bound.specs.Declares.{value_in}
use Rattle.pgo_bound.specs.State.{id_of, kind_in}
use Rattle.pgo_meaning.specs.Parameters.{places_of}
use Rattle.pgo_meaning.specs.Attempt.{SectLeaf, SectTry, code_leaf, no_points, try_first}
use Rattle.pgo_meaning.specs.NumberedTries.{NumberedLeaf, numbered_leaf, numbered_try}
use Rattle.pgo_meaning.specs.Sect.{Sect, code_at, context_of, is_by_element, nothing}
use Rattle.pgo_meaning.specs.System.{globals_in, member_of, system_of}
use Rattle.pgo_meaning.specs.TreesAgree.{sections_at}
use Rattle.pgo_meaning.proofs.Ends.{end_at}
use Rattle.pgo_meaning.proofs.Traces.{among_is}
use Rattle.pgo_sections.specs.Code.{Place, Whole, Own, variable_of, Code}
use Rattle.pgo_sections.specs.Domains.{HasIndex}
use Rattle.pgo_sections.specs.Macros.{exec}
use Rattle.pgo_sections.specs.Section.{section}
use Rattle.pgo_sections.specs.SectionRun.{begun}
use Rattle.pgo_workers.specs.Tried.{LeafTree, Leads, LeafIs, TryIs, and_then, on_end, trying, attempting, attempt_is}
use Rattle.pgo_workers.specs.Walk as walks
use Rattle.pgo_workers.specs.Walk.{Stop, Goes, Sticks, settled, visits, ending, final}
use Rattle.pgo_workers.specs.Worlds as worlds
use Rattle.pgo_workers.specs.Worlds.{Layout, layout_of, own_at, own_in, names_at}
use Rattle.pgo_accesses.specs.Accesses.{accesses_of, no_value}
use Rattle.pgo_accesses.specs.Programs.{attempt_of, leaf_with, tree_with, is_done}
use Rattle.pgo_accesses.specs.Runnable.{Runnable}
use Rattle.pgo_accesses.proofs.Bindings.{IsPlaceOf, IsBoundHere, uses_at, uses_both, own_among}
use Rattle.pgo_accesses.proofs.Follows.{PlaceHere, MappedHere, UsesHere}
use Rattle.pgo_accesses.proofs.GoodStates as good_states
use Rattle.pgo_accesses.proofs.GoodStates.{as_bound, start, values}
use Rattle.pgo_accesses.proofs.Related.{attempt, IsWhole, IsElements}
use Rattle.pgo_accesses.proofs.NoYields.{section_without}
use Rattle.pgo_accesses.proofs.SectionForms.{section_assigns, section_jumps}
use Rattle.pgo_accesses.proofs.SectionTrees.{Agrees, Left, section_agrees}

module _ (b : Bound) (R : Runnable b) (s : Vars) (good : IsSystemState (system_of b) s) (d : Words) where
  abbrev y : System
  y = system_of b

  abbrev L : Layout
  L = layout_of (system_of b)

  module _ (k : ℕ) (i : Instance) (at_k : nth b.instances k ≡ Some i) where
    abbrev pub own_start : walks.Own
    own_start = good_states.at_start b R k i at_k s good d

    -- the tree and the section, of what is at `pc`
    pub own_is : own_in L s k ≡ own_start
    own_is = ap (λ o. on [] o (λ id. own_at k id (names_at L (Some id)) s)) (good_states.at_id b R k i at_k s good d)

    pub place_is : find pc own_start ≡ value_in s pc (id_of i)
    place_is =
        let here : is_among pc (pc ∷ good_states.own_list b R k i at_k s good d) ≡ true = ap (λ t. t || is_among pc (good_states.own_list b R k i at_k s good d)) (same_name-self pc) in
        good_states.find_own k (id_of i) (pc ∷ good_states.own_list b R k i at_k s good d) s pc here ∙ sym (good_states.part_there b R k i at_k s good d pc here)

    abbrev pub code_here : Option Code
    code_here = code_at b i (value_in s pc (id_of i))

    abbrev pub tree_of_code : Code → LeafTree
    tree_of_code c = accesses_of (attempt (context_of b i s) y.resources own_start d) c

    tree_is : leaf_with b d k (own_in L s k) ≡ on no_value code_here tree_of_code
    tree_is =
        ap (λ o. on no_value o (λ i. on no_value (code_at b i (find pc (own_in L s k))) (λ c. accesses_of (attempt_of b i (own_in L s k) d) c))) at_k
        ∙ ap (λ (o : walks.Own). on no_value (code_at b i (find pc o)) (λ c. accesses_of (attempt_of b i o d) c)) own_is
        ∙ ap (λ o. on no_value (code_at b i o) tree_of_code) place_is

    leaf_is : SectLeaf b k s d ≡ on no_points code_here (λ c. code_leaf b i s c d)
    leaf_is = ap (λ o. on no_points o (λ i. on no_points (code_at b i (value_in s pc (id_of i))) (λ c. code_leaf b i s c d))) at_k

    uses : (l : Name) (c : Code) → find l (sections_at b i) ≡ Some c → UsesHere (context_of b i s) y.resources own_start d (tree_of_code c) (values b R k i at_k s good d) c
    uses l c h =
        uses_both (IsPlaceOf b i) (λ p. is_by_element (kind_in b (variable_of p)) ≡ false) (PlaceHere (context_of b i s) y.resources own_start d (tree_of_code c) (values b R k i at_k s good d))
        (IsBoundHere b i) (HasIndex (λ g. is_by_element (kind_in b g))) (MappedHere (context_of b i s) y.resources own_start d (tree_of_code c) (values b R k i at_k s good d))
        place mapped c (uses_at b i l c h) ((R.keeps k i at_k).elements l c h)
      where
        place : (p : Place) → IsPlaceOf b i p → is_by_element (kind_in b (variable_of p)) ≡ false → PlaceHere (context_of b i s) y.resources own_start d (tree_of_code c) (values b R k i at_k s good d) p
        place (Whole g) h by = (as_bound b R k i at_k s good d).whole h.0 g h.1
        place (Own x) h by = (((as_bound b R k i at_k s good d).own h.0 x h.1).0, own_among (places_of i.process i.archetype i.bindings) h.0 x h.1)

        mapped : (g : Name) (j : Option Name) → IsBoundHere b i g j → HasIndex (λ g. is_by_element (kind_in b g)) g j → MappedHere (context_of b i s) y.resources own_start d (tree_of_code c) (values b R k i at_k s good d) g j
        mapped g None h by = good_states.whole_bound b R k i at_k s good d g (among_is g (globals_in i.bindings) h) by
        mapped g (Some j) h by = go (is_by_element (kind_in b g)) refl
          where
            go : (t : Bool) → is_by_element (kind_in b g) ≡ t → IsWhole (context_of b i s) y.resources own_start d g ⊎ IsElements (context_of b i s) y.resources own_start d g
            go true e = inr (good_states.element_bound b R k i at_k s good d g (among_is g (globals_in i.bindings) h) e)
            go false e = inl (good_states.whole_bound b R k i at_k s good d g (among_is g (globals_in i.bindings) h) e)

    pub agrees : (c : Code) → code_here ≡ Some c → Agrees (context_of b i s) y.resources own_start d (tree_of_code c) (values b R k i at_k s good d) (exec (context_of b i s) c [] d (begun [] []))
    agrees c e =
        let l = end_at b k i s d s [] (value_in s pc (id_of i)) c e in
        section_agrees (context_of b i s) y.resources own_start d (as_bound b R k i at_k s good d) (start b R k i at_k s good d) (values b R k i at_k s good d) (good_states.begun b R k i at_k s good d) c
        (uses l.0 c l.1) (section_assigns b.spec.macros i.process i.archetype i.bindings l.0 c l.1) (section_jumps b.spec.macros i.process i.archetype i.bindings l.0 c l.1) (section_without b.spec.macros i.process i.archetype i.bindings l.0 c (R.yields k i at_k) l.1)

    -- where it has a section, its leaf is the leaf's tree
    module _ (c : Code) (e : code_here ≡ Some c) where
      tree_here : leaf_with b d k (own_in L s k) ≡ tree_of_code c
      tree_here = tree_is ∙ ap (λ o. on no_value o tree_of_code) e

      leaf_here : SectLeaf b k s d ≡ code_leaf b i s c d
      leaf_here = leaf_is ∙ ap (λ o. on no_points o (λ c. code_leaf b i s c d)) e

      pub leaf_same : LeafIs (NumberedLeaf b k s d) (leaf_with b d k (own_in L s k)) (worlds.value_in L s)
      leaf_same =
          let a = agrees c e in
          subst (λ w. LeafIs (NumberedLeaf b k s d) w (worlds.value_in L s)) (sym tree_here)
          (subst (λ x. LeafIs (numbered_leaf y x) (tree_of_code c) (worlds.value_in L s)) (sym leaf_here)
          (record { trace = a.trace; blocks = a.blocks; sticks = a.sticks; goes = λ o ps h. ap is_blocked (a.next o ps h).1 }))

      -- the state to which it leads
      pub leaf_next : (o : walks.Own) (ps : List Data) → ending (leaf_with b d k (own_in L s k)) (worlds.value_in L s) ≡ Leads (Goes o ps)
          → (t : Vars) × ((section (context_of b i s) c d).end ≡ Next t ps) × ((SectLeaf b k s d).section.end ≡ Next t ps) × Left (context_of b i s) y.resources own_start d t o (final (leaf_with b d k (own_in L s k)) (worlds.value_in L s))
      leaf_next o ps h =
          let n = (agrees c e).next o ps (sym (ap (λ w. ending w (worlds.value_in L s)) tree_here) ∙ h) in
          (n.0, n.1, ap (λ x. x.section.end) leaf_here ∙ n.1, subst (λ w. Left (context_of b i s) y.resources own_start d n.0 o (final w (worlds.value_in L s))) (sym tree_here) n.2)

  -- it is at Done where its own components are
  pub done_is : (k : ℕ) → core.is_at_done y k s ≡ is_done (own_in L s k)
  done_is k = go (nth b.instances k) refl
    where
      members_none : (is : List Instance) (k : ℕ) → nth is k ≡ None → nth (map member_of is) k ≡ None
      members_none [] k e = refl
      members_none (x ∷ is) Rattle.std.specs.Prelude.zero e = absurd (grind (arith, e))
      members_none (x ∷ is) (suc k) e = members_none is k e

      ids_none : (ms : List Rattle.pgo_model.specs.System.Member) (k : ℕ) → nth ms k ≡ None → nth (map (λ m. m.id) ms) k ≡ None
      ids_none [] k e = refl
      ids_none (x ∷ ms) Rattle.std.specs.Prelude.zero e = absurd (grind (arith, e))
      ids_none (x ∷ ms) (suc k) e = ids_none ms k e

      same_place : (f : Option Data) (id : Data) → (elim f as (λ o. Option Data) [ None ↦ None | Some f ↦ Rattle.pgo_model.specs.Operators.apply f id ]) ≡ option_and_then (λ f. Rattle.pgo_model.specs.Operators.apply f id) f
      same_place None id = refl
      same_place (Some f) id = refl

      go : (o : Option Instance) → nth b.instances k ≡ o → core.is_at_done y k s ≡ is_done (own_in L s k)
      go None e =
          let m = members_none b.instances k e in
          ap (λ o. on false o (λ i. core.is_place done (place_of i.id s))) m
          ∙ sym (ap (λ o. is_done (on [] o (λ id. own_at k id (names_at L (Some id)) s))) (ids_none y.members k m))
      go (Some i) e =
          ap (λ o. on false o (λ i. core.is_place done (place_of i.id s))) (nth_map member_of k b.instances i e)
          ∙ ap (core.is_place done) (same_place (find pc s) (id_of i) ∙ sym (place_is k i e))
          ∙ sym (ap is_done (own_is k i e))

-- ---- attempts

no_leaf : (leaf : List ℕ → LeafTree) (d : Words) → leaf [] ≡ no_value → attempting leaf d most_leaves ≡ Stop (Sticks NoValue)
no_leaf leaf d e = ap (λ t. settled (and_then t (on_end d (λ q. trying leaf d 65535 q)))) e

module _ (b : Bound) (R : Runnable b) (s : Vars) (good : IsSystemState (system_of b) s) (d : Words) where
  abbrev f : ℕ → Data
  f = worlds.value_in (layout_of (system_of b)) s

  abbrev own_now : ℕ → walks.Own
  own_now k = own_in (layout_of (system_of b)) s k

  -- where an instance has a section, an attempt is its tree
  pub attempt_same : (k : ℕ) (i : Instance) (c : Code) → nth b.instances k ≡ Some i → code_at b i (value_in s pc (id_of i)) ≡ Some c
      → TryIs (NumberedLeaf b k s) (λ p. leaf_with b (along 0 p d) k (own_now k)) d f (numbered (system_of b) (SectTry b k s d)) (tree_with b d k (own_now k))
  attempt_same k i c at_k e =
      subst (λ x. TryIs (NumberedLeaf b k s) (λ p. leaf_with b (along 0 p d) k (own_now k)) d f x (tree_with b d k (own_now k))) (sym (numbered_try b k s d))
      (attempt_is (NumberedLeaf b k s) (λ p. leaf_with b (along 0 p d) k (own_now k)) d f (λ p. leaf_same b R s good (along 0 p d) k i at_k c e) most_leaves)

  -- where it has none it makes no access
  pub record NoSection (k : ℕ) : Type 0 where
    pub section_is : SectTry b k s d ≡ nothing
    pub tree_is : tree_with b d k (own_now k) ≡ Stop (Sticks NoValue)
    pub none : (i : Instance) (c : Code) → nth b.instances k ≡ Some i → code_at b i (value_in s pc (id_of i)) ≡ Some c → ⊥

  pub record HasSection (k : ℕ) : Type 0 where
    pub instance : Instance
    pub at : nth b.instances k ≡ Some instance
    pub code : Code
    pub at_code : code_at b instance (value_in s pc (id_of instance)) ≡ Some code

  pub section_at : (k : ℕ) → NoSection k ⊎ HasSection k
  section_at k = go (nth b.instances k) refl
    where
      none : (x : Section Touched Vars) → Sect b k s d ≡ x → x ≡ nothing → leaf_with b d k (own_now k) ≡ no_value
          → ((i : Instance) (c : Code) → nth b.instances k ≡ Some i → code_at b i (value_in s pc (id_of i)) ≡ Some c → ⊥) → NoSection k
      none x is e t not = record {
        section_is = try_first b k s d (ap (λ (x : Section Touched Vars). is_blocked x.end) (is ∙ e)) ∙ is ∙ e;
        tree_is = no_leaf (λ p. leaf_with b (along 0 p d) k (own_now k)) d t;
        none = not;
      }

      same : (i j : Instance) → Some i ≡ Some j → i ≡ j
      same i j e = cc

      coded : (i : Instance) → nth b.instances k ≡ Some i → (o : Option Code) → code_at b i (value_in s pc (id_of i)) ≡ o → NoSection k ⊎ HasSection k
      coded i at_k None e =
          inl (none (on nothing (code_at b i (value_in s pc (id_of i))) (λ c. section (context_of b i s) c d))
          (ap (λ o. on nothing o (λ i. on nothing (code_at b i (value_in s pc (id_of i))) (λ c. section (context_of b i s) c d))) at_k)
          (ap (λ o. on nothing o (λ c. section (context_of b i s) c d)) e)
          (tree_is b R s good d k i at_k ∙ ap (λ o. on no_value o (tree_of_code b R s good d k i at_k)) e)
          (λ j c at at_code. let z : None ≡ Some c = sym e ∙ ap (λ i. code_at b i (value_in s pc (id_of i))) (same i j (sym at_k ∙ at)) ∙ at_code in grind (arith, z)))
      coded i at_k (Some c) e = inr (record { instance = i; at = at_k; code = c; at_code = e })

      go : (o : Option Instance) → nth b.instances k ≡ o → NoSection k ⊎ HasSection k
      go None e =
          inl (none (Sect b k s d) refl
          (ap (λ o. on nothing o (λ i. on nothing (code_at b i (value_in s pc (id_of i))) (λ c. section (context_of b i s) c d))) e)
          (ap (λ o. on no_value o (λ i. on no_value (code_at b i (find pc (own_now k))) (λ c. accesses_of (attempt_of b i (own_now k) d) c))) e)
          (λ j c at at_code. let z : None ≡ Some j = sym e ∙ at in grind (arith, z)))
      go (Some i) e = coded i e (code_at b i (value_in s pc (id_of i))) refl

  -- what an instance accesses
  pub trace_is : (k : ℕ) → numbers_of (system_of b).resources (SectTry b k s d).trace ≡ visits (tree_with b d k (own_now k)) f
  trace_is k = go (section_at k)
    where
      go : NoSection k ⊎ HasSection k → numbers_of (system_of b).resources (SectTry b k s d).trace ≡ visits (tree_with b d k (own_now k)) f
      go (inl n) = ap (λ (x : Section Touched Vars). numbers_of (system_of b).resources x.trace) n.section_is ∙ sym (ap (λ w. visits w f) n.tree_is)
      go (inr h) = (attempt_same k h.instance h.code h.at h.at_code).trace

  -- where it has a section, it is stuck where its tree is
  pub stuck_is : (k : ℕ) (i : Instance) (c : Code) (kind : Kind) → nth b.instances k ≡ Some i → code_at b i (value_in s pc (id_of i)) ≡ Some c
      → ending (tree_with b d k (own_now k)) f ≡ Sticks kind → (SectTry b k s d).end ≡ Stuck kind
  stuck_is k i c kind at_k e h = (attempt_same k i c at_k e).sticks kind h

  -- and goes on where its tree does, as one of its leaves
  pub next_is : (k : ℕ) (i : Instance) (c : Code) (o : walks.Own) (ps : List Data) (at_k : nth b.instances k ≡ Some i) → code_at b i (value_in s pc (id_of i)) ≡ Some c
      → ending (tree_with b d k (own_now k)) f ≡ Goes o ps
      → (t : Vars) × ((SectTry b k s d).end ≡ Next t ps) × (v : Words) × ((section (context_of b i s) c v).end ≡ Next t ps)
      × Left (context_of b i s) (system_of b).resources (own_start b R s good v k i at_k) v t o (final (tree_with b d k (own_now k)) f)
  next_is k i c o ps at_k e h =
      let g = (attempt_same k i c at_k e).goes o ps h in
      let v = along 0 g.0 d in
      let n = leaf_next b R s good v k i at_k c e o ps g.1 in
      let same : final (leaf_with b v k (own_now k)) f ≡ final (tree_with b d k (own_now k)) f = λ j r. sym (g.3 r) j in
      (n.0, g.2 ∙ n.2, v, n.1, subst (λ h. Left (context_of b i s) (system_of b).resources (own_start b R s good v k i at_k) v n.0 o h) same n.3)

  -- an instance that goes on has a section
  pub has_section : (k : ℕ) (o : walks.Own) (ps : List Data) → ending (tree_with b d k (own_now k)) f ≡ Goes o ps → HasSection k
  has_section k o ps h = go (section_at k)
    where
      go : NoSection k ⊎ HasSection k → HasSection k
      go (inl n) = absurd (let z : Sticks NoValue ≡ Goes o ps = sym (ap (λ w. ending w f) n.tree_is) ∙ h in grind (arith, z))
      go (inr q) = q
