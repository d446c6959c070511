-- The sections of a bound specification on two states beside each other.
use Rattle.std.proofs.Common.{◌≡◌, ℕ, Bool, true, false, ◌||◌, List, [], ◌∷◌, ◌++◌, map, Option, Some, None, ◌⊎◌, inl, inr, refl, sym, ap, ◌∙◌, subst, arith}
use Rattle.std.specs.List.{flat_map}
use Rattle.pgo_base.specs.Data.{Data}
use Rattle.pgo_base.specs.Lookup.{Name, Vars, same_name, find}
use Rattle.pgo_model.specs.Machine.{nth}
use Rattle.pgo_model.specs.Names.{same_name-self, same_name-is, is_among}
use Rattle.pgo_model.specs.Options.{on}
use Rattle.pgo_model.specs.Outcome.{most_leaves}
use Rattle.pgo_model.specs.System.{Words, Touched}
use Rattle.pgo_model.specs.Variables.{HasOneDomain}
use Rattle.pgo_model.specs.Written.{pc, written}
use Rattle.pgo_syntax.specs.declared.bound.Bound.{Bound}
use Rattle.pgo_syntax.specs.declared.bound.Instance.{Instance}
use Rattle.pgo_syntax.specs.declared.process.Process.{Process}
use Rattle.pgo_bound.specs.declared.kinds.Kind.{Kind}
use Rattle.pgo_bound.specs.declared.kinds.Kind.TheVariants.{Unbound, AsWhole, ByElement}
use Rattle.pgo_bound.specs.Among.{IsAmong, among_left, among_map, among_flat_map, among_nth, nth_map, found_among}
use Rattle.pgo_bound.specs.Declares.{value_in}
use Rattle.pgo_bound.specs.Different.{different_apart}
use Rattle.pgo_bound.specs.State.{AreDifferent, IsState, id_of, identifiers, identifiers_of, kind_in, own_names, variables_of}
use Rattle.pgo_meaning.specs.Parameters.{own_variables, places_of}
use Rattle.pgo_meaning.specs.Attempt.{SectLeaf, SectTry, code_leaf, leaf_section, no_points}
use Rattle.pgo_meaning.specs.Sect.{Sect, code_at, context_of, is_by_element}
use Rattle.pgo_meaning.specs.System.{globals_in}
use Rattle.pgo_meaning.specs.TreesAgree.{sections_at}
use Rattle.pgo_meaning.proofs.Ends.{end_at}
use Rattle.pgo_meaning.proofs.Traces.{among_is}
use Rattle.pgo_sections.specs.ChoiceTrees.{in_order}
use Rattle.pgo_sections.specs.Code.{Place, Whole, Own, Code}
use Rattle.pgo_sections.specs.Context.{Context, part_at}
use Rattle.pgo_sections.specs.Domains.{Uses}
use Rattle.pgo_sections.specs.Macros.{exec}
use Rattle.pgo_sections.specs.SectionRun.{begun, Out}
use Rattle.pgo_sections.proofs.Closing as closing
use Rattle.pgo_tries.specs.Attempts.{Tried}
use Rattle.pgo_accesses.proofs.Bindings.{IsPlaceOf, IsBoundHere, own_among, places_whole, uses_at, uses_both}
use Rattle.pgo_accesses.proofs.NoYields.{section_without}
use Rattle.pgo_frame.specs.Agreement.{AgreeOn, AgreeFor}
use Rattle.pgo_frame.specs.WellBound.{WellBound, IsLocal}
use Rattle.pgo_frame.proofs.Beside.{PlaceHere, MappedHere, sim}
use Rattle.pgo_frame.proofs.Changed.{by_elements, changed_start}
use Rattle.pgo_frame.proofs.Ends.{Same, end_same}
use Rattle.pgo_frame.proofs.Parted.{both_true}
use Rattle.pgo_frame.proofs.Tries.{Alike, AlikeLeaf, tries_alike}

-- an own component is one of these
own_agrees : (s t : Vars) (id : Data) (xs : List Name) (x : Name) → AgreeOn s t (map (λ x. (x, Some id)) xs) → is_among x xs ≡ true → part_at x id s ≡ part_at x id t
own_agrees s t id [] x h m = absurd (grind (arith, m))
own_agrees s t id (y ∷ xs) x h m = go (same_name x y) refl m (λ k. own_agrees s t id xs x h.1 k)
  where
    go : (b : Bool) → same_name x y ≡ b → b || is_among x xs ≡ true → (is_among x xs ≡ true → part_at x id s ≡ part_at x id t) → part_at x id s ≡ part_at x id t
    go true e m ih = subst (λ z. part_at z id s ≡ part_at z id t) (sym (same_name-is x y e)) h.0
    go false e m ih = ih m

among_here : (x y : Name) (ys : List Name) → x ≡ y → is_among x (y ∷ ys) ≡ true
among_here x y ys e = ap (λ b. b || is_among x ys) (ap (same_name x) (sym e) ∙ same_name-self x)

among_later : (x y : Name) (ys : List Name) → is_among x ys ≡ true → is_among x (y ∷ ys) ≡ true
among_later x y ys h = go (same_name x y)
  where
    go : (b : Bool) → b || is_among x ys ≡ true
    go true = refl
    go false = h

module _ (b : Bound) (W : WellBound b) where
  abbrev globals : List Name
  globals = map (λ d. d.name.name) b.spec.globals

  -- a value parameter or a local is no global
  local_apart : (x : Name) → IsLocal b x → is_among x globals ≡ false
  local_apart x q = go (is_among x globals) refl
    where
      owns : Process → List Name
      owns p = map (written p.name.name) (own_names b.spec p)

      behind : IsAmong (written q.2.name.name q.3) (flat_map (λ p. map (written p.name.name) (own_names b.spec p)) b.spec.processes)
      behind =
          among_flat_map (λ p. map (written p.name.name) (own_names b.spec p)) q.2 (written q.2.name.name q.3) b.spec.processes (among_nth q.2 b.spec.processes q.0 q.4)
          (among_map (written q.2.name.name) q.3 (own_names b.spec q.2) (among_nth q.3 (own_names b.spec q.2) q.1 q.5))

      go : (c : Bool) → is_among x globals ≡ c → is_among x globals ≡ false
      go false e = e
      go true e =
          absurd (different_apart (globals ++ (pc ∷ [])) (flat_map (λ p. map (written p.name.name) (own_names b.spec p)) b.spec.processes) x (written q.2.name.name q.3) W.differ
          (among_left x globals (pc ∷ []) (among_is x globals e)) behind q.6)

  module _ (s t : Vars) (good_s : IsState b s) (good_t : IsState b t) where
    -- a value parameter or a local has one domain in both
    local_domain : (x : Name) → IsLocal b x → HasOneDomain s t x
    local_domain x q =
        subst (HasOneDomain s t) (sym q.6) (identifiers_of b q.2.name.name, good_s.locals q.0 q.1 q.2 q.3 q.4 q.5, good_t.locals q.0 q.1 q.2 q.3 q.4 q.5)

    module _ (k : ℕ) (A : AgreeFor b k s t) (d : Words) where
      module _ (i : Instance) (at_k : nth b.instances k ≡ Some i) where
        abbrev C : Context
        C = context_of b i s

        abbrev owns : List Name
        owns = own_variables i.process i.archetype i.bindings

        declared : (g : Name) → is_among g (globals_in i.bindings) ≡ true → is_among g globals ≡ true
        declared g h =
            let n = closing.nth_among (globals_in i.bindings) g h in
            let q = W.bound k n.0 i g at_k n.1 in
            closing.among_nth globals q.0 g (nth_map (λ d. d.name.name) q.0 b.spec.globals q.1 q.2 ∙ ap Some q.3)

        uses : (l : Name) (c : Code) → find l (sections_at b i) ≡ Some c → Uses (PlaceHere C s t) (MappedHere C s t) c
        uses l c h =
            uses_both (IsPlaceOf b i) (IsPlaceOf b i) (PlaceHere C s t) (IsBoundHere b i) (IsBoundHere b i) (MappedHere C s t) (λ p q _. place p q) (λ g j q _. declared g q) c (uses_at b i l c h) (uses_at b i l c h)
          where
            place : (p : Place) → IsPlaceOf b i p → PlaceHere C s t p
            place (Whole g) q = declared g (places_whole i.process i.bindings i.archetype.locals q.0 g q.1)
            place (Own x) q = own_among (places_of i.process i.archetype i.bindings) q.0 x q.1

        owned : (x y : Name) → find x C.places ≡ Some (Own y) → (is_among y C.globals ≡ false) × (part_at y C.id s ≡ part_at y C.id t)
        owned x y h =
            let m = own_among (places_of i.process i.archetype i.bindings) x y h in
            (local_apart y (W.owns k i y at_k m), own_agrees s t (id_of i) (pc ∷ owns) y (A.own i at_k) (among_later y pc owns m))

        domains : (y : Name) → by_elements C s t y ≡ true → HasOneDomain s t y
        domains y h = A.domains y (kind (kind_in b y) (both_true (is_by_element (kind_in b y)) (is_among y C.globals) h).0)
          where
            kind : (q : Kind) → is_by_element q ≡ true → q ≡ ByElement
            kind Unbound e = absurd (grind (arith, e))
            kind AsWhole e = absurd (grind (arith, e))
            kind ByElement e = refl

        own_domains : (x : Name) → (same_name x pc ≡ true) ⊎ (is_among x C.owns ≡ true) → HasOneDomain s t x
        own_domains x (inl e) = subst (HasOneDomain s t) (sym (same_name-is x pc e)) (identifiers b, good_s.places, good_t.places)
        own_domains x (inr m) = local_domain x (W.owns k i x at_k m)

        entries : (s : Vars) → map (λ p. p.0) s ≡ variables_of b.spec → (p : Name × Data) → IsAmong p s → find p.0 s ≡ Some p.1
        entries s e p m = found_among p.0 p.1 s (subst AreDifferent (sym e) W.differ) m

        place_same : value_in s pc (id_of i) ≡ value_in t pc (id_of i)
        place_same = own_agrees s t (id_of i) (pc ∷ owns) pc (A.own i at_k) (among_here pc pc owns refl)

        abbrev Both : Option Code → Type 0
        Both o = AlikeLeaf s t (on no_points o (λ c. code_leaf b i s c d)) (on no_points o (λ c. code_leaf b i t c d))

        coded : (o : Option Code) → code_at b i (value_in s pc (id_of i)) ≡ o → Both o
        coded None e = inr (refl, refl, tt)
        coded (Some c) e = leaf there
          where
            l : (l : Name) × (find l (sections_at b i) ≡ Some c)
            l = end_at b k i s d s [] (value_in s pc (id_of i)) c e

            o : Out
            o = exec (context_of b i s) c [] d (begun [] [])

            o' : Out
            o' = exec (context_of b i t) c [] d (begun [] [])

            there : Same C s t o o'
            there =
                end_same C s t good_s.shallow good_t.shallow own_domains (good_s.variables ∙ sym good_t.variables) (entries s good_s.variables) (entries t good_t.variables) o o'
                (sim C s t owned d c [] (begun [] []) [] (section_without b.spec.macros i.process i.archetype i.bindings l.0 c (W.yields k i at_k) l.1) (uses l.0 c l.1)
                (changed_start C s t domains good_s.shallow good_t.shallow))

            leaf : Same C s t o o' → AlikeLeaf s t (code_leaf b i s c d) (code_leaf b i t c d)
            leaf (inl p) = inl p
            leaf (inr h) = inr (h.0, ap in_order h.1, h.2)

        instance_same : Both (code_at b i (value_in s pc (id_of i)))
        instance_same = coded (code_at b i (value_in s pc (id_of i))) refl

      abbrev leaf_on : Vars → Option Instance → Tried Touched Vars
      leaf_on u o = on no_points o (λ i. on no_points (code_at b i (value_in u pc (id_of i))) (λ c. code_leaf b i u c d))

      -- their traces part where the states don't agree, or they do the same and make the same choices
      leaf_alike : AlikeLeaf s t (SectLeaf b k s d) (SectLeaf b k t d)
      leaf_alike = go (nth b.instances k) refl
        where
          go : (o : Option Instance) → nth b.instances k ≡ o → AlikeLeaf s t (leaf_on s (nth b.instances k)) (leaf_on t (nth b.instances k))
          go None e = subst (λ o. AlikeLeaf s t (leaf_on s o) (leaf_on t o)) (sym e) (inr (refl, refl, tt))
          go (Some i) e =
              subst (λ o. AlikeLeaf s t (leaf_on s o) (leaf_on t o)) (sym e)
              (subst (λ q. AlikeLeaf s t (leaf_on s (Some i)) (on no_points (code_at b i q) (λ c. code_leaf b i t c d))) (place_same i e) (instance_same i e))

      pub sect_alike : Alike s t (Sect b k s d) (Sect b k t d)
      sect_alike = subst (λ x. Alike s t x (Sect b k t d)) (leaf_section b k s d) (subst (Alike s t (SectLeaf b k s d).section) (leaf_section b k t d) (go leaf_alike))
        where
          go : AlikeLeaf s t (SectLeaf b k s d) (SectLeaf b k t d) → Alike s t (SectLeaf b k s d).section (SectLeaf b k t d).section
          go (inl p) = inl p
          go (inr h) = inr (h.0, h.2)

    -- and so do attempts
    pub try_alike : (k : ℕ) → AgreeFor b k s t → (d : Words) → Alike s t (SectTry b k s d) (SectTry b k t d)
    try_alike k A d = tries_alike s t (SectLeaf b k s) (SectLeaf b k t) d (λ v. leaf_alike k A v) most_leaves []
