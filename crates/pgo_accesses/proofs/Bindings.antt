-- What an instance's code uses: places of its process, and mapped parameters of globals that the instance is bound to.
use Rattle.std.proofs.Common.{◌≡◌, ℕ, Bool, true, false, ◌||◌, ◌&&◌, if◌then◌else◌, List, [], ◌∷◌, ◌++◌, Option, Some, inl, inr, refl, ap, ◌∙◌, arith}
use Rattle.std.specs.List.{cons_option, filter_map}
use Rattle.std.proofs.lemmas.Bool.{and_parts}
use Rattle.pgo_base.specs.Lookup.{Name, same_name, find}
use Rattle.pgo_model.specs.Core.{number_among, same_index}
use Rattle.pgo_model.specs.Names.{same_name-self, same_name-is, is_among}
use Rattle.pgo_model.specs.System.{Resource, Touched}
use Rattle.pgo_syntax.specs.declared.bound.Binding.{Binding}
use Rattle.pgo_syntax.specs.declared.bound.Bound.{Bound}
use Rattle.pgo_syntax.specs.declared.bound.Instance.{Instance}
use Rattle.pgo_syntax.specs.declared.declaration.Declaration.{Declaration}
use Rattle.pgo_bound.specs.Among.{IsAmong}
use Rattle.pgo_sections.specs.Code.{Place, Whole, Own, Code, Empty, Skip, Let, Pick, Become, Set, Await, Assert, Print, If, Either, Seq, Goto, Yield, Read, Write, Codes, no_codes, more_codes}
use Rattle.pgo_sections.specs.Domains.{Uses, AllUse}
use Rattle.pgo_meaning.specs.Parameters.{parameter_places, local_places, places_of, own_name, setting_of}
use Rattle.pgo_meaning.specs.System.{globals_in}
use Rattle.pgo_meaning.specs.TreesAgree.{sections_at}
use Rattle.pgo_meaning.proofs.SectionCode.{Holds, section_good}
use Rattle.pgo_meaning.proofs.Traces.{no_local, or_right, place_bound, mapped_bound}
use Rattle.pgo_workers.proofs.Components.{index_is}

-- ---- resources by their components

-- the resource that has the number of a component
pub number_at : (rs : List Resource) (c : Touched) (n : ℕ) → number_among rs c ≡ Some n → (q : Resource) × IsAmong q rs × (q.number ≡ n) × (q.global ≡ c.0) × (q.index ≡ c.1)
number_at [] c n h = absurd (grind (arith, h))
number_at (q ∷ rs) c n h = go (same_name q.global c.0 && same_index q.index c.1) refl h (λ k. later (number_at rs c n k))
  where
    later : (r : Resource) × IsAmong r rs × (r.number ≡ n) × (r.global ≡ c.0) × (r.index ≡ c.1) → (r : Resource) × IsAmong r (q ∷ rs) × (r.number ≡ n) × (r.global ≡ c.0) × (r.index ≡ c.1)
    later r = (r.0, inr r.1, r.2, r.3, r.4)

    number_is : (m n : ℕ) → Some m ≡ Some n → m ≡ n
    number_is m n e = cc

    go : (b : Bool) → (same_name q.global c.0 && same_index q.index c.1) ≡ b → (if b then Some q.number else number_among rs c) ≡ Some n
        → (number_among rs c ≡ Some n → (r : Resource) × IsAmong r (q ∷ rs) × (r.number ≡ n) × (r.global ≡ c.0) × (r.index ≡ c.1))
        → (r : Resource) × IsAmong r (q ∷ rs) × (r.number ≡ n) × (r.global ≡ c.0) × (r.index ≡ c.1)
    go true e h more = let p = and_parts (same_name q.global c.0) (same_index q.index c.1) e in (q, inl refl, number_is q.number n h, same_name-is q.global c.0 p.0, index_is q.index c.1 p.1)
    go false e h more = more h

-- ---- places

pub places_whole : (p : Name) (bs : List Binding) (ds : List Declaration) (x g : Name) → find x (parameter_places p bs ++ local_places p ds) ≡ Some (Whole g) → is_among g (globals_in bs) ≡ true
places_whole p bs ds x g h = place_bound p bs (local_places p ds) x g h (λ k. no_local p ds x g k)

-- an own place is an own variable
pub own_among : (ps : List (Name × Place)) (x y : Name) → find x ps ≡ Some (Own y) → is_among y (filter_map (λ q. own_name q.1) ps) ≡ true
own_among [] x y h = absurd (grind (arith, h))
own_among (q ∷ ps) x y h = go (same_name x q.0) h (λ k. own_among ps x y k) q.1 refl
  where
    later : (p : Place) → is_among y (filter_map (λ q. own_name q.1) ps) ≡ true → is_among y (cons_option (own_name p) (filter_map (λ q. own_name q.1) ps)) ≡ true
    later (Whole g) h = h
    later (Own z) h = or_right (same_name y z) (is_among y (filter_map (λ q. own_name q.1) ps)) h

    here : (p : Place) → p ≡ Own y → is_among y (cons_option (own_name p) (filter_map (λ q. own_name q.1) ps)) ≡ true
    here (Whole g) e = absurd (grind (arith, e))
    here (Own z) e = let s : z ≡ y = cc in ap (λ b. b || is_among y (filter_map (λ q. own_name q.1) ps)) (ap (same_name y) s ∙ same_name-self y)

    some_place : (p q : Place) → Some p ≡ Some q → p ≡ q
    some_place p q e = cc

    go : (b : Bool) → (if b then Some q.1 else find x ps) ≡ Some (Own y) → (find x ps ≡ Some (Own y) → is_among y (filter_map (λ q. own_name q.1) ps) ≡ true) → (p : Place) → p ≡ q.1
        → is_among y (cons_option (own_name q.1) (filter_map (λ q. own_name q.1) ps)) ≡ true
    go true h more p e = here q.1 (some_place q.1 (Own y) h)
    go false h more p e = later q.1 (more h)

-- ---- uses

module _ (P P' P'' : Place → Type 0) (M M' M'' : Name → Option Name → Type 0) (places : (p : Place) → P p → P' p → P'' p) (mapped : (g : Name) (i : Option Name) → M g i → M' g i → M'' g i) where
  mutual
    pub uses_both : (c : Code) → Uses P M c → Uses P' M' c → Uses P'' M'' c
    uses_both Empty h k = tt
    uses_both Skip h k = tt
    uses_both (Let b w e c) h k = uses_both c h k
    uses_both (Pick b w e c) h k = uses_both c h k
    uses_both (Become p w) h k = places p h k
    uses_both (Set b p e) h k = places p h k
    uses_both (Await e) h k = tt
    uses_both (Assert e) h k = tt
    uses_both (Print e) h k = tt
    uses_both (If e a b) h k = (uses_both a h.0 k.0, uses_both b h.1 k.1)
    uses_both (Either cs) h k = all_both cs h k
    uses_both (Seq a b) h k = (uses_both a h.0 k.0, uses_both b h.1 k.1)
    uses_both (Goto l) h k = tt
    uses_both (Yield e) h k = tt
    uses_both (Read w g i block c) h k = (mapped g i h.0 k.0, uses_both c h.1 k.1)
    uses_both (Write g i w block) h k = mapped g i h k

    all_both : (cs : Codes) → AllUse P M cs → AllUse P' M' cs → AllUse P'' M'' cs
    all_both no_codes h k = tt
    all_both (more_codes c cs) h k = (uses_both c h.0 k.0, all_both cs h.1 k.1)

module _ (b : Bound) (i : Instance) where
  -- a place of the process, and a global that the instance is bound to
  abbrev pub IsPlaceOf : Place → Type 0
  IsPlaceOf p = (x : Name) × (find x (places_of i.process i.archetype i.bindings) ≡ Some p)

  abbrev pub IsBoundHere : Name → Option Name → Type 0
  IsBoundHere g j = is_among g (globals_in i.bindings) ≡ true

  uses_hold : Holds (setting_of i.process i.archetype i.bindings) (Uses IsPlaceOf IsBoundHere) (AllUse IsPlaceOf IsBoundHere)
  uses_hold = record {
    empty = tt;
    skips = tt;
    lets = λ b w e c h. h;
    picks = λ b w e c h. h;
    becomes = λ x p w h. (x, h);
    sets = λ b x p e h. (x, h);
    contents = λ h e. absurd (let z : false ≡ true = h in cc);
    awaits = λ e. tt;
    asserts = λ e. tt;
    prints = λ e. tt;
    ifs = λ e c d h g. (h, g);
    eithers = λ cs h. h;
    seqs = λ c d h g. (h, g);
    gotos = λ l. tt;
    yields = λ e. tt;
    reads = λ x m w j c f h. (mapped_bound i.bindings x m f, h);
    writes = λ x m j w f. mapped_bound i.bindings x m f;
    no_arms = tt;
    more_arms = λ c cs h g. (h, g);
  }

  pub uses_at : (l : Name) (c : Code) → find l (sections_at b i) ≡ Some c → Uses IsPlaceOf IsBoundHere c
  uses_at l c h = section_good (Uses IsPlaceOf IsBoundHere) (AllUse IsPlaceOf IsBoundHere) b.spec.macros i.process i.archetype i.bindings uses_hold l c h
