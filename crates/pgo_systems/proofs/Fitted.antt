-- The machine's premises hold of a bound specification's system, of its good states.
use Rattle.std.proofs.Common.{◌≡◌, inl, inr, ◌++◌, ℕ, zero, suc, Bool, true, false, ◌||◌, ◌&&◌, if◌then◌else◌, List, [], ◌∷◌, map, Option, Some, None, refl, sym, ap, ◌∙◌, subst}
use Rattle.std.specs.Prelude.{unwrap_or}
use Rattle.std.specs.List.{AllByRecursion, flat_map}
use Rattle.std.proofs.lemmas.Option.{same_Some}
use Rattle.pgo_base.specs.Data.{Data, graph, keys}
use Rattle.pgo_base.specs.Lookup.{Name, Vars, same_name, find}
use Rattle.pgo_model.specs.Accounts.{AllIn, Fits}
use Rattle.pgo_model.specs.Choice.{Seeded, words_of}
use Rattle.pgo_model.specs.Core.{Settings, Reaches, same_index, number_among, numbers_of, rules_of}
use Rattle.pgo_model.specs.Log.{After, effect_between}
use Rattle.pgo_model.specs.Machine.{nth}
use Rattle.pgo_model.specs.Names.{same_name-is, same_name-self, is_among}
use Rattle.pgo_model.specs.Options.{on}
use Rattle.pgo_model.specs.Outcome.{Next}
use Rattle.pgo_model.specs.System.{System, Resource, Touched, Words}
use Rattle.pgo_model.specs.SystemFits.{AreOfResources}
use Rattle.pgo_model.specs.SystemState.{IsSystemState}
use Rattle.pgo_syntax.specs.declared.bound.Bound.{Bound}
use Rattle.pgo_syntax.specs.declared.bound.Instance.{Instance}
use Rattle.pgo_syntax.specs.declared.bound.Resource as resource
use Rattle.pgo_syntax.specs.declared.declaration.Declaration.{Declaration}
use Rattle.pgo_bound.specs.declared.kinds.Kind.TheVariants.{Unbound}
use Rattle.pgo_bound.specs.Among.{IsAmong, among_map, among_nth, nth_among, nth_map}
use Rattle.pgo_bound.specs.Sound.{Sound}
use Rattle.pgo_bound.specs.State.{AreDifferent, IsStateOnDomains, kind_in, own_names, variables_of}
use Rattle.pgo_model.specs.Written.{pc, written}
use Rattle.pgo_bound.specs.Declares.{value_in}
use Rattle.pgo_bound.specs.State.{id_of}
use Rattle.pgo_sections.specs.Section.{section}
use Rattle.pgo_meaning.specs.Attempt.{SectTry, next_of_try, trace_of_try}
use Rattle.pgo_meaning.specs.Ends.{KeepsElements}
use Rattle.pgo_meaning.specs.Sect.{context_of, code_at, nothing, Sect}
use Rattle.pgo_meaning.specs.System.{globals_in, member_of, resource_of, system_of}
use Rattle.pgo_meaning.specs.SystemStates.{GlobalsBound}
use Rattle.pgo_meaning.proofs.SystemStates.{states_same, bound_kind}
use Rattle.pgo_systems.specs.Premises.{IsCountedState, IsGoodState, KeepsStates, LiteralsFitIn}
use Rattle.pgo_systems.proofs.Patches.{apart, leads}
use Rattle.pgo_systems.proofs.Places.{still_at_labels}
use Rattle.pgo_systems.proofs.States.{from_label}
use Rattle.pgo_systems.proofs.Unbound.{leaves}
use Rattle.pgo_systems.proofs.Untouched.{section_still}

-- what the laws below say: a section leads from a counted state to one, and what it reads and writes
abbrev pub StatesKept : Type 0
StatesKept =
    (b : Bound) (k : ℕ) (i : Instance) (s t : Vars) (d : Words) (prints : List Data) → nth b.instances k ≡ Some i → KeepsElements b i → LiteralsFitIn b i → IsCountedState b s → (Sect b k s d).end ≡ Next t prints → IsCountedState b t

abbrev pub TouchResources : Type 0
TouchResources = (b : Bound) (k : ℕ) (i : Instance) (s : Vars) (d : Words) → nth b.instances k ≡ Some i → Sound b → GlobalsBound b → KeepsElements b i → IsStateOnDomains b s → AreOfResources (system_of b).resources (Sect b k s d).trace

abbrev pub TouchBound : Type 0
TouchBound = (b : Bound) (k : ℕ) (i : Instance) (s : Vars) (d : Words) → nth b.instances k ≡ Some i → KeepsElements b i → AllByRecursion (λ c. is_among c.0 (globals_in i.bindings) ≡ true) (Sect b k s d).trace

is_there : (g : Name) (gs : List Name) → IsAmong g gs → is_among g gs ≡ true
is_there g [] h = absurd h
is_there g (x ∷ gs) (inl e) = ap (λ b. b || is_among g gs) (ap (same_name g) (sym e) ∙ same_name-self g)
is_there g (x ∷ gs) (inr h) = or_right (same_name g x) (is_there g gs h)
  where
    or_right : (b : Bool) {c : Bool} → c ≡ true → b || c ≡ true
    or_right true h = refl
    or_right false h = h

there_is : (g : Name) (gs : List Name) → is_among g gs ≡ true → IsAmong g gs
there_is g [] h = absurd (cc)
there_is g (x ∷ gs) h = go (same_name g x) refl h (λ k. there_is g gs k)
  where
    go : (b : Bool) → same_name g x ≡ b → b || is_among g gs ≡ true → (is_among g gs ≡ true → IsAmong g gs) → IsAmong g (x ∷ gs)
    go true e h more = inl (same_name-is g x e)
    go false e h more = inr (more h)

-- an end is of an instance
instance_there : (b : Bound) (k : ℕ) (s t : Vars) (d : Words) (prints : List Data) → (Sect b k s d).end ≡ Next t prints → (i : Instance) × (nth b.instances k ≡ Some i)
instance_there b k s t d prints e = go (nth b.instances k) e
  where
    go : (o : Option Instance) → (on nothing o (λ i. on nothing (code_at b i (value_in s pc (id_of i))) (λ c. section (context_of b i s) c d))).end ≡ Next t prints → (i : Instance) × (o ≡ Some i)
    go None e = absurd (cc)
    go (Some i) e = (i, refl)

front_each : (x : Name) (xs ys : List Name) → AllByRecursion (λ z. same_name x z ≡ false) (xs ++ ys) → AllByRecursion (λ z. same_name x z ≡ false) xs
front_each x [] ys h = tt
front_each x (z ∷ xs) ys h = (h.0, front_each x xs ys h.1)

front : (xs ys : List Name) → AreDifferent (xs ++ ys) → AreDifferent xs
front [] ys h = tt
front (x ∷ xs) ys h = (front_each x xs ys h.0, front xs ys h.1)

-- `pc` is no global
place_apart : (b : Bound) → AreDifferent (variables_of b.spec) → (x : Name) → IsAmong x (map (λ d. d.name.name) b.spec.globals) → same_name x pc ≡ false
place_apart b d x h =
    let globals = map (λ d. d.name.name) b.spec.globals in
    apart x pc globals (pc ∷ []) (front (globals ++ (pc ∷ [])) (flat_map (λ p. map (written p.name.name) (own_names b.spec p)) b.spec.processes) d) h (inl refl)

module _ (b : Bound) (h : KeepsStates b) where
  abbrev y : System
  y = system_of b

  on_domains : (s : Vars) → IsSystemState y s → IsStateOnDomains b s
  on_domains s is = (states_same b s h.sound h.globals).0 is

  of_system : (s : Vars) → IsStateOnDomains b s → IsSystemState y s
  of_system s is = (states_same b s h.sound h.globals).1 is

  starts : IsGoodState b b.start
  starts = record {
    state = of_system b.start (record { state = h.sound.start; domains = λ n d at_n e. let f = h.sound.domains n d at_n e in (keys (graph f.0), (f.0, f.1, refl), (f.0, f.1, refl)) });
    counted = h.counted;
    labels = h.sound.labels;
  }

  -- resources stand at their numbers
  pub resource_numbers : (n : ℕ) (r : Resource) → nth y.resources n ≡ Some r → r.number ≡ n
  resource_numbers n r at_n = at b.resources n at_n (λ m q at_m. h.sound.numbered.resource_numbers m q at_m)
    where
      at : (rs : List resource.Resource) (n : ℕ) → nth (map resource_of rs) n ≡ Some r → ((m : ℕ) (q : resource.Resource) → nth rs m ≡ Some q → q.number ≡ m) → r.number ≡ n
      at [] n k f = absurd (cc)
      at (q ∷ rs) zero k f = ap (λ (z : Resource). z.number) (sym (same_Some (resource_of q) r k)) ∙ f zero q refl
      at (q ∷ rs) (suc n) k f = back rs n k (λ m p at_m. f (suc m) p at_m)
        where
          back : (rs : List resource.Resource) (n : ℕ) → nth (map resource_of rs) n ≡ Some r → ((m : ℕ) (p : resource.Resource) → nth rs m ≡ Some p → p.number ≡ suc m) → r.number ≡ suc n
          back rs n k f = let q = nth_back rs n k in ap (λ (z : Resource). z.number) (sym q.2) ∙ f n q.0 q.1
            where
              nth_back : (rs : List resource.Resource) (n : ℕ) → nth (map resource_of rs) n ≡ Some r → (q : resource.Resource) × (nth rs n ≡ Some q) × (resource_of q ≡ r)
              nth_back [] n k = absurd (cc)
              nth_back (q ∷ rs) zero k = (q, refl, same_Some (resource_of q) r k)
              nth_back (q ∷ rs) (suc n) k = nth_back rs n k

  -- globals that are not bound stay
  unbound_stays : (k : ℕ) (i : Instance) (s t : Vars) (d : Words) (prints : List Data) → nth b.instances k ≡ Some i → (Sect b k s d).end ≡ Next t prints
      → (n : ℕ) (g : Declaration) → nth b.spec.globals n ≡ Some g → kind_in b g.name.name ≡ Unbound → find g.name.name t ≡ find g.name.name s
  unbound_stays k i s t d prints at_k e n g at_n free =
      let f = from_label b k i s d t prints at_k e in
      let x = g.name.name in
      section_still x (context_of b i s) (not_place g at_n) f.code d t prints (leaves b i (h.owns k i at_k) x (is_there x (map (λ d. d.name.name) b.spec.globals) (declared g at_n)) (not_bound x free) f.label f.code f.there) f.ends
    where
      declared : (g : Declaration) → nth b.spec.globals n ≡ Some g → IsAmong g.name.name (map (λ d. d.name.name) b.spec.globals)
      declared g at_n = among_map (λ d. d.name.name) g b.spec.globals (among_nth g b.spec.globals n at_n)

      not_bound : (x : Name) → kind_in b x ≡ Unbound → is_among x (globals_in i.bindings) ≡ false
      not_bound x u = go (is_among x (globals_in i.bindings)) refl
        where
          go : (c : Bool) → is_among x (globals_in i.bindings) ≡ c → is_among x (globals_in i.bindings) ≡ false
          go false q = q
          go true q = absurd (bound_kind b i x (among_nth i b.instances k at_k) (there_is x (globals_in i.bindings) q) u)

      not_place : (g : Declaration) → nth b.spec.globals n ≡ Some g → same_name g.name.name pc ≡ false
      not_place g at_n = place_apart b h.differ g.name.name (declared g at_n)

  kept : StatesKept → (k a : ℕ) (d : Words) (s t : Vars) (prints : List Data) → IsGoodState b s → (Sect b k s d).end ≡ Next t prints → IsGoodState b t
  kept states k a d s t prints good e =
      let i = instance_there b k s t d prints e in
      let is = on_domains s good.state in
      let it = states b k i.0 s t d prints i.1 (h.elements k i.0 i.1) (h.literals k i.0 i.1) (record { state = is; counted = good.counted }) e in
      record {
        state = of_system t it.state;
        counted = it.counted;
        labels = still_at_labels b k i.0 i.1 s t h.sound.numbered d prints is.state (h.ends k i.0 i.1) e good.labels;
      }

  -- what an entry records leads to the section's end
  section_leads : StatesKept → (k : ℕ) (d : Words) (s t : Vars) (prints : List Data) → IsGoodState b s → (Sect b k s d).end ≡ Next t prints → After s (effect_between y k s t prints) ≡ Some t
  section_leads states k d s t prints good e =
      let i = instance_there b k s t d prints e in
      let is = on_domains s good.state in
      let it = states b k i.0 s t d prints i.1 (h.elements k i.0 i.1) (h.literals k i.0 i.1) (record { state = is; counted = good.counted }) e in
      leads b h.sound h.globals h.differ s t is it.state (unbound_stays k i.0 s t d prints i.1 e) k prints

  -- and so to an attempt's, which is that of a section with some words
  pub entry_leads : StatesKept → (k : ℕ) (d : Words) (s t : Vars) (prints : List Data) → IsGoodState b s → (SectTry b k s d).end ≡ Next t prints → After s (effect_between y k s t prints) ≡ Some t
  entry_leads states k d s t prints good e = let q = next_of_try b k s d t prints e in section_leads states k q.0 s t prints good q.1

  -- the number of a read or write is of a resource of its global
  number_from : (rs : List Resource) (c : Touched) (n : ℕ) → number_among rs c ≡ Some n → (r : Resource) × IsAmong r rs × (r.number ≡ n) × (r.global ≡ c.0)
  number_from [] c n e = absurd (cc)
  number_from (r ∷ rs) c n e = go (same_name r.global c.0 && same_index r.index c.1) refl e (λ k. number_from rs c n k)
    where
      left : (a b : Bool) → a && b ≡ true → a ≡ true
      left true b k = refl
      left false b k = k

      go : (q : Bool) → (same_name r.global c.0 && same_index r.index c.1) ≡ q → (if q then Some r.number else number_among rs c) ≡ Some n
          → (number_among rs c ≡ Some n → (r : Resource) × IsAmong r rs × (r.number ≡ n) × (r.global ≡ c.0)) → (z : Resource) × IsAmong z (r ∷ rs) × (z.number ≡ n) × (z.global ≡ c.0)
      go true q k more = (r, inl refl, same_Some r.number n k, same_name-is r.global c.0 (left (same_name r.global c.0) (same_index r.index c.1) q))
      go false q k more = let z = more k in (z.0, inr z.1, z.2, z.3)

  -- a read or write of a resource that the instance is bound to
  abbrev IsReached : ℕ → Touched → Type 0
  IsReached k c = (n : ℕ) × (number_among y.resources c ≡ Some n) × Reaches y k n

  all_reached : (k : ℕ) (i : Instance) → nth b.instances k ≡ Some i → (cs : List Touched) → AreOfResources y.resources cs → AllByRecursion (λ c. is_among c.0 (globals_in i.bindings) ≡ true) cs → AllByRecursion (IsReached k) cs
  all_reached k i at_k [] r g = tt
  all_reached k i at_k (c ∷ cs) r g = ((r.0.0, r.0.1, one r.0.0 r.0.1), all_reached k i at_k cs r.1 g.1)
    where
      one : (n : ℕ) → number_among y.resources c ≡ Some n → Reaches y k n
      one n e =
          let q = number_from y.resources c n e in
          let m = nth_among q.0 y.resources q.1 in
          let at_n : nth y.resources n ≡ Some q.0 = ap (nth y.resources) (sym (sym (resource_numbers m.0 q.0 m.1) ∙ q.2)) ∙ m.1 in
          let g = nth_among c.0 (globals_in i.bindings) (there_is c.0 (globals_in i.bindings) g.0) in
          (member_of i, q.0, nth_map member_of k b.instances i at_k, at_n, (g.0, g.1 ∙ ap Some (sym q.3)))

  section_reached : TouchResources → TouchBound → (k : ℕ) (d : Words) (s : Vars) → IsGoodState b s → AllByRecursion (IsReached k) (Sect b k s d).trace
  section_reached resources bound k d s good = go (nth b.instances k) refl
    where
      go : (o : Option Instance) → nth b.instances k ≡ o → AllByRecursion (IsReached k) (Sect b k s d).trace
      go None e = subst (λ (o : Option Instance). AllByRecursion (IsReached k) (on nothing o (λ i. on nothing (code_at b i (value_in s pc (id_of i))) (λ c. section (context_of b i s) c d))).trace) (sym e) tt
      go (Some i) e = all_reached k i e (Sect b k s d).trace (resources b k i s d e h.sound h.globals (h.elements k i e) (on_domains s good.state)) (bound b k i s d e (h.elements k i e))

  numbers_reached : (k : ℕ) (cs : List Touched) → AllByRecursion (IsReached k) cs → AllIn (Reaches y k) (numbers_of y.resources cs)
  numbers_reached k [] r = tt
  numbers_reached k (c ∷ cs) r = subst (λ o. AllIn (Reaches y k) (on (numbers_of y.resources cs) o (λ n. n ∷ numbers_of y.resources cs))) (sym r.0.1) (r.0.2, numbers_reached k cs r.1)

  reached : TouchResources → TouchBound → (k : ℕ) (d : Words) (s : Vars) → IsGoodState b s → AllIn (Reaches y k) (numbers_of y.resources (SectTry b k s d).trace)
  reached resources bound k d s good =
      numbers_reached k (SectTry b k s d).trace (trace_of_try (IsReached k) b k s d (λ v. section_reached resources bound k v s good))

  -- reads and writes of resources, one by one
  abbrev HasNumber : Touched → Type 0
  HasNumber c = (n : ℕ) × (number_among y.resources c ≡ Some n)

  each_has : (cs : List Touched) → AreOfResources y.resources cs → AllByRecursion HasNumber cs
  each_has [] r = tt
  each_has (c ∷ cs) r = (r.0, each_has cs r.1)

  all_have : (cs : List Touched) → AllByRecursion HasNumber cs → AreOfResources y.resources cs
  all_have [] r = tt
  all_have (c ∷ cs) r = (r.0, all_have cs r.1)

  section_resources : TouchResources → (k : ℕ) (s : Vars) (d : Words) → IsSystemState y s → AreOfResources y.resources (Sect b k s d).trace
  section_resources resources k s d is = go (nth b.instances k) refl
    where
      go : (o : Option Instance) → nth b.instances k ≡ o → AreOfResources y.resources (Sect b k s d).trace
      go None e = subst (λ (o : Option Instance). AreOfResources y.resources (on nothing o (λ i. on nothing (code_at b i (value_in s pc (id_of i))) (λ c. section (context_of b i s) c d))).trace) (sym e) tt
      go (Some i) e = resources b k i s d e h.sound h.globals (h.elements k i e) (on_domains s is)

  pub all_resources : TouchResources → (k : ℕ) (s : Vars) (d : Words) → IsSystemState y s → AreOfResources y.resources (SectTry b k s d).trace
  all_resources resources k s d is =
      all_have (SectTry b k s d).trace (trace_of_try HasNumber b k s d (λ v. each_has (Sect b k s v).trace (section_resources resources k s v is)))

  -- the machine's premises
  pub fitted : StatesKept → TouchResources → TouchBound → (settings : Settings) → Fits (rules_of y settings) (Reaches y) (IsGoodState b)
  fitted states resources bound settings = record {
    start = starts;
    kept = λ k a s t ps good e. let q = next_of_try b k s (words_of (Seeded settings.seed k a)) t ps e in kept states k a q.0 s t ps good q.1;
    patches = λ k a s t ps good e. ap (λ o. unwrap_or o s) (entry_leads states k (words_of (Seeded settings.seed k a)) s t ps good e);
    prints = λ k s t ps. refl;
    reaches = λ k a s good. reached resources bound k (words_of (Seeded settings.seed k a)) s good;
  }
