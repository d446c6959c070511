-- Sections read and write resources of globals that their instance is bound to, and nothing else.
use Rattle.std.proofs.Common.{◌≡◌, ℕ, Bool, true, false, ◌||◌, ◌&&◌, if◌then◌else◌, List, [], ◌∷◌, ◌++◌, map, Option, Some, None, refl, ap, sym, ◌∙◌, subst, inl, inr, arith}
use Rattle.std.specs.List.{AllByRecursion, cons_option}
use Rattle.pgo_base.specs.Data.{Data, function, graph, keys}
use Rattle.pgo_base.specs.Lookup.{Name, Vars, same_name, find}
use Rattle.pgo_model.specs.Core.{number_among, same_index}
use Rattle.pgo_model.specs.Machine.{nth}
use Rattle.pgo_model.specs.Names.{same_name-self, same_name-is, is_among}
use Rattle.pgo_model.specs.Options.{on}
use Rattle.pgo_model.specs.Outcome.{Section}
use Rattle.pgo_model.specs.System.{Resource, Touched, Words}
use Rattle.pgo_model.specs.SystemFits.{AreOfResources}
use Rattle.pgo_model.specs.Variables.{IsFunctionOn}
use Rattle.pgo_syntax.specs.declared.bound.Binding.{Binding}
use Rattle.pgo_syntax.specs.declared.bound.Bound.{Bound}
use Rattle.pgo_syntax.specs.declared.bound.Instance.{Instance}
use Rattle.pgo_syntax.specs.declared.bound.Resource as resource
use Rattle.pgo_syntax.specs.declared.bound.Target.{Target}
use Rattle.pgo_syntax.specs.declared.bound.Target.TheVariants as targets
use Rattle.pgo_syntax.specs.declared.declaration.Declaration.{Declaration}
use Rattle.pgo_bound.specs.declared.kinds.Kind.{Kind}
use Rattle.pgo_bound.specs.declared.kinds.Kind.TheVariants.{Unbound, AsWhole, ByElement}
use Rattle.pgo_bound.specs.Among.{IsAmong, among_map, among_nth, nth_among}
use Rattle.pgo_bound.specs.Declares.{value_in}
use Rattle.pgo_bound.specs.Lookups.{same_itself}
use Rattle.pgo_bound.specs.Sound.{Sound, index_in}
use Rattle.pgo_bound.specs.State.{IsStateOnDomains, id_of, kind_in}
use Rattle.pgo_model.specs.Written.{pc}
use Rattle.pgo_sections.specs.Access.{Mapped}
use Rattle.pgo_sections.specs.Code.{Place, Whole, Own, Code}
use Rattle.pgo_sections.specs.Context.{Context}
use Rattle.pgo_sections.specs.Domains.{Uses, AllUse, ByElements, PlaceIn, UsesOnly, IsPart, IsEvent}
use Rattle.pgo_sections.specs.Section.{section}
use Rattle.pgo_meaning.specs.Ends.{KeepsElements}
use Rattle.pgo_meaning.specs.Parameters.{mapped_of, all_mapped, place_of, parameter_places, local_places, places_of, setting_of}
use Rattle.pgo_meaning.specs.Sect.{is_by_element, context_of, code_at, nothing, Sect}
use Rattle.pgo_meaning.specs.System.{global_in, globals_in, resource_of, system_of}
use Rattle.pgo_meaning.specs.SystemStates.{IsDeclared, GlobalsBound}
use Rattle.pgo_meaning.specs.TreesAgree.{sections_at}
use Rattle.pgo_meaning.proofs.Ends.{end_at}
use Rattle.pgo_meaning.proofs.SectionCode.{Holds, section_good}
use Rattle.pgo_meaning.proofs.SystemStates.{bound_kind}

-- what the lower law says
abbrev pub TracesAre : Type 0
TracesAre = (k : Context) (gs : List Name) (c : Code) (d : Words) → UsesOnly k gs c → ByElements k.by_element c → AllByRecursion (IsEvent k gs) (section k c d).trace

pub or_right : (b c : Bool) → c ≡ true → b || c ≡ true
or_right true c h = refl
or_right false c h = h

-- ---- parameters are of globals that the instance is bound to
pub among_first : (g : Name) (gs : List Name) → is_among g (g ∷ gs) ≡ true
among_first g gs = ap (λ b. b || is_among g gs) (same_name-self g)

pub target_more : (g : Name) (t : Target) (gs : List Name) → is_among g gs ≡ true → is_among g (cons_option (global_in t) gs) ≡ true
target_more g (targets.Value e) gs h = h
target_more g (targets.Global x e m) gs h = or_right (same_name g x) (is_among g gs) h

pub place_bound : (p : Name) (bs : List Binding) (ls : List (Name × Place)) (x g : Name) → find x (parameter_places p bs ++ ls) ≡ Some (Whole g) → (find x ls ≡ Some (Whole g) → ⊥) → is_among g (globals_in bs) ≡ true
place_bound p [] ls x g h none = absurd (none h)
place_bound p (b ∷ bs) ls x g h none = go b.target h (λ k. place_bound p bs ls x g k none)
  where
    found : (y g' : Name) (e : Bool) → (if e then Some (Whole g') else find x (parameter_places p bs ++ ls)) ≡ Some (Whole g) → (find x (parameter_places p bs ++ ls) ≡ Some (Whole g) → is_among g (globals_in bs) ≡ true) → is_among g (g' ∷ globals_in bs) ≡ true
    found y g' true h more =
        let same : g' ≡ g = ap (λ o. elim o [ None ↦ g' | Some q ↦ elim q [ Whole z ↦ z | Own z ↦ z ] ]) h in
        subst (λ z. is_among g (z ∷ globals_in bs) ≡ true) (sym same) (among_first g (globals_in bs))
    found y g' false h more = or_right (same_name g g') (is_among g (globals_in bs)) (more h)

    own : (q : Place) (e : Bool) → ((q ≡ Whole g) → ⊥) → (if e then Some q else find x (parameter_places p bs ++ ls)) ≡ Some (Whole g) → (find x (parameter_places p bs ++ ls) ≡ Some (Whole g) → is_among g (globals_in bs) ≡ true) → is_among g (globals_in bs) ≡ true
    own q true not h more = absurd (not (ap (λ o. elim o [ None ↦ q | Some z ↦ z ]) h))
    own q false not h more = more h

    own_not : (z : Name) → Own z ≡ Whole g → ⊥
    own_not z h = grind (arith, h)

    go : (t : Target) → find x (place_of p b.parameter t (parameter_places p bs) ++ ls) ≡ Some (Whole g) → (find x (parameter_places p bs ++ ls) ≡ Some (Whole g) → is_among g (globals_in bs) ≡ true) → is_among g (cons_option (global_in t) (globals_in bs)) ≡ true
    go (targets.Value e) h more = own (Own _) (same_name x b.parameter) (own_not _) h more
    go (targets.Global g' e None) h more = found x g' (same_name x b.parameter) h more
    go (targets.Global g' e (Some m)) h more = or_right (same_name g g') (is_among g (globals_in bs)) (more h)

pub no_local : (p : Name) (ds : List Declaration) (x g : Name) → find x (local_places p ds) ≡ Some (Whole g) → ⊥
no_local p [] x g h = cc
no_local p (d ∷ ds) x g h = go (same_name x d.name.name) _ h (λ k. no_local p ds x g k)
  where
    go : (b : Bool) (z : Name) → (if b then Some (Own z) else find x (local_places p ds)) ≡ Some (Whole g) → (find x (local_places p ds) ≡ Some (Whole g) → ⊥) → ⊥
    go true z h more = grind (arith, h)
    go false z h more = more h

pub mapped_bound : (bs : List Binding) (x : Name) (m : Mapped) → find x (all_mapped bs) ≡ Some m → is_among m.global (globals_in bs) ≡ true
mapped_bound [] x m h = absurd (cc)
mapped_bound (b ∷ bs) x m h = go b.target h (λ k. mapped_bound bs x m k)
  where
    found : (q : Mapped) (e : Bool) → (if e then Some q else find x (all_mapped bs)) ≡ Some m → (find x (all_mapped bs) ≡ Some m → is_among m.global (globals_in bs) ≡ true) → is_among m.global (q.global ∷ globals_in bs) ≡ true
    found q true h more =
        let same : q ≡ m = ap (λ o. elim o [ None ↦ q | Some z ↦ z ]) h in
        subst (λ (z : Mapped). is_among m.global (z.global ∷ globals_in bs) ≡ true) (sym same) (among_first m.global (globals_in bs))
    found q false h more = or_right (same_name m.global q.global) (is_among m.global (globals_in bs)) (more h)

    go : (t : Target) → find x (mapped_of b.parameter t (all_mapped bs)) ≡ Some m → (find x (all_mapped bs) ≡ Some m → is_among m.global (globals_in bs) ≡ true) → is_among m.global (cons_option (global_in t) (globals_in bs)) ≡ true
    go (targets.Value e) h more = more h
    go (targets.Global g e None) h more = or_right (same_name m.global g) (is_among m.global (globals_in bs)) (more h)
    go (targets.Global g e (Some q)) h more = found _ (same_name x b.parameter) h more

module _ (b : Bound) (i : Instance) (s : Vars) (keeps : KeepsElements b i) where
  abbrev gs : List Name
  gs = globals_in i.bindings

  abbrev c : Context
  c = context_of b i s

  places_in : (x : Name) (p : Place) → find x (places_of i.process i.archetype i.bindings) ≡ Some p → PlaceIn c gs p
  places_in x (Whole g) h = (
    place_bound i.process i.bindings (local_places i.process i.archetype.locals) x g h (λ k. no_local i.process i.archetype.locals x g k),
    keeps.unmapped x g h,
  )
  places_in x (Own y) h = tt

  uses_hold : Holds (setting_of i.process i.archetype i.bindings) (Uses (PlaceIn c gs) (λ g i. is_among g gs ≡ true)) (AllUse (PlaceIn c gs) (λ g i. is_among g gs ≡ true))
  uses_hold = record {
    empty = tt;
    skips = tt;
    lets = λ b w e c h. h;
    picks = λ b w e c h. h;
    becomes = λ x p w h. places_in x p h;
    sets = λ b x p e h. places_in x p h;
    contents = λ h e. absurd (let z : false ≡ true = h in cc);
    awaits = λ e. tt;
    asserts = λ e. tt;
    prints = λ e. tt;
    ifs = λ e c d h g. (h, g);
    eithers = λ cs h. h;
    seqs = λ c d h g. (h, g);
    gotos = λ l. tt;
    yields = λ e. tt;
    reads = λ x m w j c f h. (mapped_bound i.bindings x m f, h);
    writes = λ x m j w f. mapped_bound i.bindings x m f;
    no_arms = tt;
    more_arms = λ c cs h g. (h, g);
  }

  uses_only : (l : Name) (code : Code) → find l (sections_at b i) ≡ Some code → UsesOnly c gs code
  uses_only l code h = record {
    places = places_in;
    code = section_good (Uses (PlaceIn c gs) (λ g i. is_among g gs ≡ true)) (AllUse (PlaceIn c gs) (λ g i. is_among g gs ≡ true)) b.spec.macros i.process i.archetype i.bindings uses_hold l code h;
  }

-- ---- each is one of a resource
pub number_there : (rs : List Resource) (r : Resource) (g : Name) (j : Option Data) → IsAmong r rs → r.global ≡ g → r.index ≡ j → (n : ℕ) × (number_among rs (g, j) ≡ Some n)
number_there [] r g j h e f = absurd h
number_there (q ∷ rs) r g j h e f = go (same_name q.global g && same_index q.index j) refl h (λ k. number_there rs r g j k e f)
  where
    same_part : (o : Option Data) → same_index o o ≡ true
    same_part None = refl
    same_part (Some v) = same_itself v

    here : q.global ≡ g → q.index ≡ j → (same_name q.global g && same_index q.index j) ≡ true
    here e f =
        ap (λ z. same_name z g && same_index q.index j) e
        ∙ ap (λ z. same_name g g && same_index z j) f
        ∙ ap (λ b. b && same_index j j) (same_name-self g)
        ∙ same_part j

    go : (b : Bool) → (same_name q.global g && same_index q.index j) ≡ b → IsAmong r (q ∷ rs) → (IsAmong r rs → (n : ℕ) × (number_among rs (g, j) ≡ Some n)) → (n : ℕ) × ((if b then Some q.number else number_among rs (g, j)) ≡ Some n)
    go true t h more = (q.number, refl)
    go false t (inl s) more =
        absurd (let z : true ≡ false = sym (here (sym (ap (λ (r : Resource). r.global) s) ∙ e) (sym (ap (λ (r : Resource). r.index) s) ∙ f)) ∙ t in cc)
    go false t (inr h) more = more h

pub among_is : (g : Name) (gs : List Name) → is_among g gs ≡ true → IsAmong g gs
among_is g [] h = absurd (cc)
among_is g (x ∷ gs) h = go (same_name g x) refl h (λ k. among_is g gs k)
  where
    go : (b : Bool) → same_name g x ≡ b → b || is_among g gs ≡ true → (is_among g gs ≡ true → IsAmong g gs) → IsAmong g (x ∷ gs)
    go true e h more = inl (same_name-is g x e)
    go false e h more = inr (more h)

module _ (b : Bound) (i : Instance) (s : Vars) (sound : Sound b) (gb : GlobalsBound b) (there : IsAmong i b.instances) (is : IsStateOnDomains b s) where
  abbrev rs : List Resource
  rs = map resource_of b.resources

  numbered : (g : Name) (j : Option Data) (n : ℕ) (r : resource.Resource) → nth b.resources n ≡ Some r → r.global ≡ g → index_in r ≡ j → (n : ℕ) × (number_among rs (g, j) ≡ Some n)
  numbered g j n r at_n e f =
      number_there rs (resource_of r) g j (among_map resource_of r b.resources (among_nth r b.resources n at_n)) e f

  -- an element in its domain is a resource
  element_numbered : (g : Name) (v : Data) → IsDeclared b g → kind_in b g ≡ ByElement → ((ids : List Data) → IsFunctionOn ids (find g s) → (n : ℕ) × (nth ids n ≡ Some v)) → (n : ℕ) × (number_among rs (g, Some v) ≡ Some n)
  element_numbered g v d kind h =
      let kind_d = ap (kind_in b) d.3 ∙ kind in
      let one = is.domains d.0 d.1 d.2 kind_d in
      let at_s = subst (λ x. IsFunctionOn one.0 (find x s)) d.3 one.2 in
      let n = h one.0 at_s in
      let domain = sound.domains d.0 d.1 d.2 kind_d in
      let same : one.0 ≡ keys (graph domain.0) = sym one.1.2 ∙ function_keys one.1.0 domain.0 (sym one.1.1 ∙ domain.1) in
      let index = domain.2 n.0 v (ap (λ ids. nth ids n.0) (sym same) ∙ n.1) in
      numbered g (Some v) index.0 index.1 index.2 (index.3 ∙ d.3) index.4
    where
      function_keys : (ps qs : _) → Some (function ps) ≡ Some (function qs) → keys (graph ps) ≡ keys (graph qs)
      function_keys ps qs e = ap (λ o. elim o as (λ o. List Data) [ None ↦ [] | Some f ↦ elim f as (λ f. List Data) [ function z ↦ keys (graph z) | _ ↦ [] ] ]) e

  event_numbered : (t : Touched) → IsEvent (context_of b i s) (globals_in i.bindings) t → (n : ℕ) × (number_among rs t ≡ Some n)
  event_numbered t h = go (kind_in b t.0) refl t.1 h.1
    where
      bound : IsAmong t.0 (globals_in i.bindings)
      bound = among_is t.0 (globals_in i.bindings) h.0

      declared : IsDeclared b t.0
      declared =
          let k = nth_among i b.instances there in
          let n = nth_among t.0 (globals_in i.bindings) bound in
          gb.bound k.0 n.0 i t.0 k.1 n.1

      go : (kind : Kind) → kind_in b t.0 ≡ kind → (j : Option Data) → IsPart (context_of b i s) t.0 j → (n : ℕ) × (number_among rs (t.0, j) ≡ Some n)
      go Unbound e j p = absurd (bound_kind b i t.0 there bound e)
      go AsWhole e None p =
          let w = gb.whole declared.0 declared.1 declared.2 (ap (kind_in b) declared.3 ∙ e) in
          numbered t.0 None w.0 w.1 w.2 (w.3 ∙ declared.3) w.4
      go AsWhole e (Some v) p = absurd (let z : false ≡ true = sym (ap is_by_element e) ∙ p.0 in cc)
      go ByElement e None p = absurd (let z : true ≡ false = sym (ap is_by_element e) ∙ p in cc)
      go ByElement e (Some v) p = element_numbered t.0 v declared e p.1

  all_numbered : (ts : List Touched) → AllByRecursion (IsEvent (context_of b i s) (globals_in i.bindings)) ts → AreOfResources rs ts
  all_numbered [] h = tt
  all_numbered (t ∷ ts) h = (event_numbered t h.0, all_numbered ts h.1)

-- the events of a section
events : TracesAre → (b : Bound) (k : ℕ) (i : Instance) (s : Vars) (d : Words) → nth b.instances k ≡ Some i → KeepsElements b i → AllByRecursion (IsEvent (context_of b i s) (globals_in i.bindings)) (Sect b k s d).trace
events traces b k i s d at_k keeps = subst (λ o. All (on nothing o run).trace) (sym at_k) (go (code_at b i at_pc) refl)
  where
    All : List Touched → Type 0
    All ts = AllByRecursion (IsEvent (context_of b i s) (globals_in i.bindings)) ts

    at_pc : Option Data
    at_pc = value_in s pc (id_of i)

    run : Instance → Section Touched Vars
    run i = on nothing (code_at b i (value_in s pc (id_of i))) (λ c. section (context_of b i s) c d)

    go : (o : Option Code) → code_at b i at_pc ≡ o → All (on nothing o (λ c. section (context_of b i s) c d)).trace
    go None e = tt
    go (Some c) e =
        let l = end_at b k i s d s [] at_pc c e in
        traces (context_of b i s) (globals_in i.bindings) c d (uses_only b i s keeps l.0 c l.1) (keeps.elements l.0 c l.1)

pub trace_resources : TracesAre → (b : Bound) (k : ℕ) (i : Instance) (s : Vars) (d : Words) → nth b.instances k ≡ Some i → Sound b → GlobalsBound b → KeepsElements b i → IsStateOnDomains b s → AreOfResources (system_of b).resources (Sect b k s d).trace
trace_resources traces b k i s d at_k sound gb keeps is =
    all_numbered b i s sound gb (among_nth i b.instances k at_k) is (Sect b k s d).trace (events traces b k i s d at_k keeps)

pub trace_bound : TracesAre → (b : Bound) (k : ℕ) (i : Instance) (s : Vars) (d : Words) → nth b.instances k ≡ Some i → KeepsElements b i → AllByRecursion (λ t. is_among t.0 (globals_in i.bindings) ≡ true) (Sect b k s d).trace
trace_bound traces b k i s d at_k keeps = bound_all (Sect b k s d).trace (events traces b k i s d at_k keeps)
  where
    bound_all : (ts : List Touched) → AllByRecursion (IsEvent (context_of b i s) (globals_in i.bindings)) ts → AllByRecursion (λ t. is_among t.0 (globals_in i.bindings) ≡ true) ts
    bound_all [] h = tt
    bound_all (t ∷ ts) h = (h.0.0, bound_all ts h.1)
