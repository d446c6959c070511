-- The state to which a section leads, by its components; and the frame law of sections.
use Rattle.std.proofs.Common.{◌≡◌, ℕ, suc, ◌<◌, true, false, List, [], ◌∷◌, map, length, take, Option, Some, None, ◌⊎◌, inl, inr, refl, sym, ap, ◌∙◌, subst, arith, option_and_then}
use Rattle.std.specs.Prelude.{nat_lt}
use Rattle.pgo_base.specs.Data.{Data, string}
use Rattle.pgo_base.specs.Lookup.{Name, Vars, find}
use Rattle.pgo_model.specs.Core as core
use Rattle.pgo_model.specs.Core.{number_among, numbers_of}
use Rattle.pgo_model.specs.Log.{content}
use Rattle.pgo_model.specs.Machine.{nth}
use Rattle.pgo_model.specs.Names.{same_name-self, is_among}
use Rattle.pgo_model.specs.Options.{on}
use Rattle.pgo_model.specs.Outcome.{Outcome, Next, Stuck, Nowhere, Section}
use Rattle.pgo_model.specs.System.{System, Words, Touched}
use Rattle.pgo_model.specs.SystemState.{IsSystemState}
use Rattle.pgo_model.specs.Variables.{place_of}
use Rattle.pgo_model.specs.Written.{pc, done}
use Rattle.pgo_syntax.specs.declared.bound.Bound.{Bound}
use Rattle.pgo_syntax.specs.declared.bound.Instance.{Instance}
use Rattle.pgo_syntax.specs.declared.bound.Resource as resource
use Rattle.pgo_bound.specs.declared.kinds.Kind.{Kind as ResourceKind}
use Rattle.pgo_bound.specs.declared.kinds.Kind.TheVariants.{Unbound, AsWhole, ByElement}
use Rattle.pgo_bound.specs.Among.{nth_map}
use Rattle.pgo_bound.specs.Declares.{value_in}
use Rattle.pgo_bound.specs.Sound.{index_in, IsAtLabel}
use Rattle.pgo_bound.specs.State.{id_of, kind_in}
use Rattle.pgo_meaning.specs.Attempt.{SectTry}
use Rattle.pgo_meaning.specs.Sect.{code_at, context_of, is_by_element, nothing}
use Rattle.pgo_meaning.specs.System.{member_of, resource_of, system_of}
use Rattle.pgo_meaning.proofs.LabelSections.{label_section}
use Rattle.pgo_sections.specs.Code.{Code}
use Rattle.pgo_sections.specs.Context.{part_at}
use Rattle.pgo_sections.specs.Section.{section}
use Rattle.pgo_workers.specs.Walk as walks
use Rattle.pgo_workers.specs.Walk.{Walk, Goes, Sticks, visits, ending, final}
use Rattle.pgo_workers.specs.Worlds as worlds
use Rattle.pgo_workers.specs.Worlds.{Layout, layout_of, or_nothing, own_at, own_in, names_at}
use Rattle.pgo_workers.proofs.LayoutChanges.{component_there, own_name_behind, own_name_here, nth_there}
use Rattle.pgo_accesses.specs.Accesses.{own_next}
use Rattle.pgo_accesses.specs.Frame.{AgreeOn, SameEnd}
use Rattle.pgo_accesses.specs.Programs.{tree_with, world_at}
use Rattle.pgo_accesses.specs.Runnable.{Runnable, IsRunState}
use Rattle.pgo_accesses.proofs.Frames.{same_front, same_walk}
use Rattle.pgo_accesses.proofs.GoodStates as good_states
use Rattle.pgo_accesses.proofs.GoodStates.{among_true}
use Rattle.pgo_accesses.proofs.Parts.{is_less}
use Rattle.pgo_accesses.proofs.Programs.{own_start, own_is, place_is, NoSection, HasSection, section_at, trace_is, stuck_is, next_is, has_section}
use Rattle.pgo_accesses.proofs.Related.{IsResource}
use Rattle.pgo_accesses.proofs.SectionTrees.{Left}

module _ (b : Bound) (R : Runnable b) (s : Vars) (good : IsSystemState (system_of b) s) (d : Words) where
  abbrev y : System
  y = system_of b

  abbrev L : Layout
  L = layout_of (system_of b)

  -- the end, where a section goes on
  pub record Leads (k : ℕ) (o : walks.Own) (ps : List Data) : Type 0 where
    pub end : Vars
    pub is : (SectTry b k s d).end ≡ Next end ps
    pub instance : Instance
    pub at : nth b.instances k ≡ Some instance
    pub code : Code
    pub at_code : code_at b instance (value_in s pc (id_of instance)) ≡ Some code
    -- with these words the section goes on
    pub words : Words
    pub leads : (section (context_of b instance s) code words).end ≡ Next end ps
    pub left : Left (context_of b instance s) y.resources (own_start b R s good words k instance at) words end o (final (tree_with b d k (own_in L s k)) (worlds.value_in L s))
    pub own : own_in L end k ≡ o
    pub values : (r : ℕ) → nat_lt r (length L.resources) ≡ true → worlds.value_in L end r ≡ final (tree_with b d k (own_in L s k)) (worlds.value_in L s) r

  module _ (k : ℕ) (i : Instance) (at_k : nth b.instances k ≡ Some i) (o : walks.Own) (h : ℕ → Data) (t : Vars) (v : Words) (left : Left (context_of b i s) y.resources (own_start b R s good v k i at_k) v t o h) where
    names : List Name
    names = pc ∷ good_states.own_list b R k i at_k s good v

    own_lists : (xs : List Name) → ((x : Name) → is_among x xs ≡ true → is_among x (pc ∷ good_states.own_list b R k i at_k s good v) ≡ true)
        → own_at k (id_of i) xs t ≡ own_next left.label left.changes (own_at k (id_of i) xs s)
    own_lists [] h = refl
    own_lists (x ∷ xs) h =
        let part = left.parts x (or_nothing (part_at x (id_of i) s)) (good_states.part_of b R k i at_k s good v x (h x (own_name_here x x xs refl))) in
        λ j. (x, or_nothing (part j)) ∷ own_lists xs (λ z e. h z (own_name_behind z x xs e)) j

    left_own : own_in L t k ≡ o
    left_own =
        ap (λ o. on [] o (λ id. own_at k id (names_at L (Some id)) t)) (good_states.at_id b R k i at_k s good v)
        ∙ own_lists (pc ∷ good_states.own_list b R k i at_k s good v) (λ x h. h)
        ∙ sym left.own_is

    -- each resource is whole or an element
    resource_kind : (r : ℕ) (q : resource.Resource) → nth b.resources r ≡ Some q → (j : Option Data) → index_in q ≡ j → number_among y.resources (q.global, j) ≡ Some r → IsResource (context_of b i s) y.resources (own_start b R s good v k i at_k) v q.global j
    resource_kind r q at None e n = go (kind_in b q.global) refl
      where
        go : (z : ResourceKind) → kind_in b q.global ≡ z → is_by_element (kind_in b q.global) ≡ false
        go Unbound f = ap is_by_element f
        go AsWhole f = ap is_by_element f
        go ByElement f = absurd (R.globals.elements q.global f (r, q, at, refl, e))
    resource_kind r q at (Some v) e n = (go (kind_in b q.global) refl, among_true q.global (good_states.globals b R) (good_states.declared_at b R (q.global, Some v) r n))
      where
        whole : (m : ℕ) (p : resource.Resource) → nth b.resources m ≡ Some p → p.global ≡ q.global → index_in p ≡ None → (m ≡ r) ⊎ ((v w : Data) × (index_in p ≡ Some v) × (index_in q ≡ Some w) × (v ≡ w → ⊥)) → ⊥
        whole m p at_m same none (inl z) =
            let one : Some p ≡ Some q = sym at_m ∙ ap (nth b.resources) z ∙ at in
            let z : None ≡ Some v = sym none ∙ ap (λ o. on None o (λ r. index_in r)) one ∙ e in grind (arith, z)
        whole m p at_m same none (inr z) = let w : None ≡ Some z.0 = sym none ∙ z.2 in grind (arith, w)

        go : (z : ResourceKind) → kind_in b q.global ≡ z → is_by_element (kind_in b q.global) ≡ true
        go Unbound f = absurd (R.globals.unbound r q at f)
        go AsWhole f =
            let dec = R.globals.shared r q at in
            let w = R.globals.whole dec.0 dec.1 dec.2 (ap (kind_in b) dec.3 ∙ f) in
            absurd (whole w.0 w.1 w.2 (w.3 ∙ dec.3) w.4 (R.sound.resources_differ w.0 r w.1 q w.2 at (w.3 ∙ dec.3)))
        go ByElement f = ap is_by_element f

    -- and has its number
    own_number : (r : ℕ) (q : resource.Resource) → nth b.resources r ≡ Some q → number_among y.resources (q.global, index_in q) ≡ Some r
    own_number r q at =
        let n = good_states.number_of b R r q q.global (index_in q) at refl refl in
        let a = good_states.numbered b R (q.global, index_in q) n.0 n.1 in
        n.1 ∙ ap Some (go n.0 a.found a.at a.index (R.sound.resources_differ n.0 r a.found q a.at at a.global))
      where
        go : (m : ℕ) (p : resource.Resource) → nth b.resources m ≡ Some p → index_in p ≡ index_in q → (m ≡ r) ⊎ ((v w : Data) × (index_in p ≡ Some v) × (index_in q ≡ Some w) × (v ≡ w → ⊥)) → m ≡ r
        go m p at_m e (inl z) = z
        go m p at_m e (inr z) = absurd (z.4 (let w : Some z.0 ≡ Some z.1 = sym z.2 ∙ e ∙ z.3 in cc))

    left_value : (r : ℕ) → nat_lt r (length L.resources) ≡ true → worlds.value_in L t r ≡ h r
    left_value r is =
        let n = nth_there b.resources r (sym (ap (nat_lt r) (good_states.map_length resource_of b.resources)) ∙ is) in
        let q = n.0 in
        let at = nth_map resource_of r b.resources q n.1 in
        let number = own_number r q n.1 in
        let has = left.resources (q.global, index_in q) r number (resource_kind r q n.1 (index_in q) refl number) in
        ap or_nothing (ap (λ z. content z t) (component_there L.resources r (resource_of q) at) ∙ has)

  pub leads : (k : ℕ) (o : walks.Own) (ps : List Data) → ending (tree_with b d k (own_in L s k)) (worlds.value_in L s) ≡ Goes o ps → Leads k o ps
  leads k o ps e =
      let c = has_section b R s good d k o ps e in
      let n = next_is b R s good d k c.instance c.code o ps c.at c.at_code e in
      let h = final (tree_with b d k (own_in L s k)) (worlds.value_in L s) in
      record {
        end = n.0;
        is = n.1;
        instance = c.instance;
        at = c.at;
        code = c.code;
        at_code = c.at_code;
        words = n.2;
        leads = n.3;
        left = n.4;
        own = left_own k c.instance c.at o h n.0 n.2 n.4;
        values = left_value k c.instance c.at o h n.0 n.2 n.4;
      }

-- ---- an instance that isn't done has a section

pub instance_there : (b : Bound) (k : ℕ) → k < length (map member_of b.instances) → (i : Instance) × (nth b.instances k ≡ Some i)
instance_there b k h = nth_there b.instances k (sym (ap (nat_lt k) (good_states.map_length member_of b.instances)) ∙ is_less k (length (map member_of b.instances)) h)

pub code_there : (b : Bound) → Runnable b → (s : Vars) → IsRunState b s → (k : ℕ) (i : Instance) → nth b.instances k ≡ Some i → core.is_at_done (system_of b) k s ≡ false
    → (c : Code) × (code_at b i (value_in s pc (id_of i)) ≡ Some c)
code_there b R s good k i at_k not_done = go (good.labels k i at_k)
  where
    same_place : (f : Option Data) → (elim f as (λ o. Option Data) [ None ↦ None | Some f ↦ Rattle.pgo_model.specs.Operators.apply f (id_of i) ]) ≡ option_and_then (λ f. Rattle.pgo_model.specs.Operators.apply f (id_of i)) f
    same_place None = refl
    same_place (Some f) = refl

    here : core.is_place done (value_in s pc (id_of i)) ≡ false
    here =
        ap (core.is_place done) (sym (same_place (find pc s)))
        ∙ sym (ap (λ o. on false o (λ i. core.is_place done (place_of i.id s))) (nth_map member_of k b.instances i at_k)) ∙ not_done

    go : IsAtLabel i s → (c : Code) × (code_at b i (value_in s pc (id_of i)) ≡ Some c)
    go (l, e, inl is_done) =
        absurd (let z : true ≡ false = sym (ap (core.is_place done) (e ∙ ap (λ x. Some (string x)) is_done) ∙ same_name-self done) ∙ here in grind (arith, z))
    go (l, e, inr label) = let c = label_section b i R.unlabelled (R.none_done k i at_k) l label in (c.0, ap (code_at b i) e ∙ c.1)

-- ---- the frame law

module _ (b : Bound) (R : Runnable b) (s t : Vars) (good_s : IsSystemState (system_of b) s) (good_t : IsSystemState (system_of b) t) (d : Words) (k : ℕ) (own : own_in (layout_of (system_of b)) s k ≡ own_in (layout_of (system_of b)) t k) where
  abbrev ys : System
  ys = system_of b

  abbrev Ls : Layout
  Ls = layout_of (system_of b)

  abbrev w : Walk
  w = tree_with b d k (own_in Ls s k)

  abbrev f : ℕ → Data
  f = worlds.value_in Ls s

  abbrev g : ℕ → Data
  g = worlds.value_in Ls t

  abbrev trace_s : List ℕ
  trace_s = numbers_of ys.resources (SectTry b k s d).trace

  abbrev trace_t : List ℕ
  trace_t = numbers_of ys.resources (SectTry b k t d).trace

  on_t : trace_t ≡ visits w g
  on_t = trace_is b R t good_t d k ∙ ap (λ o. visits (tree_with b d k o) g) (sym own)

  on_s : trace_s ≡ visits w f
  on_s = trace_is b R s good_s d k

  pub front : (j : ℕ) → AgreeOn (take j trace_s) f g → take (suc j) trace_s ≡ take (suc j) trace_t
  front j h = ap (take (suc j)) on_s ∙ same_front w f g j (subst (λ l. AgreeOn (take j l) f g) on_s h) ∙ ap (take (suc j)) (sym on_t)

  module _ (h : AgreeOn (numbers_of (system_of b).resources (SectTry b k s d).trace) (worlds.value_in (layout_of (system_of b)) s) (worlds.value_in (layout_of (system_of b)) t)) where
    here : AgreeOn (visits w f) f g
    here = subst (λ l. AgreeOn l f g) on_s h

    pub same_trace : trace_s ≡ trace_t
    same_trace = on_s ∙ (same_walk w f g here).trace ∙ sym on_t

    Same : Outcome Vars → Outcome Vars → Type 0
    Same = SameEnd (world_at b) k s t

    swap : (x x' z z' : Outcome Vars) → x ≡ z → x' ≡ z' → SameEnd (world_at b) k s t z z' → SameEnd (world_at b) k s t x x'
    swap x x' z z' e e' m = subst (λ q. SameEnd (world_at b) k s t q x') (sym e) (subst (λ q. SameEnd (world_at b) k s t z q) (sym e') m)

    -- the same code on both
    same_code : (i : Instance) → nth b.instances k ≡ Some i → code_at b i (value_in s pc (id_of i)) ≡ code_at b i (value_in t pc (id_of i))
    same_code i e = ap (code_at b i) (sym (place_is b R s good_s d k i e) ∙ ap (find pc) (sym (own_is b R s good_s d k i e) ∙ own ∙ own_is b R t good_t d k i e) ∙ place_is b R t good_t d k i e)

    ends_on_t : (e : walks.End) → ending w f ≡ e → ending (tree_with b d k (own_in Ls t k)) g ≡ e
    ends_on_t e is = ap (λ o. ending (tree_with b d k o) g) (sym own) ∙ sym (same_walk w f g here).ends ∙ is

    ended : (i : Instance) (c : Code) → nth b.instances k ≡ Some i → code_at b i (value_in s pc (id_of i)) ≡ Some c → (e : walks.End) → ending w f ≡ e → SameEnd (world_at b) k s t (SectTry b k s d).end (SectTry b k t d).end
    ended i c at_k at_code (Sticks kind) is =
        swap (SectTry b k s d).end (SectTry b k t d).end (Stuck kind) (Stuck kind) (stuck_is b R s good_s d k i c kind at_k at_code is)
        (stuck_is b R t good_t d k i c kind at_k (sym (same_code i at_k) ∙ at_code) (ends_on_t (Sticks kind) is)) refl
    ended i c at_k at_code (Goes o ps) is =
        let l = leads b R s good_s d k o ps is in
        let m = leads b R t good_t d k o ps (ends_on_t (Goes o ps) is) in
        swap (SectTry b k s d).end (SectTry b k t d).end (Next l.end ps) (Next m.end ps) l.is m.is
        (refl, l.own ∙ sym m.own, λ r is_r e. l.values r is_r ∙ (same_walk w f g here).leaves r e ∙ ap (λ o. final (tree_with b d k o) g r) own ∙ sym (m.values r is_r))

    pub same_end : SameEnd (world_at b) k s t (SectTry b k s d).end (SectTry b k t d).end
    same_end = go (section_at b R s good_s d k) (section_at b R t good_t d k)
      where
        nowhere : (x : Section Touched Vars) → x ≡ nothing → x.end ≡ Nowhere
        nowhere x e = ap (λ (x : Section Touched Vars). x.end) e

        go : NoSection b R s good_s d k ⊎ HasSection b R s good_s d k → NoSection b R t good_t d k ⊎ HasSection b R t good_t d k → SameEnd (world_at b) k s t (SectTry b k s d).end (SectTry b k t d).end
        go (inr h) x = ended h.instance h.code h.at h.at_code (ending w f) refl
        go (inl n) (inl m) = swap (SectTry b k s d).end (SectTry b k t d).end Nowhere Nowhere (nowhere (SectTry b k s d) n.section_is) (nowhere (SectTry b k t d) m.section_is) tt
        go (inl n) (inr h) = absurd (n.none h.instance h.code h.at (same_code h.instance h.at ∙ h.at_code))
