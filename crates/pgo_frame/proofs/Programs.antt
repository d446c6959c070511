-- The trees that workers run, on the contents that they find, are attempts on every state that agrees with these.
use Rattle.std.proofs.Common.{◌≡◌, ℕ, suc, Bool, true, false, List, [], ◌∷◌, ◌++◌, take, Option, Some, None, inl, inr, refl, sym, ap, ◌∙◌, subst, arith, option_and_then}
use Rattle.std.specs.Prelude.{if◌then◌else◌}
use Rattle.pgo_base.specs.Data.{Data, string}
use Rattle.pgo_base.specs.Lookup.{Vars, find}
use Rattle.pgo_model.specs.Core as core
use Rattle.pgo_model.specs.Core.{numbers_of}
use Rattle.pgo_model.specs.Machine.{among, nth}
use Rattle.pgo_model.specs.Names.{same_name-self}
use Rattle.pgo_model.specs.Options.{on}
use Rattle.pgo_model.specs.Outcome.{Kind, Next, Stuck}
use Rattle.pgo_model.specs.System.{Words}
use Rattle.pgo_model.specs.SystemState.{IsSystemState}
use Rattle.pgo_model.specs.Variables.{place_of}
use Rattle.pgo_model.specs.Written.{pc, done}
use Rattle.pgo_syntax.specs.declared.bound.Bound.{Bound}
use Rattle.pgo_syntax.specs.declared.bound.Instance.{Instance}
use Rattle.pgo_bound.specs.Among.{nth_map}
use Rattle.pgo_bound.specs.Declares.{value_in}
use Rattle.pgo_bound.specs.Sound.{IsAtLabel}
use Rattle.pgo_bound.specs.State.{id_of}
use Rattle.pgo_meaning.specs.Attempt.{SectTry}
use Rattle.pgo_meaning.specs.Sect.{code_at}
use Rattle.pgo_meaning.specs.System.{member_of, system_of}
use Rattle.pgo_meaning.proofs.LabelSections.{label_section}
use Rattle.pgo_sections.specs.Code.{Code}
use Rattle.pgo_workers.specs.Sentences.{OthersAt, ReachedAfter, Shows, Ends, changes_at}
use Rattle.pgo_workers.specs.View.{Hold, Taking, EachHold, IsSteady, resources_of, values_of, nows_of}
use Rattle.pgo_workers.specs.Walk as walks
use Rattle.pgo_workers.specs.Walk.{Walk, Stop, Goes, Sticks, At, Agrees, Along, visits, visits_from, ending, ending_from, final, taken_after}
use Rattle.pgo_workers.specs.Worker.{changes_of}
use Rattle.pgo_workers.specs.Worlds as worlds
use Rattle.pgo_workers.specs.Worlds.{Layout, layout_of, effect_of, own_in}
use Rattle.pgo_accesses.specs.Frame.{AgreeOn}
use Rattle.pgo_accesses.specs.Programs.{tree_with, world_at}
use Rattle.pgo_accesses.specs.Runnable.{Runnable}
use Rattle.pgo_accesses.proofs.Frames.{same_front, same_walk}
use Rattle.pgo_accesses.proofs.Patches.{next_of}
use Rattle.pgo_accesses.proofs.Programs.{trace_is, stuck_is}
use Rattle.pgo_frame.proofs.Parted.{append_none}

-- ---- changes of what is accessed

agree_last : (taken : List ℕ) (r : ℕ) (f g : ℕ → Data) → AgreeOn taken f g → f r ≡ g r → AgreeOn (taken ++ (r ∷ [])) f g
agree_last [] r f g h e = (e, tt)
agree_last (q ∷ taken) r f g h e = (h.0, agree_last taken r f g h.1 e)

agree_taken : (rs taken : List ℕ) (f g : ℕ → Data) → AgreeOn rs f g → AgreeOn taken f g → AgreeOn (taken_after rs taken) f g
agree_taken [] taken f g h k = k
agree_taken (r ∷ rs) taken f g h k = go (among r taken) (agree_taken rs taken f g h.1 k) (agree_taken rs (taken ++ (r ∷ [])) f g h.1 (agree_last taken r f g k h.0))
  where
    go : (b : Bool) → AgreeOn (taken_after rs taken) f g → AgreeOn (taken_after rs (taken ++ (r ∷ []))) f g → AgreeOn (if b then taken_after rs taken else taken_after rs (taken ++ (r ∷ []))) f g
    go true x y = x
    go false x y = y

changes_same : (rs : List ℕ) (f g f' g' : ℕ → Data) → AgreeOn rs f g → ((r : ℕ) → f r ≡ g r → f' r ≡ g' r) → changes_at rs f f' ≡ changes_at rs g g'
changes_same [] f g f' g' h k = refl
changes_same (r ∷ rs) f g f' g' h k =
    let rest = changes_same rs f g f' g' h.1 k in
    λ i. record { resource = r; before = h.0 i; after = k r h.0 i } ∷ rest i

-- what is held, with its values before and after
changes_held : (hs : List Hold) (f g : ℕ → Data) → EachHold IsSteady hs → Agrees (values_of hs) f → Agrees (nows_of hs) g → changes_at (resources_of hs) f g ≡ changes_of hs
changes_held [] f g steady h n = refl
changes_held (q ∷ hs) f g steady h n =
    let rest = changes_held hs f g steady.1 h.1 n.1 in
    let before = h.0 ∙ sym steady.0 in
    λ i. record { resource = q.resource; before = before i; after = n.0 i } ∷ rest i

module _ (b : Bound) (R : Runnable b) (s : Vars) (good : IsSystemState (system_of b) s) (d : Words) (k : ℕ) where
  abbrev L : Layout
  L = layout_of (system_of b)

  abbrev g : ℕ → Data
  g = worlds.value_in L s

  abbrev w : Walk
  w = tree_with b d k (own_in L s k)

  -- an instance that is at a label has a section there, wherever the others are
  pub code_there : (i : Instance) → nth b.instances k ≡ Some i → IsAtLabel i s → core.is_at_done (system_of b) k s ≡ false → (c : Code) × (code_at b i (value_in s pc (id_of i)) ≡ Some c)
  code_there i at_k label not_done = go label
    where
      same_place : (f : Option Data) → (elim f as (λ o. Option Data) [ None ↦ None | Some f ↦ Rattle.pgo_model.specs.Operators.apply f (id_of i) ]) ≡ option_and_then (λ f. Rattle.pgo_model.specs.Operators.apply f (id_of i)) f
      same_place None = refl
      same_place (Some f) = refl

      here : core.is_place done (value_in s pc (id_of i)) ≡ false
      here =
          ap (core.is_place done) (sym (same_place (find pc s)))
          ∙ sym (ap (λ o. on false o (λ i. core.is_place done (place_of i.id s))) (nth_map member_of k b.instances i at_k)) ∙ not_done

      go : IsAtLabel i s → (c : Code) × (code_at b i (value_in s pc (id_of i)) ≡ Some c)
      go (l, e, inl is_done) =
          absurd (let z : true ≡ false = sym (ap (core.is_place done) (e ∙ ap (λ x. Some (string x)) is_done) ∙ same_name-self done) ∙ here in grind (arith, z))
      go (l, e, inr label) = let c = label_section b i R.unlabelled (R.none_done k i at_k) l label in (c.0, ap (code_at b i) e ∙ c.1)

  module _ (f : ℕ → Data) where
    pub front_is : (j : ℕ) → AgreeOn (take j (visits w f)) f g → take (suc j) (numbers_of (system_of b).resources (SectTry b k s d).trace) ≡ take (suc j) (visits w f)
    front_is j h = ap (take (suc j)) (trace_is b R s good d k) ∙ sym (same_front w f g j h)

    pub whole_is : AgreeOn (visits w f) f g → numbers_of (system_of b).resources (SectTry b k s d).trace ≡ visits w f
    whole_is h = trace_is b R s good d k ∙ sym (same_walk w f g h).trace

    pub sticks : (kind : Kind) (i : Instance) → AgreeOn (visits w f) f g → nth b.instances k ≡ Some i → IsAtLabel i s → core.is_at_done (system_of b) k s ≡ false → ending w f ≡ Sticks kind → (SectTry b k s d).end ≡ Stuck kind
    sticks kind i h at_k label not_done e =
        let c = code_there i at_k label not_done in
        stuck_is b R s good d k i c.0 kind at_k c.1 (sym (same_walk w f g h).ends ∙ e)

    pub leads : (o : walks.Own) (ps : List Data) → AgreeOn (visits w f) f g → ending w f ≡ Goes o ps
        → (SectTry b k s d).end ≡ Next ((world_at b).patched s (effect_of L k (own_in L s k) o (changes_at (taken_after (visits w f) []) f (final w f)) ps)) ps
    leads o ps h e =
        let same = same_walk w f g h in
        let found = changes_same (taken_after (visits w f) []) f g (final w f) (final w g) (agree_taken (visits w f) [] f g h tt) same.leaves in
        next_of b R s good d k o ps (sym same.ends ∙ e)
        ∙ ap (λ rs. Next ((world_at b).patched s (effect_of L k (own_in L s k) o (changes_at (taken_after rs []) g (final w g)) ps)) ps) (sym same.trace)
        ∙ ap (λ cs. Next ((world_at b).patched s (effect_of L k (own_in L s k) o cs ps)) ps) (sym found)

  -- ---- what is held

  module _ (held nows : List At) (accesses : List ℕ) (rest : Walk) (h : Agrees held g) (along : Along w held accesses rest nows) where
    pub held_front : (now : ℕ → Data) × (numbers_of (system_of b).resources (SectTry b k s d).trace ≡ accesses ++ visits_from g rest now) × Agrees nows now
    held_front = let q = along g h in (q.0, trace_is b R s good d k ∙ q.1.trace, q.2)

    pub held_sticks : (kind : Kind) (i : Instance) → rest ≡ Stop (Sticks kind) → nth b.instances k ≡ Some i → IsAtLabel i s → core.is_at_done (system_of b) k s ≡ false → (SectTry b k s d).end ≡ Stuck kind
    held_sticks kind i e at_k label not_done =
        let q = along g h in
        let c = code_there i at_k label not_done in
        stuck_is b R s good d k i c.0 kind at_k c.1 (q.1.ends ∙ ap (λ r. ending_from g r q.0) e)

  pub held_leads : (held : List Hold) (accesses : List ℕ) (o : walks.Own) (ps : List Data) → EachHold IsSteady held → Agrees (values_of held) g → Along w (values_of held) accesses (Stop (Goes o ps)) (nows_of held)
      → taken_after accesses [] ≡ resources_of held → (SectTry b k s d).end ≡ Next ((world_at b).patched s (effect_of L k (own_in L s k) o (changes_of held) ps)) ps
  held_leads held accesses o ps steady h along all =
      let q = along g h in
      let seen : visits w g ≡ accesses = q.1.trace ∙ append_none accesses in
      let taken : taken_after (visits w g) [] ≡ resources_of held = ap (λ rs. taken_after rs []) seen ∙ all in
      let left : final w g ≡ q.0 = λ i r. q.1.leaves r i in
      next_of b R s good d k o ps q.1.ends
      ∙ (λ i. Next ((world_at b).patched s (effect_of L k (own_in L s k) o (changes_at (taken i) g (left i)) ps)) ps)
      ∙ ap (λ cs. Next ((world_at b).patched s (effect_of L k (own_in L s k) o cs ps)) ps) (changes_held held g q.0 steady h q.2)

  -- what an answered take shows is so on the state
  pub held_reached : (m : Taking) → Agrees m.held g → Shows w m → (others : List ℕ) × OthersAt m others × ReachedAfter m.resource others (numbers_of (system_of b).resources (SectTry b k s d).trace)
  held_reached m h shows =
      (shows.0, shows.1, subst (ReachedAfter m.resource shows.0) (sym (trace_is b R s good d k)) (shows.2 g h))

  -- and so is that an attempt ends without a note
  pub held_ends : (held : List At) → Agrees held g → Ends w held → (t : Vars) × (ps : List Data) × ((SectTry b k s d).end ≡ Next t ps)
  held_ends held h ends = let e = ends g h in (_, e.1, next_of b R s good d k e.0 e.1 e.2)
