-- Entries that are steps of a bound specification's sections are a run of a module that agrees with it.
use Rattle.std.proofs.Common.{◌≡◌, ◌≤◌, ℕ, zero, suc, List, [], ◌∷◌, length, Option, Some, None, inl, refl, sym, ap, ◌∙◌, subst, arith, option_and_then}
use Rattle.std.proofs.lemmas.Option.{same_Some}
use Rattle.pgo_base.specs.Data.{Data, string}
use Rattle.pgo_base.specs.Lookup.{Name, Vars, find}
use Rattle.pgo_model.specs.Accounts.{EntriesMade, EntryMade}
use Rattle.pgo_model.specs.Acts.{Acts}
use Rattle.pgo_model.specs.Choice.{Seeded, words_of}
use Rattle.pgo_model.specs.Core.{Settings, rules_of}
use Rattle.pgo_model.specs.IsRun.{IsStep, IsRun}
use Rattle.pgo_model.specs.Log.{Effect, After, StateAt, label_in, label_of}
use Rattle.pgo_model.specs.Machine.{Entry, Finished, Rules, nth, state_at}
use Rattle.pgo_model.specs.MachineLists.{nth_below}
use Rattle.pgo_model.specs.Module.{Module}
use Rattle.pgo_model.specs.Operators.{apply}
use Rattle.pgo_model.specs.Options.{on}
use Rattle.pgo_model.specs.Outcome.{Next}
use Rattle.pgo_model.specs.System.{Member, System, Words, ids_of}
use Rattle.pgo_model.specs.Variables.{place_of}
use Rattle.pgo_model.specs.Written.{pc}
use Rattle.pgo_syntax.specs.declared.bound.Bound.{Bound}
use Rattle.pgo_syntax.specs.declared.bound.Instance.{Instance}
use Rattle.pgo_syntax.specs.declared.spec.Spec.{Spec}
use Rattle.pgo_bind.proofs.Declared.{declared}
use Rattle.pgo_bound.specs.Among.{nth_map}
use Rattle.pgo_bound.specs.BoundOf.{bound_of}
use Rattle.pgo_bound.specs.Declares.{value_in}
use Rattle.pgo_bound.specs.Sound.{IsLabel}
use Rattle.pgo_bound.specs.State.{IsState, id_of}
use Rattle.pgo_meaning.specs.Attempt.{next_of_try}
use Rattle.pgo_meaning.specs.Sect.{Sect}
use Rattle.pgo_meaning.specs.System.{member_of, system_of}
use Rattle.pgo_meaning.proofs.SystemStates.{states_same}
use Rattle.pgo_systems.specs.Premises.{IsGoodState, KeepsStates}
use Rattle.pgo_translate.specs.Agrees.{Agrees, IsNext, SomeActs}
use Rattle.pgo_translate.specs.ModuleOf.{constants_with}
use Rattle.pgo_agrees.specs.Accepted.{IsAccepted}
use Rattle.pgo_agrees.proofs.Premises as premises
use Rattle.pgo_accounts.specs.Runs.{NextHolds}
use Rattle.pgo_accounts.proofs.Steps.{Leads, leads_from, is_label, allows}

-- where an instance stands, said in two ways
pub place_same : (o : Option Data) (id : Data) → elim o as (λ o. Option Data) [ None ↦ None | Some f ↦ apply f id ] ≡ option_and_then (λ f. apply f id) o
place_same None id = refl
place_same (Some f) id = refl

-- the label of an instance in a state
pub label_at : (b : Bound) (k : ℕ) (i : Instance) (s : Vars) (l : Name) → nth b.instances k ≡ Some i → value_in s pc (id_of i) ≡ Some (string l) → label_of (system_of b) k s ≡ l
label_at b k i s l at_k at_l =
    ap (λ o. on [] o (λ (m : Member). label_in (place_of m.id s))) (nth_map member_of k b.instances i at_k)
    ∙ ap label_in (place_same (find pc s) (id_of i) ∙ at_l)

-- an entry stands at each place below their number
pub nth_there : {A : Type 0} (l : List A) (n : ℕ) → suc n ≤ length l → (e : A) × (nth l n ≡ Some e)
nth_there [] n h = absurd (omega (arith, h))
nth_there (e ∷ l) zero h = (e, refl)
nth_there (e ∷ l) (suc n) h = nth_there l n (omega (arith, h))

-- a state after n entries is one after at most all
state_below : (s t : Vars) (l : List (Entry Effect)) (n : ℕ) → StateAt s l n ≡ Some t → n ≤ length l
state_below s t l zero h = omega arith
state_below s t [] (suc n) h = absurd (cc)
state_below s t (e ∷ l) (suc n) h = go (After s e.change) (λ u k. state_below u t l n k) h
  where
    go : (o : Option Vars) → ((u : Vars) → StateAt u l n ≡ Some t → n ≤ length l) → option_and_then (λ u. StateAt u l n) o ≡ Some t → suc n ≤ length (e ∷ l)
    go None more g = absurd (cc)
    go (Some u) more g = let q = more u g in omega (arith, q)

module _ (s : Spec) (consts : List (Name × Data)) (accepted : IsAccepted s consts) (keeps : KeepsStates (bound_of s consts)) (m : Module) (agrees : Agrees m (constants_with s consts) (bound_of s consts)) (settings : Settings) (f : Finished Effect) where
  abbrev b : Bound
  b = bound_of s consts

  abbrev y : System
  y = system_of b

  abbrev R : Rules Vars Effect
  R = rules_of y settings

  abbrev entries : List (Entry Effect)
  entries = f.entries

  abbrev at : ℕ → Vars
  at n = state_at R y.start entries n

  module _ (made : EntriesMade R f) (states : (n : ℕ) → n ≤ length entries → StateAt b.start entries n ≡ Some (at n)) (good : (n : ℕ) → n ≤ length entries → IsGoodState b (at n)) where
    is_state : (n : ℕ) → n ≤ length entries → IsState b (at n)
    is_state n le = ((states_same b (at n) keeps.sound keeps.globals).0 (good n le).state).state

    module _ (p : ℕ) (e : Entry Effect) (h : nth entries p ≡ Some e) where
      low : p ≤ length entries
      low = let q = nth_below entries p e h in omega (arith, q)

      low_next : suc p ≤ length entries
      low_next = let q = nth_below entries p e h in omega (arith, q)

      by : EntryMade R f p e
      by = made p e h

      -- the attempt ends as its section does with some words
      led : (v : Words) × ((Sect b e.instance (at p) v).end ≡ Next (at (suc p)) by.prints)
      led = next_of_try b e.instance (at p) (words_of (Seeded settings.seed e.instance e.attempt)) (at (suc p)) by.prints by.outcome

      x : Leads b e.instance (at p) (at (suc p)) led.0 by.prints
      x = leads_from b e.instance (at p) (at (suc p)) led.0 by.prints led.1

      is_its_label : IsLabel x.instance x.label
      is_its_label = is_label b e.instance (at p) (at (suc p)) led.0 by.prints x (premises.unlabelled s consts accepted) (premises.none_done s consts accepted e.instance x.instance x.there)

      acts : Acts m (constants_with s consts) x.label (id_of x.instance) (at p) (at (suc p))
      acts =
          (agrees.steps e.instance x.instance x.label (at p) (at (suc p)) x.there is_its_label (is_state p low) (is_state (suc p) low_next)).1
          (x.at_label, allows b e.instance (at p) (at (suc p)) led.0 by.prints x)

      label_is : e.change.label ≡ x.label
      label_is = ap (λ c. c.label) by.change ∙ label_at b e.instance x.instance (at p) x.label x.there x.at_label

      -- where the instance stands behind it
      next_is : place_of (id_of x.instance) (at (suc p)) ≡ Some (string e.change.next)
      next_is =
          let l = (good (suc p) low_next).labels e.instance x.instance x.there in
          let named : e.change.next ≡ l.0 = ap (λ c. c.next) by.change ∙ label_at b e.instance x.instance (at (suc p)) l.0 x.there l.1 in
          place_same (find pc (at (suc p))) (id_of x.instance) ∙ l.1 ∙ ap (λ z. Some (string z)) (sym named)

      is_step : IsStep m (constants_with s consts) (ids_of y) b.start entries p e
      is_step = record {
        id = id_of x.instance;
        before = at p;
        after = at (suc p);
        identifier = nth_map (λ (i : Member). i.id) e.instance y.members (member_of x.instance) (nth_map member_of e.instance b.instances x.instance x.there);
        from = states p low;
        to = states (suc p) low_next;
        acts = subst (λ l. Acts m (constants_with s consts) l (id_of x.instance) (at p) (at (suc p))) (sym label_is) acts;
        next = next_is;
      }

      some_acts : SomeActs m (constants_with s consts) b (at p) (at (suc p))
      some_acts = record { number = e.instance; instance = x.instance; label = x.label; there = x.there; is_label = is_its_label; acts = acts }

      is_next : IsNext m (constants_with s consts) (at p) (at (suc p))
      is_next = (agrees.next (at p) (at (suc p)) (is_state p low) (is_state (suc p) low_next)).1 (inl some_acts)

    pub is_run : IsRun m (constants_with s consts) (ids_of y) b.start entries
    is_run = record {
      begins = (agrees.starts b.start keeps.sound.start).1 (declared s consts (premises.well s consts accepted) accepted.binding);
      steps = is_step;
    }

    pub next_holds : NextHolds m (constants_with s consts) b.start entries
    next_holds p t u from to =
        let le = state_below b.start u entries (suc p) to in
        let e = nth_there entries p le in
        let before : at p ≡ t = same_Some (at p) t (sym (states p (low p e.0 e.1)) ∙ from) in
        let after : at (suc p) ≡ u = same_Some (at (suc p)) u (sym (states (suc p) le) ∙ to) in
        subst (IsNext m (constants_with s consts) t) after (subst (λ z. IsNext m (constants_with s consts) z (at (suc p))) before (is_next p e.0 e.1))
