-- A worker just opened, a journal that grows, a board made anew; and the sentences as they are said of states.
use Rattle.std.proofs.Common.{◌≡◌, ◌≤◌, ◌<◌, ℕ, zero, suc, false, List, [], ◌∷◌, ◌++◌, length, Some, refl, sym, ap, ◌∙◌, subst, arith, ◌⊎◌, inl, inr}
use Rattle.pgo_base.specs.Data.{Data}
use Rattle.pgo_model.specs.Outcome.{Next}
use Rattle.pgo_model.specs.Machine.{Entry, Note, Record, Step, among, nth}
use Rattle.pgo_model.specs.Accounts.{journal}
use Rattle.pgo_workers.specs.Walk.{Own, Walk, Touch, Agrees, Along, visits, ending, taken_after}
use Rattle.pgo_workers.specs.View.{Refusal, IsHeld, IsFull, Taking, Told, View, World, Others, OtherNotes, EachHold, Same, Grows, resources_of, values_of, nows_of, state, own_left, own_seen}
use Rattle.pgo_workers.specs.Worker.{Program, Phase, Resting, Walking, Giving, Worker, Turn, Refused, Turned, TIdle, TGave, TTook, THeld, TOperated, TReadied, TDown, TCommitted, TFull, TNoted, TJournal, attempt}
use Rattle.pgo_workers.specs.Sentences.{SNone, ReachedAfter, OthersAt, Shows, EachTaking, Ends, held_last, AccountsOfOne, Past, History, PassedBy, Place, TakenNow, Sound, Meets, Runs}
use Rattle.pgo_workers.specs.OneAccounts.{accounts_grow}
use Rattle.pgo_workers.specs.Holds as holds
use Rattle.pgo_workers.specs.Kept.{own_grows, own_then_seen, accounts_seen, history_grows}
use Rattle.pgo_workers.specs.Closed.{Has, OnLog}

module _ {S D : Type 0} (W : World S D) (P : Program S D) (Reaches : ℕ → ℕ → Type 0) (Good : S → Type 0) (runs : Runs W P Reaches Good) where
  -- before its first turn
  abbrev pub opened : ℕ → Worker
  opened k = record { number = k; records = []; own = W.own W.start k; phase = Resting; taken = []; dropped = false }

  -- a board that a worker may be opened on: of its instance, holding nothing, whose journal has no record of it
  pub record IsFresh (k : ℕ) (b : View D) : Type 0 where
    pub number : k < P.instances
    pub instance : b.instance ≡ k
    pub steps : b.steps ≡ P.steps
    pub share : P.attempts ≤ b.share
    pub held : b.held ≡ []
    pub others : Others k b.entries
    pub other_notes : OtherNotes k b.notes
    pub told : (t : Told) → b.told ≡ Some t → (t.refused ≡ []) × (t.takes ≡ []) × (t.passed ≡ [])

  no_accounts : (k : ℕ) → AccountsOfOne W P Reaches Good k [] [] []
  no_accounts k = record {
    told = λ i x h. absurd (grind arith);
    steps = λ p e h. absurd (grind arith);
    notes = λ p e h. absurd (grind arith);
    notes_once = λ i j x y h. absurd (grind arith);
    ordered = λ i j x y h. absurd (grind arith);
    bounded = omega arith;
    last = λ i n h. absurd (grind arith);
    room = omega arith;
    share = omega arith;
  }

  pub opened_meets : (k : ℕ) (b : View D) → IsFresh k b → length b.entries ≤ b.steps → Meets W P Reaches Good (opened k) b
  opened_meets k b f room =
      let none : resources_of b.held ≡ [] = ap resources_of f.held in
      let own : own_seen W b ≡ W.own W.start k = (λ i. own_left W (f.instance i) (W.own W.start (f.instance i)) b.entries) ∙ holds.own_left_others W k (W.own W.start k) b.entries f.others in
      record {
        number = f.number;
        instance = f.instance;
        steps = f.steps;
        share = f.share;
        taken = sym none;
        once = tt;
        sound = subst (EachHold (Sound W P Reaches Good)) (sym f.held) tt;
        own = sym own;
        own_then = (0, omega arith, λ good. refl);
        accounts = accounts_grow W P Reaches Good k [] b.entries [] b.notes [] (subst (λ n. length b.entries ≤ n) f.steps room) f.others f.other_notes (no_accounts k);
        place = refl;
        lists = λ t told.
            let e = f.told t told in
            record {
              refused = sym e.0;
              passed = SNone t.passed;
              now = [];
              history = λ d. record { attempts = []; takes = e.1; as_many = refl; past = λ i x ms h. absurd (grind arith) };
              taken_now = λ d. refl;
            };
      }

  -- another view of the same: the journal grew by others, what is held and told is the same
  pub record Renews (b c : View D) : Type 0 where
    pub same : Same b c
    pub grows : Grows W b c
    pub held : c.held ≡ b.held
    pub told : c.told ≡ b.told

  pub renewed_meets : (w : Worker) (b c : View D) → Renews b c → length c.entries ≤ c.steps → Meets W P Reaches Good w b → Meets W P Reaches Good w c
  renewed_meets w b c r room m =
      record {
        number = m.number;
        instance = r.same.instance ∙ m.instance;
        steps = r.same.steps ∙ m.steps;
        share = subst (λ n. P.attempts ≤ n) (sym r.same.share) m.share;
        taken = m.taken ∙ ap resources_of (sym r.held);
        once = m.once;
        sound = subst (EachHold (Sound W P Reaches Good)) (sym r.held) m.sound;
        own = m.own ∙ sym (own_grows W P Reaches Good runs b c r.same r.grows);
        own_then = own_then_seen W P Reaches Good runs w b c r.grows m.own_then;
        accounts = accounts_seen W P Reaches Good runs w b c m.instance r.grows (subst (λ n. length c.entries ≤ n) (r.same.steps ∙ m.steps) room) m.accounts;
        place = place w.phase m.place;
        lists = λ t told.
            let l = m.lists t (sym r.told ∙ told) in
            record {
              refused = l.refused;
              passed = subst (λ hs. PassedBy W P Reaches Good w.phase w.records hs t.passed) (sym r.held) l.passed;
              now = l.now;
              history = λ d. subst (λ es. History W P Reaches Good w.number es w.records t.takes l.now) (sym r.grows.entries) (history_grows W P Reaches Good runs w.number b.entries r.grows.entries_more w.records t.takes l.now (l.history d));
              taken_now = λ d. taken w.phase l.now (l.taken_now d);
            };
      }
    where
      place : (p : Phase) → Place W P Reaches Good w b p → Place W P Reaches Good w c p
      place Resting q = q
      place (Walking x j) q = record {
        accesses = q.accesses;
        along = subst (λ hs. Along (P.tree w.number (attempt w) w.own) (values_of hs) q.accesses x (nows_of hs)) (sym r.held) q.along;
        holds = subst (λ hs. (taken_after q.accesses [] ≡ resources_of hs)
            ⊎ ((r : ℕ) × (leave : Data → Data) × (rest : Data → Walk) × (x ≡ Touch r leave rest) × (taken_after q.accesses [] ++ (r ∷ []) ≡ resources_of hs) × (among r q.accesses ≡ false))) (sym r.held) q.holds;
        within = q.within;
        may = q.may;
        not_done = q.not_done;
        readied_below = q.readied_below;
        readied_at = q.readied_at;
      }
      place Giving q = (subst (EachHold (λ h. h.content.current ≡ h.value)) (sym r.held) q.0, q.1)

      taken : (p : Phase) (now : List Taking) → TakenNow W P Reaches Good w b p now → TakenNow W P Reaches Good w c p now
      taken Resting now q = q
      taken (Walking x j) now q = record { members = q.members; granted_is = q.granted_is ∙ ap resources_of (sym r.held); last_held = q.last_held ∙ ap values_of (sym r.held) }
      taken Giving now q = q

  -- once its last attempt is over and given back, what is said of the journal
  pub on_log : (w : Worker) (b : View D) (t : Told) → b.told ≡ Some t → w.phase ≡ Resting → w.dropped ≡ false → Meets W P Reaches Good w b → OnLog W P Reaches Good w.number b.entries b.notes (record { records = w.records; told = t })
  on_log w b t told rest whole m =
      let l = m.lists t told in
      record {
        accounts = m.accounts;
        refused = l.refused;
        passed = subst (λ p. PassedBy W P Reaches Good p w.records b.held t.passed) rest l.passed;
        history = subst (λ n. History W P Reaches Good w.number b.entries w.records t.takes n) (subst (λ p. TakenNow W P Reaches Good w b p l.now) rest (l.taken_now whole)) (l.history whole);
      }

  -- after a turn that answers Refused with Held or Full, that refusal is the board's `last`
  pub refused_last : (w : Worker) (b : View D) (v : Worker) (c : View D) (t : Turn) (x : Refusal) → Turned W P w b v c t → t ≡ Refused x → c.last ≡ Some x
  refused_last w b v c t x (TIdle ended worker board answer) e = absurd (let q = sym answer ∙ e in grind (arith, q))
  refused_last w b v c t x (TGave r rs giving first gives worker answer) e = absurd (let q = sym answer ∙ e in grind (arith, q))
  refused_last w b v c t x (TTook on r leave rest next new takes worker answer) e = absurd (let q = sym answer ∙ e in grind (arith, q))
  refused_last w b v c t x (THeld on r h leave rest next new d take board worker answer) e = ap (λ (c : View D). c.last) board ∙ take.last ∙ ap Some (is (sym answer ∙ e))
    where
      is : Refused (IsHeld r h) ≡ Refused x → IsHeld r h ≡ x
      is q = grind (arith, q)
  refused_last w b v c t x (TOperated on r leave rest next h held board worker answer) e = absurd (let q = sym answer ∙ e in grind (arith, q))
  refused_last w b v c t x (TReadied on o ps next r at h held up board worker answer) e = absurd (let q = sym answer ∙ e in grind (arith, q))
  refused_last w b v c t x (TDown on o ps next r at h held down board worker answer) e = absurd (let q = sym answer ∙ e in grind (arith, q))
  refused_last w b v c t x (TCommitted on o ps next at n d commits board worker answer) e = absurd (let q = sym answer ∙ e in grind (arith, q))
  refused_last w b v c t x (TFull on o ps next at n d full board worker answer) e = ap (λ (c : View D). c.last) board ∙ full.last ∙ ap Some (is (sym answer ∙ e))
    where
      is : Refused (IsFull n) ≡ Refused x → IsFull n ≡ x
      is q = grind (arith, q)
  refused_last w b v c t x (TNoted on kind next n d notes board worker answer) e = absurd (let q = sym answer ∙ e in grind (arith, q))
  refused_last w b v c t x (TJournal on e' next at h d held board worker answer) e = ap (λ (c : View D). c.last) board ∙ held.last ∙ ap Some (is (sym answer ∙ e))
    where
      is : Refused (IsHeld journal h) ≡ Refused x → IsHeld journal h ≡ x
      is q = grind (arith, q)

  -- on every good state that agrees with an answered take, its attempt's trace has the resource, after the others then held
  pub trace_has : (k i : ℕ) (es : List (Entry D)) (x : Record) (ms : List Taking) (m : Taking) → (p : Past W P Reaches Good k es i x ms) → Has ms m → (s : S) → Good s → Agrees m.held (W.value s) → W.own s k ≡ m.own
      → (others : List ℕ) × OthersAt m others × ReachedAfter m.resource others (P.sect k (suc i) s).trace
  trace_has k i es x ms m p has s good agrees own =
      let q = go ms p.members has in let r = q.1.2 (W.value s) agrees in
      (q.1.0, q.1.1, subst (ReachedAfter m.resource q.1.0) (sym (runs.trace k (suc i) s good ∙ ap (λ o. visits (P.tree k (suc i) o) (W.value s)) (own ∙ q.0))) r)
    where
      go : (ms : List Taking) → EachTaking (λ m. (m.own ≡ p.own) × Shows (P.tree k (suc i) p.own) m) ms → Has ms m → (m.own ≡ p.own) × Shows (P.tree k (suc i) p.own) m
      go [] e h = absurd h
      go (z ∷ ms) e (inl h) = subst (λ (m : Taking). (m.own ≡ p.own) × Shows (P.tree k (suc i) p.own) m) h e.0
      go (z ∷ ms) e (inr h) = go ms e.1 h

  -- on every good state that agrees with the last take of an attempt that has ended, its section leads on
  pub next_on : (k i : ℕ) (o : Own) (ms : List Taking) → k < P.instances → P.is_done k o ≡ false → Ends (P.tree k (suc i) o) (held_last ms) → (s : S) → Good s → Agrees (held_last ms) (W.value s) → W.own s k ≡ o → (t : S) × (ps : List Data) × ((P.sect k (suc i) s).end ≡ Next t ps)
  next_on k i o ms number not_done ends s good agrees own = let e = ends (W.value s) agrees in (_, e.1, runs.next k (suc i) s e.0 e.1 good number (runs.done k s good ∙ ap (P.is_done k) own ∙ not_done) (ap (λ o. ending (P.tree k (suc i) o) (W.value s)) own ∙ e.2))

  -- each state along the journal is good, where the start is and a section leads from one to one
  pub good_all : (entries : List (Entry D)) (notes : List Note) (xs : ℕ → List Record) → Good W.start → ((k a : ℕ) (s t : S) (ps : List Data) → Good s → (P.sect k a s).end ≡ Next t ps → Good t)
      → ((p : ℕ) (e : Entry D) → nth entries p ≡ Some e → AccountsOfOne W P Reaches Good e.instance entries notes (xs e.instance)) → (p : ℕ) → p ≤ length entries → Good (state W entries p)
  good_all entries notes xs start keeps accounts zero h = subst Good (sym (zero_state entries)) start
    where
      zero_state : (es : List (Entry D)) → state W es zero ≡ W.start
      zero_state es = refl
  good_all entries notes xs start keeps accounts (suc p) h =
      let e = at entries p (omega (arith, h)) in
      let s = (accounts p e.0 e.1).steps p e.0 e.1 refl in
      let t = (accounts p e.0 e.1).told s.0 (Step (suc p)) s.2 in
      let same : p ≡ t.0 = (let q = t.2 in omega (arith, q)) in
      let before : Good (state W entries t.0) = subst (λ p. Good (state W entries p)) same (good_all entries notes xs start keeps accounts p (omega (arith, h))) in
      subst (λ p. Good (state W entries (suc p))) (sym same) (keeps e.0.instance (suc s.0) (state W entries t.0) (state W entries (suc t.0)) (W.printed t.1.change) before (t.6 before))
    where
      at : {A : Type 0} (l : List A) (n : ℕ) → n < length l → (x : A) × (nth l n ≡ Some x)
      at [] n h = absurd (omega (arith, h))
      at (x ∷ l) zero h = (x, refl)
      at (x ∷ l) (suc n) h = at l n (omega (arith, h))
