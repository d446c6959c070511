-- The law of a closed journal: from boards that are closed, and workers each of which has ended over its own, under whatever
-- schedule, the entries are steps and the records are accounts in which each refusal has its cause.
use Rattle.std.proofs.Common.{◌≡◌, ◌≤◌, ◌<◌, ℕ, zero, suc, Bool, true, false, List, [], ◌∷◌, length, Some, refl, sym, ap, ◌∙◌, subst, arith, lt-ltb}
use Rattle.std.proofs.lemmas.Bool.{ltb-true}
use Rattle.std.proofs.lemmas.Option.{same_Some}
use Rattle.std.specs.Prelude.{if◌then◌else◌, nat_eq, nat_lt}
use Rattle.pgo_model.specs.Accounts.{Accounts, JointAccounts, EntriesMade}
use Rattle.pgo_model.specs.Machine.{Entry, Note, Step, Finished, nth, last_ends}
use Rattle.pgo_model.specs.MachineLists.{nth_below}
use Rattle.pgo_model.specs.Outcome.{Next}
use Rattle.pgo_workers.specs.Closed.{Boards, OnLog, Seat, joined, together}
use Rattle.pgo_workers.specs.Grown.{renewed_meets, on_log}
use Rattle.pgo_workers.specs.Sentences.{Meets, Runs}
use Rattle.pgo_workers.specs.View.{Told, View, World, Others, OtherNotes, Grows, state}
use Rattle.pgo_workers.specs.Worker.{Phase, Resting, Walking, Giving, Program, Worker, has_ended, is_resting, rules_of}
use Rattle.pgo_closed.specs.ClosedRuns.{ClosedRun, ComesTo, Premises, AtStart, BySection, ends_in, left_by, records_of}
use Rattle.pgo_closed.specs.MadeEntries.{MadeBy}
use Rattle.pgo_closed.proofs.MadeEntries.{made_others}

nth_there : {A : Type 0} (l : List A) (n : ℕ) → n < length l → (x : A) × (nth l n ≡ Some x)
nth_there [] n h = absurd (omega (arith, h))
nth_there (x ∷ l) zero h = (x, refl)
nth_there (x ∷ l) (suc n) h = nth_there l n (omega (arith, h))

module _ {S D : Type 0} (W : World S D) (P : Program S D) (Reaches : ℕ → ℕ → Type 0) (Good : S → Type 0) (premises : Premises W P Reaches Good) where
  abbrev runs : Runs W P Reaches Good
  runs = premises.runs

  module _ (entries : List (Entry D)) (notes : List Note) (ws : ℕ → Worker) (bs : ℕ → View D) (told : ℕ → Told) (run : ClosedRun W P Reaches Good entries notes ws bs told) where
    abbrev pub seats : ℕ → Seat
    seats k = record { records = records_of P ws k; told = told k }

    pub records_here : (k : ℕ) → k < P.instances → records_of P ws k ≡ (ws k).records
    records_here k l = ap (λ (b : Bool). if b then (ws k).records else []) (lt-ltb k P.instances l)

    records_else : (k : ℕ) → (k < P.instances → ⊥) → records_of P ws k ≡ []
    records_else k n = go (nat_lt k P.instances) refl
      where
        go : (b : Bool) → nat_lt k P.instances ≡ b → (if b then (ws k).records else []) ≡ []
        go true e = absurd (n (ltb-true k P.instances e))
        go false e = refl

    -- a worker that has ended rests
    rests : (w : Worker) → has_ended W P w ≡ true → w.phase ≡ Resting
    rests w e = go w.phase refl e
      where
        ends : Bool
        ends = if P.is_done w.number w.own then true else if last_ends w.records then true else nat_eq (length w.records) P.attempts

        go : (p : Phase) → w.phase ≡ p → (if is_resting p then ends else false) ≡ true → w.phase ≡ Resting
        go Resting q e = q
        go (Walking c j) q e = absurd (grind (arith, e))
        go Giving q e = absurd (grind (arith, e))

    -- ---- the views, on the closed journal

    -- what the instance sees once the journal is closed
    abbrev closed : View D → View D
    closed b = record b { entries = entries; notes = notes }

    grows : (k : ℕ) (l : k < P.instances) → Grows W (bs k) (closed (bs k))
    grows k l =
        let s = run.sees k l in
        record {
          entries_more = s.entries_more;
          notes_more = s.notes_more;
          entries = s.entries_are;
          notes = s.notes_are;
          others = subst (λ k. Others k s.entries_more) (sym s.instance) s.others;
          other_notes = subst (λ k. OtherNotes k s.notes_more) (sym s.instance) s.other_notes;
        }

    closed_meets : (k : ℕ) (l : k < P.instances) → Meets W P Reaches Good (ws k) (closed (bs k))
    closed_meets k l =
        let m = (run.ended k l).meets in
        renewed_meets W P Reaches Good runs (ws k) (bs k) (closed (bs k))
        (record { same = record { instance = refl; resources = refl; steps = refl; share = refl }; grows = grows k l; held = refl; told = refl })
        (subst (λ n. length entries ≤ n) (sym m.steps) run.boards.room) m

    -- what one worker says of the closed journal
    pub workers : (k : ℕ) → k < P.instances → OnLog W P Reaches Good k entries notes (seats k)
    workers k l =
        let h = run.ended k l in
        subst (λ xs. OnLog W P Reaches Good k entries notes (record { records = xs; told = told k })) (sym (records_here k l))
        (subst (λ n. OnLog W P Reaches Good n entries notes (record { records = (ws k).records; told = told k })) h.number
        (on_log W P Reaches Good runs (ws k) (closed (bs k)) (told k) (run.tells k l) (rests (ws k) h.ended) h.whole (closed_meets k l)))

    -- what the boards of all seats say
    pub boards : Boards W P Reaches Good entries notes seats
    boards = record {
      room = run.boards.room;
      entries_numbered = run.boards.entries_numbered;
      notes_numbered = run.boards.notes_numbered;
      agrees = run.boards.agrees;
      holder = run.boards.holder;
      journal_holder = run.boards.journal_holder;
      once = run.boards.once;
      no_others = records_else;
    }

    -- ---- each state along the journal is one that a run comes to

    step_leads : (p : ℕ) (e : Entry D) → nth entries p ≡ Some e → Good (state W entries p) → (P.sect e.instance e.attempt (state W entries p)).end ≡ Next (state W entries (suc p)) (W.printed e.change)
    step_leads p e at good =
        let l = run.boards.entries_numbered p e at in
        let a = (workers e.instance l).accounts in
        let s = a.steps p e at refl in
        let t = a.told s.0 (Step (suc p)) s.2 in
        let same : p ≡ t.0 = (let q = t.2 in omega (arith, q)) in
        let out = t.6 (subst (λ p. Good (state W entries p)) same good) in
        let one : t.1 ≡ e = same_Some t.1 e (sym t.3 ∙ ap (nth entries) (sym same) ∙ at) in
        ap (λ a. (P.sect e.instance a (state W entries p)).end) s.1 ∙ ap (λ p. (P.sect e.instance (suc s.0) (state W entries p)).end) same ∙ out
        ∙ (λ i. Next (state W entries (suc (sym same i))) (W.printed (one i).change))

    pub reached : (p : ℕ) → p ≤ length entries → ComesTo W P (state W entries p)
    reached zero h = AtStart
    reached (suc p) h =
        let e = nth_there entries p (omega (arith, h)) in
        let before = reached p (omega (arith, h)) in
        BySection e.0.instance e.0.attempt (state W entries p) (state W entries (suc p)) (W.printed e.0.change) before (step_leads p e.0 e.1 (premises.good (state W entries p) before))

    pub good : (p : ℕ) → p ≤ length entries → Good (state W entries p)
    good p h = premises.good (state W entries p) (reached p h)

    -- ---- what the run leaves

    abbrev pub left : Finished D
    left = left_by P entries notes ws

    -- the records number each instance's attempts, and say what became of each
    pub accounts : (k : ℕ) → Accounts (rules_of W P) Reaches true left k
    accounts = joined W P Reaches Good runs entries notes seats boards workers good premises.apart

    -- over all instances no failing pre-commit is answered twice, the number of a Full is the journal's length, and each refusal has
    -- its cause
    pub joint : JointAccounts (rules_of W P) true left
    joint = together W P Reaches Good runs entries notes seats boards workers good premises.apart

    -- each entry is a step of its instance's section, and records what differs
    pub entries_made : EntriesMade (rules_of W P) left
    entries_made p e at =
        let l = run.boards.entries_numbered p e at in
        let h = run.ended e.instance l in let s = run.sees e.instance l in
        let below = nth_below entries p e at in
        let here = good p (omega (arith, below)) in
        let made : MadeBy W P Good e.instance entries =
        subst (MadeBy W P Good e.instance) (sym s.entries_are) (made_others W P Good e.instance (bs e.instance).entries s.entries_more s.others (subst (λ k. MadeBy W P Good k (bs e.instance).entries) h.number h.stays.made)) in
        record {
          instance = l;
          prints = W.printed e.change;
          change = made p e at refl here;
          outcome = step_leads p e at here;
        }

    -- ---- how each has ended

    module _ (k : ℕ) (l : k < P.instances) where
      abbrev pub last : S
      last = state W entries (length entries)

      own_at_end : W.own last k ≡ (ws k).own
      own_at_end = let s = run.sees k l in s.own ∙ sym (run.ended k l).meets.own

      pub done_at_end : P.at_done k last ≡ P.is_done (ws k).number (ws k).own
      done_at_end = let n = (run.ended k l).number in runs.done k last (good (length entries) (omega arith)) ∙ (λ i. P.is_done (sym n i) (own_at_end i))

      -- it is at Done in the last state, or its last record ends it, or it has made all its attempts
      pub has_end : ends_in P last k (records_of P ws k) ≡ true
      has_end = go (ws k).phase (run.ended k l).ended
        where
          go : (p : Phase) → (if is_resting p then (if P.is_done (ws k).number (ws k).own then true else if last_ends (ws k).records then true else nat_eq (length (ws k).records) P.attempts) else false) ≡ true
              → ends_in P last k (records_of P ws k) ≡ true
          go Resting e = (λ i. if done_at_end i then true else if last_ends (records_here k l i) then true else nat_eq (length (records_here k l i)) P.attempts) ∙ e
          go (Walking c j) e = absurd (grind (arith, e))
          go Giving e = absurd (grind (arith, e))

      -- one that its last record ends isn't at Done
      pub ends_undone : last_ends (records_of P ws k) ≡ true → P.at_done k last ≡ false
      ends_undone e = done_at_end ∙ (run.ended k l).stays.undone (ap last_ends (sym (records_here k l)) ∙ e)

    -- so of any number
    pub undone : (k : ℕ) → last_ends (records_of P ws k) ≡ true → P.at_done k (state W entries (length entries)) ≡ false
    undone k e = go (nat_lt k P.instances) refl
      where
        go : (b : Bool) → nat_lt k P.instances ≡ b → P.at_done k (state W entries (length entries)) ≡ false
        go true q = ends_undone k (ltb-true k P.instances q) e
        go false q = absurd (let z : false ≡ true = sym (ap last_ends (records_else k (λ l. let t : nat_lt k P.instances ≡ true = lt-ltb k P.instances l in let y : true ≡ false = sym t ∙ q in grind (arith, y)))) ∙ e in grind (arith, z))
