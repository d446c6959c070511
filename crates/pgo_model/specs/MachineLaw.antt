-- For every list of turns each entry is what its section does and the accounts hold: an invariant of the machine.
use Rattle.std.proofs.Common.{◌≡◌, ◌≤◌, ◌<◌, ℕ, zero, suc, ◌+◌, Bool, true, false, List, [], ◌∷◌, ◌++◌, length, Option, Some, None, refl, sym, ap, ◌∙◌, subst, arith, ◌⊎◌, inl, inr, length-append}
use Rattle.std.specs.Prelude.{if◌then◌else◌, nat_eq, nat_lt}
use Rattle.std.proofs.lemmas.Bool.{ltb-true}
use Rattle.std.proofs.lemmas.Option.{same_Some}
use Rattle.pgo_base.specs.Data.{Data}
use Rattle.pgo_model.specs.Outcome.{Kind, Outcome, Next, Stuck, Nowhere}
use Rattle.pgo_model.specs.Machine.{Rules, Entry, Note, Record, Step, Noted, Held, Down, Full, Worker, Machine, Event, Take, Operate, PreCommit, Commit, Noting, events, last_ends, nth, put, state_at, last_state, attempt_of, section, has_ended, finished_of, with_record, tells, goes_on, takes, taking, counted, pre_committing, appended, committing, noting, does, gives, step, opened, after_turns, run_turns}
use Rattle.pgo_model.specs.Accounts.{ComesAfter, StepsAreSections, Fits}
use Rattle.pgo_model.specs.MachineLists.{nth_last, nth_end, state_below, state_next}
use Rattle.pgo_model.specs.MachineAccounts.{equal_or, append_none, records_were, same_journal, MayRecord, AccountsOf, Tells, accounts_kept, accounts_added, note_later, step_later, opened_accounts, steps_are_sections, stopped_accounts}
use Rattle.pgo_model.specs.MachineEvents.{Means, events_mean}

below_instances : (k n : ℕ) → nat_lt k n ≡ true → k < n
below_instances k n e = ltb-true k n e

less : (a b : ℕ) → a ≤ b → nat_eq a b ≡ false → a < b
less a b h e = let d = (equal_or a b false e).1 refl in omega (arith, h, d)

full_is : (n q : ℕ) → Full n ≡ Full q → q ≡ n
full_is n q h = grind arith

not_busy : {P : Type 0} → nat_eq 0 0 ≡ false → P
not_busy e = absurd (grind (arith, e))

module _ {S D : Type 0} (R : Rules S D) (Reaches : ℕ → ℕ → Type 0) (Good : S → Type 0) where
  -- an instance whose attempt has begun may tell a further record
  abbrev pub Busy : Machine D → Type 0
  Busy m = (k : ℕ) → nat_eq (m.workers k).done 0 ≡ false → MayRecord R k (m.workers k)

  -- the number of a refused pre-commit was counted
  abbrev pub Counted : Machine D → Type 0
  Counted m = (k i r o : ℕ) → nth (m.workers k).records i ≡ Some (Down r o) → o ≤ m.counts r

  -- each state along the journal is good
  abbrev pub AllGood : List (Entry D) → Type 0
  AllGood l = (n : ℕ) → n ≤ length l → Good (state_at R R.start l n)

  -- an instance that may hold the resource
  abbrev pub IsHolder : (h r : ℕ) → Type 0
  IsHolder h r = Reaches h r × (h < R.instances)

  -- what each turn keeps; a holder is an instance, and reaches what it holds
  pub record Invariant (m : Machine D) : Type 0 where
    pub accounts : AccountsOf R Reaches m
    pub holding : (r h : ℕ) → m.holder r ≡ Some h → IsHolder h r
    pub busy : Busy m
    pub counts : Counted m
    pub good : AllGood m.entries

  -- records that stay have their counts
  counts_kept : (m n : Machine D) → ((r : ℕ) → m.counts r ≤ n.counts r) → ((k : ℕ) → (n.workers k).records ≡ (m.workers k).records) → Counted m → Counted n
  counts_kept m n rise recs c k i r o h = let b = c k i r o (ap (λ l. nth l i) (sym (recs k)) ∙ h) in let d = rise r in omega (arith, b, d)

  -- so does a further one
  counts_added : (m : Machine D) (k : ℕ) (x : Record) → ((r o : ℕ) → x ≡ Down r o → o ≤ m.counts r) → Counted m
      → (j i r o : ℕ) → nth (put k (with_record x (m.workers k)) m.workers j).records i ≡ Some (Down r o) → o ≤ m.counts r
  counts_added m k x new c j i r o h = go (records_were m k x j i (Down r o) h)
    where
      go : (nth (m.workers j).records i ≡ Some (Down r o)) ⊎ ((j ≡ k) × (i ≡ length (m.workers k).records) × (x ≡ Down r o)) → o ≤ m.counts r
      go (inl h) = c j i r o h
      go (inr h) = new r o h.2

  -- a further entry that leads to a good state
  good_added : (l : List (Entry D)) (x : Entry D) → AllGood l → Good (state_at R R.start (l ++ (x ∷ [])) (suc (length l))) → AllGood (l ++ (x ∷ []))
  good_added l x all new n h = go (nat_eq n (suc (length l))) refl
    where
      go : (b : Bool) → nat_eq n (suc (length l)) ≡ b → Good (state_at R R.start (l ++ (x ∷ [])) n)
      go true e = subst (λ n. Good (state_at R R.start (l ++ (x ∷ [])) n)) (sym ((equal_or n (suc (length l)) true e).0 refl)) new
      go false e =
          let d = (equal_or n (suc (length l)) false e).1 refl in let len = length-append l (x ∷ []) in
          let b : n ≤ length l = omega (arith, h, d, len) in subst Good (sym (state_below R R.start l (x ∷ []) n b)) (all n b)

  -- one worker changes
  busy_put : (m : Machine D) (k : ℕ) (p : Worker) → Busy m → (nat_eq p.done 0 ≡ false → MayRecord R k p) → (j : ℕ) → nat_eq (put k p m.workers j).done 0 ≡ false → MayRecord R j (put k p m.workers j)
  busy_put m k p b h j = go (nat_eq j k) refl
    where
      go : (c : Bool) → nat_eq j k ≡ c → nat_eq (if c then p else m.workers j).done 0 ≡ false → MayRecord R j (if c then p else m.workers j)
      go true e d = subst (λ j. MayRecord R j p) (sym ((equal_or j k true e).0 refl)) (h d)
      go false e d = b j d

  -- the records of a worker whose other parts change
  same_records : (m : Machine D) (k : ℕ) (p : Worker) → p.records ≡ (m.workers k).records → (j : ℕ) → (put k p m.workers j).records ≡ (m.workers j).records
  same_records m k p e j = go (nat_eq j k) refl
    where
      go : (b : Bool) → nat_eq j k ≡ b → (if b then p else m.workers j).records ≡ (m.workers j).records
      go true q = e ∙ ap (λ n. (m.workers n).records) (sym ((equal_or j k true q).0 refl))
      go false q = refl

  goes_on_keeps : (m : Machine D) (k : ℕ) → MayRecord R k (m.workers k) → Invariant m → Invariant (goes_on m k)
  goes_on_keeps m k may g = record {
    accounts = accounts_kept R Reaches m _ (same_journal R m (goes_on m k) refl refl) refl refl (same_records m k _ refl) g.accounts;
    holding = g.holding;
    busy = busy_put m k _ g.busy (λ _. may);
    counts = counts_kept m (goes_on m k) (λ r. omega arith) (same_records m k _ refl) g.counts;
    good = g.good;
  }

  takes_keeps : (m : Machine D) (k r : ℕ) → Reaches k r → MayRecord R k (m.workers k) → Invariant m → Invariant (takes m k r)
  takes_keeps m k r reach may g = record {
    accounts = accounts_kept R Reaches m _ (same_journal R m (takes m k r) refl refl) refl refl (same_records m k _ refl) g.accounts;
    holding = λ q h e. go q h (nat_eq q r) refl e;
    busy = busy_put m k _ g.busy (λ _. may);
    counts = counts_kept m (takes m k r) (λ r. omega arith) (same_records m k _ refl) g.counts;
    good = g.good;
  }
    where
      go : (q h : ℕ) (b : Bool) → nat_eq q r ≡ b → (if b then Some k else m.holder q) ≡ Some h → IsHolder h q
      go q h true e s = subst (λ h. IsHolder h q) (same_Some k h s) (subst (Reaches k) (sym ((equal_or q r true e).0 refl)) reach, may.2)
      go q h false e s = g.holding q h s

  gives_keeps : (m : Machine D) (k : ℕ) (held : List ℕ) → Invariant m → Invariant (gives m k held)
  gives_keeps m k [] g = g
  gives_keeps m k (r ∷ rs) g = record {
    accounts = accounts_kept R Reaches m _ (same_journal R m (gives m k (r ∷ rs)) refl refl) refl refl (same_records m k _ refl) g.accounts;
    holding = λ q h e. go q h (nat_eq q r) e;
    busy = busy_put m k _ g.busy (λ b. g.busy k b);
    counts = counts_kept m (gives m k (r ∷ rs)) (λ r. omega arith) (same_records m k _ refl) g.counts;
    good = g.good;
  }
    where
      go : (q h : ℕ) (b : Bool) → (if b then None else m.holder q) ≡ Some h → IsHolder h q
      go q h true s = absurd (grind arith)
      go q h false s = g.holding q h s

  -- a record alone
  tells_keeps : (m : Machine D) (k : ℕ) (x : Record) → Tells R Reaches m k (length (m.workers k).records) x → ((r o l j : ℕ) → x ≡ Down r o → nth (m.workers l).records j ≡ Some (Down r o) → ⊥) → ((r o : ℕ) → x ≡ Down r o → o ≤ m.counts r)
      → ((q : ℕ) → x ≡ Full q → q ≡ length m.entries) → ((y : Record) → ComesAfter x y) → MayRecord R k (m.workers k) → Invariant m → Invariant (tells m k x)
  tells_keeps m k x new down count full fresh may g = record {
    accounts = accounts_added R Reaches m m k x (same_journal R m m refl refl) g.accounts new (λ p e h. inl h) (λ p e h. inl h) down full (λ i y h. fresh y) g.accounts.joint.room may;
    holding = g.holding;
    busy = busy_put m k _ g.busy not_busy;
    counts = counts_added m k x count g.counts;
    good = g.good;
  }

  taking_keeps : (m : Machine D) (k r : ℕ) (o : Option ℕ) → m.holder r ≡ o → Reaches k r → MayRecord R k (m.workers k) → Invariant m → Invariant (taking m k r o)
  taking_keeps m k r None e reach may g = takes_keeps m k r reach may g
  taking_keeps m k r (Some h) e reach may g = go (nat_eq h k) refl
    where
      go : (b : Bool) → nat_eq h k ≡ b → Invariant (if b then takes m k r else tells m k (Held r h))
      go true q = takes_keeps m k r reach may g
      go false q = tells_keeps m k (Held r h) ((equal_or h k false q).1 refl, (g.holding r h e).1, inl (reach, (g.holding r h e).0)) (λ r o l j d. absurd (grind arith)) (λ r o d. absurd (grind arith)) (λ q d. absurd (grind arith)) (λ y. tt) may g

  counts_rise : (m : Machine D) (r q : ℕ) → m.counts q ≤ put r (suc (m.counts r)) m.counts q
  counts_rise m r q = go (nat_eq q r) refl
    where
      go : (b : Bool) → nat_eq q r ≡ b → m.counts q ≤ (if b then suc (m.counts r) else m.counts q)
      go true e = let p = ap m.counts ((equal_or q r true e).0 refl) in omega (arith, p)
      go false e = omega arith

  count_new : (m : Machine D) (r : ℕ) → put r (suc (m.counts r)) m.counts r ≡ suc (m.counts r)
  count_new m r = go (nat_eq r r) refl
    where
      go : (b : Bool) → nat_eq r r ≡ b → (if b then suc (m.counts r) else m.counts r) ≡ suc (m.counts r)
      go true e = refl
      go false e = absurd (grind arith)

  down_parts : (r o r' o' : ℕ) → Down r o ≡ Down r' o' → (r ≡ r') × (o ≡ o')
  down_parts r o r' o' h = (grind arith, grind arith)

  counted_keeps : (m : Machine D) (r : ℕ) → Invariant m → Invariant (counted m r)
  counted_keeps m r g = record {
    accounts = accounts_kept R Reaches m _ (same_journal R m (counted m r) refl refl) refl refl (λ k. refl) g.accounts;
    holding = g.holding;
    busy = g.busy;
    counts = counts_kept m (counted m r) (counts_rise m r) (λ k. refl) g.counts;
    good = g.good;
  }

  pre_committing_keeps : (m : Machine D) (k r : ℕ) (b : Bool) → R.fails r (suc (m.counts r)) ≡ b → MayRecord R k (m.workers k) → Invariant m → Invariant (pre_committing m k r b)
  pre_committing_keeps m k r false e may g = goes_on_keeps (counted m r) k may (counted_keeps m r g)
  pre_committing_keeps m k r true e may g = tells_keeps (counted m r) k (Down r (suc (m.counts r))) e (λ q o l j d h.
      let p = down_parts r (suc (m.counts r)) q o d in let t = g.counts l j q o h in
      let c = ap m.counts p.0 in let p1 = p.1 in
      absurd (omega (arith, t, c, p1))) (λ q o d.
      let p = down_parts r (suc (m.counts r)) q o d in let t = ap (put r (suc (m.counts r)) m.counts) p.0 in
      let c = count_new m r in let p1 = p.1 in
      omega (arith, t, c, p1)) (λ q d. absurd (grind arith)) (λ y. tt) may (counted_keeps m r g)

  noting_keeps : (m : Machine D) (k : ℕ) (kind : Kind) → (section R m k).end ≡ Stuck kind → MayRecord R k (m.workers k) → Invariant m → Invariant (noting m k kind)
  noting_keeps m k kind stuck may g =
      let note : Note = record { instance = k; attempt = attempt_of m k; kind = kind; position = length m.entries } in
      let n : Machine D = record m { notes = m.notes ++ (note ∷ []) } in
      record {
        accounts =
            accounts_added R Reaches m n k (Noted kind (length m.entries))
            (record { es = []; ns = note ∷ []; entries = append_none m.entries; notes = refl; full = λ _. refl }) g.accounts
            (length m.notes, nth_last m.notes note, (omega arith, stuck))
            (λ p e h. inl h)
            (λ j e h. go j e note refl (nth_end m.notes note j e h))
            (λ r o l j d. absurd (grind arith)) (λ q d. absurd (grind arith)) (λ i y h. note_later R Reaches m k i (length m.entries) kind y (omega arith) ((g.accounts.each k).told i y h)) g.accounts.joint.room may;
        holding = g.holding;
        busy = busy_put m k _ g.busy not_busy;
        counts = counts_added m k (Noted kind (length m.entries)) (λ r o d. absurd (grind arith)) g.counts;
        good = g.good;
      }
    where
      go : (j : ℕ) (e note : Note) → note ≡ record { instance = k; attempt = attempt_of m k; kind = kind; position = length m.entries } → (nth m.notes j ≡ Some e) ⊎ ((j ≡ length m.notes) × (note ≡ e))
          → (nth m.notes j ≡ Some e) ⊎ ((e.instance ≡ k) × (e.attempt ≡ suc (length (m.workers k).records)) × (Noted kind (length m.entries) ≡ Noted e.kind e.position) × (j ≡ length m.notes))
      go j e note is (inl h) = inl h
      go j e note is (inr h) = let q = sym h.1 ∙ is in inr (ap (λ n. n.instance) q, ap (λ n. n.attempt) q, ap (λ n. Noted n.kind n.position) (sym q), h.0)

  committing_keeps : Fits R Reaches Good → (m : Machine D) (k : ℕ) (b : Bool) (o : Outcome S) → nat_eq (length m.entries) R.steps ≡ b → (section R m k).end ≡ o → MayRecord R k (m.workers k) → Invariant m → Invariant (committing R m k b o)
  committing_keeps fits m k b (Stuck kind) full end may g = g
  committing_keeps fits m k b Nowhere full end may g = g
  committing_keeps fits m k true (Next t ps) full end may g =
      let e : length m.entries ≡ R.steps = (equal_or (length m.entries) R.steps true full).0 refl in
      tells_keeps m k (Full (length m.entries)) e (λ r o l j d. absurd (grind arith)) (λ r o d. absurd (grind arith)) (λ q d. full_is (length m.entries) q d) (λ y. tt) may g
  committing_keeps fits m k false (Next t ps) full end may g =
      let x : Entry D = record { instance = k; attempt = attempt_of m k; change = R.between k (last_state R m) t ps } in
      let d = (equal_or (length m.entries) R.steps false full).1 refl in
      let now : Good (last_state R m) = g.good (length m.entries) (omega arith) in
      let at_last : state_at R R.start (m.entries ++ (x ∷ [])) (length m.entries) ≡ last_state R m = state_below R R.start m.entries (x ∷ []) (length m.entries) (omega arith) in
      let at_new : state_at R R.start (m.entries ++ (x ∷ [])) (suc (length m.entries)) ≡ t = state_next R R.start m.entries x ∙ fits.patches k (attempt_of m k) (last_state R m) t ps now end in
      let print : R.printed x.change ≡ ps = fits.prints k (last_state R m) t ps in
      record {
        accounts =
            accounts_added R Reaches m (appended R m k t ps) k (Step (suc (length m.entries)))
            (record { es = x ∷ []; ns = []; entries = refl; notes = append_none m.notes; full = λ e. absurd (d e) }) g.accounts
            (length m.entries, x, refl, nth_last m.entries x, refl, refl, ap (λ s. (R.sect k (attempt_of m k) s).end) at_last ∙ end ∙ (λ i. Next (sym at_new i) (sym print i)))
            (λ p e h. go t ps p e x refl (nth_end m.entries x p e h))
            (λ j e h. inl h)
            (λ r o l j d. absurd (grind arith))
            (λ q d. absurd (grind arith))
            (λ i y h. step_later R Reaches m k i (length m.entries) y (omega arith) ((g.accounts.each k).told i y h))
            (let a = g.accounts.joint.room in let l = length-append m.entries (x ∷ []) in room (length m.entries) (length (m.entries ++ (x ∷ []))) a d l) may;
        holding = g.holding;
        busy = busy_put m k _ g.busy not_busy;
        counts = counts_added m k (Step (suc (length m.entries))) (λ r o d. absurd (grind arith)) g.counts;
        good = good_added m.entries x g.good (subst Good (sym at_new) (fits.kept k (attempt_of m k) (last_state R m) t ps now end));
      }
    where
      room : (a b : ℕ) → a ≤ R.steps → (a ≡ R.steps → ⊥) → b ≡ a + 1 → b ≤ R.steps
      room a b h d e = omega (arith, h, d, e)

      go : (t : S) (ps : List Data) (p : ℕ) (e x : Entry D) → x ≡ record { instance = k; attempt = attempt_of m k; change = R.between k (last_state R m) t ps } → (nth m.entries p ≡ Some e) ⊎ ((p ≡ length m.entries) × (x ≡ e))
          → (nth m.entries p ≡ Some e) ⊎ ((e.instance ≡ k) × (e.attempt ≡ suc (length (m.workers k).records)) × (Step (suc (length m.entries)) ≡ Step (suc p)))
      go t ps p e x is (inl h) = inl h
      go t ps p e x is (inr h) = let q = sym h.1 ∙ is in inr (ap (λ n. n.instance) q, ap (λ n. n.attempt) q, ap (λ n. Step (suc n)) (sym h.0))

  does_keeps : Fits R Reaches Good → (m : Machine D) (k : ℕ) (v : Option Event) → Means (Reaches k) (section R m k).end v → MayRecord R k (m.workers k) → Invariant m → Invariant (does R m k v)
  does_keeps fits m k None e may g = g
  does_keeps fits m k (Some (Take r)) e may g = taking_keeps m k r (m.holder r) refl e may g
  does_keeps fits m k (Some (Operate r)) e may g = goes_on_keeps m k may g
  does_keeps fits m k (Some (PreCommit r)) e may g = pre_committing_keeps m k r (R.fails r (suc (m.counts r))) refl may g
  does_keeps fits m k (Some Commit) e may g = committing_keeps fits m k (nat_eq (length m.entries) R.steps) (section R m k).end refl refl may g
  does_keeps fits m k (Some (Noting kind)) e may g = noting_keeps m k kind e may g

  -- an instance that hasn't ended and has no gives left may tell a further record
  opens : (m : Machine D) (k : ℕ) → k < R.instances → Invariant m → has_ended R m k ≡ false → (m.workers k).giving ≡ false → MayRecord R k (m.workers k)
  opens m k lt g e f = go (nat_eq (m.workers k).done 0) (m.workers k).giving refl f (R.at_done k (last_state R m)) (last_ends (m.workers k).records) refl (nat_eq (length (m.workers k).records) R.attempts) refl e
    where
      go : (a b : Bool) → nat_eq (m.workers k).done 0 ≡ a → b ≡ false → (c d : Bool) → last_ends (m.workers k).records ≡ d → (n : Bool) → nat_eq (length (m.workers k).records) R.attempts ≡ n
          → (if (if a then b else true) then false else if c then true else if d then true else n) ≡ false → MayRecord R k (m.workers k)
      go false b q r c d l n w h = g.busy k q
      go true true q r c d l n w h = absurd (grind (arith, r))
      go true false q r true d l n w h = absurd (grind (arith, h))
      go true false q r false true l n w h = absurd (grind (arith, h))
      go true false q r false false l true w h = absurd (grind (arith, h))
      go true false q r false false l false w h = (l, less (length (m.workers k).records) R.attempts (g.accounts.each k).bounded w, lt)

  -- a turn keeps the invariant
  pub step_keeps : Fits R Reaches Good → (m : Machine D) (k : ℕ) → Invariant m → Invariant (step R m k)
  step_keeps fits m k g = go (nat_lt k R.instances) (has_ended R m k) (m.workers k).giving refl refl refl
    where
      go : (n a b : Bool) → nat_lt k R.instances ≡ n → has_ended R m k ≡ a → (m.workers k).giving ≡ b
          → Invariant (if n then (if a then m else if b then gives m k (m.workers k).held else does R m k (nth (events (section R m k).trace (section R m k).end []) (m.workers k).done)) else m)
      go false a b l e f = g
      go true true b l e f = g
      go true false true l e f = gives_keeps m k (m.workers k).held g
      go true false false l e f = does_keeps fits m k _ (events_mean (Reaches k) (section R m k).trace (section R m k).end [] (m.workers k).done (fits.reaches k (attempt_of m k) (last_state R m) (g.good (length m.entries) (omega arith)))) (opens m k (below_instances k R.instances l) g e f) g

  -- a list of turns keeps the invariant
  pub turns_keep : Fits R Reaches Good → (turns : List ℕ) (m : Machine D) → Invariant m → Invariant (after_turns R m turns)
  turns_keep fits [] m g = g
  turns_keep fits (k ∷ ks) m g = turns_keep fits ks (step R m k) (step_keeps fits m k g)

  -- the invariant holds at the start
  pub opened_keeps : Fits R Reaches Good → Invariant opened
  opened_keeps fits = record {
    accounts = opened_accounts R Reaches;
    holding = λ r h e. absurd (grind arith);
    busy = λ k e. absurd (grind (arith, e));
    counts = λ k i r o h. absurd (grind arith);
    good = λ n h. start n;
  }
    where
      start : (n : ℕ) → Good (state_at R R.start [] n)
      start zero = fits.start
      start (suc n) = fits.start

  -- a list of turns from the start keeps it
  pub after_turns_keep : Fits R Reaches Good → (turns : List ℕ) → Invariant (after_turns R opened turns)
  after_turns_keep fits turns = turns_keep fits turns opened (opened_keeps fits)

  -- the law: for every list of turns each entry is what its section does, and the accounts hold
  pub run_turns_law : Fits R Reaches Good → (turns : List ℕ) → StepsAreSections R (finished_of (run_turns R turns)) × AccountsOf R Reaches (run_turns R turns)
  run_turns_law fits turns =
      let g = after_turns_keep fits turns in
      (steps_are_sections R Reaches (after_turns R opened turns) g.accounts, stopped_accounts R Reaches (after_turns R opened turns) g.accounts)

  -- each state along a run is good
  pub run_turns_good : Fits R Reaches Good → (turns : List ℕ) → AllGood (run_turns R turns).entries
  run_turns_good fits turns = (after_turns_keep fits turns).good
