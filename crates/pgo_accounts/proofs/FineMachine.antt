-- An instance of the machine whose last record ends it, or whose attempt is under way, is not at Done.
use Rattle.std.proofs.Common.{◌≡◌, ℕ, suc, Bool, true, false, List, [], ◌∷◌, ◌++◌, length, Option, Some, None, refl, sym, ap, ◌∙◌, subst, arith, length-append}
use Rattle.std.specs.Prelude.{if◌then◌else◌, nat_eq, nat_lt}
use Rattle.pgo_base.specs.Data.{Data}
use Rattle.pgo_model.specs.Outcome.{Outcome, Next, Stuck, Nowhere}
use Rattle.pgo_model.specs.Machine.{Rules, Entry, Record, Step, Held, Worker, Machine, Event, Take, Operate, PreCommit, Commit, Noting, events, last_ends, nth, put, state_at, last_state, attempt_of, section, has_ended, with_record, tells, takes, taking, pre_committing, committing, does, gives, step, opened, after_turns, run_turns}
use Rattle.pgo_model.specs.Accounts.{Fits}
use Rattle.pgo_model.specs.MachineLists.{state_next}
use Rattle.pgo_model.specs.MachineAccounts.{equal_or}
use Rattle.pgo_model.specs.MachineLaw.{Invariant, step_keeps, opened_keeps}
use Rattle.pgo_accounts.proofs.FineStatus.{goes_past}

-- the last record is the one that was added
last_added : (l : List Record) (x : Record) → last_ends (l ++ (x ∷ [])) ≡ last_ends (x ∷ [])
last_added [] x = refl
last_added (y ∷ []) x = (goes_past y x []).1
last_added (y ∷ (z ∷ l)) x = (goes_past y z (l ++ (x ∷ []))).1 ∙ last_added (z ∷ l) x

module _ {S D : Type 0} (R : Rules S D) where
  -- a section of one instance leaves the others where they aren't at Done
  abbrev pub LeavesOthers : (S → Type 0) → Type 0
  LeavesOthers Good =
      (k a : ℕ) (s t : S) (ps : List Data) → Good s → (R.sect k a s).end ≡ Next t ps → (j : ℕ) → (j ≡ k → ⊥) → R.at_done j s ≡ false → R.at_done j t ≡ false

  -- instance k with these records is not at Done, if its last record ends it or its attempt is under way
  record Undone (k : ℕ) (p : Worker) (s : S) : Type 0 where
    ended : last_ends p.records ≡ true → R.at_done k s ≡ false
    begun : nat_eq p.done 0 ≡ false → R.at_done k s ≡ false

  abbrev AllUndone : Machine D → Type 0
  AllUndone m = (k : ℕ) → Undone k (m.workers k) (last_state R m)

  somewhere : (k : ℕ) (p : Worker) (s : S) → R.at_done k s ≡ false → Undone k p s
  somewhere k p s h = record { ended = λ _. h; begun = λ _. h }

  -- one worker changes
  undone_put : (m : Machine D) (k : ℕ) (p : Worker) (s : S) → Undone k p s → ((j : ℕ) → (j ≡ k → ⊥) → Undone j (m.workers j) s) → (j : ℕ) → Undone j (put k p m.workers j) s
  undone_put m k p s h others j = go (nat_eq j k) refl
    where
      go : (b : Bool) → nat_eq j k ≡ b → Undone j (if b then p else m.workers j) s
      go true e = subst (λ j. Undone j p s) (sym ((equal_or j k true e).0 refl)) h
      go false e = others j ((equal_or j k false e).1 refl)

  module _ (Reaches : ℕ → ℕ → Type 0) (Good : S → Type 0) (fits : Fits R Reaches Good) (leaves : LeavesOthers Good) where
    module _ (m : Machine D) (k : ℕ) (all : AllUndone m) where
      gives_undone : (held : List ℕ) → AllUndone (gives m k held)
      gives_undone [] = all
      gives_undone (r ∷ rs) = undone_put m k _ (last_state R m) (record { ended = (all k).ended; begun = (all k).begun }) (λ j ne. all j)

      -- an instance that has not ended and has no gives left is not at Done
      opens : has_ended R m k ≡ false → (m.workers k).giving ≡ false → R.at_done k (last_state R m) ≡ false
      opens e f = go (nat_eq (m.workers k).done 0) (m.workers k).giving refl f (R.at_done k (last_state R m)) refl e
        where
          go : (a b : Bool) → nat_eq (m.workers k).done 0 ≡ a → b ≡ false → (c : Bool) → R.at_done k (last_state R m) ≡ c
              → (if (if a then b else true) then false else if c then true else if last_ends (m.workers k).records then true else nat_eq (length (m.workers k).records) R.attempts) ≡ false
              → R.at_done k (last_state R m) ≡ false
          go false b q r c d h = (all k).begun q
          go true true q r c d h = absurd (grind (arith, r))
          go true false q r true d h = absurd (grind (arith, h))
          go true false q r false d h = d

      module _ (here : R.at_done k (last_state R m) ≡ false) where
        worker_undone : (p : Worker) (j : ℕ) → Undone j (put k p m.workers j) (last_state R m)
        worker_undone p = undone_put m k p (last_state R m) (somewhere k p (last_state R m) here) (λ j ne. all j)

        taking_undone : (r : ℕ) (o : Option ℕ) → AllUndone (taking m k r o)
        taking_undone r None = worker_undone _
        taking_undone r (Some h) = go (nat_eq h k)
          where
            go : (b : Bool) → AllUndone (if b then takes m k r else tells m k (Held r h))
            go true = worker_undone _
            go false = worker_undone _

        pre_committing_undone : (r : ℕ) (b : Bool) → AllUndone (pre_committing m k r b)
        pre_committing_undone r true = worker_undone _
        pre_committing_undone r false = worker_undone _

        committing_undone : Good (last_state R m) → (b : Bool) (o : Outcome S) → (section R m k).end ≡ o → AllUndone (committing R m k b o)
        committing_undone good b (Stuck kind) e = all
        committing_undone good b Nowhere e = all
        committing_undone good true (Next t ps) e = worker_undone _
        committing_undone good false (Next t ps) e =
            let x : Entry D = record { instance = k; attempt = attempt_of m k; change = R.between k (last_state R m) t ps } in
            let len = length-append m.entries (x ∷ []) in
            let more : length (m.entries ++ (x ∷ [])) ≡ suc (length m.entries) = omega (arith, len) in
            let at_new : state_at R R.start (m.entries ++ (x ∷ [])) (length (m.entries ++ (x ∷ []))) ≡ t =
            ap (state_at R R.start (m.entries ++ (x ∷ []))) more ∙ state_next R R.start m.entries x ∙ fits.patches k (attempt_of m k) (last_state R m) t ps good e in
            let there : (j : ℕ) → Undone j (put k (with_record (Step (suc (length m.entries))) (m.workers k)) m.workers j) t =
            undone_put m k (with_record (Step (suc (length m.entries))) (m.workers k)) t
            (record {
              ended = λ h. absurd (let z : false ≡ true = sym (last_added (m.workers k).records (Step (suc (length m.entries)))) ∙ h in grind (arith, z));
              begun = λ h. absurd (grind (arith, h));
            })
            (λ j ne. record {
              ended = λ h. leaves k (attempt_of m k) (last_state R m) t ps good e j ne ((all j).ended h);
              begun = λ h. leaves k (attempt_of m k) (last_state R m) t ps good e j ne ((all j).begun h);
            }) in
            λ j. subst (Undone j (put k (with_record (Step (suc (length m.entries))) (m.workers k)) m.workers j)) (sym at_new) (there j)

        does_undone : Good (last_state R m) → (v : Option Event) → AllUndone (does R m k v)
        does_undone good None = all
        does_undone good (Some (Take r)) = taking_undone r (m.holder r)
        does_undone good (Some (Operate r)) = worker_undone _
        does_undone good (Some (PreCommit r)) = pre_committing_undone r (R.fails r (suc (m.counts r)))
        does_undone good (Some Commit) = committing_undone good (nat_eq (length m.entries) R.steps) (section R m k).end refl
        does_undone good (Some (Noting kind)) = worker_undone _

      step_undone : Good (last_state R m) → AllUndone (step R m k)
      step_undone good = go (nat_lt k R.instances) (has_ended R m k) (m.workers k).giving refl refl
        where
          go : (n a b : Bool) → has_ended R m k ≡ a → (m.workers k).giving ≡ b
              → AllUndone (if n then (if a then m else if b then gives m k (m.workers k).held else does R m k (nth (events (section R m k).trace (section R m k).end []) (m.workers k).done)) else m)
          go false a b e f = all
          go true true b e f = all
          go true false true e f = gives_undone (m.workers k).held
          go true false false e f = does_undone (opens e f) good _

    turns_undone : (turns : List ℕ) (m : Machine D) → Invariant R Reaches Good m → AllUndone m → AllUndone (after_turns R m turns)
    turns_undone [] m g all = all
    turns_undone (k ∷ ks) m g all =
        turns_undone ks (step R m k) (step_keeps R Reaches Good fits m k g) (step_undone m k all (g.good (length m.entries) (omega arith)))

    -- after a list of turns no instance whose last record ends it is at Done
    pub ended_undone : (turns : List ℕ) (k : ℕ) → last_ends ((run_turns R turns).workers k).records ≡ true → R.at_done k (last_state R (run_turns R turns)) ≡ false
    ended_undone turns k =
        (turns_undone turns opened (opened_keeps R Reaches Good fits) (λ j. record { ended = λ h. absurd (grind (arith, h)); begun = λ h. absurd (grind (arith, h)) }) k).ended
