-- How each entry of a run was made: from the end of its section, between the states before and after it.
use Rattle.std.proofs.Common.{◌≡◌, ℕ, suc, Bool, true, false, List, [], ◌∷◌, ◌++◌, length, Option, Some, None, refl, sym, ap, ◌∙◌, subst, arith, ◌⊎◌, inl, inr}
use Rattle.std.specs.Prelude.{if◌then◌else◌, nat_eq, nat_lt}
use Rattle.pgo_base.specs.Data.{Data}
use Rattle.pgo_model.specs.Outcome.{Outcome, Next, Stuck, Nowhere}
use Rattle.pgo_model.specs.Machine.{Rules, Entry, Step, Held, Machine, Event, Take, Operate, PreCommit, Commit, Noting, events, finished_of, nth, state_at, last_state, attempt_of, section, has_ended, tells, takes, taking, pre_committing, committing, does, gives, step, opened, after_turns, run_turns}
use Rattle.pgo_model.specs.Accounts.{StepsAreSections, EntriesMade, Fits}
use Rattle.pgo_model.specs.MachineLists.{nth_below, nth_end, state_below, state_next}
use Rattle.pgo_model.specs.MachineAccounts.{AccountsOf, steps_are_sections}
use Rattle.pgo_model.specs.MachineLaw.{Invariant, step_keeps, opened_keeps, after_turns_keep, run_turns_law}

module _ {S D : Type 0} (R : Rules S D) where
  -- entry p was made by its instance between the states before and after it
  abbrev pub IsMade : List (Entry D) → ℕ → Entry D → Type 0
  IsMade l p e = (ps : List Data) × (e.change ≡ R.between e.instance (state_at R R.start l p) (state_at R R.start l (suc p)) ps)

  -- each entry of the journal was made so
  abbrev pub AllMade : List (Entry D) → Type 0
  AllMade l = (p : ℕ) (e : Entry D) → nth l p ≡ Some e → IsMade l p e

  -- the journal l of m with an entry of the end of k's section
  pub record Appended (m : Machine D) (k : ℕ) (l : List (Entry D)) : Type 0 where
    pub end : S
    pub prints : List Data
    pub ends : (section R m k).end ≡ Next end prints
    pub entries : l ≡ m.entries ++ (record { instance = k; attempt = attempt_of m k; change = R.between k (last_state R m) end prints } ∷ [])

  taking_entries : (m : Machine D) (k r : ℕ) (o : Option ℕ) → (taking m k r o).entries ≡ m.entries
  taking_entries m k r None = refl
  taking_entries m k r (Some h) = go (nat_eq h k)
    where
      go : (b : Bool) → (if b then takes m k r else tells m k (Held r h)).entries ≡ m.entries
      go true = refl
      go false = refl

  pre_committing_entries : (m : Machine D) (k r : ℕ) (b : Bool) → (pre_committing m k r b).entries ≡ m.entries
  pre_committing_entries m k r true = refl
  pre_committing_entries m k r false = refl

  gives_entries : (m : Machine D) (k : ℕ) (held : List ℕ) → (gives m k held).entries ≡ m.entries
  gives_entries m k [] = refl
  gives_entries m k (r ∷ rs) = refl

  committing_entries : (m : Machine D) (k : ℕ) (b : Bool) (o : Outcome S) → (section R m k).end ≡ o → ((committing R m k b o).entries ≡ m.entries) ⊎ Appended m k (committing R m k b o).entries
  committing_entries m k b (Stuck kind) h = inl refl
  committing_entries m k b Nowhere h = inl refl
  committing_entries m k true (Next t ps) h = inl refl
  committing_entries m k false (Next t ps) h = inr (record { end = t; prints = ps; ends = h; entries = refl })

  does_entries : (m : Machine D) (k : ℕ) (v : Option Event) → ((does R m k v).entries ≡ m.entries) ⊎ Appended m k (does R m k v).entries
  does_entries m k None = inl refl
  does_entries m k (Some (Take r)) = inl (taking_entries m k r (m.holder r))
  does_entries m k (Some (Operate r)) = inl refl
  does_entries m k (Some (PreCommit r)) = inl (pre_committing_entries m k r (R.fails r (suc (m.counts r))))
  does_entries m k (Some Commit) = committing_entries m k (nat_eq (length m.entries) R.steps) (section R m k).end refl
  does_entries m k (Some (Noting kind)) = inl refl

  -- a turn leaves the journal as it is, or adds an entry of the end of the instance's section
  pub step_entries : (m : Machine D) (k : ℕ) → ((step R m k).entries ≡ m.entries) ⊎ Appended m k (step R m k).entries
  step_entries m k = go (nat_lt k R.instances) (has_ended R m k) (m.workers k).giving
    where
      go : (n a b : Bool) → ((if n then (if a then m else if b then gives m k (m.workers k).held else does R m k (nth (events (section R m k).trace (section R m k).end []) (m.workers k).done)) else m).entries ≡ m.entries)
          ⊎ Appended m k (if n then (if a then m else if b then gives m k (m.workers k).held else does R m k (nth (events (section R m k).trace (section R m k).end []) (m.workers k).done)) else m).entries
      go false a b = inl refl
      go true true b = inl refl
      go true false true = inl (gives_entries m k (m.workers k).held)
      go true false false = does_entries m k (nth (events (section R m k).trace (section R m k).end []) (m.workers k).done)

  -- a further entry that was made leaves all made
  made_added : (l : List (Entry D)) (x : Entry D) (t : S) (ps : List Data) → x.change ≡ R.between x.instance (state_at R R.start l (length l)) t ps
      → R.patched (state_at R R.start l (length l)) x.change ≡ t → AllMade l → AllMade (l ++ (x ∷ []))
  made_added l x t ps made patch all p e h = go (nth_end l x p e h)
    where
      go : (nth l p ≡ Some e) ⊎ ((p ≡ length l) × (x ≡ e)) → IsMade (l ++ (x ∷ [])) p e
      go (inl h) =
          let q = all p e h in let b = nth_below l p e h in
          let before = state_below R R.start l (x ∷ []) p (omega (arith, b)) in
          let after = state_below R R.start l (x ∷ []) (suc p) (omega (arith, b)) in
          (q.0, q.1 ∙ (λ i. R.between e.instance (sym before i) (sym after i) q.0))
      go (inr h) =
          let before : state_at R R.start (l ++ (x ∷ [])) (length l) ≡ state_at R R.start l (length l) = state_below R R.start l (x ∷ []) (length l) (omega arith) in
          let after : state_at R R.start (l ++ (x ∷ [])) (suc (length l)) ≡ t = state_next R R.start l x ∙ patch in
          let there : IsMade (l ++ (x ∷ [])) (length l) x = (ps, made ∙ (λ i. R.between x.instance (sym before i) (sym after i) ps)) in
          subst (λ e. IsMade (l ++ (x ∷ [])) p e) h.1 (subst (λ p. IsMade (l ++ (x ∷ [])) p x) (sym h.0) there)

  module _ (Reaches : (k r : ℕ) → Type 0) (Good : S → Type 0) where
    -- a turn leaves all entries made
    pub step_made : Fits R Reaches Good → (m : Machine D) (k : ℕ) → Invariant R Reaches Good m → AllMade m.entries → AllMade (step R m k).entries
    step_made fits m k g all = go (step_entries m k)
      where
        go : ((step R m k).entries ≡ m.entries) ⊎ Appended m k (step R m k).entries → AllMade (step R m k).entries
        go (inl e) = subst AllMade (sym e) all
        go (inr a) =
            subst AllMade (sym a.entries)
            (made_added m.entries (record { instance = k; attempt = attempt_of m k; change = R.between k (last_state R m) a.end a.prints }) a.end a.prints refl
            (fits.patches k (attempt_of m k) (last_state R m) a.end a.prints (g.good (length m.entries) (omega arith)) a.ends) all)

    -- a list of turns leaves all entries made
    pub turns_made : Fits R Reaches Good → (turns : List ℕ) (m : Machine D) → Invariant R Reaches Good m → AllMade m.entries → AllMade (after_turns R m turns).entries
    turns_made fits [] m g all = all
    turns_made fits (k ∷ ks) m g all = turns_made fits ks (step R m k) (step_keeps R Reaches Good fits m k g) (step_made fits m k g all)

    entry_made : Fits R Reaches Good → (m : Machine D) → StepsAreSections R (finished_of m) → AccountsOf R Reaches m → AllMade m.entries → EntriesMade R (finished_of m)
    entry_made fits m steps a all p e h =
        let q = all p e h in let n = (a.each e.instance).entries p e h refl in
        let print : R.printed e.change ≡ q.0 = ap R.printed q.1 ∙ fits.prints e.instance (state_at R R.start m.entries p) (state_at R R.start m.entries (suc p)) q.0 in
        record {
          instance = (a.each e.instance).number n.0 (Step (suc p)) n.2;
          prints = q.0;
          change = q.1;
          outcome = steps p e h ∙ ap (λ ps. Next (state_at R R.start m.entries (suc p)) ps) print;
        }

    opened_made : Fits R Reaches Good → (turns : List ℕ) → AllMade (after_turns R opened turns).entries
    opened_made fits turns = turns_made fits turns opened (opened_keeps R Reaches Good fits) (λ p e h. absurd (grind arith))

    -- each entry after a list of turns
    pub after_turns_entries : Fits R Reaches Good → (turns : List ℕ) → EntriesMade R (finished_of (after_turns R opened turns))
    after_turns_entries fits turns =
        let g = after_turns_keep R Reaches Good fits turns in
        entry_made fits (after_turns R opened turns) (steps_are_sections R Reaches (after_turns R opened turns) g.accounts) g.accounts (opened_made fits turns)

    -- each entry of a run
    pub run_turns_entries : Fits R Reaches Good → (turns : List ℕ) → EntriesMade R (finished_of (run_turns R turns))
    run_turns_entries fits turns =
        let g = run_turns_law R Reaches Good fits turns in
        entry_made fits (run_turns R turns) g.0 g.1 (opened_made fits turns)
