-- A refused pre-commit is of a resource that its instance reaches: an invariant of the core machine, and a part of what the records of a run say.
use Rattle.std.proofs.Common.{◌≡◌, ◌≤◌, ℕ, zero, suc, Bool, true, false, List, [], ◌∷◌, ◌++◌, length, Option, Some, None, refl, sym, ap, ◌∙◌, subst, arith, ◌⊎◌, inl, inr}
use Rattle.std.specs.Prelude.{if◌then◌else◌, nat_eq, nat_lt}
use Rattle.pgo_model.specs.Accounts.{AllIn, Fits, JointAccounts, at}
use Rattle.pgo_model.specs.Core.{Core, Settings, rules_of}
use Rattle.pgo_model.specs.Core as core
use Rattle.pgo_model.specs.Log.{Effect}
use Rattle.pgo_model.specs.Machine.{Rules, Record, Step, Noted, Held, Down, Full, Worker, Machine, Finished, Event, Take, Operate, PreCommit, Commit, Noting, among, pre_commits, last_events, events, nth, put, last_state, attempt_of, section, has_ended, finished_of, tells, takes, taking, counted, pre_committing, appended, committing, does, gives, step, opened, after_turns}
use Rattle.pgo_model.specs.MachineAccounts.{equal_or, records_were}
use Rattle.pgo_model.specs.MachineLaw.{Invariant, opened_keeps, step_keeps}
use Rattle.pgo_model.specs.Outcome.{Outcome, Next, Stuck, Nowhere}
use Rattle.pgo_syntax.specs.declared.bound.Bound.{Bound}
use Rattle.pgo_bound.specs.Among.{all_at, among_nth}
use Rattle.pgo_meaning.specs.System.{system_of}
use Rattle.pgo_systems.specs.Failures.{DownsReached}
use Rattle.pgo_systems.specs.Premises.{IsGoodState}

-- ---- events

-- a pre-commit is of a resource that meets P
abbrev IsOf : (ℕ → Type 0) → Option Event → Type 0
IsOf P None = Unit {0}
IsOf P (Some (Take r)) = Unit {0}
IsOf P (Some (Operate r)) = Unit {0}
IsOf P (Some (PreCommit r)) = P r
IsOf P (Some Commit) = Unit {0}
IsOf P (Some (Noting kind)) = Unit {0}

module _ (P : ℕ → Type 0) where
  one_more : (rs : List ℕ) (r : ℕ) → AllIn P rs → P r → AllIn P (rs ++ (r ∷ []))
  one_more [] r h p = (p, tt)
  one_more (q ∷ rs) r h p = (h.0, one_more rs r h.1 p)

  pre_commits_of : (rs : List ℕ) (j : ℕ) → AllIn P rs → IsOf P (nth (pre_commits rs) j)
  pre_commits_of [] zero h = tt
  pre_commits_of [] (suc j) h = tt
  pre_commits_of (r ∷ rs) zero h = h.0
  pre_commits_of (r ∷ rs) (suc j) h = pre_commits_of rs j h.1

module _ {S : Type 0} (P : ℕ → Type 0) where
  last_of : (end : Outcome S) (taken : List ℕ) (j : ℕ) → AllIn P taken → IsOf P (nth (last_events end taken) j)
  last_of (Next t ps) taken j h = pre_commits_of P taken j h
  last_of (Stuck kind) taken zero h = tt
  last_of (Stuck kind) taken (suc j) h = tt
  last_of Nowhere taken j h = tt

  -- each pre-commit of an attempt is of a resource of its trace
  events_of : (trace : List ℕ) (end : Outcome S) (taken : List ℕ) (j : ℕ) → AllIn P trace → AllIn P taken → IsOf P (nth (events trace end taken) j)
  events_of [] end taken j h t = last_of end taken j t
  events_of (r ∷ trace) end taken j h t = go (among r taken) j (λ i. events_of trace end taken i h.1 t) (λ i. events_of trace end (taken ++ (r ∷ [])) i h.1 (one_more P taken r t h.0))
    where
      go : (b : Bool) (j : ℕ) → ((i : ℕ) → IsOf P (nth (events trace end taken) i)) → ((i : ℕ) → IsOf P (nth (events trace end (taken ++ (r ∷ []))) i))
          → IsOf P (nth (if b then Operate r ∷ events trace end taken else Take r ∷ (Operate r ∷ events trace end (taken ++ (r ∷ [])))) j)
      go true zero f g = tt
      go true (suc j) f g = f j
      go false zero f g = tt
      go false (suc zero) f g = tt
      go false (suc (suc j)) f g = g j

-- ---- turns

module _ {S D : Type 0} (R : Rules S D) (Reaches : ℕ → ℕ → Type 0) where
  -- each refused pre-commit is of a resource that its instance reaches
  abbrev AllReached : Machine D → Type 0
  AllReached m = (k i r o : ℕ) → nth (m.workers k).records i ≡ Some (Down r o) → Reaches k r

  -- one worker changes, and its records don't
  stays : (m : Machine D) (k : ℕ) (p : Worker) → p.records ≡ (m.workers k).records → AllReached m → (j i r o : ℕ) → nth (put k p m.workers j).records i ≡ Some (Down r o) → Reaches j r
  stays m k p same all j i r o h = go (nat_eq j k) refl h
    where
      go : (b : Bool) → nat_eq j k ≡ b → nth (if b then p else m.workers j).records i ≡ Some (Down r o) → Reaches j r
      go true e h = subst (λ n. Reaches n r) (sym ((equal_or j k true e).0 refl)) (all k i r o (ap (λ l. nth l i) (sym same) ∙ h))
      go false e h = all j i r o h

  -- a further record
  told : (m : Machine D) (k : ℕ) (x : Record) → ((r o : ℕ) → x ≡ Down r o → Reaches k r) → AllReached m → AllReached (tells m k x)
  told m k x new all j i r o h = go (records_were m k x j i (Down r o) h)
    where
      go : (nth (m.workers j).records i ≡ Some (Down r o)) ⊎ ((j ≡ k) × (i ≡ length (m.workers k).records) × (x ≡ Down r o)) → Reaches j r
      go (inl h) = all j i r o h
      go (inr h) = subst (λ n. Reaches n r) (sym h.0) (new r o h.2)

  taking_reached : (m : Machine D) (k r : ℕ) (o : Option ℕ) → AllReached m → AllReached (taking m k r o)
  taking_reached m k r None all = stays m k _ refl all
  taking_reached m k r (Some h) all = go (nat_eq h k)
    where
      go : (b : Bool) → AllReached (if b then takes m k r else tells m k (Held r h))
      go true = stays m k _ refl all
      go false = told m k (Held r h) (λ r o d. absurd (grind arith)) all

  same_resource : (r o r' o' : ℕ) → Down r o ≡ Down r' o' → r ≡ r'
  same_resource r o r' o' h = grind arith

  pre_committing_reached : (m : Machine D) (k r : ℕ) (b : Bool) → Reaches k r → AllReached m → AllReached (pre_committing m k r b)
  pre_committing_reached m k r true reach all = told (counted m r) k (Down r (suc (m.counts r))) (λ q o d. subst (Reaches k) (same_resource r (suc (m.counts r)) q o d) reach) all
  pre_committing_reached m k r false reach all = stays (counted m r) k _ refl all

  gives_reached : (m : Machine D) (k : ℕ) (held : List ℕ) → AllReached m → AllReached (gives m k held)
  gives_reached m k [] all = all
  gives_reached m k (r ∷ rs) all = stays m k _ refl all

  committing_reached : (m : Machine D) (k : ℕ) (b : Bool) (o : Outcome S) → AllReached m → AllReached (committing R m k b o)
  committing_reached m k b (Stuck kind) all = all
  committing_reached m k b Nowhere all = all
  committing_reached m k true (Next t ps) all = told m k (Full (length m.entries)) (λ r o d. absurd (grind arith)) all
  committing_reached m k false (Next t ps) all = told (appended R m k t ps) k (Step (suc (length m.entries))) (λ r o d. absurd (grind arith)) all

  does_reached : (m : Machine D) (k : ℕ) (v : Option Event) → IsOf (Reaches k) v → AllReached m → AllReached (does R m k v)
  does_reached m k None e all = all
  does_reached m k (Some (Take r)) e all = taking_reached m k r (m.holder r) all
  does_reached m k (Some (Operate r)) e all = stays m k _ refl all
  does_reached m k (Some (PreCommit r)) e all = pre_committing_reached m k r (R.fails r (suc (m.counts r))) e all
  does_reached m k (Some Commit) e all = committing_reached m k (nat_eq (length m.entries) R.steps) (section R m k).end all
  does_reached m k (Some (Noting kind)) e all = told m k (Noted kind (length m.entries)) (λ r o d. absurd (grind arith)) all

  module _ (Good : S → Type 0) (fits : Fits R Reaches Good) where
    step_reached : (m : Machine D) (k : ℕ) → Invariant R Reaches Good m → AllReached m → AllReached (step R m k)
    step_reached m k g all = go (nat_lt k R.instances) (has_ended R m k) (m.workers k).giving
      where
        go : (n a b : Bool) → AllReached (if n then (if a then m else if b then gives m k (m.workers k).held else does R m k (nth (events (section R m k).trace (section R m k).end []) (m.workers k).done)) else m)
        go false a b = all
        go true true b = all
        go true false true = gives_reached m k (m.workers k).held all
        go true false false =
            does_reached m k _ (events_of (Reaches k) (section R m k).trace (section R m k).end [] (m.workers k).done (fits.reaches k (attempt_of m k) (last_state R m) (g.good (length m.entries) (omega arith))) tt) all

    turns_reached : (turns : List ℕ) (m : Machine D) → Invariant R Reaches Good m → AllReached m → AllReached (after_turns R m turns)
    turns_reached [] m g all = all
    turns_reached (k ∷ ks) m g all = turns_reached ks (step R m k) (step_keeps R Reaches Good fits m k g) (step_reached m k g all)

    -- after a list of turns from the start
    pub after_turns_reached : (turns : List ℕ) → AllReached (after_turns R opened turns)
    after_turns_reached turns = turns_reached turns opened (opened_keeps R Reaches Good fits) (λ k i r o h. absurd (grind arith))

-- ---- runs

module _ (b : Bound) (settings : Settings) (fits : Fits (rules_of (system_of b) settings) (core.Reaches (system_of b)) (IsGoodState b)) where
  -- what the machine leaves
  pub machine_reached : (turns : List ℕ) → DownsReached (system_of b) (finished_of (Core (system_of b) settings turns))
  machine_reached turns = after_turns_reached (rules_of (system_of b) settings) (core.Reaches (system_of b)) (IsGoodState b) fits turns

  -- what any run leaves in which each refusal has its cause
  pub contended_reached : (f : Finished Effect) → JointAccounts (rules_of (system_of b) settings) true f → ((n : ℕ) → n ≤ length f.entries → IsGoodState b (at (rules_of (system_of b) settings) f n)) → DownsReached (system_of b) f
  contended_reached f joint good k i r o h =
      let c = (joint.contended refl).1 k i r o h in
      let reached = fits.reaches k (suc i) (at (rules_of (system_of b) settings) f c.0) (good c.0 c.3) in
      all_at (core.Reaches (system_of b) k) r _ reached (among_nth r _ c.5.0 c.5.1)
