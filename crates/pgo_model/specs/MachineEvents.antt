-- What the events of an attempt say of its section.
use Rattle.std.proofs.Common.{◌≡◌, ℕ, zero, suc, Bool, true, false, List, [], ◌∷◌, ◌++◌, Option, Some, None, refl}
use Rattle.std.specs.Prelude.{if◌then◌else◌}
use Rattle.pgo_model.specs.Outcome.{Outcome, Next, Stuck, Nowhere}
use Rattle.pgo_model.specs.Machine.{Event, Take, Operate, PreCommit, Commit, Noting, among, pre_commits, last_events, events, nth}
use Rattle.pgo_model.specs.Accounts.{AllIn}

-- what an event of an attempt says of its section, whose resources meet P
abbrev pub Means : {S : Type 0} → (ℕ → Type 0) → Outcome S → Option Event → Type 0
Means P end None = Unit {0}
Means P end (Some (Take r)) = P r
Means P end (Some (Operate r)) = Unit {0}
Means P end (Some (PreCommit r)) = Unit {0}
Means P end (Some Commit) = Unit {0}
Means P end (Some (Noting kind)) = end ≡ Stuck kind

module _ {S : Type 0} (P : ℕ → Type 0) where
  pre_commits_mean : (end : Outcome S) (rs : List ℕ) (j : ℕ) → Means P end (nth (pre_commits rs) j)
  pre_commits_mean end [] zero = tt
  pre_commits_mean end [] (suc j) = tt
  pre_commits_mean end (r ∷ rs) zero = tt
  pre_commits_mean end (r ∷ rs) (suc j) = pre_commits_mean end rs j

  last_mean : (end : Outcome S) (taken : List ℕ) (j : ℕ) → Means P end (nth (last_events end taken) j)
  last_mean (Next t ps) taken j = pre_commits_mean (Next t ps) taken j
  last_mean (Stuck kind) taken zero = refl
  last_mean (Stuck kind) taken (suc j) = tt
  last_mean Nowhere taken j = tt

  -- each event of an attempt means what it says
  pub events_mean : (trace : List ℕ) (end : Outcome S) (taken : List ℕ) (j : ℕ) → AllIn P trace → Means P end (nth (events trace end taken) j)
  events_mean [] end taken j h = last_mean end taken j
  events_mean (r ∷ trace) end taken j h = go (among r taken) j (λ i. events_mean trace end taken i h.1) (λ i. events_mean trace end (taken ++ (r ∷ [])) i h.1)
    where
      go : (b : Bool) (j : ℕ) → ((i : ℕ) → Means P end (nth (events trace end taken) i)) → ((i : ℕ) → Means P end (nth (events trace end (taken ++ (r ∷ []))) i))
          → Means P end (nth (if b then Operate r ∷ events trace end taken else Take r ∷ (Operate r ∷ events trace end (taken ++ (r ∷ [])))) j)
      go true zero f g = tt
      go true (suc j) f g = f j
      go false zero f g = h.0
      go false (suc zero) f g = tt
      go false (suc (suc j)) f g = g j
