-- The core of several instances: what it stands on, and where it stands in the machine.
use Rattle.std.specs.Prelude.{◌≡◌, ◌≤◌, ◌<◌, ◌⊎◌, ℕ, suc, Bool, true, false, List, [], ◌∷◌, length, map, Option, Some, None, nat_lt, nat_le, ◌&&◌, option_map, Vec, vec_capacity, IsSome}
use Rattle.std.proofs.Math.ListN.{set}
use Rattle.pgo_model.specs.Core.{Settings, Reaches, End, is_listed, rules_of, end_of}
use Rattle.pgo_model.specs.Log.{Effect}
use Rattle.pgo_model.specs.Machine.{Machine, Record, Step, Noted, Finished, nth, is_empty, last_state, opened, after_turns, has_ended, finished_of}
use Rattle.pgo_model.specs.System.{System, Member}
use Rattle.pgo_journal.specs.declared.finished.Account.{Account}
use Rattle.pgo_syntax.specs.ManyLeaves.{results_in, all_tell_many}
use Rattle.pgo_syntax.specs.RecordView.{kind_view, refusal_view, record_view, result_view, settings_view}
use Rattle.pgo_syntax.specs.declared.records.End as declared
use Rattle.pgo_syntax.specs.declared.records.End.TheVariants as ends
use Rattle.pgo_workers.specs.CoreStands.{Differs}
use Rattle.pgo_workers.specs.CoreTurns.{IsCore}
use Rattle.pgo_workers.specs.View.{View}
use Rattle.pgo_workers.specs.Walk.{Walk}
use Rattle.pgo_workers.specs.Worker as spec
use Rattle.pgo_workers.specs.Worlds.{layout_of, value_in, world_of}
use Rattle.pgo_section.specs.Programs.{Trees, IsGood, RunsSystem, program_of}
use Rattle.pgo_section.specs.Sight.{see, ended}
use Rattle.pgo_section.specs.Sight as sight
use Rattle.pgo_section.specs.Turns.{Met, Same, Keeps, TurnedBy, IsFresh}
use Rattle.pgo_section.specs.declared.worker.Turn.{Turn}
use Rattle.pgo_section.specs.declared.worker.Turn.TheVariants as turns
use Rattle.pgo_section.specs.declared.worker.Worker.{Worker}
use Rattle.pgo_core.specs.AllViews.{AllViews, HasValue}

-- the machine after these turns, before it is stopped
abbrev pub turned : System → Settings → List ℕ → Machine Effect
turned y settings turns = after_turns (rules_of y settings) opened turns

-- what is asked of a bound specification with trees of its sections, so that the core follows the machine: the trees do what
-- the sections do, entries are what differs, each state that the machine comes to is good, and who holds a resource there is an
-- instance. Resources have numbers below the one that stands for the journal
pub record CoreFits (y : System) (tree : Trees) (settings : Settings) : Type 0 where
  pub runs : RunsSystem y tree settings
  pub differs : Differs (world_of (layout_of y)) (program_of y tree settings) (Reaches y) (IsGood y) runs
  pub good : (turns : List ℕ) → IsGood y (last_state (rules_of y settings) (turned y settings turns))
  pub holders : (turns : List ℕ) (r h : ℕ) → (turned y settings turns).holder r ≡ Some h → nat_lt h (length y.members) ≡ true
  pub few : length y.resources ≤ 1024

-- a content of resource r says that it is r's, or no pre-commit at r fails
abbrev pub MayFail : Settings → ℕ → Option ℕ → Type 0
MayFail settings r number = (number ≡ Some r) ⊎ ((n : ℕ) → is_listed settings.down r n ≡ false)

-- the record of what a turn answers, where the attempt ended by it
abbrev pub told : Turn → List Record
told turns.Went = []
told (turns.Committed n) = Step n ∷ []
told (turns.Noted kind n) = Noted (kind_view kind) n ∷ []
told (turns.Refused x) = refusal_view x ∷ []
told (turns.Idle e) = []
told turns.NoMemory = []

-- memory wasn't wanting
abbrev pub has_turned : Turn → Bool
has_turned turns.Went = true
has_turned (turns.Committed n) = true
has_turned (turns.Noted kind n) = true
has_turned (turns.Refused x) = true
has_turned (turns.Idle e) = true
has_turned turns.NoMemory = false

-- how many turns of an instance that hadn't ended a turn was
abbrev pub counted : Turn → ℕ
counted turns.Went = 1
counted (turns.Committed n) = 1
counted (turns.Noted kind n) = 1
counted (turns.Refused x) = 1
counted (turns.Idle e) = 0
counted turns.NoMemory = 0

-- what a turn of k answers where the machine is m: that nobody has the number, or the end of an instance that has ended; of one
-- that hasn't, no end
pub record IsAnswer (y : System) (settings : Settings) (m : Machine Effect) (k : ℕ) (t : Turn) : Type 0 where
  pub nobody : nat_lt k (length y.members) ≡ false → t ≡ turns.Idle ends.Nobody
  pub at_end : nat_lt k (length y.members) ≡ true → has_ended (rules_of y settings) m k ≡ true → (e : End) × (end_of y settings (finished_of m) k ≡ Some e) × (t ≡ turns.Idle (ended e))
  pub goes_on : nat_lt k (length y.members) ≡ true → has_ended (rules_of y settings) m k ≡ false → (e : declared.End) → t ≡ turns.Idle e → ⊥

-- lists are empty and have room for n items
abbrev pub all_roomy : {A B : Type 0} → ℕ → List (Vec A B) → Bool
all_roomy n [] = true
all_roomy n (v ∷ vs) = is_empty v.items && (nat_le n (vec_capacity v) && all_roomy n vs)

module _ {C : Type 0} (y : System) (tree : Trees) (walk : C → Walk) where
  -- worker j as contracts see it, and nobody where there is none
  abbrev pub worker_at : List (Worker C) → ℕ → spec.Worker
  worker_at ws j =
      elim (nth ws j) as (λ o. spec.Worker) [
        | None ↦ record { number = j; records = []; own = []; phase = spec.Resting; taken = []; dropped = false }
        | Some w ↦ see walk w
      ]

  -- worker j of a run with these settings meets its board
  pub record IsSeat (settings : Settings) (j : ℕ) (w : Worker C) (b : View Effect) : Type 0 where
    pub number : w.number ≡ j
    pub settings_are : settings_view w.settings ≡ settings
    pub met : Met y tree walk w b

  -- what every call needs and keeps
  pub record IsSafe (settings : Settings) (ws : List (Worker C)) (s : AllViews Effect) : Type 0 where
    pub runs : RunsSystem y tree settings
    pub as_many : length ws ≡ length y.members
    pub seats : (j : ℕ) (w : Worker C) → nth ws j ≡ Some w → IsSeat settings j w (s.view j)

  -- the core is where the machine is after these turns, by which no count is above `made`, a number of 64 bits
  pub record StandsWith (settings : Settings) (fits : CoreFits y tree settings) (turns : List ℕ) (made : ℕ) (ws : List (Worker C)) (s : AllViews Effect) : Type 0 where
    pub core : IsCore (world_of (layout_of y)) (program_of y tree settings) (Reaches y) (IsGood y) fits.runs fits.differs (turned y settings turns) (worker_at ws) s.view
    pub entries : (j : ℕ) → (s.view j).entries ≡ (turned y settings turns).entries
    pub notes : (j : ℕ) → (s.view j).notes ≡ (turned y settings turns).notes
    pub awake : (j : ℕ) (w : Worker C) → nth ws j ≡ Some w → w.out_of_memory ≡ false
    pub counts : (r : ℕ) → (turned y settings turns).counts r ≡ (s.content r).count
    pub bounded : (r : ℕ) → (turned y settings turns).counts r ≤ made
    pub most : made ≤ 18446744073709551615
    pub numbers : (r : ℕ) → nat_lt r (length y.resources) ≡ true → MayFail settings r (s.content r).number
    -- the content of a resource that nobody holds has the value of its component in the last state
    pub free : (r : ℕ) → nat_lt r (length y.resources) ≡ true → (turned y settings turns).holder r ≡ None → HasValue (s.content r) (value_in (layout_of y) (last_state (rules_of y settings) (turned y settings turns)) r)

  abbrev pub Stands : Settings → List ℕ → ℕ → List (Worker C) → AllViews Effect → Type 0
  Stands settings turns made ws s = (fits : CoreFits y tree settings) → StandsWith settings fits turns made ws s

  -- a worker before its first turn
  pub record IsOpened (settings : Settings) (k : ℕ) (w : Worker C) : Type 0 where
    pub number : w.number ≡ k
    pub settings_are : settings_view w.settings ≡ settings
    pub records : w.records.items ≡ []
    pub out : w.out_of_memory ≡ false
    pub dropped : w.dropped ≡ false
    pub place : w.place ≡ None
    pub meets : (b : View Effect) → RunsSystem y tree settings → IsFresh y settings k b → Met y tree walk w b

  -- the workers of all instances before the first turn
  abbrev pub AreOpened : Settings → List (Worker C) → Type 0
  AreOpened settings ws = (k : ℕ) (w : Worker C) → nth ws k ≡ Some w → IsOpened settings k w

  -- one turn of worker k
  pub record TurnedAt (k : ℕ) (ws vs : List (Worker C)) (b c : View Effect) (t : Turn) : Type 0 where
    pub worker : Worker C
    pub after : Worker C
    pub there : nth ws k ≡ Some worker
    pub workers : vs ≡ set ws k after
    pub same : Same worker after
    pub turned : TurnedBy y tree walk worker b after c t
    pub met : Met y tree walk after c

  -- worker k was stopped
  pub record StoppedAt (k : ℕ) (ws vs : List (Worker C)) (c : View Effect) : Type 0 where
    pub worker : Worker C
    pub after : Worker C
    pub there : nth ws k ≡ Some worker
    pub workers : vs ≡ set ws k after
    pub keeps : Keeps worker after
    pub records : after.records ≡ worker.records
    pub held : c.held ≡ []
    pub met : Met y tree walk after c

-- worker v is w, stopped
pub record Rested {C : Type 0} (w v : Worker C) : Type 0 where
  pub records : v.records ≡ w.records
  pub out : v.out_of_memory ≡ w.out_of_memory
  pub own : v.own ≡ w.own
  pub giving : v.giving ≡ false

-- all see the journal as it was
pub record SameJournal (s t : AllViews Effect) : Type 0 where
  pub entries : (j : ℕ) → (t.view j).entries ≡ (s.view j).entries
  pub notes : (j : ℕ) → (t.view j).notes ≡ (s.view j).notes

-- so far each worker has its records, and those below n are stopped
pub record RestedBelow {C : Type 0} (n : ℕ) (ws vs : List (Worker C)) : Type 0 where
  pub as_many : length vs ≡ length ws
  pub records : (j : ℕ) (w v : Worker C) → nth ws j ≡ Some w → nth vs j ≡ Some v → v.records ≡ w.records
  pub out : (j : ℕ) (w v : Worker C) → nth ws j ≡ Some w → nth vs j ≡ Some v → v.out_of_memory ≡ w.out_of_memory
  pub own : (j : ℕ) (w v : Worker C) → nth ws j ≡ Some w → nth vs j ≡ Some v → v.own ≡ w.own
  pub giving : (j : ℕ) (v : Worker C) → j < n → nth vs j ≡ Some v → v.giving ≡ false

-- each has ended
abbrev pub AllEnded : {C : Type 0} → List (Worker C) → Type 0
AllEnded {C} ws = (j : ℕ) (w : Worker C) → nth ws j ≡ Some w → IsSome (sight.end_of w)

-- records with the numbers of their attempts, from n
abbrev pub attempts_from : ℕ → List Record → List (ℕ × Record)
attempts_from n [] = []
attempts_from n (x ∷ xs) = (n, x) ∷ attempts_from (suc n) xs

-- worker k had ended, and nothing was done
pub record HadEnded {C : Type 0} (k : ℕ) (ws vs : List (Worker C)) : Type 0 where
  pub workers : vs ≡ ws
  pub ended : (w : Worker C) → nth ws k ≡ Some w → IsSome (sight.end_of w)

-- each instance has ended
abbrev pub EachEnds : System → Settings → Finished Effect → Type 0
EachEnds y settings f = (k : ℕ) (i : Member) → nth y.members k ≡ Some i → (e : End) × (end_of y settings f k ≡ Some e)

-- the account of a worker
pub record IsAccountOf {C : Type 0} (w : Worker C) (a : Account) : Type 0 where
  pub told_are : map record_view a.records ≡ attempts_from 1 (map result_view w.records.items)
  pub results : results_in a.records ≡ w.records.items
  pub end_is : a.end ≡ sight.end_of w

-- the account of each worker up to some, in order
abbrev pub AreAccountsOf : {C : Type 0} → List (Worker C) → List Account → Type 0
AreAccountsOf {C} ws accounts = (k : ℕ) (a : Account) → nth accounts k ≡ Some a → (w : Worker C) × (nth ws k ≡ Some w) × IsAccountOf w a

-- the account of instance k in what a run leaves; attempts that found Many are there as this refusal, with how many leaves they tried
pub record IsAccount (y : System) (settings : Settings) (f : Finished Effect) (k : ℕ) (a : Account) : Type 0 where
  pub told_are : map record_view a.records ≡ attempts_from 1 (f.records k)
  pub many : all_tell_many a.records ≡ true
  pub end_is : a.end ≡ option_map ended (end_of y settings f k)

-- one account an instance, in order
pub record AreAccounts (y : System) (settings : Settings) (f : Finished Effect) (accounts : List Account) : Type 0 where
  pub as_many : length accounts ≡ length y.members
  pub each : (k : ℕ) (a : Account) → nth accounts k ≡ Some a → IsAccount y settings f k a
