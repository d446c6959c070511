-- The core in memory, to contracts.
use Rattle.std.specs.Prelude.{◌≡◌, ◌-◌, ◌++◌, ◌∷◌, [], ℕ, true, List, length, Some}
use Rattle.std.proofs.Math.ListN.{set}
use Rattle.pgo_model.specs.Accounts.{Contended}
use Rattle.pgo_model.specs.Core as model
use Rattle.pgo_model.specs.Core.{Settings}
use Rattle.pgo_model.specs.Machine.{finished_of, nth}
use Rattle.pgo_model.specs.System.{System}
use Rattle.pgo_journal.specs.Journal.{JournalView}
use Rattle.pgo_journal.specs.declared.finished.Account.{Account}
use Rattle.pgo_syntax.specs.RecordView.{settings_view}
use Rattle.pgo_syntax.specs.declared.records.End.{End}
use Rattle.pgo_workers.specs.Worlds.{layout_of}
use Rattle.pgo_section.specs.Sight.{answer_tells_many}
use Rattle.pgo_section.specs.declared.worker.Turn.{Turn}
use Rattle.pgo_section.specs.declared.worker.Turn.TheVariants as turns
use Rattle.pgo_section.specs.declared.worker.Worker.{Worker}
use Rattle.pgo_resource.specs.declared.resource.Resource.{Ghosts}
use Rattle.pgo_resource.specs.declared.sections.Sections as sections
use Rattle.pgo_core.specs.declared.instances.Core.{Core}
use Rattle.pgo_core.specs.Cores.{CoreFits, IsSafe, Stands, SameJournal, Rested, RestedBelow, AreAccounts, EachEnds, HadEnded, IsAnswer, has_turned, told, turned}
use Rattle.pgo_core.specs.ExclusiveBoards.{board_layout, views_of}
use Rattle.pgo_core.specs.Rounds.{round_from, AreRounds}

module _ {S R P : Type 0} {s : sections.Ghosts S P} {g : Ghosts R} where
  abbrev pub sections_of : Core S R P s g → S
  sections_of c = c.sections

  -- the bound specification, and the settings
  abbrev pub system_of : Core S R P s g → System
  system_of c = s.system c.sections

  abbrev pub settings_of : Core S R P s g → Settings
  settings_of c = settings_view c.settings

  -- what is asked of the specification, so that the core follows the machine
  abbrev pub FitsCore : Core S R P s g → Type 0
  FitsCore c = CoreFits (s.system c.sections) (s.tree c.sections) (settings_of c)

  -- what each call needs and keeps
  pub record Safe (c : Core S R P s g) : Type 0 where
    pub layout : board_layout c.board ≡ layout_of (system_of c)
    pub seats : IsSafe (s.system c.sections) (s.tree c.sections) (s.walk c.sections) (settings_of c) c.workers.items (views_of c.board)

  -- the core is where the machine is after these turns
  abbrev pub StandsAt : List ℕ → Core S R P s g → Type 0
  StandsAt turns c = Stands (s.system c.sections) (s.tree c.sections) (s.walk c.sections) (settings_of c) turns c.made c.workers.items (views_of c.board)

  -- what no call changes
  pub record IsSame (c d : Core S R P s g) : Type 0 where
    pub sections : d.sections ≡ c.sections
    pub settings : d.settings ≡ c.settings

  -- a turn of k that memory wasn't wanting for is a turn of the machine; its answer is the record that the machine adds, and tells
  -- whether k is an instance and how it had ended; of an attempt that found Many it is the refusal, with how many leaves were tried
  pub record Turns (k : ℕ) (t : Turn) (c d : Core S R P s g) : Type 0 where
    pub same : IsSame c d
    pub stands : has_turned t ≡ true → (turns : List ℕ) → StandsAt turns c → StandsAt (turns ++ (k ∷ [])) d
    pub told_is : has_turned t ≡ true → (turns : List ℕ) → StandsAt turns c → FitsCore c → ((turned (system_of c) (settings_of c) (turns ++ (k ∷ []))).workers k).records ≡ ((turned (system_of c) (settings_of c) turns).workers k).records ++ told t
    pub many : answer_tells_many t ≡ true
    pub answer : has_turned t ≡ true → (turns : List ℕ) → StandsAt turns c → FitsCore c → IsAnswer (system_of c) (settings_of c) (turned (system_of c) (settings_of c) turns) k t

  -- how many more turns of instances may be made
  abbrev pub turns_left : Core S R P s g → ℕ
  turns_left c = 18446744073709551615 - c.made

  abbrev pub workers_in : Core S R P s g → List (Worker P)
  workers_in c = c.workers.items

  -- where a turn of k answers that k had ended, it had, and each worker is as it was
  abbrev pub IdleKeeps : ℕ → Turn → Core S R P s g → Core S R P s g → Type 0
  IdleKeeps k t c d = (e : End) → t ≡ turns.Idle e → HadEnded k (workers_in c) (workers_in d)

  -- further turns were made, those of n instances from number k on in a round; there are `count` of them
  pub record MadeFrom (before : List ℕ) (k n count : ℕ) (c : Core S R P s g) : Type 0 where
    pub stands : StandsAt (before ++ round_from (system_of c) (settings_of c) before k n) c
    pub many : FitsCore c → count ≡ length (round_from (system_of c) (settings_of c) before k n)

  -- the turns of a whole round were made
  abbrev pub MadeRound : List ℕ → ℕ → Core S R P s g → Type 0
  MadeRound before count c = MadeFrom before 0 (length (system_of c).members) count c

  -- further turns were made, those of rounds; by them each instance has ended, and each refusal has its cause
  pub record ComesToEnd (before : List ℕ) (c : Core S R P s g) : Type 0 where
    pub turns : List ℕ
    pub stands : StandsAt (before ++ turns) c
    pub rounds : FitsCore c → AreRounds (system_of c) (settings_of c) before turns
    pub ended : FitsCore c → EachEnds (system_of c) (settings_of c) (finished_of (model.Core (system_of c) (settings_of c) (before ++ turns)))
    pub contended : FitsCore c → Contended (model.rules_of (system_of c) (settings_of c)) (finished_of (model.Core (system_of c) (settings_of c) (before ++ turns)))

  -- worker k was stopped
  pub record Stops (k : ℕ) (c d : Core S R P s g) : Type 0 where
    pub same : IsSame c d
    pub journal : SameJournal (views_of c.board) (views_of d.board)
    pub worker : Worker P
    pub after : Worker P
    pub there : nth c.workers.items k ≡ Some worker
    pub workers : d.workers.items ≡ set c.workers.items k after
    pub rests : Rested worker after

  -- workers below n are stopped
  pub record StoppedBelow (n : ℕ) (c d : Core S R P s g) : Type 0 where
    pub same : IsSame c d
    pub journal : SameJournal (views_of c.board) (views_of d.board)
    pub workers : RestedBelow n c.workers.items d.workers.items

  -- the journal is the machine's
  pub record IsJournalOf (c : Core S R P s g) (turns : List ℕ) (j : JournalView) : Type 0 where
    pub start : j.start ≡ (system_of c).start
    pub entries : FitsCore c → j.entries ≡ (model.Core (system_of c) (settings_of c) turns).entries
    pub notes : FitsCore c → j.notes ≡ (model.Core (system_of c) (settings_of c) turns).notes

  -- the accounts are the machine's
  abbrev pub AreAccountsIn : Core S R P s g → List ℕ → List Account → Type 0
  AreAccountsIn c turns accounts = FitsCore c → AreAccounts (system_of c) (settings_of c) (finished_of (model.Core (system_of c) (settings_of c) turns)) accounts
