-- What a run of a specification gives, and what is true of it, whatever made its entries: the core machine under a list of turns, or
-- workers on threads.
use Rattle.std.specs.Prelude.{◌≡◌, ◌↔◌, ℕ, suc, Bool, true, false, List, [], length, Some}
use Rattle.pgo_base.specs.Data.{Data, string}
use Rattle.pgo_base.specs.Lookup.{Name, Vars}
use Rattle.pgo_model.specs.Accounts.{Accounts, JointAccounts, at}
use Rattle.pgo_model.specs.Choice.{Seeded, words_of}
use Rattle.pgo_model.specs.Core.{Core, Settings, Reaches, rules_of, status_of}
use Rattle.pgo_model.specs.IsRun.{IsRun}
use Rattle.pgo_model.specs.Log.{Effect, StateAt}
use Rattle.pgo_model.specs.Machine.{Entry, Finished, Noted, finished_of, nth}
use Rattle.pgo_model.specs.ModuleText.{Text}
use Rattle.pgo_model.specs.Outcome.{Kind}
use Rattle.pgo_model.specs.System.{System, Member, ids_of}
use Rattle.pgo_model.specs.Variables.{place_of}
use Rattle.pgo_model.specs.Written.{done}
use Rattle.pgo_syntax.specs.declared.spec.Spec.{Spec}
use Rattle.pgo_bound.specs.BoundOf.{bound_of}
use Rattle.pgo_bound.specs.Declares.{Declares}
use Rattle.pgo_bound.specs.Sound.{Sound}
use Rattle.pgo_meaning.specs.NoteTells.{LeavesTell}
use Rattle.pgo_meaning.specs.Quiet.{Quiet}
use Rattle.pgo_meaning.specs.System.{system_of}
use Rattle.pgo_systems.specs.Failures.{DownsReached}
use Rattle.pgo_core.specs.Cores.{EachEnds}
use Rattle.pgo_core.specs.Rounds.{AreRounds}
use Rattle.pgo_translate.specs.Agrees.{Agrees, IsNext}
use Rattle.pgo_translate.specs.ModuleOf.{constants_with, module_of}
use Rattle.pgo_written.specs.Alone.{SpellsAlone}
use Rattle.pgo_bundle.specs.BundleLog.{checked_log}
use Rattle.pgo_bundle.specs.Lines.{BundleText}
use Rattle.pgo_bundle.specs.RunLog.{run_log}
use Rattle.pgo_bundle.specs.Tied.{IsTied}
use Rattle.pgo_log_text.specs.ReadBundle.{IsReadBundle, IsOnlyBundle}
use Rattle.pgo_execute.specs.Schedules.{Schedule, Turns, Rounds, Threads}

module _ (s : Spec) (consts : List (Name × Data)) where
  -- the system of what the specification is bound to
  abbrev pub system : System
  system = system_of (bound_of s consts)

  -- what the core machine leaves after these turns, stopped
  abbrev pub finished : Settings → List ℕ → Finished Effect
  finished settings turns = finished_of (Core system settings turns)

  -- every instance is at Done in this state
  abbrev pub AllDone : Vars → Type 0
  AllDone t = (n : ℕ) (i : Member) → nth system.members n ≡ Some i → place_of i.id t ≡ Some (string done)

  -- Next of the module is TRUE of each pair of states along the entries
  abbrev pub FollowNext : List (Entry Effect) → Type 0
  FollowNext entries =
      (p : ℕ) (t u : Vars) → StateAt (bound_of s consts).start entries p ≡ Some t → StateAt (bound_of s consts).start entries (suc p) ≡ Some u
      → IsNext (module_of s) (constants_with s consts) t u

  -- these bytes, with this status, are what a run of the specification gives that left f. `threads`: a record may
  -- say that another instance held the journal; whether instances ran at the same time isn't said. `all`: the run went on until each instance had ended
  pub record RanBy (threads all : Bool) (settings : Settings) (f : Finished Effect) (status : ℕ) (written : List ℕ) : Type 0 where
    -- what it is bound to is sound, and starts as is declared
    pub sound : Sound (bound_of s consts)
    pub declared : Declares (bound_of s consts) (bound_of s consts).start
    -- the bytes are the bundle of what is left, with the module that the specification means
    pub bundle : written ≡ BundleText (module_of s) (constants_with s consts) (run_log system settings f status)
    -- its records are tied to its entries and its notes
    pub tied : IsTied (run_log system settings f status)
    -- the module's actions are TRUE of exactly the pairs of states that the sections allow, and Init of the declared starts
    pub agrees : Agrees (module_of s) (constants_with s consts) (bound_of s consts)
    -- its text spells it and no other module
    pub alone : SpellsAlone (Text (module_of s)) (module_of s)
    -- the entries, in order, are steps of the module from its initial state
    pub run : IsRun (module_of s) (constants_with s consts) (ids_of system) (bound_of s consts).start f.entries
    -- and its Next is TRUE of each of them
    pub next : FollowNext f.entries
    -- the bytes are the bundle of this module, these constants and the log of what is left, and of nothing else
    pub is_read : IsReadBundle written (module_of s) (constants_with s consts) (run_log system settings f status)
    pub only : IsOnlyBundle written (module_of s) (constants_with s consts) (run_log system settings f status)
    -- and what is checked of that log is a run of the module as well
    pub read_run : IsRun (module_of s) (constants_with s consts) (checked_log (run_log system settings f status)).ids (checked_log (run_log system settings f status)).start (checked_log (run_log system settings f status)).entries
    -- the records number each instance's attempts, and each is one entry, one note true at its place, or one refusal: by
    -- another instance that is bound to the resource, by a pre-commit that is set to fail, or by a full journal; on threads at
    -- the journal, too
    pub accounts : (k : ℕ) → Accounts (rules_of system settings) (Reaches system) threads f k
    -- each record that is a note says of the leaves of its section, on the state at its position: Blocked, that all are Blocked, of which there are at
    -- most 65,536; no value or a failed assertion, that the first leaf that isn't Blocked ends so; Many, that the first 65,536 are Blocked, and there are more
    pub notes : (k i p : ℕ) (kind : Kind) → nth (f.records k) i ≡ Some (Noted kind p) → LeavesTell (bound_of s consts) k (at (rules_of system settings) f p) (words_of (Seeded settings.seed k (suc i))) kind
    -- over all instances no failing pre-commit is answered twice, and a full journal has as many entries as the refusal says; and
    -- where the run went on until each instance had ended, each refusal has its cause among the recorded attempts
    pub joint : JointAccounts (rules_of system settings) all f
    -- each pre-commit that was refused is of a resource that its instance is bound to
    pub downs : DownsReached system f
    -- where the run went on until each instance had ended, each has
    pub ended : all ≡ true → EachEnds system settings f
    -- the status is that of the records and the last state: 0 exactly where every instance is at Done
    pub status_is : status ≡ status_of system settings f
    pub fine : (status ≡ 0) ↔ AllDone (at (rules_of system settings) f (length f.entries))
    -- 22 exactly where it is neither 20 nor 23, some instance isn't at Done in the last state, and each such one has at most 65,536
    -- leaves there, all Blocked
    pub quiet : (status ≡ 22) ↔ ((status ≡ 20 → ⊥) × (status ≡ 23 → ⊥) × Quiet (bound_of s consts) (at (rules_of system settings) f (length f.entries)))
    -- and 21 exactly where it is none of 20, 22 and 23, and some instance isn't at Done in the last state
    pub left_over : (status ≡ 21) ↔ ((status ≡ 20 → ⊥) × (status ≡ 22 → ⊥) × (status ≡ 23 → ⊥) × (AllDone (at (rules_of system settings) f (length f.entries)) → ⊥))

  -- what a run under a schedule left: on one thread what the core machine leaves after the turns of the list, or after those of rounds,
  -- stopped. On threads nothing is said here: in which order the turns came, or on how many threads
  abbrev pub LeftBy : Schedule → Settings → Finished Effect → Type 0
  LeftBy (Turns turns) settings f = f ≡ finished settings turns
  LeftBy Rounds settings f = (turns : List ℕ) × (f ≡ finished settings turns) × AreRounds system settings [] turns
  LeftBy Threads settings f = Unit {0}
