-- A turn in code, as the turn that it is.
use Rattle.std.specs.List.{list_all}
use Rattle.std.specs.Prelude.{◌≡◌, ◌≤◌, ◌<◌, ◌++◌, ◌⊎◌, ℕ, suc, Bool, true, false, List, [], length, map, vec_capacity, Some, None}
use Rattle.pgo_base.specs.Data.{Data}
use Rattle.pgo_model.specs.Core.{Settings, Reaches, is_listed}
use Rattle.pgo_model.specs.Log.{Effect}
use Rattle.pgo_model.specs.Machine.{Entry, nth}
use Rattle.pgo_model.specs.Options.{on}
use Rattle.pgo_model.specs.System.{System}
use Rattle.pgo_section.specs.Programs.{IsGood}
use Rattle.pgo_syntax.specs.ManyLeaves.{is_noted, counts_leaves, tells_many}
use Rattle.pgo_syntax.specs.RecordView.{kind_view, result_view}
use Rattle.pgo_syntax.specs.declared.records.Refusal.TheVariants as refusals
use Rattle.pgo_workers.specs.Sentences.{Meets}
use Rattle.pgo_workers.specs.Settles.{Settled}
use Rattle.pgo_workers.specs.Stops.{gives_up}
use Rattle.pgo_workers.specs.View.{View, Told, IsHeld, IsFull, Others, OtherNotes, aborted}
use Rattle.pgo_workers.specs.Walk.{At, Own, Walk, Stop, Goes}
use Rattle.pgo_workers.specs.Worker as spec
use Rattle.pgo_workers.specs.Worker.{Turned, with_held}
use Rattle.pgo_workers.specs.Worlds.{Layout, layout_of, world_of, resource_change, changed_own, label_at}
use Rattle.pgo_section.specs.Programs.{Trees}
use Rattle.pgo_section.specs.Sight.{see, program_at, refusal_turn, end_of}
use Rattle.pgo_section.specs.declared.worker.Turn.{Turn}
use Rattle.pgo_section.specs.declared.worker.Turn.TheVariants as turns
use Rattle.pgo_section.specs.declared.worker.Worker.{Worker}

-- what no turn changes; and if the records tell Many as they should, they do so afterwards
pub record Same {C : Type 0} (w v : Worker C) : Type 0 where
  pub number : v.number ≡ w.number
  pub settings : v.settings ≡ w.settings
  pub records_room : vec_capacity v.records ≡ vec_capacity w.records
  pub taken_room : vec_capacity v.taken ≡ vec_capacity w.taken
  pub told : list_all tells_many w.records.items ≡ true → list_all tells_many v.records.items ≡ true

-- it is an instance's, has room for what it records and takes, its records tell Many as they should, and the listed pre-commits have numbers
-- below the last value of 64 bits
pub record Fits {C : Type 0} (y : System) (w : Worker C) : Type 0 where
  pub instance : w.number < length y.members
  pub records : w.settings.attempts ≤ vec_capacity w.records
  pub taken : length y.resources ≤ vec_capacity w.taken
  pub told : list_all tells_many w.records.items ≡ true
  pub listed : (r n : ℕ) → is_listed w.settings.down r n ≡ true → n < 18446744073709551615

abbrev pub MeetsAt : {C : Type 0} → System → Trees → (C → Walk) → Worker C → View Effect → Type 0
MeetsAt y tree walk w b = Meets (world_of (layout_of y)) (program_at y tree w) (Reaches y) (IsGood y) (see walk w) b

-- a worker and its board
pub record Met {C : Type 0} (y : System) (tree : Trees) (walk : C → Walk) (w : Worker C) (b : View Effect) : Type 0 where
  pub meets : MeetsAt y tree walk w b
  pub settles : Settled (see walk w).phase
  pub fits : Fits y w

abbrev pub TurnedSo : {C : Type 0} → System → Trees → (C → Walk) → Worker C → View Effect → Worker C → View Effect → spec.Turn → Type 0
TurnedSo y tree walk w b v c t = Turned (world_of (layout_of y)) (program_at y tree w) (see walk w) b (see walk v) c t

-- a turn whose answer tells Many as it should
pub record TurnTold {C : Type 0} (y : System) (tree : Trees) (walk : C → Walk) (w : Worker C) (b : View Effect) (v : Worker C) (c : View Effect) (t : spec.Turn) (tells : Bool) : Type 0 where
  pub turned : TurnedSo y tree walk w b v c t
  pub many : tells ≡ true

-- one event; what is answered of an attempt that found Many is the refusal, with how many leaves were tried
abbrev pub Ran : {C : Type 0} → System → Trees → (C → Walk) → Worker C → View Effect → Worker C → View Effect → Turn → Type 0
Ran y tree walk w b v c turns.Went = TurnedSo y tree walk w b v c spec.Went
Ran y tree walk w b v c (turns.Committed n) = TurnedSo y tree walk w b v c (spec.Committed n)
Ran y tree walk w b v c (turns.Noted kind n) = TurnTold y tree walk w b v c (spec.HasNoted (kind_view kind) n) (is_noted kind)
Ran y tree walk w b v c (turns.Refused x) = TurnTold y tree walk w b v c (refusal_turn x) (counts_leaves x)
Ran y tree walk w b v c (turns.Idle e) = ⊥
Ran y tree walk w b v c turns.NoMemory = ⊥

-- what no event of a worker changes
pub record Keeps {C : Type 0} (w v : Worker C) : Type 0 where
  pub same : Same w v
  pub out : v.out_of_memory ≡ w.out_of_memory

-- where memory was wanting, nothing is different but what abort and give put right
pub record Wants {C : Type 0} (w : Worker C) (b : View Effect) (v : Worker C) (c : View Effect) : Type 0 where
  pub keeps : Keeps w v
  pub records : v.records ≡ w.records
  pub own : v.own ≡ w.own
  pub taken : v.taken ≡ w.taken
  pub dropped : v.dropped ≡ w.dropped
  pub board : with_held (aborted c.held) c ≡ with_held (aborted b.held) b

-- once its attempt is dropped and what was written is put back, they meet
pub record Drops {C : Type 0} (y : System) (tree : Trees) (walk : C → Walk) (w : Worker C) (b : View Effect) : Type 0 where
  pub meets : Meets (world_of (layout_of y)) (program_at y tree w) (Reaches y) (IsGood y) (gives_up (see walk w)) (with_held (aborted b.held) b)
  pub fits : Fits y w

-- memory was wanting: the attempt is dropped, nothing is held, and it makes no more turns
pub record RunsOut {C : Type 0} (w v : Worker C) (c : View Effect) : Type 0 where
  pub before : w.out_of_memory ≡ false
  pub after : v.out_of_memory ≡ true
  pub records : v.records ≡ w.records
  pub held : c.held ≡ []

-- one turn: an event, or the instance had ended and nothing changes, or memory was wanting
abbrev pub TurnedBy : {C : Type 0} → System → Trees → (C → Walk) → Worker C → View Effect → Worker C → View Effect → Turn → Type 0
TurnedBy y tree walk w b v c (turns.Idle e) = (end_of w ≡ Some e) × (v ≡ w) × (c ≡ b)
TurnedBy y tree walk w b v c turns.NoMemory = (end_of w ≡ None) × RunsOut w v c
TurnedBy y tree walk w b v c t = (end_of w ≡ None) × (v.out_of_memory ≡ w.out_of_memory) × Ran y tree walk w b v c t

-- no content was lent, or nothing was taken or given, by whether a board kept that before and afterwards
abbrev pub IsApart : (lent lent' moved moved' : Bool) → Type 0
IsApart l l' m m' = (l' ≡ l) ⊎ (m' ≡ m)

-- the same of a turn that memory wasn't wanting for
abbrev pub TurnApart : Turn → (lent lent' moved moved' : Bool) → Type 0
TurnApart turns.NoMemory l l' m m' = Unit {0}
TurnApart t l l' m m' = IsApart l l' m m'

-- what the board was asked last and refused
abbrev pub IsLast : Turn → View Effect → Type 0
IsLast (turns.Refused (refusals.Held r h)) c = c.last ≡ Some (IsHeld r h)
IsLast (turns.Refused (refusals.Full n)) c = c.last ≡ Some (IsFull n)
IsLast t c = Unit {0}

-- a board that a worker may be opened on: of its instance, holding nothing, whose journal has no record of it
pub record IsFresh (y : System) (settings : Settings) (k : ℕ) (b : View Effect) : Type 0 where
  pub instance : b.instance ≡ k
  pub steps : b.steps ≡ settings.steps
  pub share : settings.attempts ≤ b.share
  pub held : b.held ≡ []
  pub others : Others k b.entries
  pub other_notes : OtherNotes k b.notes
  pub told : (t : Told) → b.told ≡ Some t → (t.refused ≡ []) × (t.takes ≡ []) × (t.passed ≡ [])
  pub room : length b.entries ≤ b.steps

-- the entry of a worker's attempt: it changes these resources, and the own components become `next`
abbrev pub entry_with : {C : Type 0} → Layout → Worker C → List At → Own → List Data → Entry Effect
entry_with y w vs next prints = record {
  instance = w.number;
  attempt = suc (length (map result_view w.records.items));
  change = record {
    label = label_at w.own;
    next = label_at next;
    changes = map (resource_change y) vs ++ on [] (nth y.ids w.number) (λ id. changed_own w.number id w.own next);
    prints = prints;
  };
}

-- the section has ended, and this is its entry
pub record IsEntry {C : Type 0} (y : System) (tree : Trees) (walk : C → Walk) (w : Worker C) (place : C) (b : View Effect) (e : Entry Effect) (next : Own) : Type 0 where
  pub prints : List Data
  pub ends : walk place ≡ Stop (Goes next prints)
  pub is : e ≡ spec.entry (world_of (layout_of y)) (program_at y tree w) (see walk w) b.held next prints
