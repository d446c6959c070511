-- A run whose boards are closed and whose workers have all ended, under whatever schedule; and what the law of such runs asks.
use Rattle.std.specs.Prelude.{◌≡◌, ◌<◌, ℕ, Bool, true, List, [], length, Some, if◌then◌else◌, nat_eq, nat_lt}
use Rattle.pgo_base.specs.Data.{Data}
use Rattle.pgo_model.specs.Accounts.{journal}
use Rattle.pgo_model.specs.Machine.{Entry, Note, Record, Finished, last_ends}
use Rattle.pgo_model.specs.Outcome.{Next}
use Rattle.pgo_workers.specs.Sentences.{Runs}
use Rattle.pgo_workers.specs.View.{Told, View, World}
use Rattle.pgo_workers.specs.Worker.{Program, Worker}
use Rattle.pgo_closed.specs.ClosedBoards.{ClosedBoards, HasEnded, Sees}

module _ {S D : Type 0} (W : World S D) (P : Program S D) where
  -- the states that a run comes to: the start, and where a section leads from one of them
  pub data ComesTo : S → Type 0 where
    AtStart : ComesTo W.start
    BySection : (k a : ℕ) → (s t : S) → (prints : List Data) → ComesTo s → (P.sect k a s).end ≡ Next t prints → ComesTo t

module _ {S D : Type 0} (W : World S D) (P : Program S D) (Reaches : ℕ → ℕ → Type 0) (Good : S → Type 0) where
  -- all that is told of a run: the closed boards, and for each instance its last worker and view
  pub record ClosedRun (entries : List (Entry D)) (notes : List Note) (ws : ℕ → Worker) (bs : ℕ → View D) (told : ℕ → Told) : Type 0 where
    pub boards : ClosedBoards W P.instances P.steps entries notes told
    pub sees : (k : ℕ) → k < P.instances → Sees W entries notes k (bs k)
    pub tells : (k : ℕ) → k < P.instances → (bs k).told ≡ Some (told k)
    pub ended : (k : ℕ) → k < P.instances → HasEnded W P Reaches Good k (ws k) (bs k)

  -- what the law asks: the program does what its sections do on good states, each state that a run comes to is good, and no resource has
  -- the number of the journal
  pub record Premises : Type 0 where
    pub runs : Runs W P Reaches Good
    pub good : (s : S) → ComesTo W P s → Good s
    pub apart : (k r : ℕ) → Reaches k r → r ≡ journal → ⊥

module _ {S D : Type 0} (P : Program S D) where
  -- the records of instances, and of nobody else
  abbrev pub records_of : (ℕ → Worker) → ℕ → List Record
  records_of ws k = if nat_lt k P.instances then (ws k).records else []

  -- what such a run leaves
  abbrev pub left_by : List (Entry D) → List Note → (ℕ → Worker) → Finished D
  left_by entries notes ws = record { entries = entries; notes = notes; records = records_of ws }

  -- instance k is at Done in this state, or its last record ends it, or it has made all its attempts
  abbrev pub ends_in : S → ℕ → List Record → Bool
  ends_in s k xs = if P.at_done k s then true else if last_ends xs then true else nat_eq (length xs) P.attempts
