-- A table at its start.
use Rattle.std.specs.Prelude.{◌≡◌, ℕ, ◌-◌, false, List, [], ◌∷◌, ◌++◌, map, length, Some}
use Rattle.atomic_table.specs.Table.{Me}
use Rattle.pgo_journal.specs.Journal.{JournalView}
use Rattle.pgo_table.specs.SeatViews.{SeatView, no_history, upto}
use Rattle.pgo_table.specs.Steps.{Slot}
use Rattle.pgo_table.specs.declared.slots.Stored.TheVariants.{Content, Journal as AsJournal}

-- the contents, and behind them the journal
abbrev pub slots_of : {C : Type 0} → List C → JournalView → List (Slot C)
slots_of cs j = map (λ c. Some (Content c)) cs ++ Some (AsJournal j) ∷ []

-- the seat has done nothing, has the number behind these, and may give those from k on
abbrev pub AreSpare : {C : Type 0} → Me (Slot C) SeatView → ℕ → ℕ → Type 0
AreSpare m k count = (m.0.gone ≡ false) × (m.0.me ≡ no_history (count - 1)) × (m.0.spare ≡ upto k (count - 1 - k)) × (m.0.has ≡ false) × (length m.0.joined ≡ 0) × (m.0.holds ≡ []) × (m.1 ≡ [])
