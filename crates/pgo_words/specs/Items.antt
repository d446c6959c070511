-- That a list of turns is read in the one way that its text has, item by item.
use Rattle.std.specs.Prelude.{◌≡◌, ◌<◌, ◌≤◌, ◌+◌, ◌^◌, ◌++◌, ℕ, Bool, true, false, List, length, replicate, decimal, Option, Some, None}
use Rattle.pgo_words.specs.Turns.{Item, TurnList, most_turns}
use Rattle.pgo_words.specs.declared.turns.Item as read

abbrev pub turns_of : read.Item → List ℕ
turns_of i = replicate i.count i.instance

-- the text is this item and no other that is short enough
abbrev pub ReadsItem : List ℕ → Option read.Item → Type 0
ReadsItem bs None = (ts : List ℕ) → Item bs ts → length ts ≤ most_turns → ⊥
ReadsItem bs (Some i) = Item bs (turns_of i) × ((ts : List ℕ) → Item bs ts → length ts ≤ most_turns → ts ≡ turns_of i)

-- the texts are this instance's number and this count, and of no other
abbrev pub ReadsRepeated : List ℕ → List ℕ → Option read.Item → Type 0
ReadsRepeated bs cs None = (k n : ℕ) → k < 2 ^ 32 → 1 ≤ n → n ≤ most_turns → bs ≡ decimal k → cs ≡ decimal n → ⊥
ReadsRepeated bs cs (Some i) =
    (bs ≡ decimal i.instance) × (cs ≡ decimal i.count) × (i.instance < 2 ^ 32) × (1 ≤ i.count)
    × ((k n : ℕ) → k < 2 ^ 32 → n ≤ most_turns → bs ≡ decimal k → cs ≡ decimal n → (k ≡ i.instance) × (n ≡ i.count))

-- the text is this instance's number, and no other's
abbrev pub ReadsSingle : List ℕ → Option read.Item → Type 0
ReadsSingle bs None = (k : ℕ) → k < 2 ^ 32 → bs ≡ decimal k → ⊥
ReadsSingle bs (Some i) =
    (bs ≡ decimal i.instance) × (i.count ≡ 1) × (i.instance < 2 ^ 32) × ((k : ℕ) → k < 2 ^ 32 → bs ≡ decimal k → k ≡ i.instance)

-- an item's turns stand behind the old ones, where they are few enough; no other turns would do
abbrev pub AddsItem : List ℕ → List ℕ → Bool → List ℕ → Type 0
AddsItem old bs true new =
    (ts : List ℕ) × Item bs ts × (new ≡ old ++ ts) × (length new ≤ most_turns)
    × ((us : List ℕ) → Item bs us → length old + length us ≤ most_turns → us ≡ ts)
AddsItem old bs false new = (us : List ℕ) → Item bs us → length old + length us ≤ most_turns → ⊥

-- the text spells these turns, and no others of which there are few enough
abbrev pub SpelledOnly : List ℕ → Option (List ℕ) → Type 0
SpelledOnly bs None = (ts : List ℕ) → TurnList bs ts → length ts ≤ most_turns → ⊥
SpelledOnly bs (Some us) = TurnList bs us × (length us ≤ most_turns) × ((ts : List ℕ) → TurnList bs ts → length ts ≤ most_turns → ts ≡ us)

-- what is read so far, and what is left, are the text's turns together
pub record ReadsOn (bs read rest : List ℕ) : Type 0 where
  pub sound : (us : List ℕ) → TurnList rest us → TurnList bs (read ++ us)
  pub only : (ts : List ℕ) → TurnList bs ts → length ts ≤ most_turns → (us : List ℕ) × TurnList rest us × (ts ≡ read ++ us)
  pub few : length read ≤ most_turns
