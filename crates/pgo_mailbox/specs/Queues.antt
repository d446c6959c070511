-- Sequences of messages, and what a queue of them shows: the base, and what is now.
use Rattle.std.specs.Prelude.{◌≡◌, ◌≤◌, ℕ, Bool, true, false, List, [], ◌∷◌, ◌++◌, length, take, drop, Option, Some, None, Result, Ok, Err}
use Rattle.pgo_base.specs.Data.{Data, function, pairs}
use Rattle.pgo_base.specs.Size.{members_size}
use Rattle.pgo_base.specs.View.{data_of}
use Rattle.pgo_base.specs.declared.value.Value.{Value}
use Rattle.pgo_model.specs.Operators.{sequence_at}

abbrev pub sequence_data : List Data → Data
sequence_data xs = function (pairs (sequence_at 1 xs))

-- as many as a sequence may have, and none deeper than a message in a content of a state
pub record Fits (xs : List Data) : Type 0 where
  pub count : length xs ≤ 65536
  pub deep : members_size xs ≤ 254

-- the first `base` of the messages are the base, and those behind the first `taken` are what is now
pub record IsQueue (xs : List Data) (base taken : ℕ) : Type 0 where
  pub base_within : base ≤ length xs
  pub taken_within : taken ≤ length xs
  pub base_fits : Fits (take base xs)
  pub now_fits : Fits (drop taken xs)

-- the first message, taken
abbrev pub Received : (o n : List Data × List Data) → {E : Type 0} → Result (Option Value) E → Type 0
Received o n (Ok None) = (o.1 ≡ []) × (n ≡ o)
Received o n (Ok (Some v)) = (n.0 ≡ o.0) × (o.1 ≡ data_of v ∷ n.1) × Fits o.1
Received o n (Err e) = n ≡ o

-- x, put behind the last, or not where the queue can't hold it
abbrev pub Sent : (x : Data) → (o n : List Data × List Data) → {E : Type 0} → Result Bool E → Type 0
Sent x o n (Ok true) = (n ≡ (o.0, o.1 ++ x ∷ [])) × Fits n.1
Sent x o n (Ok false) = n ≡ o
Sent x o n (Err e) = n ≡ o
