-- What a queue answers to the channel's reads and writes.
use Rattle.std.specs.Prelude.{◌≡◌, ℕ, ℤ, pos, int_lt, Bool, true, false, List, [], ◌∷◌, ◌++◌, length, Option, Some, None, Result, Ok, Err}
use Rattle.pgo_base.specs.Data.{Data}
use Rattle.pgo_base.specs.declared.module.Defined.{Defined}
use Rattle.pgo_base.specs.declared.value.Value.{Value}
use Rattle.std.specs.declared.alloc.AllocError.{AllocError}
use Rattle.pgo_syntax.specs.declared.bound.Mapping.{Mapping}
use Rattle.pgo_workers.specs.View.{Shown}
use Rattle.pgo_resource.specs.Answers.{Read, Written}
use Rattle.pgo_resource.specs.declared.picks.Picks.{Picks}
use Rattle.pgo_resource.specs.declared.resource.OpStop.{OpStop}
use Rattle.pgo_resource.specs.declared.resource.OpStop.TheVariants as stops
use Rattle.pgo_mailbox.specs.Queues.{sequence_data, Fits}

-- a queue, with a count of pre-commits
abbrev pub shown_by : List Data × List Data → ℕ → Shown
shown_by q count = record { base = sequence_data q.0; current = sequence_data q.1; count = count; number = None }

-- of a content that shows o: it answers as a resource does, uses no word of choice, and shows n then; or it has no answer
abbrev pub ReceivedBy : Mapping → (at : Option Data) → (o n : Shown) → Result (Option Value) OpStop → Type 0
ReceivedBy m at o n (Ok None) = n ≡ o
ReceivedBy m at o n (Ok (Some v)) = (ds : List Defined) (id : Data) (p : Picks) → Read m ds id at o n p p (Ok v)
ReceivedBy m at o n (Err e) = (ds : List Defined) (id : Data) (p : Picks) → Read m ds id at o n p p (Err e)

abbrev pub SentBy : Mapping → List Defined → (id : Data) → (at : Option Data) → (x : Data) → (o n : Shown) → Result Bool OpStop → Type 0
SentBy m ds id at x o n (Ok false) = n ≡ o
SentBy m ds id at x o n (Ok true) = (p : Picks) → Written m ds id at x o n p p (Ok tt)
SentBy m ds id at x o n (Err e) = (p : Picks) → Written m ds id at x o n p p (Err e)

-- a queue is sent x where it has fewer messages than the most
abbrev pub SentWithin : (most : ℤ) → (x : Data) → (o n : List Data × List Data) → Result Bool OpStop → Type 0
SentWithin most x o n (Ok false) = n ≡ o
SentWithin most x o n (Ok true) = (int_lt (pos (length o.1)) most ≡ true) × (n ≡ (o.0, o.1 ++ x ∷ [])) × Fits n.1
SentWithin most x o n (Err stops.Blocked) = (int_lt (pos (length o.1)) most ≡ false) × (n ≡ o)
SentWithin most x o n (Err stops.NoValue) = ⊥
SentWithin most x o n (Err stops.AssertFails) = ⊥
SentWithin most x o n (Err stops.NoMemory) = n ≡ o

-- with the capacity, where it is an integer
abbrev pub SentBelow : Result (Option ℤ) OpStop → (x : Data) → (o n : List Data × List Data) → Result Bool OpStop → Type 0
SentBelow (Ok (Some most)) x o n r = SentWithin most x o n r
SentBelow (Ok None) x o n r = (r ≡ Ok false) × (n ≡ o)
SentBelow (Err e) x o n r = (r ≡ Err e) × (n ≡ o)

-- the answer to a read or a write of a queue's: where there is no message a read is blocked
abbrev pub received_as : Result (Option Value) AllocError → Result (Option Value) OpStop
received_as (Ok (Some v)) = Ok (Some v)
received_as (Ok None) = Err stops.Blocked
received_as (Err e) = Err stops.NoMemory

abbrev pub sent_as : Result Bool AllocError → Result Bool OpStop
sent_as (Ok b) = Ok b
sent_as (Err e) = Err stops.NoMemory
