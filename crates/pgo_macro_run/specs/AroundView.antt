-- What a block is run with, as it lies in memory.
use Rattle.std.specs.Prelude.{◌≡◌, List, [], ◌++◌, map, Option, Some, None, option_map, Result, Ok, Err, ◌⊎◌}
use Rattle.pgo_base.specs.BindingsView.{onto, named_view}
use Rattle.pgo_base.specs.Data.{Data}
use Rattle.pgo_base.specs.Lookup.{Names}
use Rattle.pgo_base.specs.Tree.{Tree}
use Rattle.pgo_base.specs.View.{data_of}
use Rattle.pgo_base.specs.declared.bindings.NamedValue.{NamedValue}
use Rattle.pgo_base.specs.declared.value.Value.{Value}
use Rattle.pgo_model.specs.ModuleView.{defined_view}
use Rattle.pgo_model.specs.Outcome as outcome
use Rattle.pgo_model.specs.System.{Words}
use Rattle.pgo_resource.specs.Picked.{choices_of}
use Rattle.pgo_resource.specs.declared.picks.Picks.{Picks}
use Rattle.pgo_resource.specs.declared.resource.OpStop.{OpStop}
use Rattle.pgo_resource.specs.declared.resource.OpStop.TheVariants as stops
use Rattle.pgo_macro_run.specs.Given.{Given, Now, Answer, Goes, Yields, Fails, Bound, Binds, Lacks, value_at}
use Rattle.pgo_macro_run.specs.declared.around.Around.{Around}

abbrev pub given_of : Around → Words → Given
given_of a d = record { defs = map defined_view a.env.defs.now; id = data_of a.env.id.now; old = data_of a.old.now; words = d }

abbrev pub value_in : Around → Tree → Names → Option Data → Option Data
value_in a e env c = value_at (map defined_view a.env.defs.now) (data_of a.env.id.now) (data_of a.old.now) e env c

-- the names that the block binds, which lie the newest last
abbrev pub env_of : List NamedValue → Names
env_of ns = onto (map named_view ns) []

abbrev pub now_of : Option Value → Picks → Now
now_of c p = record { content = option_map data_of c; choices = choices_of p }

-- a failure
abbrev pub FailsSo : Answer → OpStop → Picks → Type 0
FailsSo x stops.Blocked q = x ≡ Fails outcome.Blocked (choices_of q)
FailsSo x stops.NoValue q = x ≡ Fails outcome.NoValue (choices_of q)
FailsSo x stops.AssertFails q = x ≡ Fails outcome.AssertFails (choices_of q)
FailsSo x stops.NoMemory q = Unit {0}

-- a value, and the block's content is c
abbrev pub ValueSo : Answer → Option Value → Picks → Result Value OpStop → Type 0
ValueSo x c q (Ok v) = x ≡ Yields (data_of v) (now_of c q)
ValueSo x c q (Err e) = FailsSo x e q

-- a statement that yields nothing
abbrev pub GoesSo : {U : Type 0} → Answer → Option Value → Picks → Result U OpStop → Type 0
GoesSo x c q (Ok u) = x ≡ Goes (now_of c q)
GoesSo x c q (Err e) = FailsSo x e q

-- the block yields a value, or goes on
abbrev pub EndedSo : Answer → Option Value → Picks → Result (Option Value) OpStop → Type 0
EndedSo x c q (Ok (Some v)) = x ≡ Yields (data_of v) (now_of c q)
EndedSo x c q (Ok None) = x ≡ Goes (now_of c q)
EndedSo x c q (Err e) = FailsSo x e q

-- the block yields a value, with the content where it was assigned; a block that goes on to its end gives none
abbrev pub BlockSo : Answer → Picks → Result (Value × Option Value) OpStop → Type 0
BlockSo x q (Ok r) = x ≡ Yields (data_of r.0) (now_of r.1 q)
BlockSo x q (Err stops.Blocked) = x ≡ Fails outcome.Blocked (choices_of q)
BlockSo x q (Err stops.NoValue) = (x ≡ Fails outcome.NoValue (choices_of q)) ⊎ ((n : Now) × (x ≡ Goes n) × (n.choices ≡ choices_of q))
BlockSo x q (Err stops.AssertFails) = x ≡ Fails outcome.AssertFails (choices_of q)
BlockSo x q (Err stops.NoMemory) = Unit {0}

-- names that are bound
abbrev pub BoundSo : {U : Type 0} → Bound → Names → Option Value → Picks → Result U OpStop → Type 0
BoundSo x env c q (Ok u) = x ≡ Binds env (now_of c q)
BoundSo x env c q (Err stops.Blocked) = x ≡ Lacks outcome.Blocked (choices_of q)
BoundSo x env c q (Err stops.NoValue) = x ≡ Lacks outcome.NoValue (choices_of q)
BoundSo x env c q (Err stops.AssertFails) = x ≡ Lacks outcome.AssertFails (choices_of q)
BoundSo x env c q (Err stops.NoMemory) = Unit {0}

-- the second list is the first with more behind
abbrev pub Begins : {A : Type 0} → List A → List A → Type 0
Begins {A = A} xs ys = (more : List A) × (ys ≡ xs ++ more)
