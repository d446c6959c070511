-- A turn without an event leaves fewer.
use Rattle.std.proofs.Common.{◌≡◌, ◌<◌, ℕ, suc, Option, None, Some, arith}
use Rattle.std.specs.Prelude.{IsSome}
use Rattle.pgo_base.specs.Data.{Data}
use Rattle.pgo_resource.specs.declared.sections.NextEvent.{NextEvent}
use Rattle.pgo_places.specs.declared.flow.Flow.{Flow}
use Rattle.pgo_places.specs.declared.flow.Flow.TheVariants as flows
use Rattle.pgo_places.specs.Turns.{turns, IsFewer, IsMoved, IsReadied}

less_by_one : (m n : ℕ) (v w : Option Data) → m ≡ suc n → turns n w < turns m v
less_by_one m n None None h = omega (arith, h)
less_by_one m n None (Some x) h = omega (arith, h)
less_by_one m n (Some x) None h = omega (arith, h)
less_by_one m n (Some x) (Some y) h = omega (arith, h)

readied_less : (m n : ℕ) (w : Option Data) → n ≡ m → IsSome w → turns n w < turns m None
readied_less m n None h g = absurd (cc)
readied_less m n (Some x) h g = omega (arith, h)

pub fewer_turns : (f : Flow) (o : Option NextEvent) (m n : ℕ) (v w : Option Data) → IsReadied f v w → IsMoved f o m n → IsFewer o (turns m v) (turns n w)
fewer_turns f (Some e) m n v w h g = tt
fewer_turns flows.Again None m n v w h g = go v h.0
  where
    go : (x : Option Data) → x ≡ None → turns n w < turns m x
    go None e = readied_less m n w g h.1
    go (Some y) e = absurd (cc)
fewer_turns flows.On None m n v w h g = less_by_one m n v w g
fewer_turns (flows.Over j) None m n v w h g = less_by_one m n v w g
fewer_turns flows.Ended None m n v w h g = absurd (cc)
fewer_turns (flows.Noted kind) None m n v w h g = absurd (cc)
