-- A sequence of messages, and a message, can be bound.
use Rattle.std.proofs.Common.{◌≡◌, List, ◌∷◌, Some, arith}
use Rattle.pgo_base.specs.Data.{Data}
use Rattle.pgo_sections.specs.BoundValues.{bindable}
use Rattle.pgo_macro_run.proofs.Bindables.{shallow_bound}
use Rattle.pgo_mailbox.specs.Queues.{sequence_data, Fits}
use Rattle.pgo_mailbox.proofs.Sequences.{shallow}

pub bound_sequence : (xs : List Data) → Fits xs → bindable (Some (sequence_data xs)) ≡ Some (sequence_data xs)
bound_sequence xs f = shallow_bound (sequence_data xs) (λ h. omega (arith, shallow xs f, h))

pub first_bound : (x : Data) (xs : List Data) → Fits (x ∷ xs) → bindable (Some x) ≡ Some x
first_bound x xs f = shallow_bound x (λ h. omega (arith, f.deep, h))
