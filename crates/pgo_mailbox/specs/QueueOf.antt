-- A queue with the messages of a sequence.
use Rattle.std.specs.Prelude.{◌≡◌, Option, Some, None}
use Rattle.pgo_base.specs.Data.{Data}
use Rattle.pgo_mailbox.specs.Queues.{sequence_data}
use Rattle.pgo_mailbox.specs.declared.queue.Queue.{Queue}

abbrev pub QueueOf : Data → Option Queue → Type 0
QueueOf v (Some q) = (q.1 ≡ q.0) × (v ≡ sequence_data q.0)
QueueOf v None = Unit {0}
