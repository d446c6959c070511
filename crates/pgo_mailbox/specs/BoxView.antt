-- What a mailbox shows.
use Rattle.std.specs.Prelude.{◌≡◌, ℕ, List, Some, None, option_map, unwrap_or, Result, Ok, Err}
use Rattle.pgo_base.specs.Data.{Data}
use Rattle.pgo_base.specs.View.{data_of}
use Rattle.pgo_cells.specs.CellView.{start_of}
use Rattle.pgo_model.specs.Sequences.{elements}
use Rattle.pgo_workers.specs.View.{Shown}
use Rattle.pgo_mailbox.specs.Queues.{sequence_data}
use Rattle.pgo_mailbox.specs.declared.mailbox.Content.{Content}
use Rattle.pgo_mailbox.specs.declared.mailbox.Content.TheVariants as contents
use Rattle.pgo_mailbox.specs.declared.mailbox.Mailbox.{Mailbox}
use Rattle.pgo_mailbox.specs.declared.mailbox.NotABox.{NotABox}
use Rattle.pgo_mailbox.specs.declared.mailbox.NotABox.TheVariants as no_box

-- a queue, or values: where nothing was written what is now is the base
abbrev pub base_of : Content → Data
base_of (contents.Messages q) = sequence_data q.0
base_of (contents.Values base written) = data_of base

abbrev pub now_of : Content → Data
now_of (contents.Messages q) = sequence_data q.1
now_of (contents.Values base written) = unwrap_or (option_map data_of written) (data_of base)

abbrev pub content_view : Content → ℕ → Shown
content_view c count = record { base = base_of c; current = now_of c; count = count; number = None }

-- it has no number
abbrev pub box_view : Mailbox → Shown
box_view b = content_view b.content b.count

-- a mailbox that is v and was never pre-committed, where v is a sequence
abbrev pub BoxOf : Data → Result Mailbox NotABox → Type 0
BoxOf v (Ok b) = (box_view b ≡ start_of v) × ((xs : List Data) × (elements v ≡ Some xs))
BoxOf v (Err (no_box.Value w)) = (data_of w ≡ v) × (elements v ≡ None)
BoxOf v (Err no_box.NoMemory) = Unit {0}
