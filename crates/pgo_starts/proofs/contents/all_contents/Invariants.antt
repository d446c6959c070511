use Rattle.std.proofs.Common.{◌≡◌, map, take}
use Rattle.pgo_base.specs.NameMaps.{has_name}
use Rattle.pgo_meaning.specs.System.{resource_of}
use Rattle.pgo_starts.specs.Contents.{cell_of}
use Rattle.pgo_starts.specs.ContentView.{content_shown}
use Rattle.pgo_starts.specs.Mailboxes.{is_mailbox, is_boxed_in}
use Rattle.pgo_starts.proofs.contents.all_contents.Given as goal

abbrev pub invariant-loop-resource : goal.invariant-loop-resource
invariant-loop-resource l =
    (map content_shown l.list.items ≡ map (cell_of l.start) (map resource_of (take l.resource-index l.resources)))
    × (map is_mailbox l.list.items ≡ map (is_boxed_in l.start (has_name l.kinds)) (take l.resource-index l.resources))
