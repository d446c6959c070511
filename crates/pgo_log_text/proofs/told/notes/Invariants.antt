-- What the loop keeps: what is left to read gives the same, and each note that was read has a byte.
use Rattle.std.proofs.Common.{◌≡◌, ◌≤◌, ◌-◌, ◌+◌, length, map}
use Rattle.std.specs.Prelude.{codes}
use Rattle.pgo_bundle.specs.View.{logged_note_view}
use Rattle.pgo_log_text.specs.Lines as spec
use Rattle.pgo_log_text.proofs.told.notes.Given as goal

abbrev pub invariant-parts : goal.invariant-parts
invariant-parts l =
    (spec.notes l.fn.cursor ≡ spec.parts (codes "note ") spec.any_note (length l.fn.cursor - length l.notes) (length l.notes) (map logged_note_view l.notes) l.cursor)
    × (length l.cursor + length l.notes ≤ length l.fn.cursor)

abbrev pub decreases-parts : goal.decreases-parts
decreases-parts l = length l.cursor
