-- What the loop keeps: an attempt that is like none of those that are left is like none.
use Rattle.std.proofs.Common.{◌≡◌, map, drop}
use Rattle.pgo_bundle.specs.View.{attempt_view}
use Rattle.pgo_show_text.specs.Causes.{line_of}
use Rattle.pgo_show_text.specs.Facts as spec
use Rattle.pgo_show_text.proofs.causes.first_place.Given as goal

abbrev pub invariant-loop-place : goal.invariant-loop-place
invariant-loop-place l =
    spec.is_alike_one (attempt_view l.attempt) (map line_of l.found) ≡ spec.is_alike_one (attempt_view l.attempt) (map line_of (drop l.place l.found))
