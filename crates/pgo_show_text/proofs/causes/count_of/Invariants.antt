-- What the loop keeps: those so far.
use Rattle.std.proofs.Common.{◌≡◌, take}
use Rattle.pgo_bundle.specs.View.{attempt_view}
use Rattle.pgo_show_text.specs.Causes.{counted}
use Rattle.pgo_show_text.proofs.causes.count_of.Given as goal

abbrev pub invariant-loop-cause : goal.invariant-loop-cause
invariant-loop-cause l = l.count ≡ counted (attempt_view l.one) (take l.cause-index l.found)
