-- What the loop keeps: the lines so far, and those of the causes that are left, are all.
use Rattle.std.proofs.Common.{◌≡◌, ◌++◌, map, drop}
use Rattle.pgo_show_text.specs.Causes.{line_in}
use Rattle.pgo_show_text.proofs.instance.push_causes.Given as goal

abbrev pub invariant-loop-cause : goal.invariant-loop-cause
invariant-loop-cause l =
    l.lines ++ map (line_in l.causes) (drop l.cause-index l.causes) ≡ l.fn.lines ++ map (line_in l.causes) l.causes
