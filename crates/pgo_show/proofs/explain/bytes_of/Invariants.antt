-- What the loop keeps: the bytes so far, and those of the lines that are left, are all.
use Rattle.std.proofs.Common.{◌≡◌, ◌++◌, drop}
use Rattle.pgo_model.specs.ModuleText.{flatten}
use Rattle.pgo_show.proofs.explain.bytes_of.Given as goal

abbrev pub invariant-loop-line : goal.invariant-loop-line
invariant-loop-line l = l.bytes.items ++ flatten (drop l.line-index l.lines) ≡ flatten l.lines
