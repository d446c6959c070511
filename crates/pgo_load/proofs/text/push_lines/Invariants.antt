use Rattle.std.proofs.Common.{◌≡◌, ◌++◌}
use Rattle.pgo_model.specs.ModuleText.{flatten}
use Rattle.pgo_load.specs.Load.{numbered}
use Rattle.pgo_load.specs.Numbered.{numbered_line}
use Rattle.pgo_load.proofs.text.push_lines.Given as goal

abbrev pub invariant-loop-i : goal.invariant-loop-i
invariant-loop-i l = l.text.items ≡ l.initial.text.items ++ flatten (numbered (numbered_line l.before l.between l.behind) l.i)
