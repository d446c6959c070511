-- What the loop keeps: what is left to compare gives the same.
use Rattle.std.proofs.Common.{◌≡◌, drop, map}
use Rattle.pgo_base.specs.View.{named_data}
use Rattle.pgo_log_text.specs.Lines as spec
use Rattle.pgo_log_text.proofs.lines.are_named.Given as goal

abbrev pub invariant-loop-i : goal.invariant-loop-i
invariant-loop-i l = spec.are_named (map named_data l.consts) l.names ≡ spec.are_named (map named_data (drop l.i l.consts)) (drop l.i l.names)
