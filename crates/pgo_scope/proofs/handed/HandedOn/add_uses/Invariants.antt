-- What the loop keeps: what is noted and what is left are the whole.
use Rattle.std.proofs.Common.{◌≡◌, false, drop}
use Rattle.pgo_base.specs.Lookup.{Name}
use Rattle.pgo_uses.specs.Names.{has_row}
use Rattle.pgo_scope.specs.declared.binders.Binders.{Binders}
use Rattle.pgo_scope.specs.Binders.{some_binds, is_handed}
use Rattle.pgo_scope.proofs.CaptureLaws.{handed_from}
use Rattle.pgo_scope.proofs.handed.HandedOn.add_uses.Given as goal

abbrev pub invariant-loop-u : goal.invariant-loop-u
invariant-loop-u l = (b : Binders) (p : Name) (x : Name) → handed_from (has_row p l.seen) (is_handed b l.self p x) (some_binds b l.places x) p (drop l.u-index l.uses) ≡ handed_from false (is_handed b l.initial.self p x) (some_binds b l.places x) p l.uses
