-- The sooner of what is found and what is left is the least of all.
use Rattle.std.proofs.Common.{◌≡◌, drop}
use Rattle.std.specs.Prelude.{flat_map}
use Rattle.pgo_labels.specs.LabelHere.{label_in_macro}
use Rattle.pgo_syntax.specs.Least.{sooner_of, least}
use Rattle.pgo_labels.proofs.checker.label_in_macros.Given as goal

abbrev pub invariant-loop-m : goal.invariant-loop-m
invariant-loop-m l = sooner_of (λ f. f.place) l.found (least (λ f. f.place) (flat_map label_in_macro (drop l.m-index l.list))) ≡ least (λ f. f.place) (flat_map label_in_macro l.list)
