use Rattle.std.proofs.Common.{◌≡◌, ◌++◌, drop}
use Rattle.std.specs.List.{flat_map}
use Rattle.pgo_pluscal.specs.Text.{definition_text}
use Rattle.pgo_pluscal.proofs.heads.push_definitions.Given as goal

abbrev pub invariant-loop-definition : goal.invariant-loop-definition
invariant-loop-definition l = l.bytes.items ++ flat_map definition_text (drop l.definition-index l.definitions) ≡ l.initial.bytes.items ++ flat_map definition_text l.definitions
