-- A statement with macros in the place of their calls, and with the arguments of the macros around it.
use Rattle.std.specs.Prelude.{Option, Some, None, option_map, []}
use Rattle.pgo_base.specs.Lookup.{Name}
use Rattle.pgo_syntax.specs.Statement.{Statement, Statements, LabeledStatements, GuardedStatements}
use Rattle.pgo_meaning.specs.MacrosPlaced.{Bodies, bodies, placed, placed_each, placed_among, placed_guarded}
use Rattle.pgo_meaning.specs.Statements.{Setting, label_of}
use Rattle.pgo_effects.specs.declared.around.Around.{Around}
use Rattle.pgo_effects.specs.Puts.{Layers, puts, puts_each, puts_among, puts_guarded}

-- what stands around a part of the text: the arguments of the macros around it, the macros that may be called, and the label of the
-- last one above
pub record Surroundings : Type 0 where
  pub layers : Layers
  pub bodies : Bodies
  pub label : Option Name

abbrev pub around_view : Around → Surroundings
around_view a = record { layers = a.layers.value.items; bodies = bodies a.macros; label = option_map (λ x. x.now) a.label }

abbrev pub stands : Surroundings → Statement → Statement
stands a t = puts a.layers (placed a.bodies t)

abbrev pub stands_each : Surroundings → Statements → Statements
stands_each a ts = puts_each a.layers (placed_each a.bodies ts)

abbrev pub stands_among : Surroundings → LabeledStatements → LabeledStatements
stands_among a ts = puts_among a.layers (placed_among a.bodies ts)

abbrev pub stands_guarded : Surroundings → GuardedStatements → GuardedStatements
stands_guarded a bs = puts_guarded a.layers (placed_guarded a.bodies bs)

-- a label as it is written; empty where there is none
abbrev pub written_label : Setting → Option Name → Name
written_label s None = []
written_label s (Some x) = label_of s.process x
