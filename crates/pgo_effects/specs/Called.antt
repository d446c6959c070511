-- The macro of a name.
use Rattle.std.specs.Prelude.{List, take}
use Rattle.pgo_syntax.specs.declared.macros.Macro.{Macro}
use Rattle.pgo_meaning.specs.MacrosPlaced.{Body, bodies}
use Rattle.pgo_effects.specs.declared.called.Called.{Called}
use Rattle.pgo_effects.specs.Bodies.{body_after}

-- what a macro does, which is called where these may be
abbrev pub called_body : List Macro → Called → Body
called_body ms c = body_after (bodies (take c.place ms)) c.of.now
