-- The commands of `clap` that decide which options there are.
use Rattle.std.specs.Prelude.{Bool, true, false, List, [], ◌∷◌, Some, codes, if◌then◌else◌}
use Rattle.clap.specs.Walk.{Rule, Text}
use Rattle.clap.specs.Simple.{App, new_rule, new_shape, with_rule}
use Rattle.clap.specs.declared.builder.action.ArgAction.TheVariants.{Set}

-- an option of this name with one value, which must be there or may be
abbrev pub value_option : Bool → Text → Rule
value_option required name = record (new_rule name) { long = Some name; action = Some Set; required = required }

-- a command with neither options nor the program's name before its words
abbrev pub bare_command : App
bare_command = record {
  top = record (new_shape (codes "options")) { no_binary_name = true; disable_help_flag = true };
  subs = [];
}

abbrev pub with_options : App → List (Bool × Text) → App
with_options a [] = a
with_options a (o ∷ os) = with_options (with_rule a (value_option o.0 o.1)) os

-- the options of `run`, none of which must be there
abbrev pub optional : List (Bool × Text)
optional = (false, codes "seed") ∷ ((false, codes "attempts") ∷ ((false, codes "steps") ∷ ((false, codes "fail") ∷ [])))

-- the options of `step`, or of `run`, without their dashes, and whether each must be there
abbrev pub options_of : (is_step : Bool) → List (Bool × Text)
options_of is_step = if is_step then (true, codes "turns") ∷ optional else optional

abbrev pub command_of : (is_step : Bool) → App
command_of is_step = with_options bare_command (options_of is_step)
