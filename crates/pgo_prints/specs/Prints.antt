-- Lists of values that can be written.
use Rattle.std.specs.Prelude.{List}
use Rattle.pgo_base.specs.Data.{Data}
use Rattle.pgo_values.specs.Within.{EachWithin}
use Rattle.pgo_run_values.specs.Spellable.{spellable}

-- each of the values is within the limits of values whose canonical text is read back, but for their depth
abbrev pub EachSpellable : List Data → Type 0
EachSpellable = EachWithin spellable
