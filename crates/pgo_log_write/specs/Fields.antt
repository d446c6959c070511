-- What the fields of a line write.
use Rattle.std.specs.Prelude.{ℕ, List, map, decimal}
use Rattle.pgo_model.specs.Bundle.{fields}
use Rattle.pgo_model.specs.ModuleText.{Line, line}
use Rattle.pgo_log_write.specs.declared.line.Field.{Field}
use Rattle.pgo_log_write.specs.declared.line.Field.TheVariants.{Word, Number}

abbrev pub field_text : Field → List ℕ
field_text (Word w) = w.now
field_text (Number n) = decimal n

-- a line of these fields
abbrev pub fields_line : List Field → Line
fields_line fs = line (fields (map field_text fs))
