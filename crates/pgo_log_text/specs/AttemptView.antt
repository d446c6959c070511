-- What was read of an attempt, as it lies in memory.
use Rattle.std.specs.Prelude.{Option, option_map}
use Rattle.pgo_base.specs.Data.{Data}
use Rattle.pgo_base.specs.Lookup.{Name}
use Rattle.pgo_base.specs.View.{data_of}
use Rattle.pgo_base.specs.declared.value.Value.{Value}
use Rattle.pgo_syntax.specs.RecordView.{kind_view}
use Rattle.pgo_log_text.specs.declared.attempt.NumberWord as words
use Rattle.pgo_log_text.specs.declared.attempt.NumberWord.TheVariants as word
use Rattle.pgo_log_text.specs.Lines.{NumberWord, StepWord, NoteWord, FullWord}

abbrev pub number_word_view : words.NumberWord → NumberWord
number_word_view word.Step = StepWord
number_word_view (word.Note kind) = NoteWord (kind_view kind)
number_word_view word.Full = FullWord

-- a variable and an index
abbrev pub component_read : Name × Option Value → Name × Option Data
component_read c = (c.0, option_map data_of c.1)
