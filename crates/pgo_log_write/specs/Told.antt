-- An entry as it is written: with what it printed, where this is told, and with the notes behind it.
use Rattle.std.specs.Prelude.{List, map, Option, option_map}
use Rattle.std.specs.Borrow.{Bor}
use Rattle.pgo_base.specs.Data.{Data}
use Rattle.pgo_base.specs.View.{data_of}
use Rattle.pgo_base.specs.declared.log.Entry.{Entry}
use Rattle.pgo_base.specs.declared.value.Value.{Value}
use Rattle.pgo_model.specs.LogView.{entry_view}
use Rattle.pgo_bundle.specs.declared.log.LoggedNote as notes
use Rattle.pgo_bundle.specs.BundleLog.{LoggedEntry}
use Rattle.pgo_bundle.specs.View.{logged_note_view}

abbrev pub told_view : Option (Bor (List Value)) → Option (List Data)
told_view o = option_map (λ vs. map data_of vs.now) o

abbrev pub logged_view : Entry → Option (Bor (List Value)) → List notes.LoggedNote → LoggedEntry
logged_view e prints ns = record { entry = entry_view e; prints = told_view prints; notes = map logged_note_view ns }
