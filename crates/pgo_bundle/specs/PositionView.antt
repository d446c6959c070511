-- Lists of notes as they lie in memory.
use Rattle.std.specs.Prelude.{List, Vec, map}
use Rattle.std.specs.Global.{Global}
use Rattle.pgo_bundle.specs.declared.log.LoggedNote as notes
use Rattle.pgo_bundle.specs.BundleLog.{LoggedNote}
use Rattle.pgo_bundle.specs.View.{logged_note_view}

abbrev pub place_view : List notes.LoggedNote → List LoggedNote
place_view ns = map logged_note_view ns

abbrev pub places_view : Vec (List notes.LoggedNote) Global → List (List LoggedNote)
places_view v = map place_view v.items
