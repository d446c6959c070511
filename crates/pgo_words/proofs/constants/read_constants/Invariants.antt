-- What the loop keeps: what is read, and what is left, are the words' constants together; and the names that are noted are those of what is read.
use Rattle.std.proofs.Common.{◌≡◌, map, drop}
use Rattle.pgo_base.specs.Lookup.{Name}
use Rattle.pgo_base.specs.View.{named_data}
use Rattle.pgo_base.specs.NameMaps as maps
use Rattle.pgo_words.specs.Constants.{ReadsRest, has_name}
use Rattle.pgo_words.specs.Parts.{texts}
use Rattle.pgo_words.proofs.constants.read_constants.Given as goal

abbrev pub invariant-loop-word : goal.invariant-loop-word
invariant-loop-word l =
    ReadsRest (texts l.words) (map named_data l.list.items) (texts (drop l.word-index l.words))
    × ((x : Name) → maps.has_name l.names x ≡ has_name x (map named_data l.list.items))
