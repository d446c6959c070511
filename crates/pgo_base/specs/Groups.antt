-- Names as groups of names.
use Rattle.std.specs.Prelude.{ℕ, List}
use Rattle.std.specs.Coded.{Coded, coded_ℕ, coded_list}
use Rattle.pgo_base.specs.Lookup.{Name}

abbrev pub Groups : Type 0
Groups = List (List Name)

abbrev pub coded_groups : Coded (List (List (List ℕ)))
coded_groups = coded_list (coded_list (coded_list coded_ℕ))
