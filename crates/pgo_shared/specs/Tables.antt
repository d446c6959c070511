-- What a table was told when it was opened.
use Rattle.pgo_table.specs.SeatViews.{TableTerms}
use Rattle.pgo_shared.specs.declared.shared.Shared.{Shared}

abbrev pub terms_of : {R : Type 0} → Shared R → TableTerms
terms_of shared = shared.table.shared.key
