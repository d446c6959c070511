-- Claims and places as they lie in memory, as what they stand for.
use Rattle.std.specs.Prelude.{List, map}
use Rattle.std.specs.Prelude.{Vec}
use Rattle.std.specs.Global.{Global}
use Rattle.pgo_syntax.specs.RecordView.{kind_view}
use Rattle.pgo_bundle.specs.declared.claims.Claim as claims
use Rattle.pgo_bundle.specs.declared.claims.Claim.TheVariants as claim
use Rattle.pgo_bundle.specs.declared.untied.Untied as untieds
use Rattle.pgo_bundle.specs.declared.untied.Untied.TheVariants as untied
use Rattle.pgo_bundle.specs.Untied.{Untied, AtRecord, AtEntry, AtNote, Claim, Nothing, OneStep, OneNote, Several}

abbrev pub claim_view : claims.Claim → Claim
claim_view claim.Nothing = Nothing
claim_view (claim.Step n) = OneStep n
claim_view (claim.Note kind p) = OneNote (kind_view kind) p
claim_view claim.Several = Several

abbrev pub row_view : Vec claims.Claim Global → List Claim
row_view r = map claim_view r.items

abbrev pub rows_view : List (Vec claims.Claim Global) → List (List Claim)
rows_view rs = map row_view rs

abbrev pub table_view : Vec (Vec claims.Claim Global) Global → List (List Claim)
table_view t = rows_view t.items

abbrev pub untied_view : untieds.Untied → Untied
untied_view (untied.Record k a) = AtRecord k a
untied_view (untied.Entry i) = AtEntry i
untied_view (untied.Note p j) = AtNote p j
