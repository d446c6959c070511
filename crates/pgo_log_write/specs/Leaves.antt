-- The fields of a record by its own numbers.
use Rattle.std.specs.Prelude.{ℕ, List, [], ◌∷◌, codes, decimal}
use Rattle.pgo_model.specs.Bundle.{record_fields}
use Rattle.pgo_model.specs.System.{Resource}
use Rattle.pgo_syntax.specs.RecordView.{refusal_view, result_view}
use Rattle.pgo_syntax.specs.declared.records.AttemptResult.{AttemptResult}
use Rattle.pgo_syntax.specs.declared.records.AttemptResult.TheVariants as results
use Rattle.pgo_syntax.specs.declared.records.Refusal.{Refusal}
use Rattle.pgo_syntax.specs.declared.records.Refusal.TheVariants as refusals

abbrev pub refusal_fields : List Resource → Refusal → List (List ℕ)
refusal_fields rs (refusals.Held r h) = record_fields rs (refusal_view (refusals.Held r h))
refusal_fields rs (refusals.Down r o) = record_fields rs (refusal_view (refusals.Down r o))
refusal_fields rs (refusals.Full n) = record_fields rs (refusal_view (refusals.Full n))
refusal_fields rs (refusals.Many leaves n) = codes "many" ∷ decimal leaves ∷ decimal n ∷ []

abbrev pub result_fields : List Resource → AttemptResult → List (List ℕ)
result_fields rs (results.Step n) = record_fields rs (result_view (results.Step n))
result_fields rs (results.Noted kind n) = record_fields rs (result_view (results.Noted kind n))
result_fields rs (results.Refused x) = refusal_fields rs x
