-- The number of leaves that are tried, in decimal.
use Rattle.std.proofs.Common.{◌≡◌, ℕ, true, codes, decimal, List, [], ◌∷◌, refl, sym, ap, ◌∙◌, arith}
use Rattle.std.proofs.lemmas.Bool.{eqb-true}
use Rattle.std.proofs.lemmas.Fmt.{decimal-digits_value}
use Rattle.pgo_model.specs.Bundle.{kind_text, record_fields}
use Rattle.pgo_model.specs.Outcome.{Many, most_leaves}
use Rattle.pgo_model.specs.System.{Resource}
use Rattle.pgo_syntax.specs.ManyLeaves.{counts_leaves, tells_many}
use Rattle.pgo_syntax.specs.RecordView.{refusal_view, result_view}
use Rattle.pgo_syntax.specs.declared.records.AttemptResult.{AttemptResult}
use Rattle.pgo_syntax.specs.declared.records.AttemptResult.TheVariants as results
use Rattle.pgo_syntax.specs.declared.records.Refusal.{Refusal}
use Rattle.pgo_syntax.specs.declared.records.Refusal.TheVariants as refusals
use Rattle.pgo_value_text.proofs.Numbers.{AreDigits, numerals}
use Rattle.pgo_log_write.specs.Leaves.{refusal_fields, result_fields}

are_digits : AreDigits (kind_text Many)
unfolding AreDigits
are_digits = refl

pub most_written : kind_text Many ≡ decimal most_leaves
most_written = sym (decimal-digits_value numerals (kind_text Many) are_digits (omega arith) (λ e. absurd (omega (arith, e))) (omega arith))

refusal_written : (rs : List Resource) (x : Refusal) → counts_leaves x ≡ true → refusal_fields rs x ≡ record_fields rs (refusal_view x)
refusal_written rs (refusals.Held r h) e = refl
refusal_written rs (refusals.Down r o) e = refl
refusal_written rs (refusals.Full n) e = refl
refusal_written rs (refusals.Many leaves n) e = ap (λ (t : List ℕ). codes "many" ∷ t ∷ decimal n ∷ []) (ap decimal (eqb-true leaves most_leaves e) ∙ sym most_written)

-- a record is written by its own numbers
pub result_written : (rs : List Resource) (r : AttemptResult) → tells_many r ≡ true → result_fields rs r ≡ record_fields rs (result_view r)
result_written rs (results.Step n) e = refl
result_written rs (results.Noted kind n) e = refl
result_written rs (results.Refused x) e = refusal_written rs x e
