-- A word is cut at its first `=`, so its parts are those of any constant that it is.
use Rattle.std.proofs.Common.{◌≡◌, true, Some, Err, sym, ◌∙◌, ap, subst}
use Rattle.pgo_base.specs.Data.{Data}
use Rattle.pgo_base.specs.View.{data_of}
use Rattle.pgo_value_text.specs.IsValueText.{is_name, IsValueText}
use Rattle.pgo_value_text.specs.ReadValue.{IsOnly}
use Rattle.pgo_words.specs.Constants.{ReadsConstant}
use Rattle.pgo_words.proofs.ConstantWords.{no_cut, no_name, no_value, the_constant}
use Rattle.pgo_words.proofs.constants.read_constant.Goals as goal

pub returns-in-None : goal.returns-in-None
returns-in-None c = no_cut c.args.word.now c.in-None.ensures

pub returns-then-not-is_name : goal.returns-then-not-is_name
returns-then-not-is_name c =
    no_name c.args.word.now c.in-Some.name.now c.in-Some.text.now c.in-Some.ensures.0 c.in-Some.ensures.1
    (ap is_name (sym c.as_bytes.ensures.value) ∙ sym c.is_name.ensures ∙ c.if-not-is_name.true)

pub returns-in_ok-from_slice-in-Ok : goal.returns-in_ok-from_slice-in-Ok
returns-in_ok-from_slice-in-Ok c =
    let word = c.args.word.now in
    let name = c.in-Some.name.now in
    let text = c.in-Some.text.now in
    let v = data_of c.in-Ok.value in
    let same : c.in_ok-from_slice-in-Ok.field-0 ≡ name = c.in_ok-from_slice-in-Ok.ensures ∙ c.as_bytes-in-Ok.ensures.value in
    let named : is_name name ≡ true = ap is_name (sym c.as_bytes.ensures.value) ∙ sym c.is_name.ensures ∙ c.if-not-is_name.false in
    let found : IsValueText text v = subst (λ t. IsValueText t v) c.as_bytes-in-Some.ensures.value c.in-Ok.ensures.found in
    let only : (d : Data) → IsValueText text d → d ≡ v
    = λ d h. c.in-Ok.ensures.only d (subst (λ t. IsValueText t d) (sym c.as_bytes-in-Some.ensures.value) h)
    in
    subst (λ x. ReadsConstant word (Some (x, v))) (sym same) (the_constant word name text v c.in-Some.ensures.0 c.in-Some.ensures.1 named found only)

pub returns-in-Err-Bad : goal.returns-in-Err-Bad
returns-in-Err-Bad c =
    no_value c.args.word.now c.in-Some.name.now c.in-Some.text.now c.in-Some.ensures.0 c.in-Some.ensures.1
    (λ d h. subst (λ e. IsOnly d (Err e)) c.in-Err-Bad.field-0-is (c.in-Err-Bad.ensures.only d (subst (λ t. IsValueText t d) (sym c.as_bytes-in-Some.ensures.value) h)))
