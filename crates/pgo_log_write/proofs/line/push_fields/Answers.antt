use Rattle.std.proofs.Common.{◌≡◌, ◌∷◌, ◌++◌, map, ap, sym, ◌∙◌, append_assoc, rules}
use Rattle.std.proofs.lemmas.Result.{IfOk-equal}
use Rattle.pgo_model.specs.Bundle.{fields}
use Rattle.pgo_log_write.specs.Fields.{field_text}
use Rattle.pgo_log_write.proofs.Joined.{behind_blank, fields_listed}
use Rattle.pgo_log_write.proofs.line.push_fields.Goals as goal

pub returns-in_ok-push_field-in-Some : goal.returns-in_ok-push_field-in-Some
returns-in_ok-push_field-in-Some c =
    let old = c.args.bytes.now.items in
    let first = c.in-Some.first.now in
    let rest = c.in-Some.rest.now in
    let parts : c.args.fields.now ≡ first ∷ rest = search rules in
    IfOk-equal c.push_more.result _ _ _ c.push_more.ensures
    (ap (λ t. t ++ behind_blank rest) c.in_ok-push_field-in-Some.ensures ∙ append_assoc old (field_text first) (behind_blank rest)
    ∙ ap (λ t. old ++ t) (sym (fields_listed first rest) ∙ sym (ap (λ l. fields (map field_text l)) parts)))
