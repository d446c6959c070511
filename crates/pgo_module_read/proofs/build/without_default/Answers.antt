use Rattle.std.proofs.Common.{◌∷◌, ◌++◌, [], true, false, ap, sym, ◌∙◌}
use Rattle.pgo_model.specs.ValueText.{same_bytes}
use Rattle.pgo_model.specs.Written.{default_init_value}
use Rattle.pgo_module_read.proofs.Defaults.{default_read, default_other, refused}
use Rattle.pgo_module_read.proofs.build.without_default.Goals as goal

pub returns-then-is_same : goal.returns-then-is_same
returns-then-is_same c =
    default_read c.args.names c.from_vec.result c.in-Some.last (sym c.into_vec-list.ensures ∙ c.in-Some.ensures.items ∙ ap (λ z. z ++ c.in-Some.last ∷ []) (sym c.from_vec.ensures))
    (ap (λ z. same_bytes z default_init_value) (sym c.as_bytes.ensures) ∙ sym c.is_same.ensures ∙ c.if-is_same.true)

pub returns-else-is_same : goal.returns-else-is_same
returns-else-is_same c =
    refused _ c.at-else-is_same.result c.at-else-is_same.ensures.syntax
    (default_other c.args.names c.pop.new.self.items c.in-Some.last (sym c.into_vec-list.ensures ∙ c.in-Some.ensures.items)
    (ap (λ z. same_bytes z default_init_value) (sym c.as_bytes.ensures) ∙ sym c.is_same.ensures ∙ c.if-is_same.false))
