use Rattle.std.proofs.Common.{◌∷◌, ap, sym, ◌∙◌}
use Rattle.std.specs.Prelude.{Some, option_map}
use Rattle.pgo_base.specs.BindingsView.{value_name}
use Rattle.pgo_base.specs.View.{data_of}
use Rattle.pgo_base.specs.declared.bindings.NamedValue.{NamedValue}
use Rattle.pgo_base.proofs.LastRows.{last_found}
use Rattle.pgo_base.proofs.bindings.found_named.Goals as goal

pub returns-in-Some : goal.returns-in-Some
returns-in-Some c =
    ap Some c.lent.ensures
    ∙ ap (option_map (λ (n : NamedValue). option_map data_of n.value)) (rw c.in-Some.is at c.last_named.ensures) ∙ sym (last_found value_name (λ n. option_map data_of n.value) c.args.name.now (c.args.first.now ∷ c.args.rest.now))

pub returns-in-None : goal.returns-in-None
returns-in-None c = ap (option_map (λ (n : NamedValue). option_map data_of n.value)) (rw c.in-None.is at c.last_named.ensures) ∙ sym (last_found value_name (λ n. option_map data_of n.value) c.args.name.now (c.args.first.now ∷ c.args.rest.now))
