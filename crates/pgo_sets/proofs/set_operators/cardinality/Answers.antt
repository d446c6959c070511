use Rattle.std.proofs.Common.{◌≡◌, ap, sym, ◌∙◌, rules, w64, pos, length, ◌<◌, ◌^◌}
use Rattle.std.specs.Prelude.{Some}
use Rattle.std.proofs.lemmas.Int.{to_z_pos}
use Rattle.std.proofs.lemmas.List.{length-map}
use Rattle.pgo_base.specs.Data.{integer, members, items, members-items}
use Rattle.pgo_base.specs.View.{data_of}
use Rattle.pgo_sets.proofs.set_operators.cardinality.Goals as goal

pub returns-in-Set : goal.returns-in-Set
returns-in-Set c =
    let vs = c.members.result.now in
    let count : length (members (items c.in-Set.set)) ≡ length vs = ap length (members-items c.in-Set.set ∙ sym c.members.ensures) ∙ length-map vs data_of in
    let small : length vs < 2 ^ 63 = search rules in
    rw (c.in-Set.is) (ap (λ n. Some (integer (pos n))) count ∙ ap (λ z. Some (integer z)) (sym (to_z_pos w64 (length vs) small)))
