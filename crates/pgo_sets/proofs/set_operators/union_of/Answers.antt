use Rattle.std.proofs.Common.{◌≡◌, map, ap, sym, ◌∙◌, subst, arith}
use Rattle.std.specs.Prelude.{None, option_map, option_and_then}
use Rattle.pgo_base.specs.View.{data_of}
use Rattle.pgo_model.specs.Operators.{set_from, each, members_of, joined}
use Rattle.pgo_sets.specs.Answers.{Answers}
use Rattle.pgo_sets.proofs.Members.{flatten_is, joined_none, joined_all}
use Rattle.pgo_sets.proofs.set_operators.union_of.Goals as goal

pub returns-in_default : goal.returns-in_default
returns-in_default c =
    let none : members_of (data_of c.v-item.result) ≡ None = sym c.in_default.ensures in
    flatten_is c.args.sets.now ∙ ap (λ xs. option_and_then set_from (option_map joined (each members_of xs))) (sym c.members-v-items.ensures) ∙ ap (option_and_then set_from) (joined_none c.members-v-items.result.now (map data_of c.loop-v.members.items) c.loop-v.v-index c.v-item.result c.loop-v.invariant c.loop-v-test.true c.v-item.is none)

pub returns : goal.returns
returns c =
    let all = joined_all c.members-v-items.result.now (map data_of c.loop-v.members.items) c.loop-v.v-index c.loop-v.invariant (omega arith) in
    subst (Answers c.set_of.result) (sym (flatten_is c.args.sets.now ∙ ap (λ xs. option_and_then set_from (option_map joined (each members_of xs))) (sym c.members-v-items.ensures) ∙ ap (option_and_then set_from) all)) c.set_of.ensures
