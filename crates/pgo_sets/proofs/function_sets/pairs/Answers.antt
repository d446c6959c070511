use Rattle.std.proofs.Common.{map, ap, sym, subst, ◌<◌, ◌/◌, ◌+◌, drop, length}
use Rattle.pgo_base.specs.View.{data_of, pair_of}
use Rattle.pgo_model.specs.FunctionSets.{choice_count}
use Rattle.pgo_sets.specs.Choices.{members_in}
use Rattle.pgo_sets.proofs.Choosing.{Parts, parts_at, pairs_more}
use Rattle.pgo_sets.proofs.Paired.{pairs_push}
use Rattle.pgo_sets.proofs.function_sets.pairs.Goals as goal

at : (c : goal.After-members-members) → Parts c.loop-c.block c.loop-c.rest (length c.members-members.result.now) (choice_count (map members_in (drop (c.loop-c.c-index + 1) c.args.choices.now)))
at c = parts_at c.args.number c.args.choices.now (map pair_of c.loop-c.pairs.items) c.loop-c.block c.loop-c.rest c.loop-c.c-index c.c-item.result c.members-members.result.now c.loop-c.invariant c.loop-c-test.true c.c-item.is c.members-members.ensures

pub nonzero_div-block : goal.nonzero_div-block
nonzero_div-block c = (at c).0

pub bounds-members-rest : goal.bounds-members-rest
bounds-members-rest c = subst (λ b. c.loop-c.rest / b < length c.members-members.result.now) (sym (at c).2) (at c).3

pub loop-c-preserved : goal.loop-c-preserved
loop-c-preserved c =
    pairs_more c.args.number c.args.choices.now (map pair_of c.loop-c.pairs.items) _ c.loop-c.block c.loop-c.rest c.loop-c.c-index c.c-item.result c.members-members.result.now c.index-members-rest.result c.loop-c.invariant c.loop-c-test.true c.c-item.is c.members-members.ensures c.index-members-rest.is (pairs_push c.loop-c.pairs.items c.push.new.self.items _ _ _ c.in_ok-push.ensures.items (ap data_of c.in_ok-copy.ensures) (ap data_of c.in_ok-v.ensures))
