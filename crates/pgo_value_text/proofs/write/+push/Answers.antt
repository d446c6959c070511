-- A part is less deep than the whole, and the text of a value is made of those of its parts.
use Rattle.std.proofs.Common.{◌≡◌, ◌≤◌, ◌++◌, max, map, arith, List, ℕ, subst, suc}
use Rattle.std.specs.Prelude.{IfOk}
use Rattle.pgo_base.specs.PairsView.{all_pairs}
use Rattle.pgo_base.specs.Size.{depth, members_size, graph_size}
use Rattle.pgo_base.specs.View.{data_of, pair_of}
use Rattle.pgo_value_text.proofs.Sizes.{at_size, at_graph, set_size, function_size}
use Rattle.pgo_value_text.proofs.Parts.{set_written, function_written}
use Rattle.pgo_value_text.proofs.write.+push.Goals as goal

pub push_value-push_set-requires : goal.push_value-push_set-requires
push_value-push_set-requires t c =
    let s : depth (data_of c.args.value.now) ≡ suc (members_size (map data_of c.members.result.now)) = set_size _ _ c.members.result.now c.in-Set.is c.members.ensures in
    (omega arith, tt)

pub push_value-push_function-requires : goal.push_value-push_function-requires
push_value-push_function-requires t c =
    let s : depth (data_of c.args.value.now) ≡ suc (graph_size (map pair_of (all_pairs c.pairs.result))) = function_size _ _ (all_pairs c.pairs.result) c.in-Fun.is c.pairs.ensures in
    (omega arith, tt)

pub push_set-push_value-requires : goal.push_set-push_value-requires
push_set-push_value-requires t c =
    let s : depth (data_of c.index-members-i.result) ≤ members_size (map data_of c.args.members.now) = at_size _ _ _ (omega arith) c.index-members-i.is in
    (omega arith, tt)

pub push_pairs-push_key-requires : goal.push_pairs-push_key-requires
push_pairs-push_key-requires t c =
    let s : max (depth (data_of c.at-p.result.now.0)) (depth (data_of c.at-p.result.now.1)) ≤ graph_size (map pair_of (all_pairs c.args.list)) = at_graph _ _ _ (omega (arith, c.len-i-end.ensures)) c.at-p.ensures in
    (omega arith, tt)

pub push_pairs-push_value-requires : goal.push_pairs-push_value-requires
push_pairs-push_value-requires t c =
    let s : max (depth (data_of c.at-p.result.now.0)) (depth (data_of c.at-p.result.now.1)) ≤ graph_size (map pair_of (all_pairs c.args.list)) = at_graph _ _ _ (omega (arith, c.len-i-end.ensures)) c.at-p.ensures in
    (omega arith, tt)

pub push_value-returns-in-Set : goal.push_value-returns-in-Set
push_value-returns-in-Set t c =
    let written = set_written _ _ c.members.result.now c.in-Set.is c.members.ensures in
    subst (λ (l : List ℕ). IfOk c.push_set.result (λ _. c.push_set.new.bytes.items ≡ c.args.bytes.now.items ++ l)) written c.push_set.ensures

pub push_value-returns-in-Fun : goal.push_value-returns-in-Fun
push_value-returns-in-Fun t c =
    let written = function_written _ _ (all_pairs c.pairs.result) c.in-Fun.is c.pairs.ensures in
    subst (λ (l : List ℕ). IfOk c.push_function.result (λ _. c.push_function.new.bytes.items ≡ c.args.bytes.now.items ++ l)) written c.push_function.ensures
