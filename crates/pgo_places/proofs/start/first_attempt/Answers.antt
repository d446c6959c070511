-- The names of the instance, where it has code and an identifier.
use Rattle.std.proofs.Common.{◌≡◌, Some, None, ap, sym, ◌∙◌, map, option_map, rules, []}
use Rattle.std.proofs.lemmas.Result.{IfOk-weaker}
use Rattle.std.specs.Arc.{arc_value}
use Rattle.pgo_base.specs.View.{data_of}
use Rattle.pgo_model.specs.Choice.{Seeded, words_of}
use Rattle.pgo_model.specs.Machine.{nth}
use Rattle.pgo_model.specs.Outcome.{NoValue, most_leaves}
use Rattle.pgo_tries.specs.Sections.{along}
use Rattle.pgo_resource.specs.Picked.{attempt_words}
use Rattle.pgo_workers.specs.Tried.{trying}
use Rattle.pgo_workers.specs.Walk.{Stop, Sticks}
use Rattle.pgo_code.specs.declared.program.Program.{Program}
use Rattle.pgo_places.specs.PlaceWalk.{walk_in}
use Rattle.pgo_places.specs.Trees.{leaf_named, leaf_of, tries_in}
use Rattle.pgo_places.proofs.FirstWalks.{no_walk, leaves_same}
use Rattle.pgo_places.proofs.InstanceNames.{nth_map, leaf_some, leaf_none, leaf_without}
use Rattle.pgo_places.proofs.start.first_attempt.Goals as goal

pub returns-in_default : goal.returns-in_default
returns-in_default c =
    let p = c.args.program.now in let k = c.args.instance in let s = c.args.seed in let a = c.args.attempt in let own = c.args.own.now in let first = words_of (Seeded s k a) in
    let none : nth p.codes.items k ≡ None = search rules in
    IfOk-weaker c.nowhere.result (λ q. (x : Program) → walk_in x q ≡ Stop (Sticks NoValue)) (λ q. walk_in p q ≡ tries_in p s k a own)
    (λ q h. h p ∙ sym (no_walk (λ path. leaf_of p first (along 0 path first) k own) first (leaf_without p k own none first first))) c.nowhere.ensures

pub returns-in_default-at : goal.returns-in_default-at
returns-in_default-at c =
    let p = c.args.program.now in let k = c.args.instance in let s = c.args.seed in let a = c.args.attempt in let own = c.args.own.now in let first = words_of (Seeded s k a) in
    let code : nth p.codes.items k ≡ Some c.in-Some.code.now = search rules in
    let none : nth c.args.names.now k ≡ None = search rules in
    IfOk-weaker c.nowhere-in_default-at.result (λ q. (x : Program) → walk_in x q ≡ Stop (Sticks NoValue)) (λ q. walk_in p q ≡ tries_in p s k a own)
    (λ q h. h p ∙ sym (no_walk (λ path. leaf_of p first (along 0 path first) k own) first
    (leaf_none p k c.in-Some.code.now code own (map arc_value c.args.names.now) c.requires (nth_map arc_value c.args.names.now k ∙ ap (option_map arc_value) none) first first)))
    c.nowhere-in_default-at.ensures

pub first_in-requires-clause-names : goal.first_in-requires-clause-names
first_in-requires-clause-names c =
    let p = c.args.program.now in let k = c.args.instance in
    let code : nth p.codes.items k ≡ Some c.in-Some.code.now = search rules in
    let here : nth c.args.names.now k ≡ Some c.in-Some-at.fixed.now = search rules in
    (leaf_some p k c.in-Some.code.now code c.args.own.now (map arc_value c.args.names.now) c.in-Some-at.fixed.now.value c.requires (nth_map arc_value c.args.names.now k ∙ ap (option_map arc_value) here)).0

pub returns : goal.returns
returns c =
    let p = c.args.program.now in let k = c.args.instance in let own = c.args.own.now in let x = c.in-Some-at.fixed.now.value in
    let s = c.args.seed in let a = c.args.attempt in let first = words_of (Seeded s k a) in let picked = attempt_words c.of_seed-picks.result in
    let code : nth p.codes.items k ≡ Some c.in-Some.code.now = search rules in
    let here : nth c.args.names.now k ≡ Some c.in-Some-at.fixed.now = search rules in
    let leaf = (leaf_some p k c.in-Some.code.now code own (map arc_value c.args.names.now) x c.requires (nth_map arc_value c.args.names.now k ∙ ap (option_map arc_value) here)).1 in
    IfOk-weaker c.first_in.result
    (λ q. walk_in p q ≡ trying (λ path. leaf_named p c.in-Some.code.now (data_of x.id) own picked (along 0 path picked)) picked most_leaves [])
    (λ q. walk_in p q ≡ tries_in p s k a own)
    (λ q h. h
    ∙ ap (λ w. trying (λ path. leaf_named p c.in-Some.code.now (data_of x.id) own w (along 0 path w)) w most_leaves []) c.of_seed-picks.ensures.first
    ∙ leaves_same first (λ path. leaf_named p c.in-Some.code.now (data_of x.id) own first (along 0 path first)) (λ path. leaf_of p first (along 0 path first) k own) (λ path. leaf first (along 0 path first)))
    c.first_in.ensures
