-- The instances one after the other.
use Rattle.std.proofs.Common.{◌<◌, ◌≤◌, ◌+◌, [], ◌∷◌, ◌++◌, ap, sym, ◌∙◌, map, drop, length, arith}
use Rattle.std.specs.Arc.{arc_value}
use Rattle.pgo_bound.specs.State.{id_of}
use Rattle.pgo_places.specs.AllNames.{names_from, seen}
use Rattle.pgo_places.specs.FirstStands.{fixed_of}
use Rattle.pgo_places.proofs.InstanceNames.{names_more, no_instances, no_code}
use Rattle.pgo_places.proofs.start.names_of.Goals as goal

pub loop-code-preserved : goal.loop-code-preserved
loop-code-preserved c =
    let l = c.loop-code in let cs = c.args.codes.now in let ns = map seen (map arc_value l.names.items) in let i = c.in-Some.instance.now in
    let lt : l.code-index < length cs = omega arith in
    ap (λ xs. xs ++ names_from (drop (l.code-index + 1) cs) c.in-Some.others.now) (c.in_ok-add_names.ensures ∙ (λ j. ns ++ (fixed_of (c.code-item.is j), id_of i) ∷ []))
    ∙ names_more ns cs l.code-index (l.code-index + 1) c.code-item.result i l.left.now c.in-Some.others.now lt (omega arith) c.in-Some.ensures.cases.0
    ∙ l.invariant

pub returns-in_default : goal.returns-in_default
returns-in_default c =
    let l = c.loop-code in
    sym (no_instances (map seen (map arc_value l.names.items)) (drop l.code-index c.args.codes.now) l.left.now c.in_default.ensures.cases) ∙ l.invariant

pub returns : goal.returns
returns c =
    let l = c.loop-code in let past : length c.args.codes.now ≤ l.code-index = omega arith in
    sym (no_code (map seen (map arc_value l.names.items)) c.args.codes.now l.code-index l.left.now past) ∙ l.invariant
