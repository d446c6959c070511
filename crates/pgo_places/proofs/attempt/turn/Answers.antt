-- The next leaf, or none.
use Rattle.std.proofs.Common.{◌≡◌, ◌-◌, suc, true, false, Some, None, refl, ap, sym, ◌∙◌, rules, arith}
use Rattle.std.specs.Prelude.{if◌then◌else◌}
use Rattle.pgo_tries.specs.Chosen.{turned}
use Rattle.pgo_tries.specs.Sections.{along}
use Rattle.pgo_workers.specs.Tried.{trying}
use Rattle.pgo_resource.specs.Picked.{attempt_words, path_of, points_of}
use Rattle.pgo_resource.specs.declared.picks.Picks.{Picks}
use Rattle.pgo_places.specs.LeafEvents.{points_at}
use Rattle.pgo_places.specs.PlaceWalk.{leaf_in, leaf_from, walk_in}
use Rattle.pgo_places.specs.Turned.{is_blocked}
use Rattle.pgo_places.proofs.Walks.{with_picks, stays_behind, last_leaf, many_leaf, again_leaf}
use Rattle.pgo_places.proofs.attempt.turn.Goals as goal

pub returns-then-not-is_blocked-clause-turns : goal.returns-then-not-is_blocked-clause-turns
returns-then-not-is_blocked-clause-turns c =
    let p = c.args.program.now in let q = c.args.attempt.now in let first = attempt_words q.place.stand.picks in
    let b : is_blocked c.args.event ≡ false = search rules in
    (refl, stays_behind first (λ path. trying (λ path. leaf_from p q.place q.start (along 0 path first)) first q.left path) (points_at q.place) (leaf_in p q.place) c.args.event c.requires b)

pub returns-then-not-next_leaf-clause-turns : goal.returns-then-not-next_leaf-clause-turns
returns-then-not-next_leaf-clause-turns c =
    let p = c.args.program.now in let q = c.args.attempt.now in
    let b : is_blocked c.args.event ≡ true = search rules in
    let f : c.next_leaf.result ≡ false = search rules in
    let none : None ≡ turned (attempt_words q.place.stand.picks) 0 (points_of q.place.stand.picks) = sym (ap (λ b. if b then Some (path_of c.next_leaf.new.self) else None) f) ∙ c.next_leaf.ensures.turns in
    (ap (λ (x : Picks). walk_in p (record q { place = with_picks x q.place })) (c.next_leaf.ensures.same f), last_leaf p q.place q.start q.left c.args.event c.requires b none)

pub returns-then-attempt-eq0-clause-turns : goal.returns-then-attempt-eq0-clause-turns
returns-then-attempt-eq0-clause-turns c =
    let p = c.args.program.now in let q = c.args.attempt.now in
    let b : is_blocked c.args.event ≡ true = search rules in
    let t : c.next_leaf.result ≡ true = search rules in
    let some : Some (path_of c.next_leaf.new.self) ≡ turned (attempt_words q.place.stand.picks) 0 (points_of q.place.stand.picks) = sym (ap (λ b. if b then Some (path_of c.next_leaf.new.self) else None) t) ∙ c.next_leaf.ensures.turns in
    (many_leaf p q.place q.start q.left c.args.event c.requires b (path_of c.next_leaf.new.self) some c.if-attempt-eq0.true, refl)

pub begin_again-requires : goal.begin_again-requires
begin_again-requires c = let t : c.next_leaf.result ≡ true = search rules in c.next_leaf.ensures.begins t

pub returns-clause-turns : goal.returns-clause-turns
returns-clause-turns c =
    let p = c.args.program.now in let q = c.args.attempt.now in
    let b : is_blocked c.args.event ≡ true = search rules in
    let t : c.next_leaf.result ≡ true = search rules in
    let some : Some (path_of c.next_leaf.new.self) ≡ turned (attempt_words q.place.stand.picks) 0 (points_of q.place.stand.picks) = sym (ap (λ b. if b then Some (path_of c.next_leaf.new.self) else None) t) ∙ c.next_leaf.ensures.turns in
    let more : q.left ≡ suc (q.left - 1) = (let h = c.if-attempt-eq0.false in omega (arith, h)) in
    again_leaf p q.place q.start q.left c.args.event c.requires b c.next_leaf.new.self c.begin_again.new.place (q.left - 1) some c.next_leaf.ensures.first more c.in_ok-begin_again.ensures.leaf c.in_ok-begin_again.ensures.kept
