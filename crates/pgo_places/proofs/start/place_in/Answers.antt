use Rattle.std.proofs.Common.{◌≡◌, map, length, ap, ◌∙◌}
use Rattle.std.proofs.lemmas.List.{length-map}
use Rattle.pgo_base.specs.View.{data_of}
use Rattle.pgo_base.specs.Lookup.{find}
use Rattle.pgo_code.specs.See.{step_of}
use Rattle.pgo_model.specs.Options.{on}
use Rattle.pgo_model.specs.Written.{pc}
use Rattle.pgo_resource.specs.Picked.{attempt_words, words_of}
use Rattle.pgo_accesses.specs.Accesses.{no_value}
use Rattle.pgo_places.specs.FirstStands.{fixed_of, start_of, steps_named}
use Rattle.pgo_places.specs.PlaceView.{stand_view, fixed_view}
use Rattle.pgo_places.specs.PlaceWalk.{count_of, instructions_in}
use Rattle.pgo_places.specs.Stands.{Stand, limited, resume}
use Rattle.pgo_places.specs.Trees.{attempt_with}
use Rattle.pgo_places.proofs.FirstLeft.{first_left}
use Rattle.pgo_places.proofs.start.place_in.Goals as goal

pub returns-clause-first : goal.returns-clause-first
returns-clause-first c =
    let own = c.args.own.now in
    let t : stand_view c.in_ok-fixed.stand ≡ start_of c.args.code.now own (attempt_words c.args.picks) (words_of c.args.picks) = rw c.in_ok-fixed.ensures.second at c.stand.ensures in
    ap (λ (s : Stand). s.first) t

pub returns-clause-leaf : goal.returns-clause-leaf
returns-clause-leaf c =
    let b = c.args.program.now.bound.now in
    let code = c.args.code.now in
    let own = c.args.own.now in
    let codes = c.args.program.now.codes.items in
    let first = attempt_words c.args.picks in
    let x : c.in_ok-fixed.fixed.value ≡ c.args.fixed.now.value = rw c.in_ok-fixed.ensures.first at c.try_clone.ensures in
    let f : fixed_view c.in_ok-fixed.fixed.value ≡ fixed_of code = ap fixed_view x ∙ c.requires.names in
    let t : stand_view c.in_ok-fixed.stand ≡ start_of code own first (words_of c.args.picks) = rw c.in_ok-fixed.ensures.second at c.stand.ensures in
    ap (limited (count_of b)) (
    (λ i. resume (attempt_with b (data_of (x i).id)) (f i) c.count_in-left.result (map step_of (instructions_in codes c.args.at.0 c.args.at.1)) (t i))
    ∙ first_left (attempt_with b (data_of c.args.fixed.now.value.id)) (fixed_of code) (start_of code own first (words_of c.args.picks)) codes c.args.at.0 c.args.at.1 c.count_in-left.result code (steps_named (find pc own) code) c.requires.code c.requires.section c.count_in-left.ensures
    )

pub returns-clause-again : goal.returns-clause-again
returns-clause-again c = λ d.
    let b = c.args.program.now.bound.now in
    let code = c.args.code.now in
    let own = c.args.own.now in
    let codes = c.args.program.now.codes.items in
    let first = attempt_words c.args.picks in
    let is = instructions_in codes c.args.at.0 c.args.at.1 in
    let x : c.in_ok-fixed.fixed.value ≡ c.args.fixed.now.value = rw c.in_ok-fixed.ensures.first at c.try_clone.ensures in
    let f : fixed_view c.in_ok-fixed.fixed.value ≡ fixed_of code = ap fixed_view x ∙ c.requires.names in
    let t : stand_view c.in_ok-fixed.stand ≡ start_of code own first (words_of c.args.picks) = rw c.in_ok-fixed.ensures.second at c.stand.ensures in
    ap (limited (count_of b)) (
    (λ i. on no_value (c.requires.code i) (λ e. resume (attempt_with b (data_of (x i).id)) (f i) (length (map step_of is)) (map step_of is) (start_of e own (t i).first d)))
    ∙ first_left (attempt_with b (data_of c.args.fixed.now.value.id)) (fixed_of code) (start_of code own first d) codes c.args.at.0 c.args.at.1 (length (map step_of is)) code (steps_named (find pc own) code) c.requires.code c.requires.section (length-map is step_of)
    )
