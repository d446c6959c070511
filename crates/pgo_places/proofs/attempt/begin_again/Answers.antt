-- The start of the section, or no section.
use Rattle.std.proofs.Common.{◌≡◌, Some, None, refl, ap, sym, ◌∙◌, map, length, rules}
use Rattle.std.proofs.lemmas.List.{length-map}
use Rattle.pgo_model.specs.Machine.{nth}
use Rattle.pgo_model.specs.Options.{on}
use Rattle.pgo_code.specs.See.{step_of}
use Rattle.pgo_resource.specs.Picked.{attempt_words, words_of}
use Rattle.pgo_accesses.specs.Accesses.{no_value}
use Rattle.pgo_places.specs.FirstStands.{start_of}
use Rattle.pgo_places.specs.PlaceView.{fixed_view, attempt_view}
use Rattle.pgo_places.specs.PlaceWalk.{count_of, instructions_in}
use Rattle.pgo_places.specs.Stands.{Stand, limited, resume}
use Rattle.pgo_places.proofs.attempt.begin_again.Goals as goal

pub returns-in_default-clause-leaf : goal.returns-in_default-clause-leaf
returns-in_default-clause-leaf c =
    let p = c.args.program.now in let q = c.args.place.now in let a = attempt_view p.bound.now q.fixed.value in let k = fixed_view q.fixed.value in
    let xs = map step_of (instructions_in p.codes.items q.instance q.section) in
    let none : nth p.codes.items q.instance ≡ None = search rules in
    sym (ap (λ o. limited (count_of p.bound.now) (on no_value o (λ e. resume a k (length xs) xs (start_of e c.args.start.now (attempt_words q.stand.picks) (words_of q.stand.picks))))) none)

pub returns-clause-leaf : goal.returns-clause-leaf
returns-clause-leaf c =
    let p = c.args.program.now in let q = c.args.place.now in let a = attempt_view p.bound.now q.fixed.value in let k = fixed_view q.fixed.value in
    let is = instructions_in p.codes.items q.instance q.section in let xs = map step_of is in
    let code : nth p.codes.items q.instance ≡ Some c.in-Some.code.now = search rules in
    let left : c.count_in-place.result ≡ length xs = c.count_in-place.ensures ∙ sym (length-map is step_of) in
    ap (limited (count_of p.bound.now)) (
    (λ i. resume a k (left i) xs (c.in_ok-stand_again.ensures i))
    ∙ sym (ap (λ o. on no_value o (λ e. resume a k (length xs) xs (start_of e c.args.start.now (attempt_words q.stand.picks) (words_of q.stand.picks)))) code))

pub returns-clause-kept : goal.returns-clause-kept
returns-clause-kept c = (refl, refl, refl, ap (λ (s : Stand). s.first) c.in_ok-stand_again.ensures)
