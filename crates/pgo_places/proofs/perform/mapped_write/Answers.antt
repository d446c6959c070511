-- What the content's answer says of the access.
use Rattle.std.proofs.Common.{◌≡◌, Option, Some, ap, sym, ◌∙◌, subst, map, option_map, reverse}
use Rattle.std.specs.Prelude.{IsSome}
use Rattle.std.proofs.lemmas.Result.{IfOk-weaker}
use Rattle.pgo_base.specs.BindingsView.{named_view}
use Rattle.pgo_base.specs.Data.{Data}
use Rattle.pgo_base.specs.View.{data_of}
use Rattle.pgo_sections.specs.BoundValues.{value_under}
use Rattle.pgo_sections.specs.Context.{index_value}
use Rattle.pgo_workers.specs.Operations.{write_of}
use Rattle.pgo_resource.specs.Answers.{Written}
use Rattle.pgo_resource.specs.Picked.{attempt_words, words_of, choices_of}
use Rattle.pgo_accesses.specs.Accesses.{left_by_write, behind_write, write_here}
use Rattle.pgo_code.specs.Steps.{Write}
use Rattle.pgo_code.specs.See.{content_view}
use Rattle.pgo_places.specs.Flows.{part_index, resource_at}
use Rattle.pgo_places.specs.PlaceView.{stand_view, fixed_view, attempt_view}
use Rattle.pgo_places.specs.Stands.{going, onward, with_words, resume}
use Rattle.pgo_places.proofs.Contents.{performs_write, write_answers, write_first, write_meant}
use Rattle.pgo_places.proofs.Puts.{writes_nothing}
use Rattle.pgo_places.proofs.Readiness.{first_there, second_there}
use Rattle.pgo_places.proofs.perform.mapped_write.Goals as goal

pub returns-in_default-clause-performs : goal.returns-in_default-clause-performs
returns-in_default-clause-performs g c =
    let a = attempt_view c.args.frame.bound.now c.args.frame.fixed.now in let k = fixed_view c.args.frame.fixed.now in
    let s = stand_view c.args.stand.now in let cv = content_view c.args.write.0.now in
    let j : Option Data = option_map (λ r. data_of r.now) c.index_there-j.result in
    writes_nothing a k cv c.args.write.1.now c.args.write.2.now s j c.args.resource (g.R.Resource.shows c.args.content.now).current
    (sym (c.index_there-j.ensures ∙ ap (λ xs. index_value c.args.write.1.now (reverse (map named_view xs))) c.deref.ensures.value))
    (second_there (index_value c.args.write.1.now s.env) (λ j. resource_at a cv j) j c.args.resource c.requires
    (c.index_there-j.ensures ∙ ap (λ xs. index_value c.args.write.1.now (reverse (map named_view xs))) c.deref.ensures.value))
    (sym (c.in_default.ensures ∙ ap (λ xs. value_under c.args.write.2.now (reverse (map named_view xs))) c.deref-2.ensures.value))

pub returns-clause-performs : goal.returns-clause-performs
returns-clause-performs g c =
    let a = attempt_view c.args.frame.bound.now c.args.frame.fixed.now in let k = fixed_view c.args.frame.fixed.now in
    let s = stand_view c.args.stand.now in let cv = content_view c.args.write.0.now in let w = c.args.write.2.now in
    let p = c.args.stand.now.picks in let q = c.write-answer.new.picks in let x = data_of c.in_ok-value.value in
    let j : Option Data = option_map (λ r. data_of r.now) c.index_there-j.result in
    let old = g.R.Resource.shows c.args.content.now in let new = g.R.Resource.shows c.write-answer.new.self in
    let m = c.args.write.0.now.mapped.mapping.now in let ds = c.args.frame.bound.now.defs in let id = data_of c.args.frame.fixed.now.id in
    let under : value_under w s.env ≡ Some x =
    sym (c.in-Some.ensures ∙ ap (λ xs. value_under w (reverse (map named_view xs))) c.deref-2.ensures.value) ∙ ap (λ v. Some (data_of v)) (sym c.in_ok-value.ensures) in
    IfOk-weaker c.write_end.result _ _
    (λ f h.
    let t = write_answers m ds id (part_index cv j) x old new p q c.write-answer.result s.progress
    (subst (λ (at : Option Data). Written m ds id at x old new p q c.write-answer.result) c.part.ensures (write_meant c.args.frame.definitions.now ds c.args.frame.same m id _ x old new p q c.write-answer.result c.write-answer.ensures)) h.0 in
    performs_write a k cv c.args.write.1.now w s (attempt_words q) (words_of q) (record s.progress { points = choices_of q }) j c.args.resource f
    (stand_view c.write_end.new.stand) old.current new.current
    (sym (c.index_there-j.ensures ∙ ap (λ xs. index_value c.args.write.1.now (reverse (map named_view xs))) c.deref.ensures.value))
    (second_there (index_value c.args.write.1.now s.env) (λ j. resource_at a cv j) j c.args.resource c.requires
    (c.index_there-j.ensures ∙ ap (λ xs. index_value c.args.write.1.now (reverse (map named_view xs))) c.deref.ensures.value)) t.2 t.3
    (t.0 ∙ ap (λ o. left_by_write old.current (write_here (with_words s.words a) cv.writes (part_index cv j) o s.progress.points old.current)) (sym under))
    (λ n is.
    ap (λ o. behind_write cv.is_element c.args.resource s.progress (write_here (with_words s.words a) cv.writes (part_index cv j) o s.progress.points old.current)
    (λ y. resume a k n is (going y (onward (record s { first = attempt_words q; words = words_of q; progress = record s.progress { points = choices_of q } }))))) under
    ∙ h.1 a k n (Write cv c.args.write.1.now w) is s.progress (write_of m ds id (part_index cv j) x (words_of p) old.current (choices_of p)) t.1))
    c.write_end.ensures.walk

pub index_there-j-requires : goal.index_there-j-requires
index_there-j-requires g c =
    let a = attempt_view c.args.frame.bound.now c.args.frame.fixed.now in let s = stand_view c.args.stand.now in
    subst (λ xs. IsSome (index_value c.args.write.1.now (reverse (map named_view xs)))) (sym c.deref.ensures.value) (first_there (index_value c.args.write.1.now s.env) (λ j. resource_at a (content_view c.args.write.0.now) j) c.args.resource c.requires)

pub returns-clause-first : goal.returns-clause-first
returns-clause-first g c = IfOk-weaker c.write_end.result _ _ (λ f h. h ∙ write_first c.args.write.0.now.mapped.mapping.now c.args.frame.definitions.now (data_of c.args.frame.fixed.now.id) (option_map (λ r. data_of r.now) c.part.result) (data_of c.in_ok-value.value) (g.R.Resource.shows c.args.content.now) (g.R.Resource.shows c.write-answer.new.self) c.args.stand.now.picks c.write-answer.new.picks c.write-answer.result c.write-answer.ensures) c.write_end.ensures.first
