-- What the content's answer says of the access.
use Rattle.std.proofs.Common.{Option, ap, sym, ◌∙◌, subst, map, option_map, reverse}
use Rattle.std.specs.Prelude.{IsSome}
use Rattle.std.proofs.lemmas.Result.{IfOk-weaker}
use Rattle.pgo_base.specs.BindingsView.{named_view}
use Rattle.pgo_base.specs.Data.{Data}
use Rattle.pgo_base.specs.View.{data_of}
use Rattle.pgo_sections.specs.Context.{index_value}
use Rattle.pgo_workers.specs.Operations.{read_of}
use Rattle.pgo_resource.specs.Answers.{Read as IsRead}
use Rattle.pgo_resource.specs.Picked.{attempt_words, words_of, choices_of}
use Rattle.pgo_code.specs.Steps.{Read}
use Rattle.pgo_code.specs.See.{content_view}
use Rattle.pgo_places.specs.Flows.{part_index, resource_at}
use Rattle.pgo_places.specs.PlaceView.{stand_view, fixed_view, attempt_view}
use Rattle.pgo_places.proofs.Contents.{performs_read, read_answers, read_first, read_meant}
use Rattle.pgo_places.proofs.Readiness.{first_there, second_there}
use Rattle.pgo_places.proofs.perform.mapped_read.Goals as goal

pub returns-clause-performs : goal.returns-clause-performs
returns-clause-performs g c =
    let a = attempt_view c.args.frame.bound.now c.args.frame.fixed.now in let k = fixed_view c.args.frame.fixed.now in
    let s = stand_view c.args.stand.now in let cv = content_view c.args.read.1.now in
    let p = c.args.stand.now.picks in let q = c.read-answer.new.picks in
    let j : Option Data = option_map (λ r. data_of r.now) c.index_there-j.result in
    let old = g.R.Resource.shows c.args.content.now in let new = g.R.Resource.shows c.read-answer.new.self in
    let m = c.args.read.1.now.mapped.mapping.now in let ds = c.args.frame.bound.now.defs in let id = data_of c.args.frame.fixed.now.id in
    IfOk-weaker c.read_end.result _ _
    (λ f h.
    let t = read_answers m ds id (part_index cv j) old new p q c.read-answer.result s.progress
    (subst (λ (at : Option Data). IsRead m ds id at old new p q c.read-answer.result) c.part.ensures (read_meant c.args.frame.definitions.now ds c.args.frame.same m id _ old new p q c.read-answer.result c.read-answer.ensures)) h.0 in
    performs_read a k c.args.read.0.now cv c.args.read.2.now s (attempt_words q) (words_of q) (record s.progress { points = choices_of q }) j c.args.resource f
    (stand_view c.read_end.new.stand) old.current new.current
    (sym (c.index_there-j.ensures ∙ ap (λ xs. index_value c.args.read.2.now (reverse (map named_view xs))) c.deref.ensures.value))
    (second_there (index_value c.args.read.2.now s.env) (λ j. resource_at a cv j) j c.args.resource c.requires
    (c.index_there-j.ensures ∙ ap (λ xs. index_value c.args.read.2.now (reverse (map named_view xs))) c.deref.ensures.value)) t.2 t.3 t.0
    (λ n is. h.1 a k n (Read c.args.read.0.now cv c.args.read.2.now) is s.progress (read_of m ds id (part_index cv j) (words_of p) old.current (choices_of p)) t.1))
    c.read_end.ensures.walk

pub index_there-j-requires : goal.index_there-j-requires
index_there-j-requires g c =
    let a = attempt_view c.args.frame.bound.now c.args.frame.fixed.now in let s = stand_view c.args.stand.now in
    subst (λ xs. IsSome (index_value c.args.read.2.now (reverse (map named_view xs)))) (sym c.deref.ensures.value) (first_there (index_value c.args.read.2.now s.env) (λ j. resource_at a (content_view c.args.read.1.now) j) c.args.resource c.requires)

pub returns-clause-first : goal.returns-clause-first
returns-clause-first g c = IfOk-weaker c.read_end.result _ _ (λ f h. h ∙ read_first c.args.read.1.now.mapped.mapping.now c.args.frame.definitions.now (data_of c.args.frame.fixed.now.id) (option_map (λ r. data_of r.now) c.part.result) (g.R.Resource.shows c.args.content.now) (g.R.Resource.shows c.read-answer.new.self) c.args.stand.now.picks c.read-answer.new.picks c.read-answer.result c.read-answer.ensures) c.read_end.ensures.first
