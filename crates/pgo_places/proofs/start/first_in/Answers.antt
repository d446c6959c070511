-- An attempt at a section, or without one.
use Rattle.std.proofs.Common.{◌≡◌, [], ap, sym, ◌∙◌}
use Rattle.std.proofs.lemmas.Result.{IfOk-weaker}
use Rattle.std.specs.Prelude.{suc, length}
use Rattle.pgo_base.specs.View.{data_of}
use Rattle.pgo_model.specs.Options.{on}
use Rattle.pgo_model.specs.Outcome.{NoValue, most_leaves}
use Rattle.pgo_model.specs.System.{Words}
use Rattle.pgo_tries.specs.Sections.{along}
use Rattle.pgo_workers.specs.Tried.{trying}
use Rattle.pgo_workers.specs.Walk.{Own, Stop, Sticks}
use Rattle.pgo_resource.specs.Picked.{attempt_words, words_of}
use Rattle.pgo_accesses.specs.Accesses.{no_value}
use Rattle.pgo_code.specs.declared.program.Program.{Program}
use Rattle.pgo_places.specs.FirstStands.{fixed_of, start_of}
use Rattle.pgo_places.specs.PlaceWalk.{count_of, leaf_in, leaf_from, walk_in}
use Rattle.pgo_places.specs.Stands.{limited, resume}
use Rattle.pgo_places.specs.Trees.{attempt_with, leaf_named}
use Rattle.pgo_places.proofs.FirstWalks.{no_walk, first_walk}
use Rattle.pgo_places.proofs.start.first_in.Goals as goal

pub returns-in_default : goal.returns-in_default
returns-in_default c =
    let p = c.args.program.now in let code = c.args.code.now in let own = c.args.own.now in let first = attempt_words c.args.picks in let id = data_of c.args.fixed.now.value.id in
    let none : leaf_named p code id own first first ≡ no_value =
    ap (λ o. limited (count_of p.bound.now) (on no_value o (λ xs. resume (attempt_with p.bound.now id) (fixed_of code) (suc (length xs)) xs (start_of code own first first)))) (sym c.in_default.ensures) in
    IfOk-weaker c.nowhere.result (λ q. (x : Program) → walk_in x q ≡ Stop (Sticks NoValue))
    (λ q. walk_in p q ≡ trying (λ path. leaf_named p code id own first (along 0 path first)) first most_leaves [])
    (λ q h. h p ∙ sym (no_walk (λ path. leaf_named p code id own first (along 0 path first)) first none)) c.nowhere.ensures

pub returns : goal.returns
returns c =
    let p = c.args.program.now in let code = c.args.code.now in let own = c.args.own.now in let first = attempt_words c.args.picks in let id = data_of c.args.fixed.now.value.id in
    let place = c.in_ok-place.place in
    let f : attempt_words place.stand.picks ≡ first = rw c.in_ok-place.ensures.first at c.place_in-place.ensures.first in
    let leaf : leaf_in p place ≡ leaf_named p code id own first (words_of c.args.picks) = rw c.in_ok-place.ensures.first at c.place_in-place.ensures.leaf in
    let again : (d : Words) → leaf_from p place own d ≡ leaf_named p code id own first d = rw c.in_ok-place.ensures.first at c.place_in-place.ensures.again in
    let start : c.in_ok-place.start ≡ own = rw c.in_ok-place.ensures.second at c.copy.ensures in
    first_walk first (attempt_words place.stand.picks) (leaf_in p place) (leaf_from p place c.in_ok-place.start) (leaf_named p code id own first) f
    (leaf ∙ ap (leaf_named p code id own first) c.requires.start)
    (λ d. ap (λ (o : Own). leaf_from p place o d) start ∙ again d)
