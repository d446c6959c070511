use Rattle.std.proofs.Common.{◌∙◌, ap, sym, drop}
use Rattle.pgo_words.specs.Park.{begins_park, begins_valued}
use Rattle.pgo_words.specs.Parts.{texts}
use Rattle.pgo_words.proofs.OptionCuts.{front_words, tail_is}
use Rattle.pgo_words.proofs.ParkCuts.{goes_on, here, nowhere}
use Rattle.pgo_words.proofs.park.park_place.Goals as goal

pub loop-at-preserved : goal.loop-at-preserved
loop-at-preserved c =
    goes_on c.args.words.now c.loop-at.at c.loop-at.invariant.0 c.loop-at.invariant.1
    (ap (λ ws. begins_valued (texts ws)) (sym (tail_is c.args.words.now c.loop-at.at)) ∙ sym c.begins_valued.ensures ∙ c.loop-at-test.true)

pub returns-then-begins_park : goal.returns-then-begins_park
returns-then-begins_park c =
    let words = c.args.words.now in
    let at = c.loop-at.at in
    let front = c.loop-at.invariant.1 in
    let h = here words at front (ap (λ ws. begins_park (texts ws)) (sym (tail_is words at)) ∙ sym c.begins_park.ensures ∙ c.if-begins_park.true) in
    (front.front, h.0, front_words words at front.front front.words_are, h.1)

pub returns-else-begins_park : goal.returns-else-begins_park
returns-else-begins_park c =
    let words = c.args.words.now in
    let at = c.loop-at.at in
    nowhere (texts words) (texts (drop at words)) c.loop-at.invariant.1
    (ap (λ ws. begins_valued (texts ws)) (sym (tail_is words at)) ∙ sym c.begins_valued.ensures ∙ c.loop-at-test.false)
    (ap (λ ws. begins_park (texts ws)) (sym (tail_is words at)) ∙ sym c.begins_park.ensures ∙ c.if-begins_park.false)
