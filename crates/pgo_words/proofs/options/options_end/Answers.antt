use Rattle.std.proofs.Common.{◌∙◌, ap, sym, drop}
use Rattle.pgo_words.specs.Parts.{texts, are_plain, begins_option}
use Rattle.pgo_words.proofs.OptionCuts.{goes_on, stops, tail_is}
use Rattle.pgo_words.proofs.options.options_end.Goals as goal

pub loop-end-preserved : goal.loop-end-preserved
loop-end-preserved c =
    goes_on c.args.words.now c.loop-end.end c.loop-end.invariant.0 c.loop-end.invariant.1
    (ap (λ ws. begins_option (texts ws)) (sym (tail_is c.args.words.now c.loop-end.end)) ∙ sym c.begins_option.ensures ∙ c.loop-end-test.true)

pub returns-else-are_plain : goal.returns-else-are_plain
returns-else-are_plain c =
    let words = c.args.words.now in
    let end = c.loop-end.end in
    stops (texts words) (texts (drop end words)) c.loop-end.invariant.1
    (ap (λ ws. begins_option (texts ws)) (sym (tail_is words end)) ∙ sym c.begins_option.ensures ∙ c.loop-end-test.false)
    (ap (λ ws. are_plain (texts ws)) (sym (tail_is words end)) ∙ sym c.are_plain.ensures ∙ c.if-are_plain.false)
