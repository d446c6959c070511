use Rattle.std.proofs.Common.{◌∙◌, ◌+◌, ◌++◌, ap, drop, take}
use Rattle.std.specs.Borrow.{Bor}
use Rattle.std.proofs.lemmas.List.{map-append}
use Rattle.pgo_words.specs.Parts.{texts}
use Rattle.pgo_words.proofs.OptionCuts.{tail_is}
use Rattle.pgo_words.proofs.park.without.Goals as goal

pub returns : goal.returns
returns c =
    let words = c.args.words.now in
    let at = c.args.at in
    let first = c.in_ok-extend_from_slice.ensures.items ∙ ap (λ l. l ++ take at words) c.new-others.ensures.items in
    let both = c.in_ok-extend_from_slice-2.ensures.items ∙ (λ i. first i ++ tail_is words (at + 1) i) in
    ap texts both ∙ map-append (λ (w : Bor _). w.now) (take at words) (drop (at + 1) words)
