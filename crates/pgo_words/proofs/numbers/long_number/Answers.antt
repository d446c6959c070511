use Rattle.std.proofs.Common.{◌≡◌, ◌∙◌, sym, ap, true, decimal}
use Rattle.std.proofs.lemmas.Fmt.{parse-decimal}
use lib.Pointwise.{bytes_decides}
use Rattle.pgo_words.proofs.numbers.long_number.Goals as goal

pub returns-in-Err-clause-found : goal.returns-in-Err-clause-found
returns-in-Err-clause-found c n h e =
    let r = parse-decimal 64 n _ _ h h e c.parse-parsed.ensures.value.0 in
    let q = c.in-Err.is in cc

pub returns-then-eq-clause-found : goal.returns-then-eq-clause-found
returns-then-eq-clause-found c n h e =
    let r = parse-decimal 64 n _ _ h h e c.parse-parsed.ensures.value.0 in
    let q = c.in-Ok.is in cc

pub returns-else-eq-clause-found : goal.returns-else-eq-clause-found
returns-else-eq-clause-found c n h e =
    let r = parse-decimal 64 n _ _ h h e c.parse-parsed.ensures.value.0 in
    let q = c.in-Ok.is in
    let same : c.in-Ok.n ≡ n = cc in
    let text : c.format.result.now ≡ c.args.text.now = c.format.ensures.text ∙ ap decimal same ∙ sym e in
    let q : c.eq.result ≡ true = c.eq.ensures ∙ (bytes_decides c.format.result.now c.args.text.now).1 text in
    let f = c.if-eq.false in cc
