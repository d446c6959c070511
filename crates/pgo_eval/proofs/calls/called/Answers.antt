use Rattle.std.proofs.Common.{sym, ap, ◌∙◌}
use Rattle.std.specs.Prelude.{Some}
use Rattle.pgo_eval.proofs.calls.called.Goals as goal

pub returns-in_ok-cardinality_of : goal.returns-in_ok-cardinality_of
returns-in_ok-cardinality_of c = rw (sym c.is_word.ensures ∙ c.if-is_word.false, sym c.is_word-else-is_word.ensures ∙ c.if-is_word-2.false, sym c.is_word-else-is_word-2.ensures ∙ c.if-is_word-3.false, sym c.is_word-else-is_word-3.ensures ∙ c.if-is_word-4.false, sym c.is_word-else-is_word-4.ensures ∙ c.if-is_word-5.false, sym c.is_word-else-is_word-5.ensures ∙ c.if-is_word-6.true) (ap Some c.in_ok-cardinality_of.ensures)

pub returns-then-is_word-7 : goal.returns-then-is_word-7
returns-then-is_word-7 c = rw (sym c.is_word.ensures ∙ c.if-is_word.false, sym c.is_word-else-is_word.ensures ∙ c.if-is_word-2.false, sym c.is_word-else-is_word-2.ensures ∙ c.if-is_word-3.false, sym c.is_word-else-is_word-3.ensures ∙ c.if-is_word-4.false, sym c.is_word-else-is_word-4.ensures ∙ c.if-is_word-5.false, sym c.is_word-else-is_word-5.ensures ∙ c.if-is_word-6.false, sym c.is_word-else-is_word-6.ensures ∙ c.if-is_word-7.true) (ap Some c.print_of.ensures)

pub returns-else-is_word-7 : goal.returns-else-is_word-7
returns-else-is_word-7 c = rw (sym c.is_word.ensures ∙ c.if-is_word.false, sym c.is_word-else-is_word.ensures ∙ c.if-is_word-2.false, sym c.is_word-else-is_word-2.ensures ∙ c.if-is_word-3.false, sym c.is_word-else-is_word-3.ensures ∙ c.if-is_word-4.false, sym c.is_word-else-is_word-4.ensures ∙ c.if-is_word-5.false, sym c.is_word-else-is_word-5.ensures ∙ c.if-is_word-6.false, sym c.is_word-else-is_word-6.ensures ∙ c.if-is_word-7.false)
