-- Each turn of a loop is a turn of its function, and a value is read by the bytes at its front.
use Rattle.std.proofs.Common.{◌≡◌, ◌-◌, map, rules, arith, sym, subst, ◌∙◌, ap}
use Rattle.std.proofs.lemmas.Grind.{common_steps}
use Rattle.std.specs.Prelude.{codes}
use Rattle.std.proofs.lemmas.List.{map_push}
use Rattle.pgo_base.specs.Data.{Data}
use Rattle.pgo_base.specs.View.{data_of, pair_of}
use Rattle.pgo_value_text.specs.Parsers.{Outcome, Parser, ReadsAs}
use Rattle.pgo_value_text.specs.Reading.{spaced, value, parted, followed, pair_in, between}
use Rattle.pgo_value_text.proofs.Turns.{none_next, all_read, one_more, first_read}
use Rattle.pgo_value_text.proofs.Values.{too_deep, reads_set, reads_tuple, reads_record, reads_function, reads_atom}
use Rattle.pgo_value_text.proofs.read.+value.Goals as goal

pub value-returns-then-depth-eq0 : goal.value-returns-then-depth-eq0
value-returns-then-depth-eq0 t c = too_deep c.args.depth c.args.cursor.now c.if-depth-eq0.true

pub value-returns-then-begins : goal.value-returns-then-begins
value-returns-then-begins t c =
    let e = reads_set c.args.depth c.args.cursor.now c.if-depth-eq0.false (sym c.if-begins.ensures) in
    subst (λ (o : Outcome Data). ReadsAs data_of o c.set.result c.set.new.cursor) (sym e) c.set.ensures

pub value-returns-then-begins-2 : goal.value-returns-then-begins-2
value-returns-then-begins-2 t c =
    let e = reads_tuple c.args.depth c.args.cursor.now c.if-depth-eq0.false (sym c.if-begins.ensures) (sym c.if-begins-2.ensures) in
    subst (λ (o : Outcome Data). ReadsAs data_of o c.tuple.result c.tuple.new.cursor) (sym e) c.tuple.ensures

pub value-returns-then-begins-3 : goal.value-returns-then-begins-3
value-returns-then-begins-3 t c =
    let e = reads_record c.args.depth c.args.cursor.now c.if-depth-eq0.false (sym c.if-begins.ensures) (sym c.if-begins-2.ensures) (sym c.if-begins-3.ensures) in
    subst (λ (o : Outcome Data). ReadsAs data_of o c.record.result c.record.new.cursor) (sym e) c.record.ensures

pub value-returns-then-begins-4 : goal.value-returns-then-begins-4
value-returns-then-begins-4 t c =
    let e = reads_function c.args.depth c.args.cursor.now c.if-depth-eq0.false (sym c.if-begins.ensures) (sym c.if-begins-2.ensures) (sym c.if-begins-3.ensures) (sym c.if-begins-4.ensures) in
    subst (λ (o : Outcome Data). ReadsAs data_of o c.function.result c.function.new.cursor) (sym e) c.function.ensures

pub value-returns-else-begins-4 : goal.value-returns-else-begins-4
value-returns-else-begins-4 t c =
    let e = reads_atom c.args.depth c.args.cursor.now c.if-depth-eq0.false (sym c.if-begins.ensures) (sym c.if-begins-2.ensures) (sym c.if-begins-3.ensures) (sym c.if-begins-4.ensures) in
    subst (λ (o : Outcome Data). ReadsAs data_of o c.atom.result c.atom.new.cursor) (sym e) c.atom.ensures

pub some_values-returns-in_err-spaced_value : goal.some_values-returns-in_err-spaced_value
unfolding parted
some_values-returns-in_err-spaced_value t c = first_of (search rules, grind (arith, common_steps))

pub some_values-loop-turn-init : goal.some_values-loop-turn-init
some_values-loop-turn-init t c =
    first_read (codes ",") (spaced (value c.args.depth)) c.args.cursor.now (data_of c.in_ok-spaced_value.field-0) c.spaced_value.new.cursor c.left-turn-end.result _
    c.in_ok-spaced_value.ensures c.left-turn-end.ensures (ap (map data_of) c.in_ok-values.ensures.items)

pub some_values-returns-then-not-begins : goal.some_values-returns-then-not-begins
some_values-returns-then-not-begins t c = c.loop-turn.invariant ∙ none_next (codes ",") (spaced (value c.args.depth)) _ _ _ (sym c.begins.ensures ∙ c.if-not-begins.true)

pub some_values-returns-in_err-spaced_value-2 : goal.some_values-returns-in_err-spaced_value-2
some_values-returns-in_err-spaced_value-2 t c =
    let e = one_more (codes ",") (spaced (value c.args.depth)) c.left-turn-end.result c.loop-turn._turn (map data_of c.loop-turn.values.items) c.loop-turn.cursor c.loop-turn.invariant c.loop-turn-test.true (search rules) in
    first_of (search rules, grind (arith, common_steps))

pub some_values-loop-turn-preserved : goal.some_values-loop-turn-preserved
some_values-loop-turn-preserved t c =
    let e = one_more (codes ",") (spaced (value c.args.depth)) c.left-turn-end.result c.loop-turn._turn (map data_of c.loop-turn.values.items) c.loop-turn.cursor c.loop-turn.invariant c.loop-turn-test.true (search rules) in
    let m = map_push data_of c.loop-turn.values.items c.in_ok-spaced_value-2.field-0 in
    first_of (search rules, grind (arith, common_steps))

pub some_values-returns : goal.some_values-returns
some_values-returns t c = c.loop-turn.invariant ∙ all_read (codes ",") (spaced (value c.args.depth)) c.left-turn-end.result c.loop-turn._turn _ _ (omega arith)

pub pairs-returns-in_err-pair : goal.pairs-returns-in_err-pair
unfolding parted
pairs-returns-in_err-pair t c = first_of (search rules, grind (arith, common_steps))

pub pairs-loop-turn-init : goal.pairs-loop-turn-init
pairs-loop-turn-init t c =
    let p : Parser (Data × Data) = pair_in c.args.form (value c.args.depth) in
    let e = first_read (between c.args.form) p c.args.cursor.now (pair_of c.in_ok-pair.field-0) c.pair.new.cursor c.left-turn-end.result (map pair_of c.in_ok-pairs.pairs.items)
    c.in_ok-pair.ensures c.left-turn-end.ensures (ap (map pair_of) c.in_ok-pairs.ensures.items) in
    subst (λ w. parted (between c.args.form) p c.args.cursor.now ≡ followed w p (c.left-turn-end.result - 0) (map pair_of c.in_ok-pairs.pairs.items) c.pair.new.cursor)
    (sym c.between-word.ensures) e

pub pairs-returns-then-not-begins : goal.pairs-returns-then-not-begins
pairs-returns-then-not-begins t c = c.loop-turn.invariant ∙ none_next c.between-word.result.now (pair_in c.args.form (value c.args.depth)) _ _ _ (sym c.begins.ensures ∙ c.if-not-begins.true)

pub pairs-returns-in_err-pair-2 : goal.pairs-returns-in_err-pair-2
pairs-returns-in_err-pair-2 t c =
    let e = one_more c.between-word.result.now (pair_in c.args.form (value c.args.depth)) c.left-turn-end.result c.loop-turn._turn (map pair_of c.loop-turn.pairs.items) c.loop-turn.cursor c.loop-turn.invariant c.loop-turn-test.true (search rules) in
    first_of (search rules, grind (arith, common_steps))

pub pairs-loop-turn-preserved : goal.pairs-loop-turn-preserved
pairs-loop-turn-preserved t c =
    let e = one_more c.between-word.result.now (pair_in c.args.form (value c.args.depth)) c.left-turn-end.result c.loop-turn._turn (map pair_of c.loop-turn.pairs.items) c.loop-turn.cursor c.loop-turn.invariant c.loop-turn-test.true (search rules) in
    let m = map_push pair_of c.loop-turn.pairs.items c.in_ok-pair-2.field-0 in
    first_of (search rules, grind (arith, common_steps))

pub pairs-returns : goal.pairs-returns
pairs-returns t c = c.loop-turn.invariant ∙ all_read c.between-word.result.now (pair_in c.args.form (value c.args.depth)) c.left-turn-end.result c.loop-turn._turn _ _ (omega arith)
