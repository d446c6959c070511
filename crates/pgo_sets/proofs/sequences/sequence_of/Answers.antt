use Rattle.std.proofs.Common.{◌≡◌, ◌<◌, true, nat_lt, map, length, sym, ◌∙◌, rules, arith}
use Rattle.std.proofs.lemmas.Bool.Decides.{nat_tests}
use Rattle.std.proofs.lemmas.List.{length-map}
use Rattle.pgo_base.specs.View.{data_of}
use Rattle.pgo_model.specs.Operators.{most_members}
use Rattle.pgo_sets.proofs.Numbered.{long_sequence}
use Rattle.pgo_sets.proofs.sequences.sequence_of.Goals as goal

pub returns-then-len-gt-MOST_MEMBERS : goal.returns-then-len-gt-MOST_MEMBERS
returns-then-len-gt-MOST_MEMBERS c =
    let count : c.len.result ≡ length c.args.elements.items = search rules in
    let more : nat_lt most_members c.len.result ≡ true = (let h : 65536 < c.len.result = c.if-len-gt-MOST_MEMBERS.true in grind (arith, nat_tests)) in
    long_sequence (map data_of c.args.elements.items) c.len.result (count ∙ sym (length-map c.args.elements.items data_of)) more
