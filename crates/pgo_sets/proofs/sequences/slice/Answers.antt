use Rattle.std.proofs.Common.{◌≡◌, ◌<◌, ◌^◌, ap, sym, ◌∙◌, subst, map, of_z, to_z, w64, pos, length, int_lt, false, rules}
use Rattle.std.proofs.Math.Facts.{to_z-of_z}
use Rattle.std.proofs.lemmas.Int.{to_z_pos}
use Rattle.std.proofs.lemmas.List.{length-map}
use Rattle.pgo_base.specs.PairsView.{all_pairs}
use Rattle.pgo_base.specs.View.{value_of}
use Rattle.pgo_model.specs.Sequences.{slice}
use Rattle.pgo_sets.specs.Answers.{Answers}
use Rattle.pgo_sets.proofs.Numbered.{slice_is}
use Rattle.pgo_sets.proofs.sequences.slice.Goals as goal

pub returns : goal.returns
returns c =
    let ps = all_pairs c.args.pairs in
    let xs = map value_of ps in
    let m = to_z w64 (of_z w64 c.args.first) in
    let n = to_z w64 (of_z w64 c.args.last) in
    let small : c.len.result < 2 ^ 63 = search rules in
    let count : pos (length xs) ≡ to_z w64 c.len.result = ap pos (length-map ps value_of ∙ sym c.len.ensures) ∙ sym (to_z_pos w64 c.len.result small) in
    let last : int_lt (pos (length xs)) n ≡ false = ap (λ z. int_lt z n) count ∙ c.if-last-len.false in
    let bounds : slice xs m n ≡ slice xs c.args.first c.args.last = λ i. slice xs (to_z-of_z c.ranges.first i) (to_z-of_z c.ranges.last i) in
    subst (Answers c.part_of.result) (sym (slice_is xs m n c.if-last-first.false c.if-first-lt1.false last) ∙ bounds) c.part_of.ensures
