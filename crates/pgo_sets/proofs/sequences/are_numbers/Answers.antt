use Rattle.std.proofs.Common.{◌≡◌, ◌<◌, ◌-◌, ℕ, Bool, true, false, pos, length, ap, ◌∙◌, rules, arith}
use Rattle.pgo_base.specs.Data.{integer}
use Rattle.pgo_base.specs.PairsView.{all_pairs}
use Rattle.pgo_base.specs.View.{key_of}
use Rattle.pgo_base.specs.declared.value.Value.{Value}
use Rattle.pgo_model.specs.Operators.{same_data}
use Rattle.pgo_sets.proofs.Counted.{counted, values_where}
use Rattle.pgo_sets.proofs.sequences.are_numbers.Goals as goal

is_key : (n : ℕ) (p q : Value × Value) → p ≡ q → same_data (key_of p) (integer (pos n)) ≡ same_data (key_of q) (integer (pos n))
is_key n p q e = ap (λ (r : Value × Value). same_data (key_of r) (integer (pos n))) e

pub returns-then-begins : goal.returns-then-begins
returns-then-begins c =
    let ps = all_pairs c.args.pairs in
    let some : 0 < length ps = first_of (search rules, omega arith) in
    counted ps c.at.result.now c.at-2.result.now _ true c.is_number-ends.result c.requires some (ap (λ n. n - 1) c.len-count.ensures) (c.if-begins.ensures ∙ is_key 1 _ _ c.at.ensures) (c.is_number-ends.ensures ∙ is_key _ _ _ c.at-2.ensures)

pub returns-else-begins : goal.returns-else-begins
returns-else-begins c =
    let ps = all_pairs c.args.pairs in
    let some : 0 < length ps = first_of (search rules, omega arith) in
    ap (λ (x : Bool). values_where x ps) c.if-begins.false
    ∙ counted ps c.at.result.now c.at-2.result.now _ false c.is_number-ends.result c.requires some (ap (λ n. n - 1) c.len-count.ensures) (c.if-begins.ensures ∙ is_key 1 _ _ c.at.ensures) (c.is_number-ends.ensures ∙ is_key _ _ _ c.at-2.ensures)
