use Rattle.std.proofs.Common.{◌≡◌, ℕ, Bool, ◌&&◌, ◌||◌, nat_lt, length, ap, ◌∙◌, arith}
use Rattle.std.specs.Prelude.{slice_get, nat_eq}
use Rattle.pgo_scope.specs.Targets.{has_number, ref_among}
use Rattle.pgo_scope.proofs.Targeting.{number_turned, number_inside}
use Rattle.pgo_scope.proofs.targets.add_refs.Goals as goal

pub loop-i-preserved : goal.loop-i-preserved
loop-i-preserved c = λ n.
    let i = c.loop-i.i in
    let here : ℕ → Bool = λ m. ref_among c.args.globals.now (slice_get c.args.args.now m) in
    let old = has_number c.loop-i.numbers n in
    number_turned here i n (has_number c.args.numbers.now n) old (has_number c.add_number_if.new.numbers n)
    (c.in_ok-add_number_if.ensures n ∙ ap (λ b. (b && nat_eq i n) || old) c.is_ref_at.ensures)
    (c.loop-i.invariant n)

pub returns : goal.returns
returns c = λ n.
    let globals = c.args.globals.now in
    let args = c.args.args.now in
    let end : c.loop-i.i ≡ length args = omega (arith, c.loop-i-test.false, c.loop-i.auto.i-end) in
    c.loop-i.invariant n
    ∙ ap (λ b. has_number c.args.numbers.now n || b) (ap (λ k. nat_lt n k && ref_among globals (slice_get args n)) end ∙ number_inside globals args n)
