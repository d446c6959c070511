-- The variables one after the other.
use Rattle.std.proofs.Common.{◌≡◌, ◌<◌, ◌≤◌, length, map, option_map, refl, ap, sym, ◌∙◌, arith, take_at, drop, set, get_or}
use Rattle.std.proofs.lemmas.List.{set-get_or}
use Rattle.pgo_base.specs.BindingsView.{named_view}
use Rattle.pgo_base.specs.View.{data_of}
use Rattle.pgo_places.specs.Meant.{test_of}
use Rattle.pgo_places.specs.Stands.{updated}
use Rattle.pgo_places.proofs.Updates.{behind, behind_end, behind_none, none_in, update_step}
use Rattle.pgo_places.proofs.variables.update.Goals as goal

pub returns-in_default : goal.returns-in_default
returns-in_default c =
    let xs = c.loop-variable.variable-items in let i = c.loop-variable.variable-index in
    let ys = set xs i (get_or xs i c.variable-item.result) in
    let t = test_of c.args.meant in let o = option_map (λ r. data_of r.now) c.args.value in
    let same : ys ≡ xs = set-get_or xs i c.variable-item.result in
    let all : length xs ≡ c.args.variables.now.len = omega arith in
    ap (map named_view) (take_at ys (drop (length ys) c.args.variables.now.items) c.args.variables.now.len (ap (λ zs. length zs) same ∙ all) ∙ same)
    ∙ sym (behind_none t o (map named_view xs) i)
    ∙ sym (ap (λ ls. behind i (updated t o ls) (map named_view xs)) (none_in c.loop-variable.left.now c.in_default.ensures.cases))
    ∙ c.loop-variable.invariant ∙ ap (λ zs. updated t o c.args.owners.now (map named_view zs)) c.deref_mut-variable-items.ensures.value

pub loop-variable-preserved : goal.loop-variable-preserved
loop-variable-preserved c =
    let lt : c.loop-variable.variable-index < length c.loop-variable.variable-items = omega arith in
    update_step (test_of c.args.meant) (option_map (λ r. data_of r.now) c.args.value) c.loop-variable.left.now c.in-Some.rest.now c.in-Some.owner.now c.loop-variable.variable-items c.loop-variable.variable-index _ c.variable-item.result c.renew.new.variable
    c.in-Some.ensures.cases.0 lt (omega arith) c.in_ok-renew.ensures
    ∙ c.loop-variable.invariant

pub returns : goal.returns
returns c =
    let all : length c.loop-variable.variable-items ≡ c.args.variables.now.len = omega arith in
    let past : length c.loop-variable.variable-items ≤ c.loop-variable.variable-index = omega arith in
    let t = test_of c.args.meant in let o = option_map (λ r. data_of r.now) c.args.value in
    ap (map named_view) (take_at c.loop-variable.variable-items (drop (length c.loop-variable.variable-items) c.args.variables.now.items) c.args.variables.now.len all)
    ∙ sym (behind_end named_view (updated t o c.loop-variable.left.now) refl c.loop-variable.variable-items c.loop-variable.variable-index past)
    ∙ c.loop-variable.invariant ∙ ap (λ xs. updated t o c.args.owners.now (map named_view xs)) c.deref_mut-variable-items.ensures.value
