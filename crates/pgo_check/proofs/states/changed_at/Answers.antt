use Rattle.std.proofs.Common.{◌≡◌, ap, sym, ◌∙◌}
use Rattle.std.specs.Prelude.{Some, None, option_map}
use Rattle.std.specs.Prelude.{false}
use Rattle.pgo_base.specs.Data.{boolean}
use Rattle.pgo_base.specs.View.{data_of}
use Rattle.pgo_model.specs.Log.{with_part}
use Rattle.pgo_model.specs.LogView.{change_view}
use Rattle.pgo_model.specs.Options.{on}
use Rattle.pgo_model.specs.Variables.{store}
use Rattle.pgo_model.specs.Steps.{place_in}
use Rattle.pgo_check.proofs.Placing.{place_within}
use Rattle.pgo_check.proofs.Stored.{changed_none, changed_some, put_twice}
use Rattle.pgo_model.proofs.Places.{place_none}
use Rattle.pgo_check.proofs.states.changed_at.Goals as goal

pub returns-in_default : goal.returns-in_default
returns-in_default c =
    let x = c.args.change.now.component.variable in
    let e : place_in x c.args.state ≡ None = sym c.in_default.ensures in
    sym (changed_none (change_view c.args.change.now) c.args.state (place_none x c.args.state e))

pub replace-before-requires : goal.replace-before-requires
replace-before-requires c = place_within c.args.change.now.component.variable c.args.state c.in-Some.i (sym c.in-Some.ensures)

pub replace-requires : goal.replace-requires
replace-requires c =
    let x = c.args.change.now.component.variable in
    let e : place_in x c.args.state ≡ Some c.in-Some.i = sym c.in-Some.ensures in
    (put_twice x c.args.state c.replace-before.new.self c.in-Some.i (data_of c.replace-before.result) (boolean false) e c.replace-before.ensures).1

pub returns-in-Some-2 : goal.returns-in-Some-2
returns-in-Some-2 c =
    let x = c.args.change.now.component.variable in
    let index = option_map data_of c.args.change.now.component.index in
    let old = data_of c.replace-before.result in
    let e : place_in x c.args.state ≡ Some c.in-Some.i = sym c.in-Some.ensures in
    let w = put_twice x c.args.state c.replace-before.new.self c.in-Some.i old (boolean false) e c.replace-before.ensures in
    let n : Some (data_of c.in-Some-2.v) ≡ on (Some (data_of c.args.change.now.value)) index (λ i. with_part old i (data_of c.args.change.now.value)) =
    ap (option_map data_of) (sym c.in-Some-2.is)
    ∙ c.in_ok-v.ensures ∙ ap (λ v. on (Some (data_of v)) index (λ i. with_part old i (data_of v))) c.in_ok-value.ensures in
    ap Some (w.2 c.replace.new.self (data_of c.replace.result) (data_of c.in-Some-2.v) c.replace.ensures)
    ∙ ap (option_map (λ d. store x d c.args.state)) n ∙ sym (changed_some (change_view c.args.change.now) c.args.state old w.0)

pub returns-in-None : goal.returns-in-None
returns-in-None c =
    let x = c.args.change.now.component.variable in
    let index = option_map data_of c.args.change.now.component.index in
    let old = data_of c.replace-before.result in
    let e : place_in x c.args.state ≡ Some c.in-Some.i = sym c.in-Some.ensures in
    let w = put_twice x c.args.state c.replace-before.new.self c.in-Some.i old (boolean false) e c.replace-before.ensures in
    let n : None ≡ on (Some (data_of c.args.change.now.value)) index (λ i. with_part old i (data_of c.args.change.now.value)) =
    ap (option_map data_of) (sym c.in-None.is)
    ∙ c.in_ok-v.ensures ∙ ap (λ v. on (Some (data_of v)) index (λ i. with_part old i (data_of v))) c.in_ok-value.ensures in
    ap (option_map (λ d. store x d c.args.state)) n ∙ sym (changed_some (change_view c.args.change.now) c.args.state old w.0)
