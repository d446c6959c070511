use Rattle.std.proofs.Common.{◌≡◌, ◌<◌, ◌+◌, ◌∷◌, ℕ, Bool, Some, drop, length, map, slice_get, refl, ap, sym, subst, ◌∙◌, rules, add-one}
use Rattle.std.specs.Prelude.{None, if◌then◌else◌, take}
use Rattle.std.proofs.lemmas.List.{drop_more}
use Rattle.std.proofs.lemmas.Option.{slice_get_read}
use Rattle.pgo_base.specs.Lookup.{find}
use Rattle.pgo_base.specs.States.{first_place}
use Rattle.pgo_base.specs.View.{data_of, named_data}
use Rattle.pgo_base.proofs.NamesOnce.{first_here, first_more, named_at}
use Rattle.pgo_base.proofs.scope.State.find_with_place.Goals as goal

pub returns-then-is-clause-place : goal.returns-then-is-clause-place
returns-then-is-clause-place c =
    let list = c.deref-p-items.result.now in
    let test = c.loop-i-test.true in
    let within : c.loop-i.i < length list = search rules in
    let whole = c.deref-p-items.ensures.value in
    let here : slice_get list c.loop-i.i ≡ Some c.p-item.result = slice_get_read list (length list) c.loop-i.i c.p-item.result refl within c.p-item.is in
    ap (λ vs. slice_get vs c.loop-i.i) (sym c.self.view_is)
    ∙ named_at c.self.inside.list.items c.loop-i.i c.p-item.result c.args.name.now (ap (λ vs. slice_get vs c.loop-i.i) (sym whole) ∙ here) (sym c.is.ensures ∙ c.if-is.true)

pub returns-then-is-clause-first : goal.returns-then-is-clause-first
returns-then-is-clause-first c =
    let list = c.deref-p-items.result.now in
    let test = c.loop-i-test.true in
    let within : c.loop-i.i < length list = search rules in
    let whole = c.deref-p-items.ensures.value in
    let here : slice_get list c.loop-i.i ≡ Some c.p-item.result = slice_get_read list (length list) c.loop-i.i c.p-item.result refl within c.p-item.is in
    ap (first_place c.args.name.now) (sym c.self.view_is)
    ∙ ap (λ vs. first_place c.args.name.now (map named_data vs)) (sym whole)
    ∙ first_here list c.loop-i.i c.p-item.result c.args.name.now c.loop-i.invariant.before here (sym c.is.ensures ∙ c.if-is.true)

pub loop-i-preserved : goal.loop-i-preserved
loop-i-preserved c =
    let list = c.deref-p-items.result.now in
    let i = c.loop-i.i in
    let x = c.args.name.now in
    let p = c.p-item.result in
    let test = c.loop-i-test.true in
    let within : i < length list = search rules in
    let here : slice_get list i ≡ Some p = slice_get_read list (length list) i p refl within c.p-item.is in
    let next : drop i list ≡ p ∷ drop (i + 1) list = drop_more list i p within ∙ ap (λ q. q ∷ drop (i + 1) list) (sym c.p-item.is) in
    record {
      value = c.loop-i.invariant.value ∙ ap (λ vs. find x (map named_data vs)) next ∙ ap (λ (b : Bool). if b then Some (data_of p.1) else find x (map named_data (drop (i + 1) list))) (sym c.is.ensures ∙ c.if-is.false);
      before = subst (λ (n : ℕ). first_place x (map named_data (take n list)) ≡ None) (sym (add-one i)) (first_more list i p x c.loop-i.invariant.before here (sym c.is.ensures ∙ c.if-is.false));
    }
