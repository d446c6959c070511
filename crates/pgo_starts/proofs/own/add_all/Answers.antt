use Rattle.std.proofs.Common.{◌≡◌, ◌∙◌, ◌∷◌, ◌++◌, ◌+◌, map, drop, sym, ap}
use Rattle.std.proofs.lemmas.List.{append-nil, drop_all}
use Rattle.std.specs.List.{flat_map}
use Rattle.pgo_base.specs.View.{data_of, named_data}
use Rattle.pgo_model.specs.Operators.{contains}
use Rattle.pgo_resource.specs.Kept.{member_view, own_view}
use Rattle.pgo_model.specs.Log.{own_names}
use Rattle.pgo_resource.specs.Layouts.{ids_at, owned_at}
use Rattle.pgo_workers.specs.Worlds.{own_at}
use Rattle.pgo_starts.proofs.OwnRows.{rows, row_there, row_not_there, drop_step, names_of_all}
use Rattle.pgo_starts.proofs.own.add_all.Goals as goal
use Rattle.pgo_starts.proofs.own.add_all.Goals.{then-has_member+in_ok-add_names, else-has_member}

pub loop-own-preserved : goal.loop-own-preserved
loop-own-preserved c =
    let ms = map member_view c.args.layout.now.members in let id = data_of c.args.id.now in let s = c.args.start.now in
    let xs = c.as_slice-own-items.result.now in let n = c.loop-own.own-index in let x = c.own-item.result in
    let before = map named_data c.loop-own.list.items in let os = map own_view (drop (n + 1) xs) in
    let d : drop n xs ≡ x ∷ drop (n + 1) xs = drop_step xs n x c.loop-own-test.true c.own-item.is in
    let has : c.has_member.result ≡ contains id (ids_at ms x.process) = c.has_member.ensures ∙ ap (λ l. contains id (ids_at (map member_view l) x.process)) c.as_slice.ensures in
    let step : before ++ rows id ms (own_view x ∷ os) s ≡ map named_data c.if-has_member.list.items ++ rows id ms os s =
    elim c.if-has_member.branch [
      | then-has_member+in_ok-add_names w ↦
          row_there id ms s before (own_view x) os (sym has ∙ w.if-has_member.true)
          ∙ ap (λ l. l ++ rows id ms os s) (sym w.in_ok-add_names.ensures ∙ ap (λ l. map named_data l.items) (sym w.list-is))
      | else-has_member w ↦
          row_not_there id ms s before (own_view x) os (sym has ∙ w.if-has_member.false)
          ∙ ap (λ l. map named_data l.items ++ rows id ms os s) (sym w.list-is)
    ] in
    c.loop-own.invariant ∙ ap (λ ys. before ++ rows id ms (map own_view ys) s) d ∙ step

pub returns : goal.returns
returns c =
    let ms = map member_view c.args.layout.now.members in let id = data_of c.args.id.now in let s = c.args.start.now in
    let xs = c.as_slice-own-items.result.now in let n = c.loop-own.own-index in let list = map named_data c.loop-own.list.items in
    let end : list ++ rows id ms (map own_view (drop n xs)) s ≡ list = ap (λ ys. list ++ rows id ms (map own_view ys) s) (drop_all n xs c.loop-own-test.false) ∙ append-nil list in
    let names : rows id ms (map own_view xs) s ≡ own_at 0 id (own_names id (flat_map (owned_at ms) (map own_view c.args.layout.now.own))) s =
    ap (λ ys. rows id ms (map own_view ys) s) c.as_slice-own-items.ensures ∙ ap (λ l. own_at 0 id l s) (sym (names_of_all id ms (map own_view c.args.layout.now.own))) in
    sym end ∙ sym c.loop-own.invariant ∙ ap (λ l. map named_data c.args.list.now.items ++ l) names
