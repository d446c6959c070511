use Rattle.std.proofs.Common.{rules, ◌≡◌, ◌∙◌, ◌∷◌, [], ◌<◌, length, map, ap, sym, subst, Some}
use Rattle.std.specs.Prelude.{get_or}
use Rattle.pgo_base.specs.View.{data_of, named_data}
use Rattle.pgo_model.specs.Machine.{nth}
use Rattle.pgo_model.specs.Written.{pc}
use Rattle.pgo_resource.specs.Kept.{member_view}
use Rattle.pgo_resource.specs.Layouts.{layout_view}
use Rattle.pgo_workers.specs.Worlds.{own_at}
use Rattle.pgo_starts.proofs.OwnRows.{assembled, nth_id}
use Rattle.pgo_starts.proofs.own.own_of.Goals as goal

pub returns : goal.returns
returns c =
    let y = layout_view c.args.layout.now in let s = c.args.start.now in let id = data_of (get_or c.as_slice.result.now c.args.k c.index-as_slice-k.result).id in
    let there : nth y.ids c.args.k ≡ Some id =
    ap (λ xs. nth (map (λ m. m.0) (map member_view xs)) c.args.k) (sym c.as_slice.ensures)
    ∙ nth_id c.as_slice.result.now c.args.k c.index-as_slice-k.result (subst (λ xs. c.args.k < length (map (λ m. m.0) (map member_view xs))) (sym c.as_slice.ensures) c.requires) in
    let first : map named_data c.push.new.self.items ≡ own_at 0 id (pc ∷ []) s = search rules in
    c.in_ok-own.ensures ∙ c.from_vec.ensures ∙ assembled y.ids y.own s c.args.k id (map named_data c.push.new.self.items) (map named_data c.add_all.new.list.items) there first c.in_ok-add_all.ensures
