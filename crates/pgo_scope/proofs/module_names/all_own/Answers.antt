use Rattle.std.proofs.Common.{◌≡◌, [], ◌++◌, map, drop, append-nil, ap, sym, ◌∙◌}
use Rattle.std.proofs.lemmas.List.{drop_all}
use Rattle.pgo_scope.specs.Clash.{own_rows}
use Rattle.pgo_scope.specs.OwnView.{archetypes_in, lists_in, own_in}
use Rattle.pgo_scope.proofs.Owning.{own_found}
use Rattle.pgo_scope.proofs.module_names.all_own.Goals as goal

pub returns : goal.returns
returns c = λ x.
    let n = c.loop-i.i in
    let rows = own_rows 0 c.args.list.now in
    let end : drop n c.args.list.now ≡ [] = drop_all n c.args.list.now c.loop-i-test.false in
    let names = c.loop-i.archetypes in
    let made = map (λ v. v.items) c.loop-i.lists.items in
    let archetypes : names ≡ archetypes_in rows = sym (append-nil names) ∙ ap (λ l. names ++ archetypes_in (own_rows n l)) (sym end) ∙ c.loop-i.invariant.0 in
    let lists : made ≡ lists_in rows = sym (append-nil made) ∙ ap (λ l. made ++ lists_in (own_rows n l)) (sym end) ∙ c.loop-i.invariant.1 in
    (λ i. own_in (archetypes i, lists i) x) ∙ own_found x rows
