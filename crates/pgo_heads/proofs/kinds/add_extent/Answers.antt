use Rattle.std.proofs.Common.{ap, sym, ◌∙◌}
use Rattle.std.specs.Prelude.{unwrap_or}
use Rattle.pgo_model.specs.Names.{same_name-is}
use Rattle.pgo_bound.specs.Kinds.{with_extent}
use Rattle.pgo_bound.specs.declared.kinds.Kind.TheVariants.{Unbound}
use Rattle.pgo_heads.specs.NameMaps.{found}
use Rattle.pgo_heads.proofs.KindLaws.{bound_more}
use Rattle.pgo_heads.proofs.kinds.add_extent.Goals as goal

pub returns : goal.returns
returns c =
    let before = found c.args.kinds.now in
    λ n. bound_more n c.args.name.now c.args.extent (before n) _ (before c.args.name.now) c.with_extent.result (c.in_ok-set.ensures.noted n)
    (c.with_extent.ensures ∙ ap (λ k. with_extent k c.args.extent) (c.unwrap_or-before.ensures ∙ ap (λ o. unwrap_or o Unbound) (c.copied.ensures ∙ c.get.ensures)))
    (λ h. ap before (sym (same_name-is n c.args.name.now h)))
