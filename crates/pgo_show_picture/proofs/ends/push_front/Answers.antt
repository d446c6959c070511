-- The picture is as high as its foot says.
use Rattle.std.proofs.Common.{◌≡◌, ◌+◌, ◌++◌, map, ap, ◌∙◌}
use Rattle.std.proofs.lemmas.Result.{IfOk-equal}
use Rattle.pgo_model.specs.ModuleText.{line}
use Rattle.pgo_show_picture.specs.Picture.{foot_of, shapes, with_title}
use Rattle.pgo_show_picture.proofs.ends.push_front.Goals as goal

pub returns : goal.returns
returns c =
    let z = c.args.size in
    let titled : c.push_title.new.lines ≡ with_title z (foot_of z + 50) c.args.lines.now =
    c.in_ok-push_title.ensures ∙ ap (λ h. with_title z (h + 50) c.args.lines.now) c.down-height.ensures.value in
    IfOk-equal c.push_shapes.result _ _ _ c.push_shapes.ensures (ap (λ ls. ls ++ map line (shapes z)) titled)
