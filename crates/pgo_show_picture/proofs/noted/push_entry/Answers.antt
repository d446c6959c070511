-- The mark and the label stand where the places are.
use Rattle.std.proofs.Common.{◌≡◌, ◌∷◌, ◌++◌, [], ◌∙◌}
use Rattle.std.specs.Prelude.{codes}
use Rattle.std.proofs.lemmas.Result.{IfOk-equal}
use Rattle.pgo_show_picture.specs.Layout.{across_entry, down}
use Rattle.pgo_show_picture.specs.Picture.{mark_line, with_label}
use Rattle.pgo_show_picture.proofs.noted.push_entry.Goals as goal

pub returns : goal.returns
returns c =
    let z = c.args.size in
    let old = c.args.lines.now in
    let marked : c.push_mark.new.lines ≡ old ++ mark_line (codes "committed") (across_entry z c.args.behind) (down z c.args.lane c.args.behind) ∷ [] =
    c.in_ok-push_mark.ensures ∙ (λ i. old ++ mark_line (codes "committed") (c.across_entry-x.ensures i) (c.down-y.ensures.value i) ∷ []) in
    IfOk-equal c.push_entry_label.result _ _ _ c.push_entry_label.ensures
    (λ i. with_label z (c.label_behind.ensures i) (c.across_entry-x.ensures i) (c.down-y.ensures.value i) (marked i))
