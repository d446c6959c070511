-- The picture has as many entries as the log, and as many lanes as there are accounts.
use Rattle.std.proofs.Common.{◌≡◌, length, map, ap, sym, ◌∙◌}
use Rattle.std.proofs.lemmas.List.{length-map}
use Rattle.std.proofs.lemmas.Result.{IfOk-weaker}
use Rattle.pgo_bundle.specs.View.{account_view, logged_entry_view}
use Rattle.pgo_show_picture.specs.Picture.{drawn}
use Rattle.pgo_show_picture.proofs.picture.picture.Goals as goal

pub returns : goal.returns
returns c =
    let log = c.args.log.now in
    let entries : length c.as_slice-entries.result.now ≡ length (map logged_entry_view log.entries) =
    ap (λ es. length es) c.as_slice-entries.ensures ∙ sym (length-map log.entries logged_entry_view) in
    let lanes : length c.as_slice-accounts.result.now ≡ length (map account_view log.accounts) =
    ap (λ xs. length xs) c.as_slice-accounts.ensures ∙ sym (length-map log.accounts account_view) in
    IfOk-weaker c.drawn.result _ _
    (λ ls h. h ∙ (λ i. drawn (record { entries = entries i; lanes = lanes i }) (map logged_entry_view (c.as_slice-entries.ensures i))
    (map account_view (c.as_slice-accounts.ensures i))))
    c.drawn.ensures
