use Rattle.std.proofs.Common.{◌≡◌, ◌∷◌, ◌++◌, [], length, map, ap, sym, ◌∙◌}
use Rattle.std.specs.Prelude.{codes, decimal}
use Rattle.std.proofs.lemmas.List.{length-map}
use Rattle.std.proofs.lemmas.Result.{IfOk-equal}
use Rattle.pgo_bundle.specs.View.{account_view, logged_entry_view}
use Rattle.pgo_show_text.specs.Facts.{all_attempts}
use Rattle.pgo_show_text.specs.Shown.{joined}
use Rattle.pgo_show_text.proofs.shown.push_whole.Goals as goal

pub returns : goal.returns
returns c =
    let log = c.args.log.now in
    let accounts : length c.as_slice-accounts.result.now ≡ length (map account_view log.accounts) =
    ap (λ xs. length xs) c.as_slice-accounts.ensures ∙ sym (length-map log.accounts account_view) in
    let entries : length c.as_slice.result.now ≡ length (map logged_entry_view log.entries) =
    ap (λ xs. length xs) c.as_slice.ensures ∙ sym (length-map log.entries logged_entry_view) in
    let attempts = c.all_attempts.ensures ∙ ap (λ xs. all_attempts (map account_view xs)) c.as_slice-accounts.ensures in
    IfOk-equal c.push.result _ _ _ c.push.ensures
    (λ i. c.args.lines.now ++ joined (codes "instances " ∷ decimal (accounts i) ∷ codes ", entries " ∷ decimal (entries i)
    ∷ codes ", attempts " ∷ decimal (attempts i) ∷ codes ", status " ∷ decimal log.status ∷ codes ": " ∷ c.status_text.ensures i ∷ []) ∷ [])
