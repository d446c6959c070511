use Rattle.std.proofs.Common.{◌≡◌, [], ℕ, true, length, sym, ap, ◌∙◌, subst}
use Rattle.std.specs.Prelude.{nat_lt}
use Rattle.std.proofs.lemmas.List.{length-map}
use Rattle.std.proofs.lemmas.Result.{IfOk-at_ok}
use Rattle.pgo_meaning.specs.System.{system_of}
use Rattle.pgo_model.specs.System.{System}
use Rattle.pgo_syntax.specs.RecordView.{settings_view}
use Rattle.pgo_syntax.specs.declared.records.Settings.{Settings}
use Rattle.pgo_workers.specs.Worlds.{layout_of, value_in}
use Rattle.pgo_core.specs.Cores.{CoreFits, IsSafe, StandsWith}
use Rattle.pgo_core.specs.AllViews.{HasValue}
use Rattle.pgo_core.specs.ExclusiveBoards.{views_of}
use Rattle.pgo_core.proofs.OpenedCore.{opened_safe, opened_core, opened_counts, opened_numbers, opened_free}
use Rattle.pgo_core.proofs.instances.Core.open.Goals as goal

pub returns-clause-safe : goal.returns-clause-safe
returns-clause-safe g c =
    let y = g.S.Sections.system c.args.sections in let tree = g.S.Sections.tree c.args.sections in let walk = g.S.Sections.walk c.args.sections in
    let e = c.in_ok-workers.ensures in let ws = c.in_ok-workers.workers in let b = c.in_ok-workers.board in
    let w = IfOk-at_ok _ e.first c.both.ensures.first in
    let board = IfOk-at_ok _ e.first c.both.ensures.second in
    let rest = IfOk-at_ok _ e.second c.both-3.ensures.second in
    let same = IfOk-at_ok _ (IfOk-at_ok _ rest c.both-2.ensures.second) c.copied.ensures in
    let as_many : length ws.items ≡ length y.members =
    sym ws.ok.0 ∙ IfOk-at_ok _ w c.workers_of-workers.ensures.as_many ∙ c.requires.owns_as_many ∙ sym (length-map c.args.bound.now.instances _) ∙ ap (λ (y : System). length y.members) (sym c.requires.system) in
    λ runs. record {
      layout = IfOk-at_ok _ board c.open-board.ensures.layout ∙ ap layout_of (sym c.requires.system);
      seats = subst (λ (s : Settings). IsSafe y tree walk (settings_view s) ws.items (views_of b)) (sym same)
          (opened_safe y tree walk (settings_view c.args.settings.now) ws.items (views_of b) (IfOk-at_ok _ w c.workers_of-workers.ensures.opened) as_many (length c.args.bound.now.resources) (IfOk-at_ok _ board c.open-board.ensures.view) runs);
    }

pub returns-clause-stands : goal.returns-clause-stands
returns-clause-stands g c =
    let y = g.S.Sections.system c.args.sections in let tree = g.S.Sections.tree c.args.sections in let walk = g.S.Sections.walk c.args.sections in
    let e = c.in_ok-workers.ensures in let ws = c.in_ok-workers.workers in let b = c.in_ok-workers.board in
    let w = IfOk-at_ok _ e.first c.both.ensures.first in
    let board = IfOk-at_ok _ e.first c.both.ensures.second in
    let rest = IfOk-at_ok _ e.second c.both-3.ensures.second in
    let same = IfOk-at_ok _ (IfOk-at_ok _ rest c.both-2.ensures.second) c.copied.ensures in
    let as_many : length ws.items ≡ length y.members =
    sym ws.ok.0 ∙ IfOk-at_ok _ w c.workers_of-workers.ensures.as_many ∙ c.requires.owns_as_many ∙ sym (length-map c.args.bound.now.instances _) ∙ ap (λ (y : System). length y.members) (sym c.requires.system) in
    let contents = IfOk-at_ok _ board c.open-board.ensures.contents in
    let resources : length y.resources ≡ length c.args.contents.items =
    ap (λ (y : System). length y.resources) c.requires.system ∙ length-map c.args.bound.now.resources _ ∙ sym c.requires.as_many ∙ c.args.contents.ok.0 in
    subst (λ (s : Settings). (fits : CoreFits y tree (settings_view s)) → StandsWith y tree walk (settings_view s) fits [] 0 ws.items (views_of b)) (sym same)
    (λ fits.
    opened_core y tree walk (settings_view c.args.settings.now) ws.items (views_of b) (IfOk-at_ok _ w c.workers_of-workers.ensures.opened) as_many (length c.args.bound.now.resources) (IfOk-at_ok _ board c.open-board.ensures.view) fits
    (opened_counts g.R.Resource.shows (layout_of (system_of c.args.bound.now)) c.args.contents.items b.contents.items contents c.requires.fit)
    (opened_numbers g.R.Resource.shows (layout_of (system_of c.args.bound.now)) c.args.contents.items b.contents.items contents c.requires.fit (settings_view c.args.settings.now) (length y.resources) resources c.requires.numbers)
    (subst (λ l. (r : ℕ) → nat_lt r (length y.resources) ≡ true → HasValue ((views_of b).content r) (value_in l l.start r)) (ap layout_of (sym c.requires.system))
    (opened_free g.R.Resource.shows (layout_of (system_of c.args.bound.now)) c.args.contents.items b.contents.items contents c.requires.fit (length y.resources) resources)))
