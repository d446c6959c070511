use Rattle.std.proofs.Common.{◌≡◌, IfOk, inl, ap, sym, subst}
use Rattle.std.proofs.lemmas.Result.{IfOk-weaker}
use Rattle.pgo_core.specs.Cores.{CoreFits}
use Rattle.pgo_execute.proofs.Opened.{both_ok, fits_program}
use Rattle.pgo_links.proofs.Linking.{links_fit, links_numbered}
use Rattle.pgo_starts.specs.ContentView.{content_shown}
use Rattle.pgo_workers.specs.Worlds.{layout_of}
use Rattle.pgo_execute.proofs.run.opened.Goals as goal
use Rattle.pgo_meaning.specs.System.{system_of}
use Rattle.pgo_places.specs.Trees.{tree_in}
use Rattle.pgo_resource.specs.PlainRows.{FitsStart}
use Rattle.pgo_syntax.specs.RecordView.{settings_view}

pub returns-clause-safe : goal.returns-clause-safe
returns-clause-safe c =
    let p = c.in_ok-sections.sections.program in let b = c.args.bound.now in
    let is = ap (λ r. r.now) c.in_ok-sections.ensures.bound in
    IfOk-weaker c.open.result _ _
    (λ core h. h (c.programs_run.ensures.runs b p (settings_view c.args.settings.now) is c.requires.sound.numbered c.in_ok-sections.ensures.codes c.requires.runs)) c.open.ensures.safe

pub returns-clause-fits : goal.returns-clause-fits
returns-clause-fits c =
    let p = c.in_ok-sections.sections.program in let b = c.args.bound.now in
    let is = ap (λ r. r.now) c.in_ok-sections.ensures.bound in
    let fits = fits_program p b (settings_view c.args.settings.now) is (c.programs_run.ensures.trees b p is c.requires.sound.numbered c.in_ok-sections.ensures.codes) in
    IfOk-weaker c.open.result _ _
    (λ core h f. subst (λ x. CoreFits (system_of x.program.bound.now) (tree_in x.program) (settings_view core.settings)) (sym h.0)
    (subst (λ t. CoreFits (system_of p.bound.now) (tree_in p) t) (sym h.1) (fits f)))
    (both_ok c.open.result _ _ c.open.ensures.sections c.open.ensures.settings)

pub open-requires-clause-fit : goal.open-requires-clause-fit
open-requires-clause-fit c =
    links_fit content_shown (layout_of (system_of c.args.bound.now)) _ c.in_ok-links.links.items c.in_ok-links.ensures.linked
    (subst (λ r. IfOk r (λ v. FitsStart content_shown (layout_of (system_of c.args.bound.now)) v.items)) c.in_ok-owns.ensures.second c.contents.ensures.fit)

pub open-requires-clause-numbers : goal.open-requires-clause-numbers
open-requires-clause-numbers c r l h = inl (links_numbered content_shown _ c.in_ok-links.links.items c.in_ok-links.ensures.linked r l h)

pub open-requires-clause-system : goal.open-requires-clause-system
open-requires-clause-system c =
    let p = c.in_ok-sections.sections.program in let b = c.args.bound.now in
    let is : p.bound.now ≡ b = ap (λ r. r.now) c.in_ok-sections.ensures.bound in
    ap system_of is
