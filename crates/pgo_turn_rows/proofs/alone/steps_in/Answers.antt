use Rattle.std.proofs.Common.{◌≡◌, ◌<◌, [], None, length, map, IfOk, ap, sym, ◌∙◌, subst}
use Rattle.std.proofs.lemmas.List.{length-map}
use Rattle.pgo_meaning.specs.System.{member_of, resource_of, system_of}
use Rattle.pgo_resource.specs.Layouts.{layout_view}
use Rattle.pgo_resource.specs.PlainBoards.{board_layout, shows_of}
use Rattle.pgo_section.specs.Turns.{IsFresh}
use Rattle.pgo_syntax.specs.RecordView.{settings_view}
use Rattle.pgo_syntax.specs.declared.bound.Bound.{Bound}
use Rattle.pgo_workers.specs.Worlds.{Layout, layout_of, own_in}
use Rattle.pgo_turn_rows.proofs.Fresh.{fresh}
use Rattle.pgo_turn_rows.proofs.alone.steps_in.Goals as goal

pub steps_on-requires-clause-instance : goal.steps_on-requires-clause-instance
steps_on-requires-clause-instance c =
    let b = c.args.bound.now in
    subst (λ (x : Bound). c.args.instance < length (system_of x).members) (sym c.requires.bound) (subst (λ m. c.args.instance < m) (sym (length-map b.instances member_of)) c.requires.instance)

pub steps_on-requires-clause-own : goal.steps_on-requires-clause-own
steps_on-requires-clause-own c =
    let l = c.in_ok-layout.layout in let k = c.args.instance in
    subst (λ r. IfOk r (λ o. o ≡ own_in (layout_view l) (layout_view l).start k)) c.in_ok-own.ensures.first c.own_at_start-own.ensures
    ∙ ap (λ (y : Layout). own_in y y.start k) c.in_ok-layout.ensures ∙ ap (λ (x : Bound). own_in (layout_of (system_of x)) x.start k) (sym c.requires.bound)

pub steps_on-requires-clause-resources : goal.steps_on-requires-clause-resources
steps_on-requires-clause-resources c =
    ap length c.as_slice.ensures ∙ sym (length-map c.args.bound.now.resources resource_of) ∙ ap (λ (x : Bound). length (map resource_of x.resources)) (sym c.requires.bound)

pub steps_on-requires-clause-layout : goal.steps_on-requires-clause-layout
steps_on-requires-clause-layout c =
    subst (λ r. IfOk r (λ b. board_layout b ≡ layout_of (system_of c.args.bound.now))) c.in_ok-own.ensures.second c.board.ensures.layout
    ∙ ap (λ (x : Bound). layout_of (system_of x)) (sym c.requires.bound)

pub steps_on-requires-clause-fresh : goal.steps_on-requires-clause-fresh
steps_on-requires-clause-fresh c =
    let y = system_of c.args.sections.now.program.bound.now in let s = settings_view c.args.settings.now in
    let view = subst (λ r. IfOk r (λ b. shows_of b ≡ record { instance = c.args.instance; resources = length c.args.bound.now.resources; steps = s.steps; share = s.attempts; held = []; entries = []; notes = []; told = None; last = None })) c.in_ok-own.ensures.second c.board.ensures.view in
    subst (IsFresh y s c.args.instance) (sym view) (fresh y s c.args.instance (length c.args.bound.now.resources))
