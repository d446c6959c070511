use Rattle.std.proofs.Common.{◌≡◌, ◌<◌, ℕ, length, true, false, refl, sym, ap, ◌∙◌}
use Rattle.pgo_base.specs.Data.{Data}
use Rattle.pgo_model.specs.Machine.{put}
use Rattle.pgo_workers.specs.View.{Shown}
use Rattle.pgo_section.specs.Quiet.{currents}
use Rattle.pgo_section.proofs.Quiets.{base_set, current_set, first_below, shown_here, went_on}
use Rattle.pgo_section.proofs.quiet.access.Goals as goal

pub returns-in_err-operate-clause-bases : goal.returns-in_err-operate-clause-bases
returns-in_err-operate-clause-bases g c =
    let t = c.requires.touch in let xs = c.args.contents.now.items in
    base_set g.R.Resource.shows xs c.args.r c.index_mut.result.now c.operate.new.content (first_below (length xs) _ c.args.r t.0 t.1 t.2 c.requires.within) c.index_mut.ensures.value (ap (λ (s : Shown). s.base) c.operate.ensures.content)

pub returns-in_err-settle-clause-bases : goal.returns-in_err-settle-clause-bases
returns-in_err-settle-clause-bases g c =
    let t = c.requires.touch in let xs = c.args.contents.now.items in
    base_set g.R.Resource.shows xs c.args.r c.index_mut.result.now c.operate.new.content (first_below (length xs) _ c.args.r t.0 t.1 t.2 c.requires.within) c.index_mut.ensures.value (ap (λ (s : Shown). s.base) c.operate.ensures.content)

pub returns-then-branch-clause-bases : goal.returns-then-branch-clause-bases
returns-then-branch-clause-bases g c =
    let t = c.requires.touch in let xs = c.args.contents.now.items in
    c.reset.ensures.bases
    ∙ base_set g.R.Resource.shows xs c.args.r c.index_mut.result.now c.operate.new.content (first_below (length xs) _ c.args.r t.0 t.1 t.2 c.requires.within) c.index_mut.ensures.value (ap (λ (s : Shown). s.base) c.operate.ensures.content)

pub returns-else-branch-clause-bases : goal.returns-else-branch-clause-bases
returns-else-branch-clause-bases g c =
    let t = c.requires.touch in let xs = c.args.contents.now.items in
    base_set g.R.Resource.shows xs c.args.r c.index_mut.result.now c.operate.new.content (first_below (length xs) _ c.args.r t.0 t.1 t.2 c.requires.within) c.index_mut.ensures.value (ap (λ (s : Shown). s.base) c.operate.ensures.content)

pub returns-then-branch-clause-went : goal.returns-then-branch-clause-went
returns-then-branch-clause-went g c =
    let t = c.requires.touch in let xs = c.args.contents.now.items in let shows = g.R.Resource.shows in let r = c.args.r in
    let near = first_below (length xs) _ r t.0 t.1 t.2 c.requires.within in
    let on = c.in_ok-operate.ensures.on r t.0 t.1 t.2 in
    let same = base_set shows xs r c.index_mut.result.now c.operate.new.content near c.index_mut.ensures.value (ap (λ (s : Shown). s.base) c.operate.ensures.content) in
    went_on (length xs) _ _ _ _ _ _ r t.0 t.1 (shows c.index_mut.result.now).current true t.2 c.requires.within (ap (λ (s : Shown). s.current) (shown_here shows xs r c.index_mut.result.now near c.index_mut.ensures.value)) on.1 c.in_ok-settle.ensures.walk (sym c.if-branch.true ∙ c.in_ok-settle.ensures.back)
    (c.reset.ensures.rests ∙ same)

pub returns-else-branch-clause-went : goal.returns-else-branch-clause-went
returns-else-branch-clause-went g c =
    let t = c.requires.touch in let xs = c.args.contents.now.items in let shows = g.R.Resource.shows in let r = c.args.r in
    let near = first_below (length xs) _ r t.0 t.1 t.2 c.requires.within in
    let on = c.in_ok-operate.ensures.on r t.0 t.1 t.2 in
    went_on (length xs) _ _ _ _ _ _ r t.0 t.1 (shows c.index_mut.result.now).current false t.2 c.requires.within (ap (λ (s : Shown). s.current) (shown_here shows xs r c.index_mut.result.now near c.index_mut.ensures.value)) on.1 c.in_ok-settle.ensures.walk (sym c.if-branch.false ∙ c.in_ok-settle.ensures.back)
    (current_set shows xs r c.operate.new.content near ∙ ap (λ y. put r y (currents shows xs)) on.0)
