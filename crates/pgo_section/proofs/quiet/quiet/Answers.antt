use Rattle.std.proofs.Common.{◌≡◌, ◌<◌, ℕ, length, false, refl, sym, ap, subst, ◌∙◌, IfOk}
use Rattle.std.proofs.lemmas.Result.{IfOk-weaker}
use Rattle.pgo_model.specs.Choice.{Seeded, words_of}
use Rattle.pgo_model.specs.System.{System}
use Rattle.pgo_workers.specs.Sentences.{IsOwn}
use Rattle.pgo_workers.specs.Walk.{Within}
use Rattle.pgo_workers.specs.Worlds.{layout_of, world_of}
use Rattle.pgo_section.specs.Programs.{IsGood}
use Rattle.pgo_section.specs.Quiet.{AreContentsIn, AreOwnsIn, bases}
use Rattle.pgo_section.proofs.Standing.{plain, quiet_is, quiet_none, told_quiet, tree_begins, values_here}
use Rattle.pgo_section.proofs.quiet.quiet.Goals as goal

pub are_standing-requires-clause-each : goal.are_standing-requires-clause-each
are_standing-requires-clause-each g c k o e =
    let y = g.S.Sections.system c.args.sections.now in let tree = g.S.Sections.tree c.args.sections.now in let own = c.requires.owns k o e in
    tree_begins y tree (c.requires.runs plain) (length c.args.contents.items) k o own
    (subst (λ m. Within (λ r. r < m) (IsOwn (world_of (layout_of y)) k) (tree 0 k 1 o)) (sym c.requires.as_many) (g.met.S.Sections.inside c.args.sections.now 0 k 1 o own))

pub returns-then-is_some_undone : goal.returns-then-is_some_undone
returns-then-is_some_undone g c b s e good owns contents =
    let y = g.S.Sections.system c.args.sections.now in let tree = g.S.Sections.tree c.args.sections.now in let xs = c.args.contents.items in let os = c.args.owns.now in
    IfOk-weaker c.are_standing.result _ _
    (λ q is. told_quiet b s y (λ k. words_of (Seeded 0 k 1)) q e
    (quiet_is y tree (c.requires.runs plain) s (subst (λ (y : System). IsGood y s) (sym e) good) (bases g.R.Resource.shows xs) (length xs)
    (values_here g.R.Resource.shows (layout_of y) s xs (subst (λ (y : System). AreContentsIn g.R.Resource.shows (layout_of y) s xs) (sym e) contents)) os c.requires.owns_as_many
    (subst (λ (y : System). AreOwnsIn (layout_of y) s os) (sym e) owns)
    (λ k o at. let own = c.requires.owns k o at in
    tree_begins y tree (c.requires.runs plain) (length xs) k o own
    (subst (λ m. Within (λ r. r < m) (IsOwn (world_of (layout_of y)) k) (tree 0 k 1 o)) (sym c.requires.as_many) (g.met.S.Sections.inside c.args.sections.now 0 k 1 o own)))
    q is (sym c.is_some_undone.ensures ∙ c.if-is_some_undone.true)))
    c.are_standing.ensures

pub returns : goal.returns
returns g c b s e good owns contents =
    let y = g.S.Sections.system c.args.sections.now in let tree = g.S.Sections.tree c.args.sections.now in let xs = c.args.contents.items in let os = c.args.owns.now in
    told_quiet b s y (λ k. words_of (Seeded 0 k 1)) false e
    (quiet_none y tree (c.requires.runs plain) s (subst (λ (y : System). IsGood y s) (sym e) good) (bases g.R.Resource.shows xs) (length xs)
    (values_here g.R.Resource.shows (layout_of y) s xs (subst (λ (y : System). AreContentsIn g.R.Resource.shows (layout_of y) s xs) (sym e) contents)) os c.requires.owns_as_many
    (subst (λ (y : System). AreOwnsIn (layout_of y) s os) (sym e) owns)
    (λ k o at. let own = c.requires.owns k o at in
    tree_begins y tree (c.requires.runs plain) (length xs) k o own
    (subst (λ m. Within (λ r. r < m) (IsOwn (world_of (layout_of y)) k) (tree 0 k 1 o)) (sym c.requires.as_many) (g.met.S.Sections.inside c.args.sections.now 0 k 1 o own)))
    false refl (sym c.is_some_undone.ensures ∙ c.if-is_some_undone.false))
