use Rattle.std.proofs.Common.{ap, ◌∙◌, map}
use Rattle.std.proofs.lemmas.Result.{IfOk-weaker}
use Rattle.pgo_meaning.specs.System.{resource_of, system_of}
use Rattle.pgo_workers.specs.Worlds.{layout_of}
use Rattle.pgo_starts.specs.Contents.{cell_of, starting_in}
use Rattle.pgo_starts.proofs.ContentsAtStart.{contents_fit}
use Rattle.pgo_starts.proofs.contents.contents_in.Goals as goal

pub returns-clause-fit : goal.returns-clause-fit
returns-clause-fit c =
    IfOk-weaker c.all_contents.result _ _
    (λ v h. contents_fit (starting_in c.args.s.now (layout_of (system_of c.args.bound.now))) v.items (h ∙ ap (λ rs. map (cell_of c.args.s.now) (map resource_of rs)) c.as_slice-resources.ensures)) c.all_contents.ensures.shown
