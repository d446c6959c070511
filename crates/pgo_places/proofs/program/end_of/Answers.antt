-- The leaf has come to its end.
use Rattle.std.proofs.Common.{◌≡◌, ap}
use Rattle.std.proofs.lemmas.Result.{IfOk-weaker}
use Rattle.pgo_resource.specs.Picked.{attempt_words}
use Rattle.pgo_tries.specs.Sections.{along}
use Rattle.pgo_workers.specs.Tried.{Leads, and_then, trying}
use Rattle.pgo_workers.specs.Walk.{Stop, Goes}
use Rattle.pgo_places.specs.PlaceWalk.{leaf_in, leaf_from, walk_in}
use Rattle.pgo_places.proofs.Walks.{later, end_leaf}
use Rattle.pgo_places.proofs.program.end_of.Goals as goal

pub leaf_end-requires : goal.leaf_end-requires
leaf_end-requires c =
    let p = c.args.program.now in let q = c.args.attempt in let first = attempt_words q.place.stand.picks in
    end_leaf first (λ path. trying (λ path. leaf_from p q.place q.start (along 0 path first)) first q.left path) (leaf_in p q.place) c.requires

pub returns : goal.returns
returns c =
    let p = c.args.program.now in let q = c.args.attempt in
    IfOk-weaker c.leaf_end.result (λ e. leaf_in p q.place ≡ Stop (Leads (Goes e.0 e.1))) (λ e. walk_in p q ≡ Stop (Goes e.0 e.1))
    (λ e h. ap (λ w. and_then w (later p q.place q.start q.left)) h) c.leaf_end.ensures
