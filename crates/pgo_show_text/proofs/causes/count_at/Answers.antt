use Rattle.std.proofs.Common.{◌≡◌, ◌+◌, slice_index_or, refl, ap}
use Rattle.pgo_bundle.specs.View.{attempt_view}
use Rattle.pgo_show_text.proofs.Counted.{counted_at}
use Rattle.pgo_show_text.proofs.causes.count_at.Goals as goal

pub returns : goal.returns
returns c =
    let old = c.index_mut.result.now in
    let is : old ≡ slice_index_or c.args.found.now.items c.args.place old = search in
    counted_at (attempt_view c.args.attempt.now) c.args.found.now.items _ c.args.place (record { attempt = old.attempt; count = old.count + 1 }) old
    refl (ap (λ e. e.attempt) is) (ap (λ e. e.count + 1) is) c.requires.place
