use Rattle.std.proofs.Common.{◌<◌, ◌^◌, length, sym, ap, subst, ◌∙◌}
use Rattle.pgo_bundle.proofs.NotedLaws.{few_at}
use Rattle.pgo_bundle.proofs.noted.told_notes.Goals as goal

pub push_notes-requires : goal.push_notes-requires
push_notes-requires c =
    subst (λ xs. length xs < 2 ^ 32) (sym (c.as_slice.ensures ∙ ap (λ a. a.attempts) c.index-accounts-k.is)) (few_at c.args.accounts.now c.loop-k.k _ c.requires.1 c.loop-k-test.true)
