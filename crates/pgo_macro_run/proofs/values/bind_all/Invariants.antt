use Rattle.std.proofs.Common.{◌≡◌, drop}
use Rattle.pgo_resource.specs.Picked.{attempt_words, words_of}
use Rattle.pgo_macro_run.specs.AroundView.{given_of, env_of, now_of, Begins}
use Rattle.pgo_macro_run.specs.Given as given
use Rattle.pgo_macro_run.proofs.values.bind_all.Given as goal

abbrev pub invariant-loop-w : goal.invariant-loop-w
invariant-loop-w l =
    (words_of l.picks ≡ words_of l.initial.picks) × (attempt_words l.picks ≡ attempt_words l.initial.picks) × Begins l.initial.names.items l.names.items
    × (given.bind_all (given_of l.around (words_of l.initial.picks)) (drop l.w-index l.list) (env_of l.names.items) (now_of l.content l.picks)
    ≡ given.bind_all (given_of l.around (words_of l.initial.picks)) l.list (env_of l.initial.names.items) (now_of l.content l.initial.picks))
