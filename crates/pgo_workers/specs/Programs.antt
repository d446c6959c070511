-- What the workers of a system run.
use Rattle.std.specs.Prelude.{ℕ, length}
use Rattle.pgo_base.specs.Lookup.{Vars, find}
use Rattle.pgo_model.specs.Choice.{Seeded, words_of}
use Rattle.pgo_model.specs.Core.{Settings, is_place, is_at_done, is_listed, numbered}
use Rattle.pgo_model.specs.Log.{Effect, effect_between}
use Rattle.pgo_model.specs.System.{System}
use Rattle.pgo_model.specs.Written.{pc, done}
use Rattle.pgo_workers.specs.Walk.{Own, Walk}
use Rattle.pgo_workers.specs.Worker.{Program}
use Rattle.pgo_workers.specs.Worlds.{layout_of, effect_of}

-- the trees of attempts, under a seed
abbrev pub Trees : Type 0
Trees = (seed : ℕ) → (k a : ℕ) → Own → Walk

abbrev pub program_of : System → Trees → Settings → Program Vars Effect
program_of y tree s = record {
  tree = tree s.seed;
  is_done = λ k o. is_place done (find pc o);
  effect = effect_of (layout_of y);
  instances = length y.members;
  sect = λ k a t. numbered y (y.sect k t (words_of (Seeded s.seed k a)));
  at_done = is_at_done y;
  between = effect_between y;
  steps = s.steps;
  attempts = s.attempts;
  fails = is_listed s.down;
}
