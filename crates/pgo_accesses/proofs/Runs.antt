-- A bound specification's program runs its sections: what workers ask of it.
use Rattle.std.proofs.Common.{refl}
use Rattle.pgo_base.specs.Data.{graph, keys}
use Rattle.pgo_meaning.proofs.SystemStates.{states_same}
use Rattle.pgo_model.specs.Choice.{Seeded, words_of}
use Rattle.pgo_model.specs.Core.{Settings, Reaches}
use Rattle.pgo_syntax.specs.declared.bound.Bound.{Bound}
use Rattle.pgo_meaning.specs.System.{system_of}
use Rattle.pgo_workers.specs.Sentences.{Runs}
use Rattle.pgo_workers.specs.Worlds.{IsLayout, layout_of}
use Rattle.pgo_workers.proofs.BoundLayout.{layout_sound, state_has}
use Rattle.pgo_workers.proofs.EntryComponents.{is_of, own_patched}
use Rattle.pgo_workers.proofs.MadeEntries as made
use Rattle.pgo_accesses.specs.Programs.{program_of, world_at}
use Rattle.pgo_accesses.specs.Runnable.{Runnable, IsRunState}
use Rattle.pgo_accesses.proofs.GoodStates.{map_length}
use Rattle.pgo_accesses.proofs.Leads.{instance_there, code_there}
use Rattle.pgo_accesses.proofs.Patches.{next_of}
use Rattle.pgo_accesses.proofs.Programs.{trace_is, stuck_is, done_is}
use Rattle.pgo_accesses.proofs.Within.{within_reach, reaches_resource, settles}

pub runs : (b : Bound) (settings : Settings) → Runnable b → Runs (world_at b) (program_of b settings) (Reaches (system_of b)) (IsRunState b)
runs b settings R =
    let y = layout_of (system_of b) in
    let layout : IsLayout (layout_of (system_of b)) = layout_sound b R.sound R.differ in
    record {
      instances = map_length (λ m. m.id) (system_of b).members;
      trace = λ k a s good. trace_is b R s good.state (words_of (Seeded settings.seed k a)) k;
      stuck = λ k a s kind good below not_done e.
          let i = instance_there b k below in
          let code = code_there b R s good k i.0 i.1 not_done in
          stuck_is b R s good.state (words_of (Seeded settings.seed k a)) k i.0 code.0 kind i.1 code.1 e;
      within = λ k a o names. within_reach b R (words_of (Seeded settings.seed k a)) k o names;
      settles = λ k a o names. settles b (words_of (Seeded settings.seed k a)) k o;
      reaches = λ k r h. reaches_resource b k r h;
      done = λ k s good. done_is b R s good.state (words_of (Seeded settings.seed k 0)) k;
      next = λ k a s o ps good below not_done e. next_of b R s good.state (words_of (Seeded settings.seed k a)) k o ps e;
      printed = λ k o o' cs ps. made.printed y k o o' cs ps;
      own_is = λ k s. made.own_is y k s;
      owned_is = λ k o d names. made.owned_is y k o d names;
      owned = λ k o o' cs ps names names'. made.owned y layout k o o' cs ps names names';
      own_patched = λ k s o o' hs ps good names once are own bases. own_patched y layout k s o o' hs ps (state_has b R.sound s good.state) names once are own bases;
      renews = λ k o o' hs ps once. made.renews y k o o' hs ps once;
      may_commit = λ k o o' hs ps once. made.may_commit y k o o' hs ps once;
      is_of = λ k o o' hs ps names names' once are. is_of y layout k o o' hs ps names names' once are;
    }

-- the start is good
pub start_good : (b : Bound) → Runnable b → IsRunState b b.start
start_good b R = record {
  state = (states_same b b.start R.sound R.globals).1 (record {
    state = R.sound.start;
    domains = λ n d at kind. let h = R.sound.domains n d at kind in (keys (graph h.0), (h.0, h.1, refl), (h.0, h.1, refl));
  });
  labels = R.sound.labels;
}
