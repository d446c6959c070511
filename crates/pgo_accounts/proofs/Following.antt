-- What is asked of a bound specification whose states are kept, so that workers follow the core machine.
use Rattle.std.proofs.Common.{◌≡◌, ◌≤◌, ℕ, true, List, length, Some, ap, ◌∙◌, arith}
use Rattle.std.proofs.lemmas.Bool.{lt-ltb}
use Rattle.std.specs.Prelude.{nat_lt}
use Rattle.std.proofs.lemmas.List.{length-map}
use Rattle.pgo_base.specs.Lookup.{Vars}
use Rattle.pgo_model.specs.Accounts.{Fits}
use Rattle.pgo_model.specs.Core.{Settings, Reaches, rules_of}
use Rattle.pgo_model.specs.Log.{Effect}
use Rattle.pgo_model.specs.Machine.{Machine, Rules, after_turns, last_state, opened}
use Rattle.pgo_model.specs.MachineLaw.{Invariant, after_turns_keep}
use Rattle.pgo_model.specs.System.{System}
use Rattle.pgo_syntax.specs.declared.bound.Bound.{Bound}
use Rattle.pgo_bound.specs.Sound.{Sound}
use Rattle.pgo_meaning.specs.System.{resource_of, system_of}
use Rattle.pgo_systems.specs.Premises.{IsGoodState, KeepsStates}
use Rattle.pgo_workers.specs.CoreStands.{Differs}
use Rattle.pgo_workers.specs.View.{changed}
use Rattle.pgo_workers.specs.Worker.{changes_of}
use Rattle.pgo_workers.specs.Worlds.{HasAll, IsLayout, changed_resources, layout_of, world_of}
use Rattle.pgo_workers.proofs.BoundLayout.{layout_sound, state_has}
use Rattle.pgo_workers.proofs.Differences.{AreNumbered, made_differs, made_value, made_else}
use Rattle.pgo_workers.proofs.MadeEntries.{changed_not_among, effect_changes, not_changed}
use Rattle.pgo_accesses.specs.Runnable.{IsRunState}
use Rattle.pgo_section.specs.Programs.{IsGood, RunsSystem, Trees, program_of}

module _ (b : Bound) (keeps : KeepsStates b) (numbers : AreNumbered (system_of b)) where
  abbrev y : System
  y = system_of b

  layout : IsLayout (layout_of y)
  layout = layout_sound b keeps.sound keeps.differ

  has : (s : Vars) → IsGood y s → HasAll (layout_of y) s
  has s good = state_has b keeps.sound s good.state

  -- the entry of an attempt is what differs between the states before and after it
  pub differs : (tree : Trees) (settings : Settings) (runs : RunsSystem y tree settings) → Differs (world_of (layout_of y)) (program_of y tree settings) (Reaches y) (IsGood y) runs
  differs tree settings runs = record {
    between = λ k s o o' hs ps w. made_differs y layout numbers k s o o' hs ps (has s w.good) w.own w.names w.once w.resources w.bases;
    value = λ k s o o' hs ps r w is. made_value y layout numbers k s o o' hs ps (has s w.good) w.own w.names w.once w.resources r is;
    untouched = λ k o o' hs ps r x n. ap (λ vs. changed vs r x) (effect_changes (layout_of y) k o o' (changes_of hs) ps) ∙ not_changed (changed_resources (changes_of hs)) r x (changed_not_among r hs n);
    own_else = λ k j s o o' hs ps w ne. made_else y layout numbers k s o o' hs ps (has s w.good) w.own w.names w.once w.resources j ne;
  }

module _ (b : Bound) (settings : Settings) (fits : Fits (rules_of (system_of b) settings) (Reaches (system_of b)) (IsGoodState b)) (turns : List ℕ) where
  abbrev R : Rules Vars Effect
  R = rules_of (system_of b) settings

  abbrev m : Machine Effect
  m = after_turns R opened turns

  kept : Invariant R (Reaches (system_of b)) (IsGoodState b) m
  kept = after_turns_keep R (Reaches (system_of b)) (IsGoodState b) fits turns

  -- the state that the machine comes to
  pub last_good : IsRunState b (last_state R m)
  last_good = let g = kept.good (length m.entries) (omega arith) in record { state = g.state; labels = g.labels }

  -- who holds a resource is an instance
  pub holder_there : (r h : ℕ) → m.holder r ≡ Some h → nat_lt h (length (system_of b).members) ≡ true
  holder_there r h e = lt-ltb h (length (system_of b).members) (kept.holding r h e).1

pub few_resources : (b : Bound) → Sound b → length (system_of b).resources ≤ 1024
few_resources b sound = let q = length-map b.resources resource_of in let few = sound.numbered.few_resources in omega (arith, q, few)
