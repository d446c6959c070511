-- What a turn answers, by the machine.
use Rattle.std.proofs.Common.{◌≡◌, ℕ, Bool, true, false, List, length, Option, Some, None, option_map, refl, sym, ap, ◌∙◌, subst, arith}
use Rattle.std.specs.Prelude.{if◌then◌else◌, nat_lt}
use Rattle.pgo_model.specs.Core.{Settings, rules_of}
use Rattle.pgo_model.specs.Core as core
use Rattle.pgo_model.specs.Log.{Effect}
use Rattle.pgo_model.specs.Machine.{Machine, nth, finished_of}
use Rattle.pgo_model.specs.Machine as machine
use Rattle.pgo_model.specs.System.{System}
use Rattle.pgo_syntax.specs.declared.records.End.{End}
use Rattle.pgo_syntax.specs.declared.records.End.TheVariants as ends
use Rattle.pgo_workers.specs.View.{View}
use Rattle.pgo_workers.specs.Walk.{Walk}
use Rattle.pgo_workers.specs.Worker.{has_ended}
use Rattle.pgo_workers.specs.Worlds.{layout_of, world_of}
use Rattle.pgo_section.specs.Programs.{Trees, program_of}
use Rattle.pgo_section.specs.Sight.{see, ended, end_of, end_between, answer_tells_many}
use Rattle.pgo_section.specs.Turns.{TurnedBy}
use Rattle.pgo_section.specs.declared.worker.Turn.{Turn}
use Rattle.pgo_section.specs.declared.worker.Turn.TheVariants as turns
use Rattle.pgo_section.specs.declared.worker.Worker.{Worker}
use Rattle.pgo_core.specs.AllViews.{AllViews}
use Rattle.pgo_core.specs.Cores.{CoreFits, StandsWith, IsSafe, IsAnswer, Rested, has_turned, turned}
use Rattle.pgo_core.proofs.CoreTurned.{ended_so}
use Rattle.pgo_core.proofs.RoundTurns.{there, as_worker, goes_so}
use Rattle.pgo_core.proofs.Stopped.{stop_end}

-- what a worker's turn answers tells Many as it should
pub turn_tells : {C : Type 0} (y : System) (tree : Trees) (walk : C → Walk) (w v : Worker C) (b c : View Effect) (t : Turn) → TurnedBy y tree walk w b v c t → answer_tells_many t ≡ true
turn_tells y tree walk w v b c turns.Went x = refl
turn_tells y tree walk w v b c (turns.Committed n) x = refl
turn_tells y tree walk w v b c (turns.Noted kind n) x = x.2.many
turn_tells y tree walk w v b c (turns.Refused r) x = x.2.many
turn_tells y tree walk w v b c (turns.Idle e) x = refl
turn_tells y tree walk w v b c turns.NoMemory x = refl

not_both : (b : Bool) → b ≡ true → b ≡ false → ⊥
not_both b t f = grind (arith, t, f)

-- nobody has the number
pub nobody_answers : (y : System) (settings : Settings) (m : Machine Effect) (k : ℕ) → nat_lt k (length y.members) ≡ false → IsAnswer y settings m k (turns.Idle ends.Nobody)
nobody_answers y settings m k none = record {
  nobody = λ n. refl;
  at_end = λ there. absurd (not_both (nat_lt k (length y.members)) there none);
  goes_on = λ there. absurd (not_both (nat_lt k (length y.members)) there none);
}

module _ {C : Type 0} (y : System) (tree : Trees) (walk : C → Walk) (settings : Settings) (fits : CoreFits y tree settings) (before : List ℕ) (made k : ℕ) (ws : List (Worker C)) (s : AllViews Effect) (st : StandsWith y tree walk settings fits before made ws s)
    (safe : IsSafe y tree walk settings ws s) (w : Worker C) (here : nth ws k ≡ Some w) where
  abbrev m : Machine Effect
  m = turned y settings before

  is_there : nat_lt k (length y.members) ≡ true
  is_there = there y tree walk settings fits before made k ws s st safe w here

  by_worker : machine.has_ended (rules_of y settings) m k ≡ has_ended (world_of (layout_of y)) (program_of y tree settings) (see walk w)
  by_worker = as_worker y tree walk settings fits before made k ws s st safe w here

  awake : w.out_of_memory ≡ false
  awake = st.awake k w here

  -- it goes on
  turns_on : (t : Turn) → end_of w ≡ None → ((e : End) → t ≡ turns.Idle e → ⊥) → IsAnswer y settings m k t
  turns_on t none unidle = record {
    nobody = λ n. absurd (not_both (nat_lt k (length y.members)) is_there n);
    at_end = λ there over. absurd (not_both (machine.has_ended (rules_of y settings) m k) over (by_worker ∙ goes_so y tree walk settings w (safe.seats k w here).settings_are awake none));
    goes_on = λ there goes. unidle;
  }

  not_giving : (e : End) → end_of w ≡ Some e → w.giving ≡ false
  not_giving e says = go w.giving refl (sym (ap (λ b. if b then Some ends.NoMemory else end_between w w.giving w.place) awake) ∙ says)
    where
      go : (b : Bool) → w.giving ≡ b → end_between w w.giving w.place ≡ Some e → w.giving ≡ false
      go true g h = absurd (let z : None ≡ Some e = subst (λ b. end_between w b w.place ≡ Some e) g h in grind (arith, z))
      go false g h = g

  named : (e : End) (o : Option core.End) → option_map ended o ≡ Some e → (x : core.End) × (o ≡ Some x) × (turns.Idle e ≡ turns.Idle (ended x))
  named e None h = absurd (grind (arith, h))
  named e (Some x) h = let same : ended x ≡ e = grind (arith, h) in (x, refl, ap turns.Idle (sym same))

  -- it has ended
  turns_over : (e : End) → end_of w ≡ Some e → IsAnswer y settings m k (turns.Idle e)
  turns_over e says =
      let seat = safe.seats k w here in
      let rests : Rested w w = record { records = refl; out = refl; own = refl; giving = not_giving e says } in
      record {
        nobody = λ n. absurd (not_both (nat_lt k (length y.members)) is_there n);
        at_end = λ there over. named e (core.end_of y settings (finished_of m) k) (sym (stop_end y tree walk settings fits before made k ws s st w w (s.view k) here is_there rests seat.number seat.settings_are seat.met) ∙ says);
        goes_on = λ there goes. absurd (not_both (machine.has_ended (rules_of y settings) m k) (by_worker ∙ ended_so y tree walk settings w e seat.settings_are awake says) goes);
      }

  pub turn_answers : (v : Worker C) (b c : View Effect) (t : Turn) → has_turned t ≡ true → TurnedBy y tree walk w b v c t → IsAnswer y settings m k t
  turn_answers v b c turns.Went has x = turns_on turns.Went x.0 (λ e q. grind (arith, q))
  turn_answers v b c (turns.Committed n) has x = turns_on (turns.Committed n) x.0 (λ e q. grind (arith, q))
  turn_answers v b c (turns.Noted kind n) has x = turns_on (turns.Noted kind n) x.0 (λ e q. grind (arith, q))
  turn_answers v b c (turns.Refused r) has x = turns_on (turns.Refused r) x.0 (λ e q. grind (arith, q))
  turn_answers v b c (turns.Idle e) has x = turns_over e x.0
  turn_answers v b c turns.NoMemory has x = absurd (grind (arith, has))
