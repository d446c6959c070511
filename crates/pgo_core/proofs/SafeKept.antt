-- A worker's calls leave each worker and its board met.
use Rattle.std.proofs.Common.{◌≡◌, ◌≤◌, ℕ, Bool, true, false, List, [], length, Some, None, refl, sym, ap, ◌∙◌, subst, set}
use Rattle.std.specs.Prelude.{nat_eq}
use Rattle.pgo_base.specs.Lookup.{Vars}
use Rattle.pgo_model.specs.Core.{Settings, Reaches}
use Rattle.pgo_model.specs.Log.{Effect}
use Rattle.pgo_model.specs.Machine.{nth}
use Rattle.pgo_model.specs.MachineAccounts.{equal_or, append_none}
use Rattle.pgo_model.specs.System.{System}
use Rattle.pgo_syntax.specs.RecordView.{settings_view}
use Rattle.pgo_workers.specs.Grown.{Renews, renewed_meets}
use Rattle.pgo_workers.specs.View.{View, World}
use Rattle.pgo_workers.specs.Walk.{Walk}
use Rattle.pgo_workers.specs.Worlds.{layout_of, world_of}
use Rattle.pgo_section.specs.Programs.{Trees, IsGood, RunsSystem}
use Rattle.pgo_section.specs.Sight.{see, program_at}
use Rattle.pgo_section.specs.Turns.{Met, Same}
use Rattle.pgo_section.specs.declared.worker.Worker.{Worker}
use Rattle.pgo_core.specs.AllViews.{AllViews, Became, AllOf, AllNotesOf, Leaves, IsBoard}
use Rattle.pgo_core.specs.Cores.{IsSafe, IsSeat}
use Rattle.pgo_core.proofs.Journals.{others_of, other_notes_of}
use Rattle.pgo_core.proofs.CoreTurned.{set_here, set_else, set_length, nth_inside, same_some}

module _ {C : Type 0} (y : System) (tree : Trees) (walk : C → Walk) where
  abbrev W : World Vars Effect
  W = world_of (layout_of y)

  renewed_met : (w : Worker C) (b c : View Effect) → (runs : RunsSystem y tree (settings_view w.settings)) → Renews W (program_at y tree w) (Reaches y) (IsGood y) runs b c → length c.entries ≤ c.steps → Met y tree walk w b → Met y tree walk w c
  renewed_met w b c runs r room m = record { meets = renewed_meets W (program_at y tree w) (Reaches y) (IsGood y) runs (see walk w) b c r room m.meets; fits = m.fits; settles = m.settles }

  unlast_met : (w : Worker C) (b : View Effect) → RunsSystem y tree (settings_view w.settings) → length b.entries ≤ b.steps → Met y tree walk w b → Met y tree walk w (record b { last = None })
  unlast_met w b runs room m =
      renewed_met w b (record b { last = None }) runs
      (record {
        same = record { instance = refl; resources = refl; steps = refl; share = refl };
        grows = record { entries_more = []; notes_more = []; entries = append_none b.entries; notes = append_none b.notes; others = tt; other_notes = tt };
        held = refl;
        told = refl;
      }) room m

  pub became_met : (w : Worker C) (k j : ℕ) (s u : AllViews Effect) → RunsSystem y tree (settings_view w.settings) → IsBoard W s → Became k s u → Met y tree walk w (s.view j) → Met y tree walk w (u.view j)
  became_met w k j s u runs old became m = subst (Met y tree walk w) (sym (became.views j)) (unlast_met w (s.view j) runs (old.room j) m)

  other_met : (w : Worker C) (k j : ℕ) (u t : AllViews Effect) → RunsSystem y tree (settings_view w.settings) → (j ≡ k → ⊥) → u.current ≡ k → IsBoard W u → IsBoard W t → Leaves u t → Met y tree walk w (u.view j) → Met y tree walk w (t.view j)
  other_met w k j u t runs n current before after leaves m =
      renewed_met w (u.view j) (t.view j) runs
      (record {
        same = leaves.same j;
        grows = record {
          entries_more = leaves.entries_more;
          notes_more = leaves.notes_more;
          entries = leaves.entries j;
          notes = leaves.notes j;
          others = others_of k (u.view j).instance leaves.entries_more (subst (λ k. AllOf k leaves.entries_more) current leaves.entries_of) (λ q. n (sym (before.instance j) ∙ q));
          other_notes = other_notes_of k (u.view j).instance leaves.notes_more (subst (λ k. AllNotesOf k leaves.notes_more) current leaves.notes_of) (λ q. n (sym (before.instance j) ∙ q));
        };
        held = leaves.held j (λ q. n (q ∙ current));
        told = leaves.told j;
      }) (after.room j) m

  pub safe_kept : (settings : Settings) (k : ℕ) (ws vs : List (Worker C)) (s u t : AllViews Effect) → IsSafe y tree walk settings ws s → Became k s u → IsBoard W s → IsBoard W u → IsBoard W t → Leaves u t
      → (w v : Worker C) → nth ws k ≡ Some w → vs ≡ set ws k v → Same w v → Met y tree walk v (t.view k) → IsSafe y tree walk settings vs t
  safe_kept settings k ws vs s u t safe became old before after leaves w v here new same met = record {
    runs = safe.runs;
    as_many = ap length new ∙ set_length ws k v ∙ safe.as_many;
    seats = λ j x e. go j x (nat_eq j k) refl (sym (ap (λ l. nth l j) new) ∙ e);
  }
    where
      go : (j : ℕ) (x : Worker C) (b : Bool) → nat_eq j k ≡ b → nth (set ws k v) j ≡ Some x → IsSeat y tree walk settings j x (t.view j)
      go j x true q e =
          let is_k = (equal_or j k true q).0 refl in
          let is : v ≡ x = same_some v x (sym (set_here ws k v (nth_inside ws k w here)) ∙ ap (nth (set ws k v)) (sym is_k) ∙ e) in
          let seat = safe.seats k w here in
          subst (λ x. IsSeat y tree walk settings j x (t.view j)) is
          (subst (λ j. IsSeat y tree walk settings j v (t.view j)) (sym is_k) (record { number = same.number ∙ seat.number; settings_are = ap settings_view same.settings ∙ seat.settings_are; met = met }))
      go j x false q e =
          let n = (equal_or j k false q).1 refl in
          let seat = safe.seats j x (sym (set_else ws k j v n) ∙ e) in
          let runs = subst (RunsSystem y tree) (sym seat.settings_are) safe.runs in
          record {
            number = seat.number;
            settings_are = seat.settings_are;
            met = other_met x k j u t runs n became.current before after leaves (became_met x k j s u runs old became seat.met);
          }
