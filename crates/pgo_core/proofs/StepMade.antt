-- A turn in memory, as it is called.
use Rattle.std.proofs.Common.{◌≡◌, ℕ, zero, suc, Bool, true, false, List, [], ◌∷◌, Some, refl, sym, ap, ◌∙◌, subst, arith, ◌⊎◌, inl, inr, set}
use Rattle.std.specs.Prelude.{IsSome}
use Rattle.pgo_model.specs.Core.{Settings}
use Rattle.pgo_model.specs.Log.{Effect}
use Rattle.pgo_model.specs.Machine.{nth}
use Rattle.pgo_model.specs.System.{System}
use Rattle.pgo_syntax.specs.RecordView.{settings_view}
use Rattle.pgo_syntax.specs.declared.records.End.{End}
use Rattle.pgo_workers.specs.View.{View}
use Rattle.pgo_workers.specs.Walk.{Walk}
use Rattle.pgo_workers.specs.Worlds.{Layout, layout_of, world_of}
use Rattle.pgo_resource.specs.declared.resource.Resource.{Ghosts}
use Rattle.pgo_section.specs.Programs.{Trees, RunsSystem}
use Rattle.pgo_section.specs.Sight.{end_of}
use Rattle.pgo_section.specs.Turns.{Met, TurnedBy, IsApart, TurnApart}
use Rattle.pgo_section.specs.declared.worker.Turn.{Turn}
use Rattle.pgo_section.specs.declared.worker.Turn.TheVariants as turns
use Rattle.pgo_section.specs.declared.worker.Worker.{Worker}
use Rattle.pgo_core.specs.AllViews.{AllViews, Became, Leaves, IsBoard}
use Rattle.pgo_core.specs.Cores.{IsSafe, HadEnded, TurnedAt, StoppedAt, has_turned}
use Rattle.pgo_core.specs.ExclusiveBoards.{board_layout, views_of}
use Rattle.pgo_core.specs.declared.exclusive_board.ExclusiveBoard.{ExclusiveBoard}
use Rattle.pgo_core.proofs.BoardOfAll.{is_board}
use Rattle.pgo_core.proofs.CoreTurned.{same_some}
use Rattle.pgo_core.proofs.SafeKept.{became_met}

one_alone : (l l' m m' : Bool) → IsApart l l' m m' → l ≡ false → m ≡ false → (l' ≡ false) ⊎ (m' ≡ false)
one_alone l l' m m' (inl h) e f = inl (h ∙ e)
one_alone l l' m m' (inr h) e f = inr (h ∙ f)

-- a turn lent no content, or took and gave nothing, on a board that had done neither for the instance
pub unmixed : (t : Turn) (l l' m m' : Bool) → has_turned t ≡ true → TurnApart t l l' m m' → l ≡ false → m ≡ false → (l' ≡ false) ⊎ (m' ≡ false)
unmixed turns.Went l l' m m' has h e f = one_alone l l' m m' h e f
unmixed (turns.Committed n) l l' m m' has h e f = one_alone l l' m m' h e f
unmixed (turns.Noted kind n) l l' m m' has h e f = one_alone l l' m m' h e f
unmixed (turns.Refused x) l l' m m' has h e f = one_alone l l' m m' h e f
unmixed (turns.Idle x) l l' m m' has h e f = one_alone l l' m m' h e f
unmixed turns.NoMemory l l' m m' has h e f = absurd (grind (arith, has))

module _ {R : Type 0} {g : Ghosts R} where
  pub board_at : (b : ExclusiveBoard R g) (l : Layout) → board_layout b ≡ l → IsBoard (world_of l) (views_of b)
  board_at b l e = subst (λ l. IsBoard (world_of l) (views_of b)) e (is_board b)

module _ {C : Type 0} (y : System) (tree : Trees) (walk : C → Walk) (settings : Settings) (k : ℕ) (ws : List (Worker C)) (s : AllViews Effect) (safe : IsSafe y tree walk settings ws s) where
  pub runs_of : (w : Worker C) → nth ws k ≡ Some w → RunsSystem y tree (settings_view w.settings)
  runs_of w e = subst (RunsSystem y tree) (sym (safe.seats k w e).settings_are) safe.runs

  module _ (u : AllViews Effect) (became : Became k s u) (old : IsBoard (world_of (layout_of y)) s) where
    pub met_of : (w : Worker C) → nth ws k ≡ Some w → Met y tree walk w (u.view u.current)
    met_of w e = subst (λ j. Met y tree walk w (u.view j)) (sym became.current) (became_met y tree walk w k k s u (runs_of w e) old became (safe.seats k w e).met)

    pub turn_at : (vs : List (Worker C)) (t : AllViews Effect) (answer : Turn) → Leaves u t → TurnedAt y tree walk k ws vs (u.view u.current) (t.view t.current) answer → TurnedAt y tree walk k ws vs (u.view k) (t.view k) answer
    turn_at vs t answer leaves x = subst (λ j. TurnedAt y tree walk k ws vs (u.view k) (t.view j) answer) (leaves.current ∙ became.current) (subst (λ j. TurnedAt y tree walk k ws vs (u.view j) (t.view t.current) answer) became.current x)

    pub stop_at : (vs : List (Worker C)) (t : AllViews Effect) → Leaves u t → StoppedAt y tree walk k ws vs (t.view t.current) → StoppedAt y tree walk k ws vs (t.view k)
    stop_at vs t leaves x = subst (λ j. StoppedAt y tree walk k ws vs (t.view j)) (leaves.current ∙ became.current) x

set_same : {A : Type 0} (l : List A) (k : ℕ) (x : A) → nth l k ≡ Some x → set l k x ≡ l
set_same [] k x e = refl
set_same (y ∷ l) zero x e = ap (λ x. x ∷ l) (sym (same_some y x e))
set_same (y ∷ l) (suc k) x e = ap (λ l. y ∷ l) (set_same l k x e)

-- where worker k had ended, nothing was done
pub idle_keeps : {C : Type 0} (y : System) (tree : Trees) (walk : C → Walk) (k : ℕ) (ws vs : List (Worker C)) (b c : View Effect) (t : Turn) → TurnedAt y tree walk k ws vs b c t → (e : End) → t ≡ turns.Idle e → HadEnded k ws vs
idle_keeps y tree walk k ws vs b c t x e is =
    let rests : TurnedBy y tree walk x.worker b x.after c (turns.Idle e) = subst (TurnedBy y tree walk x.worker b x.after c) is x.turned in
    record {
      workers = x.workers ∙ ap (set ws k) rests.1 ∙ set_same ws k x.worker x.there;
      ended = λ w here. subst (λ w. IsSome (end_of w)) (same_some x.worker w (sym x.there ∙ here)) (subst IsSome (sym rests.0) refl);
    }
