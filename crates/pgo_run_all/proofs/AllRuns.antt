-- The jobs of a table that was opened, run and ended: what is left is a closed run, whose workers have ended.
use Rattle.std.proofs.Common.{◌≡◌, ◌<◌, ◌≤◌, ◌+◌, ◌-◌, ◌*◌, ◌/◌, ℕ, zero, suc, List, [], ◌∷◌, length, map, Some, slice_index_or, sym, ap, ◌∙◌, subst, arith}
use Rattle.std.proofs.lemmas.List.{length-map}
use Rattle.std.proofs.lemmas.Nat.{div-mul-add}
use Rattle.std.proofs.lemmas.Option.{same_Some}
use Rattle.pgo_model.specs.Core.{Settings}
use Rattle.pgo_model.specs.Machine.{nth}
use Rattle.pgo_model.specs.System.{System}
use Rattle.pgo_resource.specs.declared.resource.Resource.{Ghosts}
use Rattle.pgo_section.specs.Programs.{Trees}
use Rattle.pgo_section.specs.declared.worker.Worker.{Worker}
use Rattle.pgo_syntax.specs.RecordView.{settings_view}
use Rattle.pgo_workers.specs.Walk.{Walk}
use Rattle.pgo_shared.specs.declared.seat_board.BoardSeat.{BoardSeat}
use Rattle.pgo_shared.specs.declared.seat_board.SeatBoard.{SeatBoard}
use Rattle.pgo_shared.specs.declared.shared.Shared.{Shared}
use Rattle.pgo_threads.specs.declared.jobs.Job.{Job}
use Rattle.pgo_joined.specs.JoinedRuns.{AreEnded, HaveWorked}
use Rattle.pgo_run_all.specs.LeftBehind.{IsAtRest}

nth_map : {A B : Type 0} (f : A → B) (l : List A) (k : ℕ) (y : B) → nth (map f l) k ≡ Some y → (x : A) × (k < length l) × ((d : A) → f (slice_index_or l k d) ≡ y)
nth_map f [] k y e = absurd (grind (arith, e))
nth_map f (x ∷ l) zero y e = (x, omega arith, λ d. same_Some (f x) y e)
nth_map f (x ∷ l) (suc k) y e = let q = nth_map f l k y e in let n = q.1 in (q.0, omega (arith, n), q.2)

module _ {C R : Type 0} {g : Ghosts R} (y : System) (tree : Trees) (walk : C → Walk) (settings : Settings) (shared : Shared R) (jobs after : List (Job C (SeatBoard R g) R)) (have : HaveWorked y tree walk settings shared jobs after)
    (workers : List (Worker C)) (seats : List (BoardSeat R g)) (ended : AreEnded after workers seats) where
  pub many_workers : length workers ≡ length y.members
  many_workers = ap length ended.workers_are ∙ length-map after (λ (j : Job C (SeatBoard R g) R). j.worker) ∙ have.as_many ∙ have.many

  pub all_rest : (k : ℕ) (w : Worker C) → nth workers k ≡ Some w → IsAtRest settings w
  all_rest k w e =
      let q = nth_map (λ (j : Job C (SeatBoard R g) R). j.worker) after k w (ap (λ l. nth l k) (sym ended.workers_are) ∙ e) in
      let d : Job C (SeatBoard R g) R = q.0 in
      let n = q.1 in let m = have.as_many in let near : k < length jobs = omega (arith, n, m) in
      let worked = have.worked k d near in
      let run = worked.ended (ended.fine k d n) in
      subst (IsAtRest settings) (q.2 d) (record {
        settings_are = ap settings_view worked.same.settings ∙ (have.new k d near).settings_are;
        awake = run.awake;
        told = worked.met.fits.told;
        says = run.says;
      })

-- the room for notes is shared out evenly
pub even_share : (attempts instances : ℕ) → 0 < instances → attempts ≤ (attempts * suc (instances - 1)) / instances
even_share attempts zero some = absurd (omega (arith, some))
even_share attempts (suc n) some =
    let less : suc n - 1 ≡ n = omega arith in
    let all : attempts * suc (suc n - 1) ≡ attempts * suc n + 0 = ap (λ m. attempts * suc m) less ∙ omega arith in
    let whole : (attempts * suc (suc n - 1)) / suc n ≡ attempts = ap (λ x. x / suc n) all ∙ div-mul-add attempts (suc n) 0 (omega arith) in
    subst (λ x. attempts ≤ x) (sym whole) (omega arith)
