-- Worker and board go on to meet.
use Rattle.std.proofs.Common.{◌≡◌, ◌≤◌, ◌<◌, ℕ, Bool, true, false, List, [], ◌∷◌, length, map, Option, Some, None, refl, sym, ap, ◌∙◌, subst, arith}
use Rattle.std.specs.Prelude.{OnOk, OnErr, IfOk, Result, Ok, Err, if◌then◌else◌}
use Rattle.pgo_model.specs.Core.{Reaches, is_listed}
use Rattle.pgo_model.specs.Log.{Effect}
use Rattle.pgo_model.specs.Machine.{is_empty}
use Rattle.pgo_model.specs.System.{System}
use Rattle.pgo_section.specs.Programs.{IsGood}
use Rattle.pgo_syntax.specs.RecordView.{settings_view, result_view}
use Rattle.pgo_syntax.specs.declared.records.End.TheVariants as ends
use Rattle.pgo_syntax.specs.declared.records.Refusal.TheVariants as refusals
use Rattle.pgo_syntax.specs.declared.records.Settings.{Settings}
use Rattle.pgo_workers.specs.Grown.{refused_last}
use Rattle.pgo_workers.specs.Sentences.{Meets}
use Rattle.pgo_workers.specs.Settles.{Settled, settled_kept}
use Rattle.pgo_workers.specs.Stops.{gives_up, given_up}
use Rattle.pgo_workers.specs.Turns.{kept}
use Rattle.pgo_workers.specs.View.{Hold, View, IsHeld, IsFull, resources_of, aborted}
use Rattle.pgo_workers.specs.Walk.{Walk}
use Rattle.pgo_workers.specs.Worker as spec
use Rattle.pgo_workers.specs.Worker.{Resting, Giving, is_giving, with_held}
use Rattle.pgo_section.specs.Programs.{Trees, RunsSystem, program_of}
use Rattle.pgo_section.specs.Sight.{see, phase_at, placed, program_at, end_between, end_of}
use Rattle.pgo_section.specs.Turns.{Same, Keeps, Fits, Met, TurnedSo, Ran, Wants, Drops, TurnedBy, IsApart, TurnApart, IsLast}
use Rattle.pgo_section.specs.declared.worker.Turn.{Turn}
use Rattle.pgo_section.specs.declared.worker.Turn.TheVariants as turns
use Rattle.pgo_section.specs.declared.worker.Worker.{Worker}
use Rattle.pgo_section.proofs.Events.{world}

pub no_held : (hs : List Hold) → [] ≡ resources_of hs → hs ≡ []
no_held [] e = refl
no_held (h ∷ hs) e = absurd (grind (arith, e))

pub same_both : {C : Type 0} (u v w : Worker C) → Same u v → Same v w → Same u w
same_both u v w s t = record {
  number = t.number ∙ s.number;
  settings = t.settings ∙ s.settings;
  records_room = t.records_room ∙ s.records_room;
  taken_room = t.taken_room ∙ s.taken_room;
  told = λ h. t.told (s.told h);
}

pub keeps_both : {C : Type 0} (u v w : Worker C) → Keeps u v → Keeps v w → Keeps u w
keeps_both u v w s t = record { same = same_both u v w s.same t.same; out = t.out ∙ s.out }

pub fits_still : {C : Type 0} (y : System) (w v : Worker C) → Same w v → Fits y w → Fits y v
fits_still y w v s f = record {
  instance = subst (λ k. k < length y.members) (sym s.number) f.instance;
  records = let a = ap (λ (x : Settings). x.attempts) s.settings in let b = s.records_room in let c = f.records in grind (arith, a, b, c);
  taken = let b = s.taken_room in let c = f.taken in grind (arith, b, c);
  told = s.told f.told;
  listed = subst (λ (x : Settings). (r n : ℕ) → is_listed x.down r n ≡ true → n < 18446744073709551615) (sym s.settings) f.listed;
}

pub on_ok : {T E : Type 0} (r : Result T E) (P Q : T → Type 0) → ((t : T) → P t → Q t) → IfOk r P → IfOk r Q
on_ok (Ok t) P Q f h = f t h
on_ok (Err e) P Q f h = tt

-- memory wasn't wanting before
pub had_memory : {C : Type 0} (w : Worker C) → end_of w ≡ None → w.out_of_memory ≡ false
had_memory w e = go w.out_of_memory refl e
  where
    go : (b : Bool) → w.out_of_memory ≡ b → (if b then Some ends.NoMemory else end_between w w.giving w.place) ≡ None → b ≡ false
    go true q e = absurd (grind (arith, e))
    go false q e = refl

-- it ends as it did where its place is the same
pub end_same : {C : Type 0} (w : Worker C) (o : Option C) → w.place ≡ o → end_of w ≡ None → end_of (record w { place = o }) ≡ None
end_same w o e h = sym (ap (λ o. end_of (record w { place = o })) e) ∙ h

-- where nothing was done yet, and memory is wanting
pub wants_none : {C : Type 0} (w : Worker C) (b c : View Effect) → c ≡ b → Wants w b w c
wants_none w b c e = record {
  keeps = record { same = record { number = refl; settings = refl; records_room = refl; taken_room = refl; told = λ h. h }; out = refl };
  records = refl;
  own = refl;
  taken = refl;
  dropped = refl;
  board = ap (λ (c : View Effect). with_held (aborted c.held) c) e;
}

-- another place, or count of pre-commits, is no matter
pub keeps_from : {C : Type 0} (w v : Worker C) (o : Option C) (j : ℕ) → Keeps (record w { place = o; readied = j }) v → Keeps w v
keeps_from w v o j k = record { same = record { number = k.same.number; settings = k.same.settings; records_room = k.same.records_room; taken_room = k.same.taken_room; told = k.same.told }; out = k.out }

pub wants_from : {C : Type 0} (w v : Worker C) (o : Option C) (j : ℕ) (b c : View Effect) → Wants (record w { place = o; readied = j }) b v c → Wants w b v c
wants_from w v o j b c x = record { keeps = keeps_from w v o j x.keeps; records = x.records; own = x.own; taken = x.taken; dropped = x.dropped; board = x.board }

pub any_err : {T E : Type 0} (r : Result T E) (A : Type 0) → A → OnErr r A
any_err (Ok t) A h = tt
any_err (Err e) A h = h

pub on_err : {T E : Type 0} (r : Result T E) (A B : Type 0) → (A → B) → OnErr r A → OnErr r B
on_err (Ok t) A B f h = tt
on_err (Err e) A B f h = f h

pub on_both : {T E : Type 0} (r : Result T E) (A B : Type 0) → (A → B) → OnOk r A → OnOk r B
on_both (Ok t) A B f h = f h
on_both (Err e) A B f h = tt

module _ {C : Type 0} (y : System) (tree : Trees) (walk : C → Walk) where
  -- what has the same sight
  pub see_placed : (w : Worker C) (p q : C) → walk p ≡ walk q → see walk (placed w p) ≡ see walk (placed w q)
  see_placed w p q e = (λ i. record (see walk (placed w p)) { phase = phases w.giving i })
    where
      phases : (b : Bool) → phase_at walk b (Some p) w.readied ≡ phase_at walk b (Some q) w.readied
      phases true = refl
      phases false = ap (λ x. spec.Walking x w.readied) e

  pub see_place : (w : Worker C) (o : Option C) → w.place ≡ o → see walk w ≡ see walk (record w { place = o })
  see_place w o e = (λ i. record (see walk w) { phase = phase_at walk w.giving (e i) w.readied })

  pub see_put : (w : Worker C) (p : C) → w.place ≡ Some p → see walk w ≡ see walk (placed w p)
  see_put w p e = (λ i. record (see walk w) { phase = phase_at walk w.giving (e i) w.readied })

  pub met_seen : (w u : Worker C) (b : View Effect) → Same w u → see walk w ≡ see walk u → Met y tree walk w b → Met y tree walk u b
  met_seen w u b same seen m = record {
    meets = subst (λ s. Meets (world y) (program_of y tree (settings_view s)) (Reaches y) (IsGood y) (see walk u) b) (sym same.settings) (subst (λ v. Meets (world y) (program_at y tree w) (Reaches y) (IsGood y) v b) seen m.meets);
    settles = subst (λ (v : spec.Worker). Settled v.phase) seen m.settles;
    fits = fits_still y w u same m.fits;
  }

  turned_seen : (w u : Worker C) (b c : View Effect) (v : Worker C) (t : spec.Turn) → w.settings ≡ u.settings → see walk w ≡ see walk u → TurnedSo y tree walk w b v c t → TurnedSo y tree walk u b v c t
  turned_seen w u b c v t same seen h =
      subst (λ s. spec.Turned (world y) (program_of y tree (settings_view s)) (see walk u) b (see walk v) c t) same (subst (λ z. spec.Turned (world y) (program_at y tree w) z b (see walk v) c t) seen h)

  pub ran_by : (w u : Worker C) (b c : View Effect) (v : Worker C) → ((t : spec.Turn) → TurnedSo y tree walk w b v c t → TurnedSo y tree walk u b v c t) → (t : Turn) → Ran y tree walk w b v c t → Ran y tree walk u b v c t
  ran_by w u b c v f turns.Went h = f _ h
  ran_by w u b c v f (turns.Committed n) h = f _ h
  ran_by w u b c v f (turns.Noted kind n) h = record { turned = f _ h.turned; many = h.many }
  ran_by w u b c v f (turns.Refused x) h = record { turned = f _ h.turned; many = h.many }
  ran_by w u b c v f (turns.Idle e) h = absurd h
  ran_by w u b c v f turns.NoMemory h = absurd h

  pub ran_seen : (w u : Worker C) (b c : View Effect) (v : Worker C) → w.settings ≡ u.settings → see walk w ≡ see walk u → (t : Turn) → Ran y tree walk w b v c t → Ran y tree walk u b v c t
  ran_seen w u b c v same seen t h = ran_by w u b c v (λ t h. turned_seen w u b c v t same seen h) t h

  pub turned_by : (w v : Worker C) (b c : View Effect) (t : Turn) → end_of w ≡ None → Keeps w v → Ran y tree walk w b v c t → TurnedBy y tree walk w b v c t
  turned_by w v b c turns.Went e k h = (e, k.out, h)
  turned_by w v b c (turns.Committed n) e k h = (e, k.out, h)
  turned_by w v b c (turns.Noted kind n) e k h = (e, k.out, h)
  turned_by w v b c (turns.Refused x) e k h = (e, k.out, h)
  turned_by w v b c (turns.Idle x) e k h = absurd h
  turned_by w v b c turns.NoMemory e k h = absurd h

  pub met_kept : (w v : Worker C) (b c : View Effect) (t : spec.Turn) → RunsSystem y tree (settings_view w.settings) → Same w v → length b.entries ≤ b.steps → length c.entries ≤ c.steps → TurnedSo y tree walk w b v c t → Met y tree walk w b → Met y tree walk v c
  met_kept w v b c t runs same room after turned m = record {
    meets = subst (λ s. Meets (world y) (program_of y tree (settings_view s)) (Reaches y) (IsGood y) (see walk v) c) (sym same.settings)
        (kept (world y) (program_at y tree w) (Reaches y) (IsGood y) runs m.fits.listed (see walk w) b (see walk v) c t room after turned m.meets);
    settles = settled_kept (world y) (program_at y tree w) (see walk w) b (see walk v) c t turned m.settles;
    fits = fits_still y w v same m.fits;
  }

  pub ran_turned : (w v : Worker C) (b c : View Effect) (t : Turn) → Ran y tree walk w b v c t → (u : spec.Turn) × TurnedSo y tree walk w b v c u
  ran_turned w v b c turns.Went h = (_, h)
  ran_turned w v b c (turns.Committed n) h = (_, h)
  ran_turned w v b c (turns.Noted kind n) h = (_, h.turned)
  ran_turned w v b c (turns.Refused x) h = (_, h.turned)
  ran_turned w v b c (turns.Idle e) h = absurd h
  ran_turned w v b c turns.NoMemory h = absurd h

  pub is_last : (w v : Worker C) (b c : View Effect) (t : Turn) → RunsSystem y tree (settings_view w.settings) → Ran y tree walk w b v c t → IsLast t c
  is_last w v b c (turns.Refused (refusals.Held r q)) runs h = refused_last (world y) (program_at y tree w) (Reaches y) (IsGood y) runs (see walk w) b (see walk v) c _ (IsHeld r q) h.turned refl
  is_last w v b c (turns.Refused (refusals.Full n)) runs h = refused_last (world y) (program_at y tree w) (Reaches y) (IsGood y) runs (see walk w) b (see walk v) c _ (IsFull n) h.turned refl
  is_last w v b c (turns.Refused (refusals.Down r o)) runs h = tt
  is_last w v b c (turns.Refused (refusals.Many leaves n)) runs h = tt
  is_last w v b c turns.Went runs h = tt
  is_last w v b c (turns.Committed n) runs h = tt
  is_last w v b c (turns.Noted kind n) runs h = tt
  is_last w v b c (turns.Idle e) runs h = absurd h
  is_last w v b c turns.NoMemory runs h = absurd h

  not_giving : (p : Option C) (j : ℕ) → is_giving (phase_at walk false p j) ≡ false
  not_giving None j = refl
  not_giving (Some c) j = refl

  pub drops_of : (w : Worker C) (b : View Effect) → w.giving ≡ false → Met y tree walk w b → Drops y tree walk w b
  drops_of w b going m = record {
    meets = given_up (world y) (program_at y tree w) (Reaches y) (IsGood y) (see walk w) b (ap (λ g. is_giving (phase_at walk g w.place w.readied)) going ∙ not_giving w.place w.readied) m.meets;
    fits = m.fits;
  }

  pub wanted : (w v : Worker C) (b c : View Effect) → w.giving ≡ false → Wants w b v c → Met y tree walk w b → Drops y tree walk v c
  wanted w v b c going x m =
      let d = drops_of w b going m in
      let s = x.keeps.same in
      let up : gives_up (see walk w) ≡ gives_up (see walk v) =
      (λ i. record {
        number = sym s.number i;
        records = map result_view (sym x.records i).items;
        own = sym x.own i;
        phase = if is_empty (sym x.taken i).items then Resting else Giving;
        taken = (sym x.taken i).items;
        dropped = true;
      }) in
      record {
        meets = subst (λ z. Meets (world y) (program_of y tree (settings_view z)) (Reaches y) (IsGood y) (gives_up (see walk v)) (with_held (aborted c.held) c)) (sym s.settings)
            (subst (Meets (world y) (program_at y tree w) (Reaches y) (IsGood y) (gives_up (see walk v))) (sym x.board)
            (subst (λ u. Meets (world y) (program_at y tree w) (Reaches y) (IsGood y) u (with_held (aborted b.held) b)) up d.meets));
        fits = fits_still y w v s m.fits;
      }

-- what holds of an event holds of the turn that it is
pub turn_apart : (t : Turn) (l l' m m' : Bool) → IsApart l l' m m' → TurnApart t l l' m m'
turn_apart turns.Went l l' m m' h = h
turn_apart (turns.Committed n) l l' m m' h = h
turn_apart (turns.Noted kind n) l l' m m' h = h
turn_apart (turns.Refused x) l l' m m' h = h
turn_apart (turns.Idle e) l l' m m' h = h
turn_apart turns.NoMemory l l' m m' h = tt
