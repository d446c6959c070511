-- Where an instance ends, and where its next attempt begins.
use Rattle.std.proofs.Common.{◌≡◌, ℕ, Bool, true, false, List, [], ◌∷◌, length, map, Option, Some, None, refl, sym, ap, ◌∙◌, subst, arith}
use Rattle.std.specs.Prelude.{if◌then◌else◌, nat_eq, option_map}
use Rattle.pgo_base.specs.Lookup.{find}
use Rattle.pgo_model.specs.Core as core
use Rattle.pgo_model.specs.Machine.{Record, last_ends, Step, Noted, Held, Down, Full}
use Rattle.pgo_model.specs.Outcome.{Blocked, NoValue, AssertFails, Many}
use Rattle.pgo_model.specs.System.{System}
use Rattle.pgo_model.specs.Written.{pc, done}
use Rattle.pgo_syntax.proofs.Ends.{end_by_last}
use Rattle.pgo_syntax.specs.RecordView.{result_view}
use Rattle.pgo_syntax.specs.declared.records.End.TheVariants as ends
use Rattle.pgo_workers.specs.View.{View, World}
use Rattle.pgo_workers.specs.Walk as walks
use Rattle.pgo_workers.specs.Worker.{Program, Worker, Resting, Walking, Turn, Turned, TIdle, TGave, TTook, THeld, TOperated, TReadied, TDown, TCommitted, TFull, TNoted, TJournal, Goes_on, has_ended, attempt, is_giving, is_resting}
use Rattle.pgo_workers.specs.Sentences.{Meets, Under, Runs}
use Rattle.pgo_workers.specs.Kept.{under, running}
use Rattle.pgo_section.specs.Programs.{Trees}
use Rattle.pgo_section.specs.Sight.{see, phase_at, program_at, ended, end_at_rest, end_between, end_of}
use Rattle.pgo_section.specs.declared.worker.Worker as code
use Rattle.pgo_section.proofs.Events.{world, same_length}

-- ---- the last record

none_is : (o : Option core.End) → option_map ended o ≡ None → o ≡ None
none_is None e = refl
none_is (Some x) e = absurd (grind (arith, e))

goes_past : (x z : Record) (l : List Record) → last_ends (x ∷ (z ∷ l)) ≡ last_ends (z ∷ l)
goes_past (Step n) z l = refl
goes_past (Noted Blocked p) z l = refl
goes_past (Noted NoValue p) z l = refl
goes_past (Noted AssertFails p) z l = refl
goes_past (Noted Many p) z l = refl
goes_past (Held r h) z l = refl
goes_past (Down r o) z l = refl
goes_past (Full n) z l = refl

no_last : (x : Record) → core.end_by (x ∷ []) ≡ None → last_ends (x ∷ []) ≡ false
no_last (Step n) e = refl
no_last (Noted Blocked p) e = refl
no_last (Noted NoValue p) e = absurd (grind (arith, e))
no_last (Noted AssertFails p) e = absurd (grind (arith, e))
no_last (Noted Many p) e = refl
no_last (Held r h) e = refl
no_last (Down r o) e = refl
no_last (Full n) e = absurd (grind (arith, e))

no_end : (l : List Record) → core.end_by l ≡ None → last_ends l ≡ false
no_end [] e = refl
no_end (x ∷ []) e = no_last x e
no_end (x ∷ (z ∷ l)) e = goes_past x z l ∙ no_end (z ∷ l) (sym (end_by_last x z l) ∙ e)

not_spent : (o : Option core.End) (b : Bool) → core.end_or_spent o b ≡ None → (o ≡ None) × (b ≡ false)
not_spent None true e = absurd (grind (arith, e))
not_spent None false e = (refl, refl)
not_spent (Some x) b e = absurd (grind (arith, e))

-- ---- a worker without an attempt

module _ {C : Type 0} (w : code.Worker C) where
  on_from : end_of w ≡ None → end_between w w.giving w.place ≡ None
  on_from e = go w.out_of_memory e
    where
      go : (b : Bool) → (if b then Some ends.NoMemory else end_between w w.giving w.place) ≡ None → end_between w w.giving w.place ≡ None
      go true e = absurd (grind (arith, e))
      go false e = e

  at_rest : end_at_rest w ≡ None → (if core.is_place done (find pc w.own) then true else if last_ends (map result_view w.records.items) then true else nat_eq (length (map result_view w.records.items)) w.settings.attempts) ≡ false
  at_rest e = go (core.is_place done (find pc w.own)) e
    where
      rest : option_map ended (core.end_or_spent (core.end_by (map result_view w.records.items)) (nat_eq (length w.records.items) w.settings.attempts)) ≡ None
          → (if last_ends (map result_view w.records.items) then true else nat_eq (length (map result_view w.records.items)) w.settings.attempts) ≡ false
      rest e =
          let q = not_spent _ _ (none_is _ e) in
          ap (λ b. if b then true else nat_eq (length (map result_view w.records.items)) w.settings.attempts) (no_end (map result_view w.records.items) q.0)
          ∙ ap (λ n. nat_eq n w.settings.attempts) (same_length result_view w.records.items) ∙ q.1

      go : (b : Bool) → (if b then Some ends.Done else option_map ended (core.end_or_spent (core.end_by (map result_view w.records.items)) (nat_eq (length w.records.items) w.settings.attempts))) ≡ None
          → (if b then true else if last_ends (map result_view w.records.items) then true else nat_eq (length (map result_view w.records.items)) w.settings.attempts) ≡ false
      go true e = absurd (grind (arith, e))
      go false e = rest e

  module _ (walk : C → walks.Walk) (going : w.giving ≡ false) (none : w.place ≡ None) where
    pub rests : (see walk w).phase ≡ Resting
    rests = (λ i. phase_at walk (going i) (none i) w.readied)

    pub not_ended : (y : System) (tree : Trees) → end_of w ≡ None → has_ended (world y) (program_at y tree w) (see walk w) ≡ false
    not_ended y tree e =
        ap (λ f. if is_resting f
        then (if core.is_place done (find pc w.own) then true else if last_ends (map result_view w.records.items) then true else nat_eq (length (map result_view w.records.items)) w.settings.attempts)
        else false) rests
        ∙ at_rest (sym (λ i. end_between w (going i) (none i)) ∙ on_from e)

-- ---- an attempt that begins

module _ {S D : Type 0} (W : World S D) (P : Program S D) where
  -- with the attempt begun
  abbrev pub begun : Worker → Worker
  begun w = record w { phase = Walking (P.tree w.number (attempt w) w.own) 0 }

  -- a turn of an attempt that begins is one of the worker at rest
  pub begins_turned : (w v : Worker) (b c : View D) (t : Turn) → w.phase ≡ Resting → has_ended W P w ≡ false → Turned W P (begun w) b v c t → Turned W P w b v c t
  begins_turned w v b c t rest ended h = subst (λ w. Turned W P w b v c t) (λ i. record w { phase = sym rest i }) (go ended' h)
    where
      r : Worker
      r = record w { phase = Resting }

      ended' : has_ended W P r ≡ false
      ended' = (λ i. has_ended W P (record w { phase = sym rest i })) ∙ ended

      go : has_ended W P r ≡ false → Turned W P (begun w) b v c t → Turned W P r b v c t
      go e (TIdle x worker board answer) = absurd (grind (arith, x))
      go e (TGave q rs giving first gives worker answer) = absurd (grind (arith, giving))
      go e (TTook on q leave rest next new takes worker answer) = TTook (e, refl) q leave rest next new takes worker answer
      go e (THeld on q h leave rest next new d take board worker answer) = THeld (e, refl) q h leave rest next new d take board worker answer
      go e (TOperated on q leave rest next h held board worker answer) = TOperated (e, refl) q leave rest next h held board worker answer
      go e (TReadied on o ps next q at h held up board worker answer) = TReadied (e, refl) o ps next q at h held up board worker answer
      go e (TDown on o ps next q at h held down board worker answer) = TDown (e, refl) o ps next q at h held down board worker answer
      go e (TCommitted on o ps next at n d commits board worker answer) = TCommitted (e, refl) o ps next at n d commits board worker answer
      go e (TFull on o ps next at n d full board worker answer) = TFull (e, refl) o ps next at n d full board worker answer
      go e (TNoted on kind next n d notes board worker answer) = TNoted (e, refl) kind next n d notes board worker answer
      go e (TJournal on x next at h d held board worker answer) = TJournal (e, refl) x next at h d held board worker answer

  pub turned_lifts : (w u v : Worker) (b c : View D) (t : Turn) → u ≡ begun w → w.phase ≡ Resting → has_ended W P w ≡ false → Turned W P u b v c t → Turned W P w b v c t
  turned_lifts w u v b c t is rest ended h = begins_turned w v b c t rest ended (subst (λ u. Turned W P u b v c t) is h)

  module _ (Reaches : ℕ → ℕ → Type 0) (Good : S → Type 0) (runs : Runs W P Reaches Good) where
    pub begun_meets : (w : Worker) (b : View D) → w.phase ≡ Resting → has_ended W P w ≡ false → Meets W P Reaches Good w b → Meets W P Reaches Good (begun w) b
    begun_meets w b rest ended m =
        let on : Goes_on W P w = (ended, ap is_giving rest) in
        let u = under W P Reaches Good runs w b m on in
        let u' : Under W P Reaches Good w b (P.tree w.number (attempt w) w.own) 0 = subst (λ p. Under W P Reaches Good w b (Rattle.pgo_workers.specs.Worker.rest_of W P w p) (Rattle.pgo_workers.specs.Worker.readied_of W P p)) rest u in
        record {
          number = m.number;
          instance = m.instance;
          steps = m.steps;
          share = m.share;
          taken = m.taken;
          once = m.once;
          sound = m.sound;
          own = m.own;
          own_then = m.own_then;
          accounts = m.accounts;
          place = record { accesses = u'.accesses; along = u'.along; holds = u'.holds; within = u'.within; may = u'.may; not_done = u'.not_done; readied_below = u'.readied_below; readied_at = u'.readied_at };
          lists = λ t told.
              let q = running W P Reaches Good runs w b t m on told in
              record {
                refused = q.refused;
                passed = q.passed;
                now = q.now;
                history = q.history;
                taken_now = λ d. record { members = (q.taken d).members; granted_is = (q.taken d).granted_is; last_held = (q.taken d).last_held };
              };
        }
