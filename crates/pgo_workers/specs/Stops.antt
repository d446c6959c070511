-- An attempt that is dropped: what was written is put back, and what is held is still to be given.
use Rattle.std.proofs.Common.{◌≡◌, ℕ, true, false, List, [], ◌∷◌, map, refl, sym, ◌∙◌, arith}
use Rattle.std.specs.Prelude.{if◌then◌else◌}
use Rattle.pgo_model.specs.Machine.{is_empty}
use Rattle.pgo_workers.specs.View.{Hold, View, World, resources_of, aborted, passing}
use Rattle.pgo_workers.specs.Worker.{Program, Phase, Resting, Walking, Giving, Worker, with_held, is_giving}
use Rattle.pgo_workers.specs.Sentences.{Sub, flat, downs, PassedBy, Place, Sound, Meets}
use Rattle.pgo_workers.specs.Holds as holds

abbrev pub gives_up : Worker → Worker
gives_up w = record w { phase = if is_empty w.taken then Resting else Giving; dropped = true }

module _ {S D : Type 0} (W : World S D) (P : Program S D) (Reaches : ℕ → ℕ → Type 0) (Good : S → Type 0) where
  pub given_up : (w : Worker) (b : View D) → is_giving w.phase ≡ false → Meets W P Reaches Good w b → Meets W P Reaches Good (gives_up w) (with_held (aborted b.held) b)
  given_up w b going m =
      let res : resources_of (aborted b.held) ≡ resources_of b.held = holds.resources_aborted b.held in
      record {
        number = m.number;
        instance = m.instance;
        steps = m.steps;
        share = m.share;
        taken = m.taken ∙ sym res;
        once = m.once;
        sound = holds.each_aborted (Sound W P Reaches Good) (Sound W P Reaches Good) b.held (λ h s. s) m.sound;
        own = m.own;
        own_then = m.own_then;
        accounts = m.accounts;
        place = place w.taken refl;
        lists = λ t told.
            let l = m.lists t told in
            record {
              refused = l.refused;
              passed = passed w.taken (aborted b.held) t.passed (res ∙ sym m.taken) (so_far w.phase going t.passed l.passed);
              now = l.now;
              history = λ d. absurd (grind (arith, d));
              taken_now = λ d. absurd (grind (arith, d));
            };
      }
    where
      place : (l : List ℕ) → w.taken ≡ l → Place W P Reaches Good (gives_up w) (with_held (aborted b.held) b) (if is_empty l then Resting else Giving)
      place [] e = e
      place (r ∷ l) e = (holds.each_aborted (Sound W P Reaches Good) (λ h. h.content.current ≡ h.value) b.held (λ h s. s.0) m.sound, λ z. let y : r ∷ l ≡ [] = sym e ∙ z in absurd (grind (arith, y)))

      so_far : (p : Phase) → is_giving p ≡ false → (ps : List (ℕ × ℕ)) → PassedBy W P Reaches Good p w.records b.held ps → Sub (downs w.records) ps
      so_far Resting e ps s = s
      so_far (Walking x j) e ps s = s
      so_far Giving e ps s = absurd (grind (arith, e))

      passed : (l : List ℕ) (hs : List Hold) (ps : List (ℕ × ℕ)) → resources_of hs ≡ l → Sub (downs w.records) ps → PassedBy W P Reaches Good (if is_empty l then Resting else Giving) w.records hs ps
      passed [] hs ps e s = s
      passed (r ∷ l) hs ps e s = holds.sub_right (downs w.records) ps (flat (map passing hs)) s
