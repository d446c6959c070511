-- What single calls leave.
use Rattle.std.proofs.Common.{◌≡◌, ℕ, true, List, [], ◌++◌, Option, refl, sym, arith}
use Rattle.std.proofs.lemmas.List.{append-nil}
use Rattle.pgo_model.specs.Machine.{Entry, Note}
use Rattle.pgo_workers.specs.View.{Hold, Refusal, View, resources_of}
use Rattle.pgo_core.specs.AllViews.{AllViews, AllOf, AllNotesOf, Leaves}

module _ {D : Type 0} (s : AllViews D) where
  abbrev viewed : (hs : ℕ → List Hold) (es : ℕ → List (Entry D)) (ns : ℕ → List Note) (l : ℕ → Option Refusal) → ℕ → View D
  viewed hs es ns l j = record {
    instance = (s.view j).instance;
    resources = (s.view j).resources;
    steps = (s.view j).steps;
    share = (s.view j).share;
    held = hs j;
    entries = es j;
    notes = ns j;
    told = (s.view j).told;
    last = l j;
  }

  -- nothing but the last refusal
  pub leaves_last : (l : ℕ → Option Refusal) → Leaves s (record { current = s.current; view = viewed (λ j. (s.view j).held) (λ j. (s.view j).entries) (λ j. (s.view j).notes) l; content = s.content; lent = s.lent; moved = s.moved })
  leaves_last l = record {
    current = refl;
    same = λ j. record { instance = refl; resources = refl; steps = refl; share = refl };
    told = λ j. refl;
    held = λ j n. refl;
    entries_more = [];
    notes_more = [];
    entries = λ j. sym (append-nil (s.view j).entries);
    notes = λ j. sym (append-nil (s.view j).notes);
    entries_of = tt;
    notes_of = tt;
    lent = λ e. (e, λ r. refl);
    moved = λ e. (e, refl);
    content = λ e r n. refl;
  }

  -- the journal grew
  pub leaves_more : (hs : ℕ → List Hold) (all : ℕ → List (Entry D)) (notes : ℕ → List Note) (es : List (Entry D)) (ns : List Note) (l : ℕ → Option Refusal) → ((j : ℕ) → (j ≡ s.current → ⊥) → hs j ≡ (s.view j).held)
      → resources_of (hs s.current) ≡ resources_of (s.view s.current).held → ((j : ℕ) → all j ≡ (s.view j).entries ++ es) → ((j : ℕ) → notes j ≡ (s.view j).notes ++ ns) → AllOf s.current es → AllNotesOf s.current ns
      → Leaves s (record { current = s.current; view = viewed hs all notes l; content = s.content; lent = s.lent; moved = s.moved })
  leaves_more hs all notes es ns l others mine entries noted of_entries of_notes = record {
    current = refl;
    same = λ j. record { instance = refl; resources = refl; steps = refl; share = refl };
    told = λ j. refl;
    held = others;
    entries_more = es;
    notes_more = ns;
    entries = entries;
    notes = noted;
    entries_of = of_entries;
    notes_of = of_notes;
    lent = λ e. (e, λ r. refl);
    moved = λ e. (e, mine);
    content = λ e r n. refl;
  }

  -- a resource was taken or given
  pub leaves_moved : (hs : ℕ → List Hold) (l : ℕ → Option Refusal) → ((j : ℕ) → (j ≡ s.current → ⊥) → hs j ≡ (s.view j).held)
      → Leaves s (record { current = s.current; view = viewed hs (λ j. (s.view j).entries) (λ j. (s.view j).notes) l; content = s.content; lent = s.lent; moved = true })
  leaves_moved hs l others = record {
    current = refl;
    same = λ j. record { instance = refl; resources = refl; steps = refl; share = refl };
    told = λ j. refl;
    held = others;
    entries_more = [];
    notes_more = [];
    entries = λ j. sym (append-nil (s.view j).entries);
    notes = λ j. sym (append-nil (s.view j).notes);
    entries_of = tt;
    notes_of = tt;
    lent = λ e. (e, λ r. refl);
    moved = λ e. absurd (grind (arith, e));
    content = λ e r n. refl;
  }
