-- A journal with an entry or a note more, and the states along it.
use Rattle.std.proofs.Common.{◌≡◌, ◌≤◌, ◌<◌, ◌^◌, ℕ, List, [], ◌∷◌, ◌++◌, length, map, refl, ap, ◌∙◌, arith, length-append}
use Rattle.std.proofs.lemmas.List.{length-map, map-append}
use Rattle.std.specs.Prelude.{Option, Some, None, option_and_then}
use Rattle.pgo_base.specs.Lookup.{Vars}
use Rattle.pgo_base.specs.declared.log.Entry as base_entry
use Rattle.pgo_syntax.specs.declared.records.Note as base_note
use Rattle.pgo_model.specs.Log.{Effect, After, StateAt}
use Rattle.pgo_model.specs.LogView.{entry_view}
use Rattle.pgo_model.specs.Machine.{Entry}
use Rattle.pgo_syntax.specs.RecordView.{note_view}
use Rattle.pgo_journal.specs.Journal.{seen, MayAppend, IsSound}

-- the state after an entry at the end
pub state_appended : (s b t : Vars) (l : List (Entry Effect)) (e : Entry Effect) → StateAt s l (length l) ≡ Some b → After b e.change ≡ Some t → StateAt s (l ++ e ∷ []) (length (l ++ e ∷ [])) ≡ Some t
state_appended s b t [] e h k =
    let same : s ≡ b = cc in
    ap (λ o. option_and_then (λ u. StateAt u [] 0) o) (ap (λ x. After x e.change) same ∙ k)
state_appended s b t (d ∷ l) e h k = go (After s d.change) h (λ u g. state_appended u b t l e g k)
  where
    go : (o : Option Vars) → option_and_then (λ u. StateAt u l (length l)) o ≡ Some b → ((u : Vars) → StateAt u l (length l) ≡ Some b → StateAt u (l ++ e ∷ []) (length (l ++ e ∷ [])) ≡ Some t) → option_and_then (λ u. StateAt u (l ++ e ∷ []) (length (l ++ e ∷ []))) o ≡ Some t
    go None g ih = absurd (cc)
    go (Some u) g ih = ih u g

-- no entry and no note
pub sound_opened : (s : Vars) (steps room a b : ℕ) → steps < 2 ^ 32 → steps ≤ a → room ≤ b → IsSound (seen s [] [] steps room) a b
sound_opened s steps room a b c h k =
    record { counted = c; filled = omega arith; noted = omega arith; entries_fit = h; notes_fit = k; state = s; reached = refl }

module _ (s : Vars) (es : List base_entry.Entry) (ns : List base_note.Note) (steps room a b : ℕ) (i : IsSound (seen s es ns steps room) a b) where
  -- the number of entries in memory
  pub entries_within : (length es ≤ steps) × (length es < 2 ^ 32)
  entries_within = let n = length-map es entry_view in (omega (arith, n, i.filled), omega (arith, n, i.filled, i.counted))

  -- the number of notes in memory
  pub notes_within : length ns ≤ room
  notes_within = let n = length-map ns note_view in omega (arith, n, i.noted)

  -- one entry more
  pub sound_appended : (e : base_entry.Entry) → length es < steps → MayAppend (seen s es ns steps room) (entry_view e) → IsSound (seen s (es ++ e ∷ []) ns steps room) a b
  sound_appended e h m =
      let more = map-append entry_view es (e ∷ []) in
      let n = length-map (es ++ e ∷ []) entry_view in
      let l = length-append es (e ∷ []) in record {
        counted = i.counted;
        filled = omega (arith, n, l, h);
        noted = i.noted;
        entries_fit = i.entries_fit;
        notes_fit = i.notes_fit;
        state = m.after;
        reached = ap (λ x. StateAt s x (length x)) more ∙ state_appended s m.before m.after (map entry_view es) (entry_view e) m.from m.to;
      }

  -- one note more
  pub sound_noted : (n : base_note.Note) → length ns < room → IsSound (seen s es (ns ++ n ∷ []) steps room) a b
  sound_noted n h =
      let k = length-map (ns ++ n ∷ []) note_view in
      let l = length-append ns (n ∷ []) in record {
        counted = i.counted;
        filled = i.filled;
        noted = omega (arith, k, l, h);
        entries_fit = i.entries_fit;
        notes_fit = i.notes_fit;
        state = i.state;
        reached = i.reached;
      }
