-- What a board leaves untold can be told beside it: each turn over the board is a turn over the same with told lists.
-- So a core, whose boards tell nothing, has such lists by recursion on its turns.
use Rattle.std.proofs.Common.{◌++◌, Option, Some, None, refl, ap}
use Rattle.pgo_model.specs.Accounts.{journal}
use Rattle.pgo_workers.specs.View.{Hold, IsHeld, IsFull, Told, View, World, Same, Grows, hold_at, values_of, passing, own_seen, answers, refuses}
use Rattle.pgo_workers.specs.Worker.{Program, Worker, Turn, Turned, TIdle, TGave, TTook, THeld, TOperated, TReadied, TDown, TCommitted, TFull, TNoted, TJournal}

abbrev pub with_told : {D : Type 0} → Told → View D → View D
with_told t b = record b { told = Some t }

abbrev pub passes : Option Hold → Told → Told
passes None t = t
passes (Some h) t = record t { passed = t.passed ++ passing h }

module _ {S D : Type 0} (W : World S D) (P : Program S D) where
  same_told : (b c : View D) (s t : Told) → Same b c → Same (with_told s b) (with_told t c)
  same_told b c s t x = record { instance = x.instance; resources = x.resources; steps = x.steps; share = x.share }

  grows_told : (b c : View D) (s t : Told) → Grows W b c → Grows W (with_told s b) (with_told t c)
  grows_told b c s t x = record { entries_more = x.entries_more; notes_more = x.notes_more; entries = x.entries; notes = x.notes; others = x.others; other_notes = x.other_notes }

  pub tells : (w v : Worker) (b c : View D) (t : Turn) → Turned W P w b v c t → (s : Told) → (u : Told) × Turned W P w (with_told s b) v (with_told u c) t
  tells w v b c t (TIdle ended worker board answer) s = (s, TIdle ended worker (ap (with_told s) board) answer)
  tells w v b c t (TGave r rs giving first x worker answer) s = (
    passes (hold_at b.held r) s,
    TGave r rs giving first (record {
      same = same_told b c s (passes (hold_at b.held r) s) x.same;
      grows = grows_told b c s (passes (hold_at b.held r) s) x.grows;
      held = x.held;
      told = λ h e. ap (λ o. Some (passes o s)) e;
      last = x.last;
    }) worker answer,
  )
  tells w v b c t (TTook on r leave rest next new x worker answer) s =
      let u = answers (record { resource = r; refusal = None; held = values_of c.held; own = own_seen W c }) s in (
        u,
        TTook on r leave rest next new (record {
          same = same_told b c s u x.same;
          grows = grows_told b c s u x.grows;
          value = x.value;
          count = x.count;
          number = x.number;
          numbered = x.numbered;
          held = x.held;
          told = refl;
          last = x.last;
        }) worker answer,
      )
  tells w v b c t (THeld on r h leave rest next new d x board worker answer) s =
      let u = answers (record { resource = r; refusal = Some h; held = values_of d.held; own = own_seen W d }) (refuses (IsHeld r h) s) in (
        u,
        THeld on r h leave rest next new (with_told u d) (record {
          same = same_told b d s u x.same;
          grows = grows_told b d s u x.grows;
          other = x.other;
          there = x.there;
          held = x.held;
          told = refl;
          last = x.last;
        }) (ap (with_told u) board) worker answer,
      )
  tells w v b c t (TOperated on r leave rest next h held board worker answer) s = (s, TOperated on r leave rest next h held (ap (with_told s) board) worker answer)
  tells w v b c t (TReadied on o ps next r at h held up board worker answer) s = (s, TReadied on o ps next r at h held up (ap (with_told s) board) worker answer)
  tells w v b c t (TDown on o ps next r at h held down board worker answer) s = (s, TDown on o ps next r at h held down (ap (with_told s) board) worker answer)
  tells w v b c t (TCommitted on o ps next at n d x board worker answer) s = (
    s,
    TCommitted on o ps next at n (with_told s d) (record {
      same = same_told b d s s x.same;
      entries_more = x.entries_more;
      notes_more = x.notes_more;
      others = x.others;
      other_notes = x.other_notes;
      entries = x.entries;
      notes = x.notes;
      number = x.number;
      stands = record { values = x.stands.values; own = x.stands.own };
      held = x.held;
      told = refl;
      last = x.last;
    }) (ap (with_told s) board) worker answer,
  )
  tells w v b c t (TFull on o ps next at n d x board worker answer) s = (
    refuses (IsFull n) s,
    TFull on o ps next at n (with_told (refuses (IsFull n) s) d) (record {
      same = same_told b d s (refuses (IsFull n) s) x.same;
      grows = grows_told b d s (refuses (IsFull n) s) x.grows;
      full = x.full;
      is_full = x.is_full;
      held = x.held;
      told = refl;
      last = x.last;
    }) (ap (with_told (refuses (IsFull n) s)) board) worker answer,
  )
  tells w v b c t (TNoted on kind next n d x board worker answer) s = (
    s,
    TNoted on kind next n (with_told s d) (record {
      same = record { instance = x.same.instance; resources = x.same.resources; steps = x.same.steps; share = x.same.share };
      entries_more = x.entries_more;
      notes_more = x.notes_more;
      others = x.others;
      other_notes = x.other_notes;
      entries = x.entries;
      notes = x.notes;
      position_is = x.position_is;
      stands = record { values = x.stands.values; own = x.stands.own };
      held = x.held;
      told = refl;
      last = x.last;
    }) (ap (with_told s) board) worker answer,
  )
  tells w v b c t (TJournal on e next at h d x board worker answer) s = (
    refuses (IsHeld journal h) s,
    TJournal on e next at h (with_told (refuses (IsHeld journal h) s) d) (record {
      same = same_told b d s (refuses (IsHeld journal h) s) x.same;
      grows = grows_told b d s (refuses (IsHeld journal h) s) x.grows;
      other = x.other;
      there = x.there;
      held = x.held;
      told = refl;
      last = x.last;
    }) (ap (with_told (refuses (IsHeld journal h) s)) board) worker answer,
  )
