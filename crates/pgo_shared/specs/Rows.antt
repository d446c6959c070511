-- What a seat holds beside its contents, as a board shows it.
use Rattle.std.proofs.Common.{◌≡◌, ℕ, suc, Bool, true, false, List, [], ◌∷◌, Some, set, refl, sym, ap, ◌∙◌, arith}
use Rattle.std.proofs.lemmas.Option.{same_Some}
use Rattle.std.specs.Prelude.{if◌then◌else◌, nat_eq}
use Rattle.pgo_workers.specs.View.{Shown, Hold, hold_at, with_content}
use Rattle.pgo_table.specs.Places.{place, content_at}
use Rattle.pgo_table.specs.SeatViews.{Holding, resources}

module _ {C : Type 0} (M : C → Shown) where
  abbrev pub row : Holding → C → Hold
  row h c = record { resource = h.resource; value = h.value; count = h.count; content = M c }

  abbrev pub rows : List Holding → List C → List Hold
  rows [] cs = []
  rows (h ∷ hs) [] = []
  rows (h ∷ hs) (c ∷ cs) = row h c ∷ rows hs cs

  pub rows_set : (hs : List Holding) (cs : List C) (r : ℕ) (c : C) → rows hs (set cs (place (resources hs) r) c) ≡ with_content r (M c) (rows hs cs)
  rows_set [] cs r c = refl
  rows_set (h ∷ hs) [] r c = refl
  rows_set (h ∷ hs) (d ∷ cs) r c = go (nat_eq h.resource r) (rows_set hs cs r c)
    where
      go : (b : Bool) → rows hs (set cs (place (resources hs) r) c) ≡ with_content r (M c) (rows hs cs)
          → rows (h ∷ hs) (set (d ∷ cs) (if b then 0 else suc (place (resources hs) r)) c) ≡ (if b then record (row h d) { content = M c } ∷ rows hs cs else row h d ∷ with_content r (M c) (rows hs cs))
      go true ih = refl
      go false ih = ap (λ l. row h d ∷ l) ih

  pub shown_at : (hs : List Holding) (cs : List C) (r : ℕ) (c : C) (h : Hold) → content_at (resources hs) cs r ≡ Some c → hold_at (rows hs cs) r ≡ Some h → h.content ≡ M c
  shown_at [] cs r c h is at = absurd (grind (arith, is))
  shown_at (x ∷ hs) [] r c h is at = absurd (grind (arith, is))
  shown_at (x ∷ hs) (d ∷ cs) r c h is at = go (nat_eq x.resource r) is at (λ is at. shown_at hs cs r c h is at)
    where
      go : (b : Bool) → (if b then Some d else content_at (resources hs) cs r) ≡ Some c → (if b then Some (row x d) else hold_at (rows hs cs) r) ≡ Some h → (content_at (resources hs) cs r ≡ Some c → hold_at (rows hs cs) r ≡ Some h → h.content ≡ M c) → h.content ≡ M c
      go true is at ih = ap (λ (y : Hold). y.content) (sym (same_Some (row x d) h at)) ∙ ap M (same_Some d c is)
      go false is at ih = ih is at
