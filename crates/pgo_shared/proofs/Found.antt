-- What a seat finds at a word, and in the slot behind it.
use Rattle.std.proofs.Common.{◌≡◌, ◌≢◌, ℕ, ◌+◌, ◌-◌, List, ◌∷◌, Some, get_or, sym, ap, ◌∙◌, arith}
use Rattle.pgo_journal.specs.Journal.{JournalView}
use Rattle.pgo_model.specs.Accounts.{journal}
use Rattle.pgo_workers.specs.View.{IsHeld}
use Rattle.pgo_workers.specs.Worlds.{world_of}
use Rattle.pgo_table.specs.SeatViews.{SeatView}
use Rattle.pgo_table.specs.SeatCalls.{world, many, IsOther, TakeRefused, JournalRefused}
use Rattle.pgo_table.specs.Steps.{Slot, HeldBy, stepped_at, take_refused, told_refusal}
use Rattle.pgo_table.specs.declared.slots.Stored.{Stored}
use Rattle.pgo_table.specs.declared.slots.Stored.TheVariants.{Content, Journal as AsJournal}

-- the content, or the journal, that lay in a slot
pub same_content : {C : Type 0} (l more others : List (ℕ × Slot C)) (r : ℕ) (stored : Slot C) (c d : C) → l ≡ (r, stored) ∷ more → l ≡ (r, Some (Content d)) ∷ others → stored ≡ Some (Content c) → d ≡ c
same_content {C} l more others r stored c d e f is =
    let one : ◌≡◌ {A = Slot C} (Some (Content d)) (Some (Content c)) = ap (λ (l : List (ℕ × Slot C)). (get_or l 0 (0, stored)).1) (sym f ∙ e) ∙ is in
    let two : ◌≡◌ {A = Stored C} (Content d) (Content c) = cc in cc

pub same_journal : {C : Type 0} (l more others : List (ℕ × Slot C)) (r : ℕ) (stored : Slot C) (c d : JournalView) → l ≡ (r, stored) ∷ more → l ≡ (r, Some (AsJournal d)) ∷ others → stored ≡ Some (AsJournal c) → d ≡ c
same_journal {C} l more others r stored c d e f is =
    let one : ◌≡◌ {A = Slot C} (Some (AsJournal d)) (Some (AsJournal c)) = ap (λ (l : List (ℕ × Slot C)). (get_or l 0 (0, stored)).1) (sym f ∙ e) ∙ is in
    let two : ◌≡◌ {A = Stored C} (AsJournal d) (AsJournal c) = cc in cc

pub one_less : (x : ℕ) → x ≢ 0 → x ≡ x - 1 + 1
one_less x ne = omega (arith, ne)

is_other : (v : SeatView) (x : ℕ) → x ≢ 0 → HeldBy world_of v x → IsOther v (x - 1)
is_other v x ne by = (let n = by.0 in omega (arith, n, ne), λ e. by.1 (one_less x ne ∙ ap (λ (k : ℕ). k + 1) e))

pub take_refused_at : (v w : SeatView) (r x number : ℕ) → x ≢ 0 → w ≡ stepped_at r number x x (take_refused (world v) v r (x - 1)) → HeldBy world_of v x → TakeRefused v r (x - 1) w
take_refused_at v w r x number ne is by = (number, is_other v x ne by, is ∙ ap (λ (k : ℕ). stepped_at r number k k (take_refused (world v) v r (x - 1))) (one_less x ne))

pub journal_refused_at : (v w : SeatView) (i x number : ℕ) → i ≡ many v → x ≢ 0 → w ≡ stepped_at i number x x (told_refusal v (IsHeld journal (x - 1))) → HeldBy world_of v x → JournalRefused v (x - 1) w
journal_refused_at v w i x number at ne is by = (number, is_other v x ne by, is ∙ (λ j. stepped_at (at j) number (one_less x ne j) (one_less x ne j) (told_refusal v (IsHeld journal (x - 1)))))
