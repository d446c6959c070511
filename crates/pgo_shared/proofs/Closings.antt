-- Seats that are joined from the last to the first.
use Rattle.std.proofs.Common.{◌≡◌, ℕ, zero, suc, ◌⊎◌, List, [], ◌∷◌, ◌++◌, map, Some, length, get_or, sym, refl, ap, ◌∙◌, subst, inl, inr, ⊎_elim, arith, slice_get}
use Rattle.std.proofs.lemmas.List.{map-append, length-append}
use Rattle.std.proofs.Math.ListN.{get_or-append}
use Rattle.std.proofs.lemmas.Option.{same_Some}
use mathlib.Core.Option as Found
use Rattle.pgo_journal.specs.Journal.{JournalView}
use Rattle.pgo_model.specs.Log.{Effect}
use Rattle.pgo_model.specs.Machine.{Entry, Note}
use Rattle.pgo_resource.specs.declared.resource.Resource.{Ghosts}
use Rattle.pgo_workers.specs.Closed.{Has}
use Rattle.pgo_workers.specs.View.{World}
use Rattle.pgo_table.specs.Closing.{IsClosed, PassedUpTo, ContentAt, JournalAt, turned_round}
use Rattle.pgo_table.specs.SeatViews.{History, TableTerms, total, bit, stands, resources}
use Rattle.std.specs.Prelude.{nat_eq}
use Rattle.pgo_shared.specs.Seats.{AllAreOf, IsOf, history_of}
use Rattle.pgo_table.specs.SeatCalls.{empty_slot}
use Rattle.pgo_table.specs.Steps.{Slot}
use Rattle.pgo_shared.specs.declared.seat_board.BoardSeat.{BoardSeat}
use Rattle.pgo_shared.specs.declared.shared.Shared.{Shared}
use Rattle.pgo_table.specs.declared.slots.Stored.{Stored}
use Rattle.pgo_table.specs.declared.slots.Stored.TheVariants.{Content, Journal as AsJournal}
use Rattle.pgo_table.proofs.Sums.{total-append, has_left, has_right, has_either}

pub nil_of : {A : Type 0} (l : List A) → length l ≡ 0 → l ≡ []
nil_of [] e = refl
nil_of (x ∷ l) e = absurd (omega (arith, e))

module _ {A : Type 0} where
  pub turned-push : (l : List A) (x : A) → turned_round (l ++ x ∷ []) ≡ x ∷ turned_round l
  turned-push [] x = refl
  turned-push (y ∷ l) x = ap (λ q. q ++ y ∷ []) (turned-push l x)

  pub turned-length : (l : List A) → length (turned_round l) ≡ length l
  turned-length [] = refl
  turned-length (x ∷ l) = let q = turned-length l in let a = length-append (turned_round l) (x ∷ []) in omega (arith, q, a)

  turned-total : (f : A → ℕ) (l : List A) → total f (turned_round l) ≡ total f l
  turned-total f [] = refl
  turned-total f (x ∷ l) = let q = turned-total f l in let a = total-append f (turned_round l) (x ∷ []) in omega (arith, q, a)

  turned-has : (l : List A) (x : A) → Has l x → Has (turned_round l) x
  turned-has [] x h = h
  turned-has (y ∷ l) x (inl e) = has_right (turned_round l) (y ∷ []) x (inl e)
  turned-has (y ∷ l) x (inr h) = has_left (turned_round l) (y ∷ []) x (turned-has l x h)

  has-turned : (l : List A) (x : A) → Has (turned_round l) x → Has l x
  has-turned [] x h = h
  has-turned (y ∷ l) x h = go (has_either (turned_round l) (y ∷ []) x h) (λ h. has-turned l x h)
    where
      go : Has (turned_round l) x ⊎ Has (y ∷ []) x → (Has (turned_round l) x → Has l x) → Has (y ∷ l) x
      go (inl h) ih = inr (ih h)
      go (inr h) ih = ⊎_elim (λ e. inl e) (λ n. absurd n) h

-- what is said of seats doesn't hang on their order
pub closed_turned : {S : Type 0} (W : World S Effect) (y : TableTerms) (es : List (Entry Effect)) (ns : List Note) (l : List History) → IsClosed W y es ns (turned_round l) → IsClosed W y es ns l
closed_turned W y es ns l c = record {
  room = c.room;
  all_of = c.all_of;
  entries_numbered = c.entries_numbered;
  notes_numbered = c.notes_numbered;
  follows = λ a h. c.follows a (turned-has l a h);
  numbers = λ x. let q = c.numbers x in let t = turned-total (λ (a : History). bit (nat_eq a.number x)) l in omega (arith, q, t);
  as_many = sym (turned-length l) ∙ c.as_many;
  holder = λ a r h has refused ne. let q = c.holder a r h (turned-has l a has) refused ne in (q.0, has-turned l q.0 q.1, q.2, q.3);
  journal_holder = λ a h has refused. ⊎_elim (λ e. inl e) (λ z. ⊎_elim (λ n. inr (inl n)) (λ q. inr (inr (q.0, has-turned l q.0 q.1, q.2, q.3))) z) (c.journal_holder a h (turned-has l a has) refused);
  once = λ r n. let q = c.once r n in let t = turned-total (λ (a : History). stands r n a.told.passed) l in omega (arith, q, t);
}

pub passed_turned : (l : List History) (r most : ℕ) → PassedUpTo (turned_round l) r most → PassedUpTo l r most
passed_turned l r most h n more = let q = h n more in let t = turned-total (λ (a : History). stands r n a.told.passed) l in omega (arith, q, t)

-- the journal in a slot is one
pub one_journal : {C : Type 0} (xs : List (Slot C)) (r : ℕ) (a b : JournalView) → JournalAt {C = C} xs r a → JournalAt {C = C} xs r b → a ≡ b
one_journal {C} xs r a b e d =
    let one : ◌≡◌ {A = Slot C} (Some (AsJournal a)) (Some (AsJournal b)) = Found.some-injective (Some (AsJournal a)) (Some (AsJournal b)) (sym e ∙ d) in
    let two : ◌≡◌ {A = Stored C} (AsJournal a) (AsJournal b) = cc in cc

pub one_content : {C : Type 0} (xs : List (Slot C)) (r : ℕ) (a b : C) → ContentAt xs r a → ContentAt xs r b → a ≡ b
one_content {C} xs r a b e d =
    let one : ◌≡◌ {A = Slot C} (Some (Content a)) (Some (Content b)) = Found.some-injective (Some (Content a)) (Some (Content b)) (sym e ∙ d) in
    let two : ◌≡◌ {A = Stored C} (Content a) (Content b) = cc in cc

-- ---- seats

module _ {R : Type 0} {g : Ghosts R} where
  -- a seat that holds nothing has taken no slot
  pub no_slots : (s : BoardSeat R g) → s.instance.seat.me.1 ≡ []
  no_slots s = s.instance.carried ∙ ap (map (empty_slot {C = R})) (sym s.instance.listed ∙ ap resources (nil_of s.instance.seat.me.0.holds s.empty.0))

  pub last_of : (shared : Shared R) (seats front : List (BoardSeat R g)) (x : BoardSeat R g) → seats ≡ front ++ x ∷ [] → AllAreOf shared seats → IsOf shared x
  last_of shared seats front x is all = subst (IsOf shared) (ap (λ l. get_or l (length front) x) is ∙ here front) (all (length front) x (let l = ap (λ l. length l) is in let a = length-append front (x ∷ []) in omega (arith, l, a)))
    where
      here : (l : List (BoardSeat R g)) → get_or (l ++ x ∷ []) (length l) x ≡ x
      here [] = refl
      here (y ∷ l) = here l

  pub rest_of : (shared : Shared R) (seats front more : List (BoardSeat R g)) → seats ≡ front ++ more → AllAreOf shared seats → AllAreOf shared front
  rest_of shared seats front more is all k d near = subst (IsOf shared) (ap (λ l. get_or l k d) is ∙ get_or-append front more d k near) (all k d (let l = ap (λ l. length l) is in let a = length-append front more in omega (arith, l, a, near)))

  pub known-push : (front : List (BoardSeat R g)) (x : BoardSeat R g) → turned_round (map history_of (front ++ x ∷ [])) ≡ history_of x ∷ turned_round (map history_of front)
  known-push front x = ap turned_round (map-append history_of front (x ∷ [])) ∙ turned-push (map history_of front) (history_of x)

-- what each pushed content was
walk : {A : Type 0} (P : ℕ → A → Type 0) (xs : List A) (x : A) (n : ℕ) → length xs ≡ n → ((r : ℕ) (c : A) → slice_get xs r ≡ Some c → P r c) → P n x → (r : ℕ) (c : A) → slice_get (xs ++ x ∷ []) r ≡ Some c → P r c
walk P [] x n long each last zero c at = subst (P zero) (same_Some x c at) (subst (λ (k : ℕ). P k x) (sym long) last)
walk P [] x n long each last (suc r) c at = absurd (grind (arith, at))
walk P (y ∷ ys) x n long each last zero c at = each zero c at
walk P (y ∷ ys) x zero long each last (suc r) c at = absurd (omega (arith, long))
walk P (y ∷ ys) x (suc n) long each last (suc r) c at = walk (λ k. P (suc k)) ys x n (omega (arith, long)) (λ k d there. each (suc k) d there) last r c at

pub pushed_get : {A : Type 0} (P : ℕ → A → Type 0) (xs ys : List A) (x : A) (n : ℕ) → length xs ≡ n → ys ≡ xs ++ x ∷ [] → ((r : ℕ) (c : A) → slice_get xs r ≡ Some c → P r c) → P n x → (r : ℕ) (c : A) → slice_get ys r ≡ Some c → P r c
pushed_get {A} P xs ys x n long is each last r c at = walk P xs x n long each last r c (sym (ap (λ (l : List A). slice_get l r) is) ∙ at)
