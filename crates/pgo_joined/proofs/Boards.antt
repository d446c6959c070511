-- What a closed table says of boards, as the law of closed runs takes it.
use Rattle.std.proofs.Common.{◌≡◌, ℕ, zero, suc, ◌+◌, ◌<◌, ◌≤◌, Bool, true, false, List, [], ◌∷◌, ◌++◌, length, map, slice_index_or, refl, sym, ap, ◌∙◌, subst, inl, inr, arith}
use Rattle.std.specs.Prelude.{if◌then◌else◌, nat_eq, nat_lt}
use Rattle.pgo_model.specs.Log.{Effect}
use Rattle.pgo_model.specs.Machine.{Entry, Note}
use Rattle.pgo_workers.specs.Closed.{Has, Seat, Boards}
use Rattle.pgo_workers.specs.View.{Told, View, World, own_left}
use Rattle.pgo_workers.specs.Worker.{Program}
use Rattle.pgo_table.specs.Closing.{IsClosed}
use Rattle.pgo_table.specs.Rule.{Laws}
use Rattle.pgo_table.specs.Seen.{Seen}
use Rattle.pgo_table.specs.SeatViews.{History, TableTerms, bit, numbered, untold}
use Rattle.pgo_table.proofs.Logs.{behind_own, left-append, left-others}
use Rattle.pgo_table.proofs.Sums.{bit_one, cap_most, eq_is, is_eq, member_le}
use Rattle.pgo_table.proofs.Together.{boards}
use Rattle.pgo_closed.specs.ClosedBoards.{ClosedBoards, Sees}
use Rattle.pgo_joined.specs.JoinedRuns.{told_under, at_or}

-- ---- lists by index

pub at_is : {A B : Type 0} (f : A → B) (e : B) (l : List A) (k : ℕ) (d : A) → k < length l → at_or f e l k ≡ f (slice_index_or l k d)
at_is f e [] k d h = absurd (omega (arith, h))
at_is f e (x ∷ l) zero d h = refl
at_is f e (x ∷ l) (suc k) d h = at_is f e l k d (omega (arith, h))

pub at_map : {A B D : Type 0} (f : A → B) (e : B) (h : D → A) (l : List D) (k : ℕ) (d : D) → k < length l → at_or f e (map h l) k ≡ f (h (slice_index_or l k d))
at_map f e h [] k d near = absurd (omega (arith, near))
at_map f e h (x ∷ l) zero d near = refl
at_map f e h (x ∷ l) (suc k) d near = at_map f e h l k d (omega (arith, near))

pub some_of : {A : Type 0} (l : List A) (k : ℕ) → k < length l → A
some_of [] k h = absurd (omega (arith, h))
some_of (x ∷ l) k h = x

-- a member by index is a member
pub has_at : {A B : Type 0} (f : A → B) (l : List A) (k : ℕ) (d : A) → k < length l → Has (map f l) (f (slice_index_or l k d))
has_at f [] k d h = absurd (omega (arith, h))
has_at f (x ∷ l) zero d h = inl refl
has_at f (x ∷ l) (suc k) d h = inr (has_at f l k d (omega (arith, h)))

pub map_long : {A B : Type 0} (f : A → B) (l : List A) → length (map f l) ≡ length l
map_long f [] = refl
map_long f (x ∷ l) = ap suc (map_long f l)

-- ---- by number

told_here : (l : List History) → ((x : ℕ) → numbered x l ≤ 1) → (a : History) → Has l a → told_under l a.number ≡ a.told
told_here [] single a h = absurd h
told_here (b ∷ l) single a (inl e) = ap (λ t. if t then b.told else told_under l a.number) (is_eq b.number a.number (ap (λ (z : History). z.number) e)) ∙ ap (λ (z : History). z.told) e
told_here (b ∷ l) single a (inr h) = go (nat_eq b.number a.number) refl (told_here l (λ x. let q = single x in omega (arith, q)) a h)
  where
    go : (t : Bool) → nat_eq b.number a.number ≡ t → told_under l a.number ≡ a.told → (if t then b.told else told_under l a.number) ≡ a.told
    go true e ih =
        let q = single a.number in
        let one = bit_one b.number a.number (eq_is b.number a.number e) in
        let m = member_le (λ (x : History). bit (nat_eq x.number a.number)) l a h in
        let two = bit_one a.number a.number refl in absurd (omega (arith, q, one, two, m))
    go false e ih = ih

told_none : (l : List History) (k : ℕ) → numbered k l ≡ 0 → told_under l k ≡ untold
told_none [] k h = refl
told_none (a ∷ l) k h = go (nat_eq a.number k) refl h (λ h. told_none l k h)
  where
    go : (t : Bool) → nat_eq a.number k ≡ t → bit t + numbered k l ≡ 0 → (numbered k l ≡ 0 → told_under l k ≡ untold) → (if t then a.told else told_under l k) ≡ untold
    go true e h ih = absurd (omega (arith, h))
    go false e h ih = ih (omega (arith, h))

module _ {S : Type 0} (W : World S Effect) (P : Program S Effect) (Reaches : ℕ → ℕ → Type 0) (Good : S → Type 0) (y : TableTerms) (entries : List (Entry Effect)) (notes : List Note) (l : List History) (c : IsClosed W y entries notes l) where
  single : (x : ℕ) → numbered x l ≤ 1
  single x = let q = c.numbers x in let m = cap_most W.instances x in omega (arith, q, m)

  pub told_is : (a : History) → Has l a → told_under l a.number ≡ a.told
  told_is a h = told_here l single a h

  told_beyond : (k : ℕ) → (k < W.instances → ⊥) → told_under l k ≡ untold
  told_beyond k far = told_none l k (go (nat_lt k W.instances) refl (c.numbers k))
    where
      go : (b : Bool) → nat_lt k W.instances ≡ b → numbered k l ≤ bit b → numbered k l ≡ 0
      go true e h = absurd (far (grind (arith, e)))
      go false e h = omega (arith, h)

  abbrev seat : ℕ → Seat
  seat k = record { records = []; told = told_under l k }

  -- the lists of a closed table are those of closed boards
  pub closed_boards : P.steps ≡ y.steps → P.instances ≡ W.instances → ClosedBoards W P.instances P.steps entries notes (told_under l)
  closed_boards steps many =
      let none : (k : ℕ) → (k < P.instances → ⊥) → seat k ≡ record { records = []; told = untold } = (λ k far. ap (λ (t : Told). record { records = []; told = t }) (told_beyond k (λ near. far (subst (λ n. k < n) (sym many) near)))) in
      let b : Boards W P Reaches Good entries notes seat = boards W P Reaches Good y entries notes l c seat steps many told_is none in
      record {
        room = b.room;
        entries_numbered = b.entries_numbered;
        notes_numbered = b.notes_numbered;
        agrees = b.agrees;
        holder = b.holder;
        journal_holder = b.journal_holder;
        once = b.once;
      }

  -- and each board that shows what is known under a number has seen the front of the closed journal
  pub sees : (Fits : S → Type 0) → Laws W Fits → (a : History) → Has l a → (b : View Effect) → Seen b a → Sees W entries notes a.number b
  sees Fits laws a has b seen =
      let f = c.follows a has in
      let o = W.own W.start a.number in
      record {
        instance = seen.instance;
        entries_more = f.entries_more;
        notes_more = f.notes_more;
        entries_are = f.entries_are ∙ ap (λ z. z ++ f.entries_more) (sym seen.entries);
        notes_are = f.notes_are ∙ ap (λ z. z ++ f.notes_more) (sym seen.notes);
        others = f.others;
        other_notes = f.other_notes;
        own =
            behind_own W Fits laws a.number entries c.all_of
            ∙ ap (own_left W a.number o) f.entries_are
            ∙ left-append W a.number o a.entries f.entries_more
            ∙ left-others W a.number (own_left W a.number o a.entries) f.entries_more f.others
            ∙ (λ i. own_left W (sym seen.instance i) (W.own W.start (sym seen.instance i)) (sym seen.entries i));
      }
