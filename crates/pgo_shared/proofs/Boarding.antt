-- What each call of a seat's board does to what it shows.
use Rattle.std.proofs.Common.{◌≡◌, ◌≢◌, ℕ, suc, ◌+◌, ◌-◌, ◌<◌, ◌⊎◌, Bool, true, false, List, [], ◌∷◌, ◌++◌, Option, None, Some, length, get_or, refl, sym, ap, ◌∙◌, subst, arith, append-nil}
use Rattle.std.proofs.lemmas.Option.{same_Some}
use Rattle.std.specs.List.{remove}
use Rattle.std.specs.Prelude.{if◌then◌else◌, nat_eq, IsSome}
use Rattle.pgo_base.specs.Data.{Data}
use Rattle.pgo_journal.specs.Journal.{placed}
use Rattle.pgo_model.specs.Accounts.{journal}
use Rattle.pgo_model.specs.Log.{Effect}
use Rattle.pgo_model.specs.Machine.{Entry, Note, among}
use Rattle.pgo_resource.specs.PlainRows.{apart}
use Rattle.pgo_resource.proofs.PlainPlaces.{apart_parts}
use Rattle.pgo_workers.specs.Walk.{At, Agrees}
use Rattle.pgo_workers.specs.View as view
use Rattle.pgo_workers.specs.View.{Shown, Hold, View, Refusal, IsHeld, IsFull, Others, OtherNotes, EachHold, IsSteady, Changed, Takes, TakeHeld, Commits, Notes, JournalHeld, JournalFull, Gives, MayGive, hold_at, values_of, changed, stretch, state, own_left, own_seen, answers, refuses}
use Rattle.pgo_table.specs.Places.{place, content_at}
use Rattle.pgo_shared.specs.Rows.{row, rows}
use Rattle.pgo_table.specs.SeatViews.{SeatView, Holding, holding, holding_at, values, resources, renewed, without}
use Rattle.pgo_table.specs.Steps.{took, take_refused, reads, wrote, noted, filled, told_refusal, gave, own_known}
use Rattle.pgo_shared.specs.SeatBoards.{view_of, last_of}
use Rattle.pgo_table.specs.SeatCalls.{world, many, IsOther, Found, MayReturn, CommitRefused, NoteRefused, TwoSteps, RefusalSteps}
use Rattle.pgo_shared.specs.declared.seat_board.SeatBoard.{SeatBoard}
use Rattle.pgo_resource.specs.declared.resource.Resource.{Ghosts}
use Rattle.pgo_resource.specs.Answers.{JournalRefuses, HolderRefuses}
use Rattle.pgo_syntax.specs.declared.records.Refusal as refusal
use Rattle.pgo_syntax.specs.declared.records.Refusal.TheVariants as refusals
use Rattle.pgo_table.proofs.Sums.{eq_is, is_eq, not_some, resource_is, agrees_each, near_of}
use Rattle.pgo_table.proofs.Cuts.{without_none}
use Rattle.pgo_table.proofs.Logs.{length_append}

none_some : {A : Type 0} (x : A) → Some x ≡ None → ⊥
none_some x e = grind (arith, e)

pub place_near : (hs : List Holding) (r : ℕ) (x : Holding) → holding_at hs r ≡ Some x → place (resources hs) r < length (resources hs)
place_near [] r x at = absurd (not_some None x refl at)
place_near (h ∷ hs) r x at = go (nat_eq h.resource r) at (λ e. place_near hs r x e)
  where
    go : (b : Bool) → (if b then Some h else holding_at hs r) ≡ Some x → (holding_at hs r ≡ Some x → place (resources hs) r < length (resources hs)) → (if b then 0 else suc (place (resources hs) r)) < suc (length (resources hs))
    go true at ih = omega arith
    go false at ih = let q = ih at in omega (arith, q)

module _ {C : Type 0} (M : C → Shown) where
  pub rows_none : (hs : List Holding) (cs : List C) (r : ℕ) → length hs ≡ length cs → hold_at (rows M hs cs) r ≡ None → holding_at hs r ≡ None
  rows_none [] cs r e none = refl
  rows_none (h ∷ hs) [] r e none = absurd (omega (arith, e))
  rows_none (h ∷ hs) (c ∷ cs) r e none = go (nat_eq h.resource r) none (λ n. rows_none hs cs r (omega (arith, e)) n)
    where
      go : (b : Bool) → (if b then Some (row M h c) else hold_at (rows M hs cs) r) ≡ None → (hold_at (rows M hs cs) r ≡ None → holding_at hs r ≡ None) → (if b then Some h else holding_at hs r) ≡ None
      go true n ih = absurd (none_some (row M h c) n)
      go false n ih = ih n

  pub rows_some : (hs : List Holding) (cs : List C) (r : ℕ) (h : Hold) → hold_at (rows M hs cs) r ≡ Some h → (x : Holding) × (c : C) × (holding_at hs r ≡ Some x) × (content_at (resources hs) cs r ≡ Some c) × (h ≡ row M x c)
  rows_some [] cs r h at = absurd (not_some None h refl at)
  rows_some (x ∷ hs) [] r h at = absurd (not_some None h refl at)
  rows_some (x ∷ hs) (c ∷ cs) r h at = go (nat_eq x.resource r) at (λ e. rows_some hs cs r h e)
    where
      go : (b : Bool) → (if b then Some (row M x c) else hold_at (rows M hs cs) r) ≡ Some h → (hold_at (rows M hs cs) r ≡ Some h → (y : Holding) × (d : C) × (holding_at hs r ≡ Some y) × (content_at (resources hs) cs r ≡ Some d) × (h ≡ row M y d))
          → (y : Holding) × (d : C) × ((if b then Some x else holding_at hs r) ≡ Some y) × ((if b then Some c else content_at (resources hs) cs r) ≡ Some d) × (h ≡ row M y d)
      go true at ih = (x, c, refl, refl, sym (same_Some (row M x c) h at))
      go false at ih = ih at

  rows_push : (hs : List Holding) (cs : List C) (x : Holding) (c : C) → length hs ≡ length cs → rows M (hs ++ x ∷ []) (cs ++ c ∷ []) ≡ rows M hs cs ++ row M x c ∷ []
  rows_push [] [] x c e = refl
  rows_push [] (d ∷ cs) x c e = absurd (omega (arith, e))
  rows_push (h ∷ hs) [] x c e = absurd (omega (arith, e))
  rows_push (h ∷ hs) (d ∷ cs) x c e = ap (λ l. row M h d ∷ l) (rows_push hs cs x c (omega (arith, e)))

  values_rows : (hs : List Holding) (cs : List C) → length hs ≡ length cs → values_of (rows M hs cs) ≡ values hs
  values_rows [] cs e = refl
  values_rows (h ∷ hs) [] e = absurd (omega (arith, e))
  values_rows (h ∷ hs) (c ∷ cs) e = ap (λ l. (h.resource, h.value) ∷ l) (values_rows hs cs (omega (arith, e)))

  rows_renewed : (ds : List At) (hs : List Holding) (cs : List C) → rows M (renewed ds hs) cs ≡ view.renewed ds (rows M hs cs)
  rows_renewed ds [] cs = refl
  rows_renewed ds (h ∷ hs) [] = refl
  rows_renewed ds (h ∷ hs) (c ∷ cs) = ap (λ l. row M (holding h.resource (changed ds h.resource h.value) h.count) c ∷ l) (rows_renewed ds hs cs)

  view_without : (hs : List Holding) (cs : List C) (r : ℕ) → among r (resources hs) ≡ false → view.without (rows M hs cs) r ≡ rows M hs cs
  view_without [] cs r out = refl
  view_without (h ∷ hs) [] r out = refl
  view_without (h ∷ hs) (c ∷ cs) r out = go (nat_eq h.resource r) refl out (λ o. view_without hs cs r o)
    where
      rest : (t : Bool) → (if t then true else among r (resources hs)) ≡ false → among r (resources hs) ≡ false
      rest true h = absurd (grind (arith, h))
      rest false h = h

      go : (t : Bool) → nat_eq h.resource r ≡ t → (if nat_eq r h.resource then true else among r (resources hs)) ≡ false → (among r (resources hs) ≡ false → view.without (rows M hs cs) r ≡ rows M hs cs)
          → (if t then view.without (rows M hs cs) r else row M h c ∷ view.without (rows M hs cs) r) ≡ row M h c ∷ rows M hs cs
      go true e o ih = absurd (grind (arith, sym (ap (λ b. if b then true else among r (resources hs)) (is_eq r h.resource (sym (eq_is h.resource r e)))) ∙ o))
      go false e o ih = ap (λ l. row M h c ∷ l) (ih (rest (nat_eq r h.resource) o))

  rows_without : (n : ℕ) (hs : List Holding) (cs : List C) (r : ℕ) → apart n (resources hs) ≡ true → length hs ≡ length cs → rows M (without hs r) (remove cs (place (resources hs) r)) ≡ view.without (rows M hs cs) r
  rows_without n [] cs r a e = refl
  rows_without n (h ∷ hs) [] r a e = absurd (omega (arith, e))
  rows_without n (h ∷ hs) (c ∷ cs) r a e = let p = apart_parts n h.resource (resources hs) a in go (nat_eq h.resource r) refl p.1 (rows_without n hs cs r p.2 (omega (arith, e)))
    where
      go : (t : Bool) → nat_eq h.resource r ≡ t → among h.resource (resources hs) ≡ false → rows M (without hs r) (remove cs (place (resources hs) r)) ≡ view.without (rows M hs cs) r
          → rows M (if t then without hs r else h ∷ without hs r) (remove (c ∷ cs) (if t then 0 else suc (place (resources hs) r))) ≡ (if t then view.without (rows M hs cs) r else row M h c ∷ view.without (rows M hs cs) r)
      go true q out ih = let o = ap (λ x. among x (resources hs)) (sym (eq_is h.resource r q)) ∙ out in ap (λ l. rows M l cs) (without_none hs r o) ∙ sym (view_without hs cs r o)
      go false q out ih = ap (λ l. row M h c ∷ l) ih

  stands_rows : (hs : List Holding) (cs : List C) (f : ℕ → Data) → Agrees (values hs) f → EachHold IsSteady (rows M hs cs) → EachHold (λ h. f h.resource ≡ h.content.base) (rows M hs cs)
  stands_rows [] cs f a s = tt
  stands_rows (h ∷ hs) [] f a s = tt
  stands_rows (h ∷ hs) (c ∷ cs) f a s = (a.0 ∙ sym s.0, stands_rows hs cs f a.1 s.1)

  pub touches : (hs : List Holding) (cs : List C) (ds : List At) → Changed (rows M hs cs) ds → (r : ℕ) (x : Data) → holding_at hs r ≡ None → changed ds r x ≡ x
  touches hs cs [] h r x none = refl
  touches hs cs (d ∷ ds) h r x none = go (nat_eq d.0 r) refl (touches hs cs ds h.1 r x none)
    where
      go : (b : Bool) → nat_eq d.0 r ≡ b → changed ds r x ≡ x → (if b then d.1 else changed ds r x) ≡ x
      go true e ih = let q = rows_some hs cs d.0 h.0.0 h.0.1 in absurd (not_some (holding_at hs r) q.0 none (ap (holding_at hs) (sym (eq_is d.0 r e)) ∙ q.2))
      go false e ih = ih

  pub content-get : (xs : List ℕ) (cs : List C) (r : ℕ) (d : C) → length xs ≡ length cs → place xs r < length xs → content_at xs cs r ≡ Some (get_or cs (place xs r) d)
  content-get [] cs r d e near = absurd (omega (arith, near))
  content-get (x ∷ xs) [] r d e near = absurd (omega (arith, e))
  content-get (x ∷ xs) (c ∷ cs) r d e near = go (nat_eq x r) near (λ n. content-get xs cs r d (omega (arith, e)) n)
    where
      go : (b : Bool) → (if b then 0 else suc (place xs r)) < suc (length xs) → (place xs r < length xs → content_at xs cs r ≡ Some (get_or cs (place xs r) d)) → (if b then Some c else content_at xs cs r) ≡ Some (get_or (c ∷ cs) (if b then 0 else suc (place xs r)) d)
      go true n ih = refl
      go false n ih = ih (omega (arith, n))

  -- what a seat's board shows
  abbrev pub seen : ℕ → SeatView → List C → Option Refusal → View Effect
  seen n v cs l = record {
    instance = n;
    resources = many v;
    steps = v.terms.steps;
    share = v.terms.share;
    held = rows M v.holds cs;
    entries = v.me.entries;
    notes = v.me.notes;
    told = Some v.me.told;
    last = l;
  }

  module _ (n : ℕ) (v : SeatView) (cs : List C) (l : Option Refusal) (number : v.me.number ≡ n) (as_many : length v.holds ≡ length cs) where
    own_is : own_known (world v) v ≡ own_seen (world v) (seen n v cs l)
    own_is = λ i. own_left (world v) (number i) ((world v).own (world v).start (number i)) v.me.entries

    not_me : (h : ℕ) → h ≢ v.me.number → h ≡ n → ⊥
    not_me h ne e = ne (e ∙ sym number)

    -- ---- take

    shown_is : (c : C) → (M c).current ≡ (M c).base → M c ≡ record { base = (M c).base; current = (M c).base; count = (M c).count; number = (M c).number }
    shown_is c e = λ i. record { base = (M c).base; current = e i; count = (M c).count; number = (M c).number }

    pub takes_shown : (r : ℕ) (c : C) → (M c).current ≡ (M c).base → ((M c).number ≡ None) ⊎ ((M c).number ≡ Some r) → Takes (world v) r (seen n v cs l) (seen n (took (world v) v r (M c).base (M c).count) (cs ++ c ∷ []) None)
    takes_shown r c current numbered = record {
      same = record { instance = refl; resources = refl; steps = refl; share = refl };
      grows = record { entries_more = []; notes_more = []; entries = sym (append-nil v.me.entries); notes = sym (append-nil v.me.notes); others = tt; other_notes = tt };
      value = (M c).base;
      count = (M c).count;
      number = (M c).number;
      numbered = numbered;
      held = rows_push v.holds cs x c as_many ∙ ap (λ (s : Shown). rows M v.holds cs ++ record { resource = r; value = (M c).base; count = (M c).count; content = s } ∷ []) (shown_is c current);
      told = λ i. Some (answers (record { resource = r; refusal = None; held = sym held i; own = own_is i }) v.me.told);
      last = refl;
    }
      where
        x : Holding
        x = holding r (M c).base (M c).count

        held : values_of (rows M (v.holds ++ x ∷ []) (cs ++ c ∷ [])) ≡ values (v.holds ++ x ∷ [])
        held = values_rows (v.holds ++ x ∷ []) (cs ++ c ∷ []) (let a = length_append v.holds (x ∷ []) in let b = length_append cs (c ∷ []) in omega (arith, a, b, as_many))

    pub take_held_shown : (r h : ℕ) → IsOther v h → TakeHeld (world v) r h (seen n v cs l) (seen n (take_refused (world v) v r h) cs (Some (IsHeld r h)))
    take_held_shown r h other = record {
      same = record { instance = refl; resources = refl; steps = refl; share = refl };
      grows = record { entries_more = []; notes_more = []; entries = sym (append-nil v.me.entries); notes = sym (append-nil v.me.notes); others = tt; other_notes = tt };
      other = not_me h other.1;
      there = other.0;
      held = refl;
      told = λ i. Some (answers (record { resource = r; refusal = Some h; held = sym (values_rows v.holds cs as_many) i; own = own_is i }) (refuses (IsHeld r h) v.me.told));
      last = refl;
    }

    pub journal_held_shown : (h : ℕ) → IsOther v h → JournalHeld (world v) h (seen n v cs l) (seen n (told_refusal v (IsHeld journal h)) cs (Some (IsHeld journal h)))
    journal_held_shown h other = record {
      same = record { instance = refl; resources = refl; steps = refl; share = refl };
      grows = record { entries_more = []; notes_more = []; entries = sym (append-nil v.me.entries); notes = sym (append-nil v.me.notes); others = tt; other_notes = tt };
      other = not_me h other.1;
      there = other.0;
      held = refl;
      told = refl;
      last = refl;
    }

    -- ---- the journal

    module _ (es : List (Entry Effect)) (ns : List Note) (f : Found v es ns) where
      others : Others n f.entries_more
      others = subst (λ k. Others k f.entries_more) number f.others

      other_notes : OtherNotes n f.notes_more
      other_notes = subst (λ k. OtherNotes k f.notes_more) number f.other_notes

      stands : apart (many v) (resources v.holds) ≡ true → EachHold IsSteady (rows M v.holds cs) → view.StandsAt (world v) (seen n v cs l) (v.me.entries ++ f.entries_more)
      stands a steady = record {
        values = subst (λ (q : List (Entry Effect)). EachHold (λ h. (world v).value (state (world v) q (length q)) h.resource ≡ h.content.base) (rows M v.holds cs)) f.entries_are
            (stands_rows v.holds cs (λ r. (world v).value (state (world v) es (length es)) r) (agrees_each (many v) v.holds (λ r. (world v).value (state (world v) es (length es)) r) a (λ r h at. f.held r h (near_of (many v) v.holds r h a at) at)) steady);
        own = ap (λ k. (world v).own (state (world v) (v.me.entries ++ f.entries_more) (length (v.me.entries ++ f.entries_more))) k) (sym number)
            ∙ (ap (λ (q : List (Entry Effect)). (world v).own (state (world v) q (length q)) v.me.number) (sym f.entries_are) ∙ (f.own ∙ own_is));
      }

      pub commits_shown : (e : Entry Effect) (k : ℕ) → k ≡ suc (length es) → apart (many v) (resources v.holds) ≡ true → EachHold IsSteady (rows M v.holds cs) → Commits (world v) e k (seen n v cs l) (seen n (wrote (world v) (reads v es ns) e) cs None)
      commits_shown e k is a steady = record {
        same = record { instance = refl; resources = refl; steps = refl; share = refl };
        entries_more = f.entries_more;
        notes_more = f.notes_more;
        others = others;
        other_notes = other_notes;
        entries = ap (λ q. q ++ e ∷ []) f.entries_are;
        notes = f.notes_are;
        number = let q = length_append es (e ∷ []) in omega (arith, is, q);
        stands = stands a steady;
        held = rows_renewed ((world v).changes e.change) v.holds cs;
        told = refl;
        last = refl;
      }

      pub notes_shown : (x : Note) (p : ℕ) → p ≡ length es → apart (many v) (resources v.holds) ≡ true → EachHold IsSteady (rows M v.holds cs) → Notes (world v) x p (seen n v cs l) (seen n (noted (reads v es ns) (placed p x)) cs None)
      notes_shown x p is a steady = record {
        same = record { instance = refl; resources = refl; steps = refl; share = refl };
        entries_more = f.entries_more;
        notes_more = f.notes_more;
        others = others;
        other_notes = other_notes;
        entries = f.entries_are;
        notes = ap (λ q. q ++ placed p x ∷ []) f.notes_are;
        position_is = is;
        stands = stands a steady;
        held = refl;
        told = refl;
        last = refl;
      }

      pub full_shown : length es ≡ v.terms.steps → JournalFull (world v) v.terms.steps (seen n v cs l) (seen n (filled (reads v es ns) v.terms.steps) cs (Some (IsFull v.terms.steps)))
      full_shown full = record {
        same = record { instance = refl; resources = refl; steps = refl; share = refl };
        grows = record { entries_more = f.entries_more; notes_more = f.notes_more; entries = f.entries_are; notes = f.notes_are; others = others; other_notes = other_notes };
        full = refl;
        is_full = full;
        held = refl;
        told = refl;
        last = refl;
      }

    -- ---- give

    pub may_return : (r : ℕ) (c : C) → MayGive r (seen n v cs l) → content_at (resources v.holds) cs r ≡ Some c → MayReturn M v r c
    may_return r c m there =
        let q = rows_some v.holds cs r m.hold m.is_held in
        let same : q.1 ≡ c = same_Some q.1 c (sym q.3 ∙ there) in
        let content : m.hold.content ≡ M c = ap (λ (h : Hold). h.content) q.4 ∙ ap M same in
        let value : m.hold.value ≡ q.0.value = ap (λ (h : Hold). h.value) q.4 in
        let resource : m.hold.resource ≡ r = ap (λ (h : Hold). h.resource) q.4 ∙ resource_is v.holds r q.0 q.2 in (
          q.0,
          q.2,
          ap (λ (s : Shown). s.base) (sym content) ∙ (m.base ∙ value),
          ap (λ (s : Shown). s.current) (sym content) ∙ (m.current ∙ value),
          (let a = ap (λ (h : Hold). h.count) q.4 in let b = ap (λ (s : Shown). s.count) content in let o = m.count in omega (arith, a, b, o)),
          subst (λ (s : Shown). (s.number ≡ None) ⊎ (s.number ≡ Some r)) content (subst (λ k. (m.hold.content.number ≡ None) ⊎ (m.hold.content.number ≡ Some k)) resource m.number),
        )

    pub gives_shown : (r : ℕ) (c : C) (x : Holding) → apart (many v) (resources v.holds) ≡ true → holding_at v.holds r ≡ Some x → content_at (resources v.holds) cs r ≡ Some c
        → Gives (world v) r (seen n v cs l) (seen n (gave v r x.count (M c).count) (remove cs (place (resources v.holds) r)) l)
    gives_shown r c x a at there = record {
      same = record { instance = refl; resources = refl; steps = refl; share = refl };
      grows = record { entries_more = []; notes_more = []; entries = sym (append-nil v.me.entries); notes = sym (append-nil v.me.notes); others = tt; other_notes = tt };
      held = rows_without (many v) v.holds cs r a as_many;
      told = λ h at'. let q = rows_some v.holds cs r h at' in
          let one : x ≡ q.0 = same_Some x q.0 (sym at ∙ q.2) in let content : c ≡ q.1 = same_Some c q.1 (sym there ∙ q.3) in
          let resource : r ≡ h.resource = sym (ap (λ (z : Hold). z.resource) q.4 ∙ resource_is v.holds r q.0 q.2) in
          let count : x.count ≡ h.count = ap (λ (z : Holding). z.count) one ∙ sym (ap (λ (z : Hold). z.count) q.4) in
          let now : (M c).count ≡ h.content.count = ap (λ z. (M z).count) content ∙ sym (ap (λ (z : Hold). z.content.count) q.4) in
          λ i. Some (record v.me.told { passed = v.me.told.passed ++ stretch (resource i) (count i) (now i - count i) });
      last = refl;
    }

-- ---- boards

pub resources_long : (hs : List Holding) → length (resources hs) ≡ length hs
resources_long [] = refl
resources_long (h ∷ hs) = ap (λ n. suc n) (resources_long hs)

pub some_there : {A : Type 0} (o : Option A) → IsSome o → (x : A) × (o ≡ Some x)
some_there None h = absurd (grind (arith, h))
some_there (Some x) h = (x, refl)

module _ {R : Type 0} {g : Ghosts R} where
  pub as_many : (s : SeatBoard R g) → length (view_of s).holds ≡ length s.contents.items
  as_many s = let l = resources_long (view_of s).holds in omega (arith, ap (λ (l : List ℕ). length l) s.instance.listed, s.instance.held.ok.0, s.contents.ok.0, s.paired, l)

  pub apart_of : (s : SeatBoard R g) → apart (many (view_of s)) (resources (view_of s).holds) ≡ true
  apart_of s = ap (apart (many (view_of s))) s.instance.listed ∙ s.instance.apart

  -- the content of a held resource
  pub content_is : (s : SeatBoard R g) (r : ℕ) (x : Holding) (d : R) → holding_at (view_of s).holds r ≡ Some x → content_at (resources (view_of s).holds) s.contents.items r ≡ Some (get_or s.contents.items (place (resources (view_of s).holds) r) d)
  content_is s r x d at = let l = resources_long (view_of s).holds in content-get g.shows (resources (view_of s).holds) s.contents.items r d (omega (arith, l, as_many s)) (place_near (view_of s).holds r x at)

module _ {C : Type 0} (M : C → Shown) where
  -- a refusal of the journal is one
  pub journal_refused : (x : refusal.Refusal) (n : ℕ) (v w : SeatView) (cs : List C) (l : Option Refusal) → v.me.number ≡ n → length v.holds ≡ length cs → CommitRefused x v w → JournalRefuses (world v) x (seen M n v cs l) (seen M n w cs (last_of (Some x)))
  journal_refused (refusals.Held q h) n v w cs l number many_ p = (p.0, subst (λ z. JournalHeld (world v) h (seen M n v cs l) z) (λ i. seen M n (sym p.1.2 i) cs (Some (IsHeld (sym p.0 i) h))) (journal_held_shown M n v cs l number many_ h p.1.1))
  journal_refused (refusals.Down q o) n v w cs l number many_ p = absurd p
  journal_refused (refusals.Many leaves at) n v w cs l number many_ p = absurd p
  journal_refused (refusals.Full k) n v w cs l number many_ p =
      subst (λ (k : ℕ). JournalFull (world v) k (seen M n v cs l) (seen M n w cs (Some (IsFull k)))) (sym p.number)
      (subst (λ z. JournalFull (world v) v.terms.steps (seen M n v cs l) (seen M n z cs (Some (IsFull v.terms.steps)))) (sym p.view) (full_shown M n v cs l number many_ p.entries p.notes p.found p.full))

  pub holder_refused : (x : refusal.Refusal) (n : ℕ) (v w : SeatView) (cs : List C) (l : Option Refusal) → v.me.number ≡ n → length v.holds ≡ length cs → NoteRefused x v w → HolderRefuses (world v) x (seen M n v cs l) (seen M n w cs (last_of (Some x)))
  holder_refused (refusals.Held q h) n v w cs l number many_ p = (p.0, subst (λ z. JournalHeld (world v) h (seen M n v cs l) z) (λ i. seen M n (sym p.1.2 i) cs (Some (IsHeld (sym p.0 i) h))) (journal_held_shown M n v cs l number many_ h p.1.1))
  holder_refused (refusals.Down q o) n v w cs l number many_ p = absurd p
  holder_refused (refusals.Many leaves at) n v w cs l number many_ p = absurd p
  holder_refused (refusals.Full k) n v w cs l number many_ p = absurd p

-- the steps at the journal's word
pub two_steps : (i k : ℕ) (v w : SeatView) (opened released : ℕ) → v.me.number ≡ k → w.word_steps ≡ (v.word_steps ++ record { word = i; number = opened; found = 0; left = v.me.number + 1 } ∷ []) ++ record { word = i; number = released; found = v.me.number + 1; left = 0 } ∷ [] → TwoSteps i k v.word_steps w.word_steps
two_steps i k v w opened released number e = subst (λ (k : ℕ). TwoSteps i k v.word_steps w.word_steps) number (opened, released, e)

pub commit_steps : (x : refusal.Refusal) (k : ℕ) (v w : SeatView) → v.me.number ≡ k → CommitRefused x v w → RefusalSteps (many v) k x v.word_steps w.word_steps
commit_steps (refusals.Held q h) k v w number p = (p.1.0, ap (λ (z : SeatView). z.word_steps) p.1.2)
commit_steps (refusals.Down q o) k v w number p = absurd p
commit_steps (refusals.Many leaves at) k v w number p = absurd p
commit_steps (refusals.Full n) k v w number p = two_steps (many v) k v w p.opened p.released number (ap (λ (z : SeatView). z.word_steps) p.view)

pub note_steps : (x : refusal.Refusal) (k : ℕ) (v w : SeatView) → v.me.number ≡ k → NoteRefused x v w → RefusalSteps (many v) k x v.word_steps w.word_steps
note_steps (refusals.Held q h) k v w number p = (p.1.0, ap (λ (z : SeatView). z.word_steps) p.1.2)
note_steps (refusals.Down q o) k v w number p = absurd p
note_steps (refusals.Many leaves at) k v w number p = absurd p
note_steps (refusals.Full n) k v w number p = absurd p

pub rows_empty : {C : Type 0} (M : C → Shown) (hs : List Holding) (cs : List C) → length hs ≡ length cs → rows M hs cs ≡ [] → length hs ≡ 0
rows_empty M [] cs e none = refl
rows_empty M (h ∷ hs) [] e none = absurd (omega (arith, e))
rows_empty M (h ∷ hs) (c ∷ cs) e none = let l = ap (λ (l : List Hold). length l) none in absurd (omega (arith, l))
