-- What is known of a board after each call.
use Rattle.std.proofs.Common.{◌≡◌, ◌≤◌, ◌<◌, ℕ, ◌+◌, Bool, true, false, List, [], ◌∷◌, ◌++◌, length, Option, Some, None, refl, sym, ap, ◌∙◌, subst, arith}
use Rattle.std.specs.Prelude.{if◌then◌else◌, ◌&&◌, nat_eq, nat_lt, IsSome}
use Rattle.std.proofs.lemmas.Option.{same_Some}
use Rattle.pgo_base.specs.Data.{Data}
use Rattle.pgo_model.specs.Log.{Effect}
use Rattle.pgo_model.specs.System.{Resource}
use Rattle.pgo_model.specs.Machine.{Entry, Note, among, nth}
use Rattle.pgo_model.specs.MachineAccounts.{equal_or}
use Rattle.pgo_workers.specs.Holds as holds
use Rattle.pgo_workers.specs.OneAccounts.{notes_of_append, no_notes_of}
use Rattle.pgo_workers.specs.View.{Shown, Hold, View, World, EachHold, IsSteady, MayNumber, Once, Same, OtherNotes, hold_at, without, resources_of, with_content, renewed, changed, notes_of, positioned, Grows, Takes, Commits, Notes, Gives, MayCommit, MayGive, MayNote, Changed, places}
use Rattle.pgo_workers.specs.Worker.{with_held}
use Rattle.pgo_resource.specs.Answers.{RefusedTake, JournalRefuses, HolderRefuses}
use Rattle.pgo_syntax.specs.declared.records.Refusal.{Refusal}
use Rattle.pgo_syntax.specs.declared.records.Refusal.TheVariants as refusals
use Rattle.pgo_workers.specs.Worlds.{Layout, component_of, resource_change, resource_changes, is_component_of, are_components_of, world_of}
use Rattle.pgo_workers.proofs.Components.{same_made}
use Rattle.pgo_table_rows.specs.Clients.{IsGood, Knows, PutWith, PutSome, others}

-- ---- lists

among_append : (x : ℕ) (xs : List ℕ) (r : ℕ) → among x xs ≡ false → nat_eq x r ≡ false → among x (xs ++ r ∷ []) ≡ false
among_append x [] r a b = ap (λ t. if t then true else false) b
among_append x (y ∷ xs) r a b = go (nat_eq x y) a (λ a. among_append x xs r a b)
  where
    go : (t : Bool) → (if t then true else among x xs) ≡ false → (among x xs ≡ false → among x (xs ++ r ∷ []) ≡ false) → (if t then true else among x (xs ++ r ∷ [])) ≡ false
    go true a ih = absurd (grind (arith, a))
    go false a ih = ih a

once_push : (xs : List ℕ) (r : ℕ) → Once xs → among r xs ≡ false → Once (xs ++ r ∷ [])
once_push [] r o n = (refl, tt)
once_push (x ∷ xs) r o n = go (nat_eq r x) refl n (λ n. once_push xs r o.1 n)
  where
    go : (t : Bool) → nat_eq r x ≡ t → (if t then true else among r xs) ≡ false → (among r xs ≡ false → Once (xs ++ r ∷ [])) → Once (x ∷ (xs ++ r ∷ []))
    go true e n ih = absurd (grind (arith, n))
    go false e n ih = let q : nat_eq x r ≡ false = grind (arith, e) in (among_append x xs r o.0 q, ih n)

among_others : (x r : ℕ) (xs : List ℕ) → among x xs ≡ false → among x (others r xs) ≡ false
among_others x r [] n = refl
among_others x r (y ∷ xs) n = go (nat_eq y r) (nat_eq x y) refl n (λ n. among_others x r xs n)
  where
    go : (t u : Bool) → nat_eq x y ≡ u → (if u then true else among x xs) ≡ false → (among x xs ≡ false → among x (others r xs) ≡ false) → among x (if t then others r xs else y ∷ others r xs) ≡ false
    go t true e n ih = absurd (grind (arith, n))
    go true false e n ih = ih n
    go false false e n ih = ap (λ b. if b then true else among x (others r xs)) e ∙ ih n

once_others : (r : ℕ) (xs : List ℕ) → Once xs → Once (others r xs)
once_others r [] o = tt
once_others r (x ∷ xs) o = go (nat_eq x r) (once_others r xs o.1)
  where
    go : (t : Bool) → Once (others r xs) → Once (if t then others r xs else x ∷ others r xs)
    go true ih = ih
    go false ih = (among_others x r xs o.0, ih)

resources_without : (r : ℕ) (hs : List Hold) → resources_of (without hs r) ≡ others r (resources_of hs)
resources_without r [] = refl
resources_without r (h ∷ hs) = go (nat_eq h.resource r) (resources_without r hs)
  where
    go : (t : Bool) → resources_of (without hs r) ≡ others r (resources_of hs) → resources_of (if t then without hs r else h ∷ without hs r) ≡ (if t then others r (resources_of hs) else h.resource ∷ others r (resources_of hs))
    go true ih = ih
    go false ih = ap (λ l. h.resource ∷ l) ih

each_without : (Q : Hold → Type 0) (r : ℕ) (hs : List Hold) → EachHold Q hs → EachHold Q (without hs r)
each_without Q r [] e = tt
each_without Q r (h ∷ hs) e = go (nat_eq h.resource r) (each_without Q r hs e.1)
  where
    go : (t : Bool) → EachHold Q (without hs r) → EachHold Q (if t then without hs r else h ∷ without hs r)
    go true ih = ih
    go false ih = (e.0, ih)

-- nothing is held of what isn't listed
pub none_held : (hs : List Hold) (r : ℕ) → among r (resources_of hs) ≡ false → hold_at hs r ≡ None
none_held [] r n = refl
none_held (h ∷ hs) r n = go (nat_eq r h.resource) refl n (λ n. none_held hs r n)
  where
    go : (t : Bool) → nat_eq r h.resource ≡ t → (if t then true else among r (resources_of hs)) ≡ false → (among r (resources_of hs) ≡ false → hold_at hs r ≡ None) → (if nat_eq h.resource r then Some h else hold_at hs r) ≡ None
    go true e n ih = absurd (grind (arith, n))
    go false e n ih = let q : nat_eq h.resource r ≡ false = grind (arith, e) in ap (λ b. if b then Some h else hold_at hs r) q ∙ ih n

-- a resource that took a value and has a content with this base
one_renewed : (r : ℕ) (v : Data) (c : Shown) (hs : List Hold) (h : Hold) → Once (resources_of hs) → hold_at hs r ≡ Some h → c.base ≡ v → h.count ≤ c.count → MayNumber (record h { content = c })
    → EachHold IsGood hs → EachHold IsGood (with_content r c (renewed ((r, v) ∷ []) hs))
one_renewed r v c [] h o at base count number good = tt
one_renewed r v c (x ∷ hs) h o at base count number good = go (nat_eq x.resource r) (nat_eq r x.resource) refl refl at (λ at. one_renewed r v c hs h o.1 at base count number good.1)
  where
    unchanged : (hs : List Hold) → among r (resources_of hs) ≡ false → EachHold IsGood hs → EachHold IsGood (renewed ((r, v) ∷ []) hs)
    unchanged [] n e = tt
    unchanged (y ∷ hs) n e = by (nat_eq r y.resource) refl n (λ n. unchanged hs n e.1)
      where
        by : (t : Bool) → nat_eq r y.resource ≡ t → (if t then true else among r (resources_of hs)) ≡ false → (among r (resources_of hs) ≡ false → EachHold IsGood (renewed ((r, v) ∷ []) hs)) → EachHold IsGood (record y { value = changed ((r, v) ∷ []) y.resource y.value } ∷ renewed ((r, v) ∷ []) hs)
        by true q n ih = absurd (grind (arith, n))
        by false q n ih = ((e.0.0 ∙ sym (ap (λ b. if b then v else y.value) q), e.0.1, e.0.2), ih n)

    go : (t u : Bool) → nat_eq x.resource r ≡ t → nat_eq r x.resource ≡ u → (if t then Some x else hold_at hs r) ≡ Some h → (hold_at hs r ≡ Some h → EachHold IsGood (with_content r c (renewed ((r, v) ∷ []) hs)))
        → EachHold IsGood (if t then record x { value = if u then v else x.value; content = c } ∷ renewed ((r, v) ∷ []) hs else record x { value = if u then v else x.value } ∷ with_content r c (renewed ((r, v) ∷ []) hs))
    go true true p q at ih =
        let e = same_Some x h at in
        let there : x.resource ≡ r = (equal_or x.resource r true p).0 refl in
        ((base, subst (λ (y : Hold). y.count ≤ c.count) (sym e) count, subst (λ (y : Hold). MayNumber (record y { content = c })) (sym e) number), unchanged hs (subst (λ k. among k (resources_of hs) ≡ false) there o.0) good.1)
    go true false p q at ih = absurd (grind (arith, p, q))
    go false true p q at ih = absurd (grind (arith, p, q))
    go false false p q at ih = (good.0, ih at)

pub below : (r n : ℕ) → nat_lt r n ≡ true → r < n
below r n e = grind (arith, e)

-- ---- notes

same_notes : (k : ℕ) (a b : List Note) → OtherNotes k b → notes_of k (a ++ b) ≡ notes_of k a
same_notes k a b o = let s = notes_of_append k a b in let z = no_notes_of k b o in omega (arith, s, z)

-- another content at r that is as good
pub put : (r : ℕ) (x : Shown) (h : Hold) (b c : View Effect) (k s n : ℕ) (hs : List ℕ) → hold_at b.held r ≡ Some h → IsGood (record h { content = x }) → c ≡ with_held (with_content r x b.held) b → Knows b k s n hs → Knows c k s n hs
put r x h b c k s n hs at good is w = subst (λ v. Knows v k s n hs) (sym is) (record {
  instance = w.instance;
  share_is = w.share_is;
  notes_are = w.notes_are;
  listed = holds.resources_with r x b.held ∙ w.listed;
  once = w.once;
  good = holds.each_with IsGood r x b.held h at good w.good;
})

module _ {S : Type 0} (W : World S Effect) where
  noted_on : (b c : View Effect) (n : ℕ) → Same b c → Grows W b c → notes_of b.instance b.notes ≡ n → notes_of c.instance c.notes ≡ n
  noted_on b c n s g e = ap (λ k. notes_of k c.notes) s.instance ∙ ap (notes_of b.instance) g.notes ∙ same_notes b.instance b.notes g.notes_more g.other_notes ∙ e

  -- the journal grew by others alone, and what is held is as it was
  grew : (b c : View Effect) (k s n : ℕ) (hs : List ℕ) → Same b c → Grows W b c → c.held ≡ b.held → Knows b k s n hs → Knows c k s n hs
  grew b c k s n hs same grows held w = record {
    instance = same.instance ∙ w.instance;
    share_is = same.share ∙ w.share_is;
    notes_are = noted_on b c n same grows w.notes_are;
    listed = ap resources_of held ∙ w.listed;
    once = w.once;
    good = subst (EachHold IsGood) (sym held) w.good;
  }

  pub took : (r : ℕ) (b c : View Effect) (k s n : ℕ) (hs : List ℕ) → among r hs ≡ false → Takes W r b c → Knows b k s n hs → Knows c k s n (hs ++ r ∷ [])
  took r b c k s n hs new t w = record {
    instance = t.same.instance ∙ w.instance;
    share_is = t.same.share ∙ w.share_is;
    notes_are = noted_on b c n t.same t.grows w.notes_are;
    listed = ap resources_of t.held ∙ holds.resources_append b.held _ ∙ ap (λ l. l ++ r ∷ []) w.listed;
    once = once_push hs r w.once new;
    good = subst (EachHold IsGood) (sym t.held) (holds.each_append IsGood b.held _ w.good ((refl, omega arith, t.numbered), tt));
  }

  pub not_taken : (r : ℕ) (x : Refusal) (b c : View Effect) (k s n : ℕ) (hs : List ℕ) → RefusedTake W r x b c → Knows b k s n hs → Knows c k s n hs
  not_taken r (refusals.Held q h) b c k s n hs t w = grew b c k s n hs t.1.same t.1.grows t.1.held w
  not_taken r (refusals.Down q o) b c k s n hs t w = elim t [ ]
  not_taken r (refusals.Many leaves at) b c k s n hs t w = elim t [ ]
  not_taken r (refusals.Full m) b c k s n hs t w = elim t [ ]

  pub not_committed : (x : Refusal) (b c : View Effect) (k s n : ℕ) (hs : List ℕ) → JournalRefuses W x b c → Knows b k s n hs → Knows c k s n hs
  not_committed (refusals.Held q h) b c k s n hs t w = grew b c k s n hs t.1.same t.1.grows t.1.held w
  not_committed (refusals.Down q o) b c k s n hs t w = elim t [ ]
  not_committed (refusals.Many leaves at) b c k s n hs t w = elim t [ ]
  not_committed (refusals.Full m) b c k s n hs t w = grew b c k s n hs t.same t.grows t.held w

  pub not_noted : (x : Refusal) (b c : View Effect) (k s n : ℕ) (hs : List ℕ) → HolderRefuses W x b c → Knows b k s n hs → Knows c k s n hs
  not_noted (refusals.Held q h) b c k s n hs t w = grew b c k s n hs t.1.same t.1.grows t.1.held w
  not_noted (refusals.Down q o) b c k s n hs t w = elim t [ ]
  not_noted (refusals.Many leaves at) b c k s n hs t w = elim t [ ]
  not_noted (refusals.Full m) b c k s n hs t w = elim t [ ]

  -- an entry that changes r alone was added, and its content has that value as its base
  pub committed : (e : Entry Effect) (m r : ℕ) (v : Data) (x : Shown) (h : Hold) (b c d : View Effect) (k s n : ℕ) (hs : List ℕ) → W.changes e.change ≡ (r, v) ∷ [] → hold_at b.held r ≡ Some h → x.base ≡ v → h.count ≤ x.count → MayNumber (record h { content = x })
      → Commits W e m b c → d ≡ with_held (with_content r x c.held) c → Knows b k s n hs → Knows d k s n hs
  committed e m r v x h b c d k s n hs changes at base count number t is w =
      let held : c.held ≡ renewed ((r, v) ∷ []) b.held = t.held ∙ ap (λ cs. renewed cs b.held) changes in
      subst (λ u. Knows u k s n hs) (sym is) (record {
        instance = t.same.instance ∙ w.instance;
        share_is = t.same.share ∙ w.share_is;
        notes_are = ap (λ i. notes_of i c.notes) t.same.instance ∙ ap (notes_of b.instance) t.notes ∙ same_notes b.instance b.notes t.notes_more t.other_notes ∙ w.notes_are;
        listed = holds.resources_with r x c.held ∙ ap resources_of held ∙ resources_renewed b.held ∙ w.listed;
        once = w.once;
        good = subst (λ l. EachHold IsGood (with_content r x l)) (sym held) (one_renewed r v x b.held h (subst Once (sym w.listed) w.once) at base count number w.good);
      })
    where
      resources_renewed : (l : List Hold) → resources_of (renewed ((r, v) ∷ []) l) ≡ resources_of l
      resources_renewed [] = refl
      resources_renewed (y ∷ l) = ap (λ l. y.resource ∷ l) (resources_renewed l)

  pub noted : (y : Note) (p : ℕ) (b c : View Effect) (k s n m : ℕ) (hs : List ℕ) → Notes W y p b c → y.instance ≡ k → m ≡ n + 1 → Knows b k s n hs → Knows c k s m hs
  noted y p b c k s n m hs t own more w = record {
    instance = t.same.instance ∙ w.instance;
    share_is = t.same.share ∙ w.share_is;
    notes_are =
        let a = notes_of_append b.instance (b.notes ++ t.notes_more) (positioned y p ∷ []) in
        let z = same_notes b.instance b.notes t.notes_more t.other_notes in
        let one = note_one b.instance (positioned y p) (own ∙ sym w.instance) in
        let e : notes_of b.instance b.notes ≡ n = w.notes_are in
        ap (λ i. notes_of i c.notes) t.same.instance ∙ ap (notes_of b.instance) t.notes ∙ omega (arith, a, z, one, e, more);
    listed = ap resources_of t.held ∙ w.listed;
    once = w.once;
    good = subst (EachHold IsGood) (sym t.held) w.good;
  }
    where
      note_one : (i : ℕ) (z : Note) → z.instance ≡ i → notes_of i (z ∷ []) ≡ 1
      note_one i z e = ap (λ b. if b then 1 else 0) (let q : nat_eq z.instance i ≡ true = grind (arith, e) in q)

  pub gave : (r : ℕ) (b c : View Effect) (k s n : ℕ) (hs : List ℕ) → Gives W r b c → Knows b k s n hs → Knows c k s n (others r hs)
  gave r b c k s n hs t w = record {
    instance = t.same.instance ∙ w.instance;
    share_is = t.same.share ∙ w.share_is;
    notes_are = noted_on b c n t.same t.grows w.notes_are;
    listed = ap resources_of t.held ∙ resources_without r b.held ∙ ap (others r) w.listed;
    once = once_others r hs w.once;
    good = subst (EachHold IsGood) (sym t.held) (each_without IsGood r b.held w.good);
  }

-- what is known of a content that is held
pub held_good : (b : View Effect) (k s n : ℕ) (hs : List ℕ) (r : ℕ) → Knows b k s n hs → among r hs ≡ true → (h : Hold) × (hold_at b.held r ≡ Some h) × IsGood h
held_good b k s n hs r w there =
    let q = holds.held_there b.held r (ap (among r) w.listed ∙ there) in
    (q.0, q.1, holds.hold_is IsGood b.held r q.0 q.1 w.good)

-- the base of each is its value
pub steady : (b : View Effect) (k s n : ℕ) (hs : List ℕ) → Knows b k s n hs → EachHold IsSteady b.held
steady b k s n hs w = holds.each_map IsGood IsSteady b.held (λ h g. g.0) w.good

-- nothing is listed, so nothing is held
pub nothing_held : (hs : List Hold) → length (resources_of hs) ≡ 0 → hs ≡ []
nothing_held [] e = refl
nothing_held (h ∷ hs) e = absurd (omega (arith, e))

-- what is listed is held
pub is_held : (b : View Effect) (k s n : ℕ) (hs : List ℕ) (r : ℕ) → Knows b k s n hs → among r hs ≡ true → IsSome (hold_at b.held r)
is_held b k s n hs r w there = let q = held_good b k s n hs r w there in subst (λ o. IsSome o) (sym q.1) refl

-- and what isn't listed is not
pub not_held : (b : View Effect) (k s n : ℕ) (hs : List ℕ) (r : ℕ) → Knows b k s n hs → among r hs ≡ false → hold_at b.held r ≡ None
not_held b k s n hs r w free = none_held b.held r (ap (among r) w.listed ∙ free)

hold_with : (hs : List Hold) (r : ℕ) (x : Shown) (h : Hold) → hold_at hs r ≡ Some h → hold_at (with_content r x hs) r ≡ Some (record h { content = x })
hold_with [] r x h at = absurd (grind (arith, at))
hold_with (y ∷ hs) r x h at = go (nat_eq y.resource r) refl at (λ at. hold_with hs r x h at)
  where
    go : (t : Bool) → nat_eq y.resource r ≡ t → (if t then Some y else hold_at hs r) ≡ Some h → (hold_at hs r ≡ Some h → hold_at (with_content r x hs) r ≡ Some (record h { content = x }))
        → hold_at (if t then record y { content = x } ∷ hs else y ∷ with_content r x hs) r ≡ Some (record h { content = x })
    go true e at ih = ap (λ t. if t then Some (record y { content = x }) else hold_at hs r) e ∙ ap (λ (z : Hold). Some (record z { content = x })) (same_Some y h at)
    go false e at ih = ap (λ t. if t then Some y else hold_at (with_content r x hs) r) e ∙ ih at

-- a number was written
pub wrote : (r : ℕ) (b c : View Effect) (k s n : ℕ) (hs : List ℕ) → among r hs ≡ true → ((h : Hold) → hold_at b.held r ≡ Some h → PutSome r h b c) → Knows b k s n hs → Knows c k s n hs
wrote r b c k s n hs there puts w =
    let q = held_good b k s n hs r w there in let g = q.2 in let p = puts q.0 q.1 in
    put r p.0 q.0 b c k s n hs q.1 (
      ap (λ (z : Shown). z.base) p.1 ∙ g.0,
      subst (λ (z : Shown). (q.0).count ≤ z.count) (sym p.1) g.1,
      subst (λ (z : Shown). MayNumber (record q.0 { content = z })) (sym p.1) g.2,
    ) p.2 w

-- a content was put back, and may be given
pub was_put_back : (r : ℕ) (b c : View Effect) (k s n : ℕ) (hs : List ℕ) → among r hs ≡ true → ((h : Hold) → hold_at b.held r ≡ Some h → PutWith r (record h.content { current = h.content.base }) b c) → Knows b k s n hs
    → Knows c k s n hs × MayGive r c
was_put_back r b c k s n hs there puts w =
    let q = held_good b k s n hs r w there in let g = q.2 in let p = puts q.0 q.1 in
    let x : Shown = record (q.0).content { current = (q.0).content.base } in (
      put r x q.0 b c k s n hs q.1 (g.0, g.1, g.2) p w,
      record {
        hold = record q.0 { content = x };
        is_held = ap (λ (v : View Effect). hold_at v.held r) p ∙ hold_with b.held r x q.0 q.1;
        base = g.0;
        current = g.0;
        count = g.1;
        number = g.2;
      },
    )

-- ---- entries

both : (a b : Bool) → a ≡ true → b ≡ true → a && b ≡ true
both a b e f = ap (λ t. t && b) e ∙ f

module _ (y : Layout) where
  one_component : (j r : ℕ) (o : Option Resource) → nth y.resources r ≡ o → nat_lt r (length y.resources) ≡ true → is_component_of y j (component_of r o) ≡ true
  one_component j r None e near = both _ _ near (same_made (component_of r None) (component_of r (nth y.resources r)) (ap (λ q. (component_of r q).variable) (sym e)) (ap (λ q. (component_of r q).index) (sym e)))
  one_component j r (Some q) e near = both _ _ near (same_made (component_of r (Some q)) (component_of r (nth y.resources r)) (ap (λ q. (component_of r q).variable) (sym e)) (ap (λ q. (component_of r q).index) (sym e)))

  one_change : (r : ℕ) (d : Data) → resource_changes (resource_change y (r, d) ∷ []) ≡ (r, d) ∷ []
  one_change r d = go (nth y.resources r)
    where
      go : (o : Option Resource) → resource_changes (record { component = component_of r o; value = d } ∷ []) ≡ (r, d) ∷ []
      go None = refl
      go (Some q) = refl

  pub changes_are : (e : Entry Effect) (r : ℕ) (d : Data) → e.change.changes ≡ resource_change y (r, d) ∷ [] → (world_of y).changes e.change ≡ (r, d) ∷ []
  changes_are e r d is = ap resource_changes is ∙ one_change r d

  pub may_commit : (e : Entry Effect) (b : View Effect) (k s n : ℕ) (hs : List ℕ) (r : ℕ) (d : Data) → among r hs ≡ true → e.instance ≡ k → e.change.changes ≡ resource_change y (r, d) ∷ [] → nat_lt r (length y.resources) ≡ true
      → ((h : Hold) → hold_at b.held r ≡ Some h → d ≡ h.content.current) → Knows b k s n hs → MayCommit (world_of y) e b
  may_commit e b k s n hs r d there own is near now w =
      let q = held_good b k s n hs r w there in
      let changes = changes_are e r d is in
      record {
        instance = own ∙ sym w.instance;
        steady = steady b k s n hs w;
        is_of = ap (are_components_of y e.instance) is ∙ both _ true (one_component e.instance r (nth y.resources r) refl near) refl;
        once = subst (λ l. Once (places l)) (sym changes) (refl, tt);
        changes = subst (Changed b.held) (sym changes) ((q.0, q.1, sym (now q.0 q.1)), tt);
      }

  hold_renewed : (r : ℕ) (d : Data) (l : List Hold) (h : Hold) → hold_at l r ≡ Some h → hold_at (renewed ((r, d) ∷ []) l) r ≡ Some (record h { value = changed ((r, d) ∷ []) h.resource h.value })
  hold_renewed r d [] h at = absurd (grind (arith, at))
  hold_renewed r d (v ∷ l) h at = go (nat_eq v.resource r) at (λ at. hold_renewed r d l h at)
    where
      go : (t : Bool) → (if t then Some v else hold_at l r) ≡ Some h → (hold_at l r ≡ Some h → hold_at (renewed ((r, d) ∷ []) l) r ≡ Some (record h { value = changed ((r, d) ∷ []) h.resource h.value }))
          → (if t then Some (record v { value = changed ((r, d) ∷ []) v.resource v.value }) else hold_at (renewed ((r, d) ∷ []) l) r) ≡ Some (record h { value = changed ((r, d) ∷ []) h.resource h.value })
      go true at ih = ap (λ (z : Hold). Some (record z { value = changed ((r, d) ∷ []) z.resource z.value })) (same_Some v h at)
      go false at ih = ih at

  -- r is still held behind an entry that changes it alone
  held_behind : (e : Entry Effect) (m r : ℕ) (d : Data) (b c : View Effect) (h : Hold) → hold_at b.held r ≡ Some h → e.change.changes ≡ resource_change y (r, d) ∷ [] → Commits (world_of y) e m b c → hold_at c.held r ≡ Some (record h { value = changed ((r, d) ∷ []) h.resource h.value })
  held_behind e m r d b c h at is t = ap (λ l. hold_at l r) (t.held ∙ ap (λ cs. renewed cs b.held) (changes_are e r d is)) ∙ hold_renewed r d b.held h at

  pub still_held : (e : Entry Effect) (m r : ℕ) (d : Data) (b c : View Effect) (k s n : ℕ) (hs : List ℕ) → among r hs ≡ true → e.change.changes ≡ resource_change y (r, d) ∷ [] → Commits (world_of y) e m b c → Knows b k s n hs → IsSome (hold_at c.held r)
  still_held e m r d b c k s n hs there is t w = let q = held_good b k s n hs r w there in subst (λ o. IsSome o) (sym (held_behind e m r d b c q.0 q.1 is t)) refl

  -- the entry was added, and then the content became its base
  pub settled : (e : Entry Effect) (m r : ℕ) (d : Data) (b c z : View Effect) (k s n : ℕ) (hs : List ℕ) → among r hs ≡ true → e.change.changes ≡ resource_change y (r, d) ∷ [] → ((h : Hold) → hold_at b.held r ≡ Some h → d ≡ h.content.current)
      → Commits (world_of y) e m b c → ((h : Hold) → hold_at c.held r ≡ Some h → PutWith r (record h.content { base = h.content.current }) c z) → Knows b k s n hs → Knows z k s n hs
  settled e m r d b c z k s n hs there is now t puts w =
      let q = held_good b k s n hs r w there in let g = q.2 in
      let x : Shown = record (q.0).content { base = (q.0).content.current } in
      committed (world_of y) e m r d x q.0 b c z k s n hs (changes_are e r d is) q.1 (sym (now q.0 q.1)) g.1 g.2 t (puts _ (held_behind e m r d b c q.0 q.1 is t)) w

  pub may_note : (x : Note) (b : View Effect) (k s n : ℕ) (hs : List ℕ) → x.instance ≡ k → n < s → Knows b k s n hs → MayNote (world_of y) x b
  may_note x b k s n hs own less w = record {
    instance = own ∙ sym w.instance;
    steady = steady b k s n hs w;
    share = let a = w.notes_are in let e = w.share_is in omega (arith, a, e, less);
  }
