-- What each call of a board of one instance does to what it shows.
use Rattle.std.proofs.Common.{◌≡◌, ◌<◌, ℕ, zero, suc, Bool, true, false, List, [], ◌∷◌, ◌++◌, map, length, get_or, set, Option, Some, None, refl, sym, ap, ◌∙◌, subst, arith, inl, inr}
use Rattle.std.specs.Prelude.{if◌then◌else◌, nat_eq, nat_lt, ◌&&◌, IsSome, slice_get, ◌⊎◌}
use Rattle.std.proofs.lemmas.Bool.{and_parts}
use Rattle.std.proofs.lemmas.List.{map_push}
use Rattle.pgo_base.specs.Data.{Data}
use Rattle.pgo_base.specs.Lookup.{Vars}
use Rattle.pgo_base.specs.declared.log.Entry.{Entry}
use Rattle.pgo_model.specs.Log.{Effect}
use Rattle.pgo_model.specs.LogView.{entry_view}
use Rattle.pgo_model.specs.Machine.{among, nth}
use Rattle.pgo_model.specs.Operators.{same_data}
use Rattle.pgo_syntax.specs.RecordView.{note_view}
use Rattle.pgo_syntax.specs.declared.records.Note.{Note}
use Rattle.pgo_workers.specs.Walk.{At}
use Rattle.pgo_workers.specs.View.{Shown, Hold, View, EachHold, IsSteady, Changed, MayNumber, StandsAt, Grows, hold_at, without, renewed, changed, along, own_left, notes_of}
use Rattle.pgo_workers.specs.Worlds.{Layout, IsLayout, HasAll, value_in, own_in, are_components_of, world_of}
use Rattle.pgo_workers.proofs.Components.{same_self}
use Rattle.pgo_workers.proofs.Patched.{patched_has, patched_value, patched_own}
use Rattle.pgo_resource.specs.declared.taken.Taken.{Taken}
use Rattle.pgo_resource.specs.PlainRows.{taken_of, apart, fits, are_of, state_of, values_at, shown_at, row, rows, FreeStands, FitsStart, without_taken}
use Rattle.pgo_resource.specs.PlainSets.{eq_turned, among_there, held_among, hold_content, free_set}
use Rattle.pgo_resource.proofs.PlainPlaces.{apart_parts, drop_among, taken_without, among_push, taken_push}

pub append_nil : {A : Type 0} (xs : List A) → xs ++ [] ≡ xs
append_nil [] = refl
append_nil (x ∷ xs) = ap (λ l. x ∷ l) (append_nil xs)

-- nobody else is there
pub nothing_grows : (y : Layout) (b c : View Effect) → c.entries ≡ b.entries → c.notes ≡ b.notes → Grows (world_of y) b c
nothing_grows y b c e n = record { entries_more = []; notes_more = []; entries = e ∙ sym (append_nil b.entries); notes = n ∙ sym (append_nil b.notes); others = tt; other_notes = tt }

same_made : (x z : Data) → x ≡ z → same_data x z ≡ true
same_made x z e = subst (λ z. same_data x z ≡ true) e (same_self x)

-- ---- the state behind all entries

abbrev pub behind : Layout → Vars → List Entry → Vars
behind y s es = along (world_of y).patched s (map entry_view es) (length (map entry_view es))

behind_push : (y : Layout) (s : Vars) (es : List Entry) (e : Entry) → behind y s (es ++ e ∷ []) ≡ (world_of y).patched (behind y s es) (entry_view e).change
behind_push y s [] e = refl
behind_push y s (x ∷ es) e = behind_push y ((world_of y).patched s (entry_view x).change) es e

pub are_push : (y : Layout) (k : ℕ) (es : List Entry) (e : Entry) → are_of y k es ≡ true → e.instance ≡ k → (world_of y).is_of k (entry_view e).change ≡ true → are_of y k (es ++ e ∷ []) ≡ true
are_push y k [] e h mine is =
    let m : nat_eq e.instance k ≡ true = grind (arith, mine) in
    (λ i. m i && (is i && true))
are_push y k (x ∷ es) e h mine is =
    let p = and_parts (nat_eq x.instance k) (are_components_of y k (entry_view x).change.changes && are_of y k es) h in
    let q = and_parts (are_components_of y k (entry_view x).change.changes) (are_of y k es) p.1 in
    (λ i. p.0 i && (q.0 i && are_push y k es e q.1 mine is i))

module _ (y : Layout) (layout : IsLayout y) (k : ℕ) where
  behind_has : (s : Vars) (es : List Entry) → HasAll y s → are_of y k es ≡ true → HasAll y (behind y s es)
  behind_has s [] has h = has
  behind_has s (e ∷ es) has h =
      let p = and_parts (nat_eq e.instance k) (are_components_of y k (entry_view e).change.changes && are_of y k es) h in
      let q = and_parts (are_components_of y k (entry_view e).change.changes) (are_of y k es) p.1 in
      behind_has ((world_of y).patched s (entry_view e).change) es (patched_has y layout k s has (entry_view e).change q.0) q.1

  -- own components follow the journal
  own_follows : (s : Vars) (es : List Entry) → HasAll y s → are_of y k es ≡ true → own_in y (behind y s es) k ≡ own_left (world_of y) k (own_in y s k) (map entry_view es)
  own_follows s [] has h = refl
  own_follows s (e ∷ es) has h =
      let p = and_parts (nat_eq e.instance k) (are_components_of y k (entry_view e).change.changes && are_of y k es) h in
      let q = and_parts (are_components_of y k (entry_view e).change.changes) (are_of y k es) p.1 in
      own_follows ((world_of y).patched s (entry_view e).change) es (patched_has y layout k s has (entry_view e).change q.0) q.1
      ∙ ap (λ o. own_left (world_of y) k o (map entry_view es)) (patched_own y layout k s has (entry_view e).change q.0)
      ∙ ap (λ b. own_left (world_of y) k (if b then (world_of y).owned (own_in y s k) (entry_view e).change else own_in y s k) (map entry_view es)) (sym p.0)

  -- one more entry changes what it says
  pub values_push : (es news : List Entry) (e : Entry) → news ≡ es ++ e ∷ [] → HasAll y y.start → are_of y k es ≡ true → (world_of y).is_of k (entry_view e).change ≡ true → (n : ℕ) → n ≡ length y.resources
      → (r : ℕ) → r < n → values_at y news r ≡ changed ((world_of y).changes (entry_view e).change) r (values_at y es r)
  values_push es news e made has h is n all r near =
      ap (λ l. values_at y l r) made ∙ ap (λ s. value_in y s r) (behind_push y y.start es e)
      ∙ patched_value y layout k (state_of y es) (behind_has y.start es has h) (entry_view e).change is r (let z : nat_lt r (length y.resources) ≡ true = grind (arith, near, all) in z)

  pub stands_here : {R : Type 0} (shows : R → Shown) (es : List Entry) (xs : List R) (hs : List Taken) (b : View Effect) → HasAll y y.start → are_of y k es ≡ true → b.instance ≡ k → b.entries ≡ map entry_view es
      → b.held ≡ rows shows (values_at y es) xs hs → EachHold IsSteady b.held → StandsAt (world_of y) b (b.entries ++ [])
  stands_here shows es xs hs b has h mine log held steady =
      subst (StandsAt (world_of y) b) (sym (append_nil b.entries ∙ log)) (record {
        values = subst (EachHold (λ h. values_at y es h.resource ≡ h.content.base)) (sym held) (steady_stands hs (subst (EachHold IsSteady) held steady));
        own = ap (own_in y (state_of y es)) mine ∙ own_follows y.start es has h ∙ (λ i. own_left (world_of y) (sym mine i) (own_in y y.start (sym mine i)) (sym log i));
      })
    where
      steady_stands : (hs : List Taken) → EachHold IsSteady (rows shows (values_at y es) xs hs) → EachHold (λ h. values_at y es h.resource ≡ h.content.base) (rows shows (values_at y es) xs hs)
      steady_stands [] h = tt
      steady_stands (t ∷ hs) h = (sym h.0, steady_stands hs h.1)

module _ {R : Type 0} (shows : R → Shown) where
  -- what is held is renewed
  pub rows_renewed : (n : ℕ) (old new : ℕ → Data) (cs : List At) (xs : List R) (hs : List Taken) → ((r : ℕ) → r < n → new r ≡ changed cs r (old r)) → apart n (taken_of hs) ≡ true → rows shows new xs hs ≡ renewed cs (rows shows old xs hs)
  rows_renewed n old new cs xs [] e a = refl
  rows_renewed n old new cs xs (t ∷ hs) e a = let m = apart_parts n t.resource (taken_of hs) a in
      λ i. record { resource = t.resource; value = e t.resource m.0 i; count = t.count; content = shown_at shows xs t.resource } ∷ rows_renewed n old new cs xs hs e m.2 i

  unchanged : (values : ℕ → Data) (xs : List R) (hs : List Taken) (cs : List At) (r : ℕ) (x : Data) → Changed (rows shows values xs hs) cs → among r (taken_of hs) ≡ false → changed cs r x ≡ x
  unchanged values xs hs [] r x c out = refl
  unchanged values xs hs (v ∷ vs) r x c out = go (nat_eq v.0 r) refl (unchanged values xs hs vs r x c.1 out)
    where
      held : IsSome (hold_at (rows shows values xs hs) v.0)
      held = subst (λ o. IsSome o) (sym c.0.1) refl

      go : (b : Bool) → nat_eq v.0 r ≡ b → changed vs r x ≡ x → (if b then v.1 else changed vs r x) ≡ x
      go true e ih = let same : r ≡ v.0 = grind (arith, e) in absurd (grind (arith, out, held_among shows values xs hs v.0 held, ap (λ x. among x (taken_of hs)) same))
      go false e ih = ih

  pub free_commit : (n : ℕ) (old new : ℕ → Data) (cs : List At) (xs : List R) (hs : List Taken) → ((r : ℕ) → r < n → new r ≡ changed cs r (old r)) → Changed (rows shows old xs hs) cs
      → FreeStands shows n old xs (taken_of hs) → FreeStands shows n new xs (taken_of hs)
  free_commit n old new cs xs hs e changes free r near out =
      let f = free r near out in
      let same : new r ≡ old r = e r near ∙ unchanged old xs hs cs r (old r) changes out in
      (subst (λ v. same_data (shown_at shows xs r).base v ≡ true) (sym same) f.0, subst (λ v. same_data (shown_at shows xs r).current v ≡ true) (sym same) f.1, f.2)

  pub rows_push : (values : ℕ → Data) (xs : List R) (hs : List Taken) (t : Taken) → rows shows values xs (hs ++ t ∷ []) ≡ rows shows values xs hs ++ row shows values xs t ∷ []
  rows_push values xs [] t = refl
  rows_push values xs (h ∷ hs) t = ap (λ l. row shows values xs h ∷ l) (rows_push values xs hs t)

  pub not_held : (values : ℕ → Data) (xs : List R) (hs : List Taken) (r : ℕ) → hold_at (rows shows values xs hs) r ≡ None → among r (taken_of hs) ≡ false
  not_held values xs [] r h = refl
  not_held values xs (t ∷ hs) r h = go (nat_eq t.resource r) refl h (λ h. not_held values xs hs r h)
    where
      go : (b : Bool) → nat_eq t.resource r ≡ b → (if b then Some (row shows values xs t) else hold_at (rows shows values xs hs) r) ≡ None → (hold_at (rows shows values xs hs) r ≡ None → among r (taken_of hs) ≡ false) → (if nat_eq r t.resource then true else among r (taken_of hs)) ≡ false
      go true b h ih = absurd (grind (arith, h))
      go false b h ih = ap (λ d. if d then true else among r (taken_of hs)) (eq_turned r t.resource ∙ b) ∙ ih h

  pub shown_get_or : (xs : List R) (r : ℕ) (x : R) → r < length xs → x ≡ get_or xs r x → shown_at shows xs r ≡ shows x
  shown_get_or [] r x h e = absurd (omega (arith, h))
  shown_get_or (y ∷ xs) zero x h e = ap shows (sym e)
  shown_get_or (y ∷ xs) (suc r) x h e = shown_get_or xs r x (omega (arith, h)) e

  pub hold_value : (values : ℕ → Data) (xs : List R) (hs : List Taken) (r : ℕ) (h : Hold) → hold_at (rows shows values xs hs) r ≡ Some h → (h.value ≡ values r) × (h.resource ≡ r)
  hold_value values xs [] r h e = absurd (grind (arith, e))
  hold_value values xs (t ∷ hs) r h e = go (nat_eq t.resource r) refl e (λ e. hold_value values xs hs r h e)
    where
      some_same : (x : Hold) → Some x ≡ Some h → x ≡ h
      some_same x h = cc

      go : (b : Bool) → nat_eq t.resource r ≡ b → (if b then Some (row shows values xs t) else hold_at (rows shows values xs hs) r) ≡ Some h → (hold_at (rows shows values xs hs) r ≡ Some h → (h.value ≡ values r) × (h.resource ≡ r)) → (h.value ≡ values r) × (h.resource ≡ r)
      go true b e ih = let same : t.resource ≡ r = grind (arith, b) in (ap (λ (x : Hold). x.value) (sym (some_same _ e)) ∙ ap values same, ap (λ (x : Hold). x.resource) (sym (some_same _ e)) ∙ same)
      go false b e ih = ih e

  rows_none : (values : ℕ → Data) (xs : List R) (hs : List Taken) (r : ℕ) → among r (taken_of hs) ≡ false → without (rows shows values xs hs) r ≡ rows shows values xs hs
  rows_none values xs [] r out = refl
  rows_none values xs (t ∷ hs) r out = let o = among_there r t.resource (taken_of hs) out in
      ap (λ b. if b then without (rows shows values xs hs) r else row shows values xs t ∷ without (rows shows values xs hs) r) o.0 ∙ ap (λ l. row shows values xs t ∷ l) (rows_none values xs hs r o.1)

  pub rows_without : (n : ℕ) (values : ℕ → Data) (xs : List R) (hs : List Taken) (r : ℕ) → apart n (taken_of hs) ≡ true → rows shows values xs (without_taken hs r) ≡ without (rows shows values xs hs) r
  rows_without n values xs [] r a = refl
  rows_without n values xs (t ∷ hs) r a = let m = apart_parts n t.resource (taken_of hs) a in go (nat_eq t.resource r) refl m.1 (rows_without n values xs hs r m.2)
    where
      go : (b : Bool) → nat_eq t.resource r ≡ b → among t.resource (taken_of hs) ≡ false → rows shows values xs (without_taken hs r) ≡ without (rows shows values xs hs) r
          → rows shows values xs (if b then hs else t ∷ without_taken hs r) ≡ (if b then without (rows shows values xs hs) r else row shows values xs t ∷ without (rows shows values xs hs) r)
      go true e out ih = let same : t.resource ≡ r = grind (arith, e) in sym (rows_none values xs hs r (subst (λ x. among x (taken_of hs) ≡ false) same out))
      go false e out ih = ap (λ l. row shows values xs t ∷ l) ih

  pub free_push : (n : ℕ) (values : ℕ → Data) (xs : List R) (hs news : List Taken) (t : Taken) → news ≡ hs ++ t ∷ [] → FreeStands shows n values xs (taken_of hs) → FreeStands shows n values xs (taken_of news)
  free_push n values xs hs news t made free r near out = free r near (among_push r t.resource (taken_of hs) (ap (among r) (sym (ap taken_of made ∙ taken_push hs t)) ∙ out)).0

-- another content at a held resource leaves the others
module _ {R : Type 0} (shows : R → Shown) where
  pub free_at : (n : ℕ) (values : ℕ → Data) (xs : List R) (rs : List ℕ) (q : ℕ) (c : R) → among q rs ≡ true → FreeStands shows n values xs rs → FreeStands shows n values (set xs q c) rs
  free_at n values xs rs q c there free =
      subst (λ k. FreeStands shows n values (set xs k c) rs) (ap (λ b. if b then q else length xs) there) (free_set shows n values xs rs q c free)

fits_of : (n : Option ℕ) (r q : ℕ) → q ≡ r → (n ≡ None) ⊎ (n ≡ Some q) → fits n r ≡ true
fits_of n r q same (inl e) = ap (λ o. fits o r) e
fits_of n r q same (inr e) = let t : nat_eq q r ≡ true = grind (arith, same) in ap (λ o. fits o r) e ∙ t

pub of_fits : (n : Option ℕ) (r : ℕ) → fits n r ≡ true → (n ≡ None) ⊎ (n ≡ Some r)
of_fits None r h = inl refl
of_fits (Some q) r h = let same : q ≡ r = grind (arith, h) in inr (ap (λ x. Some x) same)

module _ {R : Type 0} (shows : R → Shown) where
  pub free_give : (n : ℕ) (values : ℕ → Data) (xs : List R) (hs news : List Taken) (q : ℕ) (h : Hold) → news ≡ without_taken hs q → hold_at (rows shows values xs hs) q ≡ Some h → h.content.base ≡ h.value → h.content.current ≡ h.value → MayNumber h
      → FreeStands shows n values xs (taken_of hs) → FreeStands shows n values xs (taken_of news)
  free_give n values xs hs news q h made at base current number free r near out = go (drop_among q r (taken_of hs) (ap (among r) (sym (ap taken_of made ∙ taken_without hs q)) ∙ out))
    where
      v : (h.value ≡ values q) × (h.resource ≡ q)
      v = hold_value shows values xs hs q h at

      c : h.content ≡ shown_at shows xs q
      c = hold_content shows values xs hs q h at

      at_q : (same_data (shown_at shows xs q).base (values q) ≡ true) × (same_data (shown_at shows xs q).current (values q) ≡ true) × (fits (shown_at shows xs q).number q ≡ true)
      at_q = subst (λ (x : Shown). (same_data x.base (values q) ≡ true) × (same_data x.current (values q) ≡ true) × (fits x.number q ≡ true)) c (same_made h.content.base (values q) (base ∙ v.0), same_made h.content.current (values q) (current ∙ v.0), fits_of h.content.number q h.resource v.1 number)

      go : (r ≡ q) ⊎ (among r (taken_of hs) ≡ false) → (same_data (shown_at shows xs r).base (values r) ≡ true) × (same_data (shown_at shows xs r).current (values r) ≡ true) × (fits (shown_at shows xs r).number r ≡ true)
      go (inl e) = subst (λ y. (same_data (shown_at shows xs y).base (values y) ≡ true) × (same_data (shown_at shows xs y).current (values y) ≡ true) × (fits (shown_at shows xs y).number y ≡ true)) (sym e) at_q
      go (inr o) = free r near o

pub notes_push : (k : ℕ) (ns : List Note) (n : Note) → n.instance ≡ k → notes_of k (map note_view (ns ++ n ∷ [])) ≡ suc (notes_of k (map note_view ns))
notes_push k [] n e = let t : nat_eq n.instance k ≡ true = grind (arith, e) in ap (λ b. if b then 1 else 0) t
notes_push k (x ∷ ns) n e = go (nat_eq x.instance k) (notes_push k ns n e)
  where
    go : (b : Bool) → notes_of k (map note_view (ns ++ n ∷ [])) ≡ suc (notes_of k (map note_view ns)) → (if b then suc (notes_of k (map note_view (ns ++ n ∷ []))) else notes_of k (map note_view (ns ++ n ∷ []))) ≡ suc (if b then suc (notes_of k (map note_view ns)) else notes_of k (map note_view ns))
    go true ih = ap (λ n. suc n) ih
    go false ih = ih

pub notes_made : (ns news : List Note) (n : Note) → news ≡ ns ++ n ∷ [] → map note_view news ≡ (map note_view ns ++ []) ++ note_view n ∷ []
notes_made ns news n e = ap (map note_view) e ∙ map_push note_view ns n ∙ ap (λ l. l ++ note_view n ∷ []) (sym (append_nil (map note_view ns)))

pub get_slice : {A : Type 0} (xs : List A) (r : ℕ) (x : A) → r < length xs → x ≡ get_or xs r x → slice_get xs r ≡ Some x
get_slice [] r x h e = absurd (omega (arith, h))
get_slice (y ∷ xs) zero x h e = ap (λ z. Some z) (sym e)
get_slice (y ∷ xs) (suc r) x h e = get_slice xs r x (omega (arith, h)) e

-- before all entries
module _ {R : Type 0} (shows : R → Shown) where
  shown_nth : (xs : List R) (r : ℕ) → r < length xs → (c : R) × (nth xs r ≡ Some c) × (shown_at shows xs r ≡ shows c)
  shown_nth [] r h = absurd (omega (arith, h))
  shown_nth (x ∷ xs) zero h = (x, refl, refl)
  shown_nth (x ∷ xs) (suc r) h = shown_nth xs r (omega (arith, h))

  fits_number : (n : Option ℕ) (r : ℕ) → (n ≡ None) ⊎ (n ≡ Some r) → fits n r ≡ true
  fits_number n r (inl e) = ap (λ o. fits o r) e
  fits_number n r (inr e) = let t : nat_eq r r ≡ true = grind arith in ap (λ o. fits o r) e ∙ t

  pub free_first : (y : Layout) (n : ℕ) (es : List Entry) (xs : List R) (hs : List Taken) → es ≡ [] → n ≡ length xs → FitsStart shows y xs → FreeStands shows n (values_at y es) xs (taken_of hs)
  free_first y n es xs hs none len start r near out =
      let c = shown_nth xs r (subst (λ n. r < n) len near) in
      let f = start r c.0 c.1 in
      subst (λ l. (same_data (shown_at shows xs r).base (values_at y l r) ≡ true) × (same_data (shown_at shows xs r).current (values_at y l r) ≡ true) × (fits (shown_at shows xs r).number r ≡ true)) (sym none)
      (subst (λ (x : Shown). (same_data x.base (value_in y y.start r) ≡ true) × (same_data x.current (value_in y y.start r) ≡ true) × (fits x.number r ≡ true)) (sym c.2)
      (same_made (shows c.0).base (value_in y y.start r) f.0, same_made (shows c.0).current (value_in y y.start r) f.1, fits_number (shows c.0).number r f.3))
