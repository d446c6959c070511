-- What is left of an attempt, from what is left of its leaf.
use Rattle.std.proofs.Common.{◌≡◌, ℕ, suc, Bool, true, false, List, [], ◌∷◌, ◌++◌, Option, Some, None, Result, Ok, Err, OnOk, IfOk, refl, ap, sym, ◌∙◌, map, length, reverse, append_assoc, arith}
use Rattle.std.proofs.lemmas.List.{reverse-append, reverse-reverse}
use Rattle.std.specs.Prelude.{if◌then◌else◌}
use Rattle.pgo_base.specs.Data.{Data}
use Rattle.pgo_model.specs.Machine.{nth}
use Rattle.pgo_model.specs.Options.{on}
use Rattle.pgo_model.specs.Outcome.{Kind, Blocked, NoValue, AssertFails, Many}
use Rattle.pgo_model.specs.System.{Words}
use Rattle.pgo_tries.specs.Chosen.{ChoiceMade, turned}
use Rattle.pgo_tries.specs.Sections.{along}
use Rattle.pgo_syntax.specs.RecordView.{kind_view}
use Rattle.pgo_syntax.specs.declared.records.NoteKind.TheVariants as kinds
use Rattle.pgo_sections.specs.ChoiceTrees.{in_order, onto}
use Rattle.pgo_workers.specs.Tried.{LeafEnd, Leads, Blocks, LeafTree, and_then, next_leaf, on_end, trying}
use Rattle.pgo_workers.specs.Walk.{Own, Walk, Stop, Touch, Again, Goes, Sticks, settled, goes_back}
use Rattle.pgo_resource.specs.Nexts.{IsTouch, LeadsOn, StopsWith, Tells}
use Rattle.pgo_resource.specs.Picked.{attempt_words, path_of, words_of, points_of, choices_of}
use Rattle.pgo_resource.specs.declared.picks.Picks.{Picks}
use Rattle.pgo_resource.specs.declared.sections.NextEvent.{NextEvent}
use Rattle.pgo_resource.specs.declared.sections.NextEvent.TheVariants as events
use Rattle.pgo_accesses.specs.Accesses.{no_value, stuck}
use Rattle.pgo_code.specs.declared.program.Program.{Program}
use Rattle.pgo_code.specs.See.{step_of}
use Rattle.pgo_places.specs.declared.place.Place.{Place}
use Rattle.pgo_places.specs.FirstStands.{start_of}
use Rattle.pgo_places.specs.LeafEvents.{IsLeafTouch, IsLeafEnd, LeafTells, LeafLeadsOn, Kept}
use Rattle.pgo_places.specs.PlaceView.{fixed_view, attempt_view}
use Rattle.pgo_places.specs.PlaceWalk.{count_of, instructions_in, leaf_in, leaf_from}
use Rattle.pgo_places.specs.Stands.{limited, resume}
use Rattle.pgo_places.specs.Turned.{Turns, is_blocked}

-- ---- walks

abbrev is_touch : Walk → Bool
is_touch (Stop e) = false
is_touch (Touch r leave rest) = true
is_touch (Again w) = false

abbrev goes_to_end : Walk → Bool
goes_to_end (Stop (Goes own prints)) = true
goes_to_end (Stop (Sticks kind)) = false
goes_to_end (Touch r leave rest) = false
goes_to_end (Again w) = false

abbrev leave_of : Walk → Data → Data
leave_of (Stop e) v = v
leave_of (Touch r leave rest) v = leave v
leave_of (Again w) v = v

abbrev rest_of : Walk → Data → Walk
rest_of (Stop e) v = Stop e
rest_of (Touch r leave rest) v = rest v
rest_of (Again w) v = Again w

not_true : (b : Bool) → b ≡ false → true ≡ b → ⊥
not_true b f t = let z : true ≡ false = t ∙ f in grind (arith, z)

-- what doesn't go back begins at an access or an end
pub settled_there : (w : Walk) → goes_back w ≡ false → settled w ≡ w
settled_there (Stop e) h = refl
settled_there (Touch r leave rest) h = refl
settled_there (Again w) h = absurd (not_true false refl h)

-- ---- behind a leaf

module _ (first : Words) (f : List ℕ → Walk) where
  abbrev behind : LeafTree → Walk
  behind w = and_then w (on_end first f)

  next_no_touch : (o : Option (List ℕ)) → is_touch (next_leaf f o) ≡ false
  next_no_touch None = refl
  next_no_touch (Some q) = refl

  end_no_touch : (e : LeafEnd) → is_touch (on_end first f e) ≡ false
  end_no_touch (Leads e) = refl
  end_no_touch (Blocks points) = next_no_touch (turned first 0 points)

  -- an access of the attempt is one of its leaf
  pub touch_leaf : (w : LeafTree) → IsTouch (behind w) → IsLeafTouch w
  touch_leaf (Stop e) t = absurd (not_true (is_touch (on_end first f e)) (end_no_touch e) (sym (ap is_touch t.3)))
  touch_leaf (Touch r leave rest) t = (r, leave, rest, refl)
  touch_leaf (Again w) t = absurd (not_true (is_touch (behind (Again w))) refl (sym (ap is_touch t.3)))

  -- and leads on
  pub leads_behind : (w v : LeafTree) (old new : Data) → LeafLeadsOn w v old new → LeadsOn (behind w) (behind v) old new
  leads_behind (Stop e) v old new h r leave rest t = absurd (not_true (is_touch (on_end first f e)) (end_no_touch e) (sym (ap is_touch t)))
  leads_behind (Touch q l g) v old new h r leave rest t = let k = h q l g refl in (k.0 ∙ ap (λ w. leave_of w old) t, ap behind k.1 ∙ ap (λ w. rest_of w old) t)
  leads_behind (Again w) v old new h r leave rest t = absurd (not_true (is_touch (behind (Again w))) refl (sym (ap is_touch t)))

  noted : (kind : Kind) (cs : List ChoiceMade) → goes_back (behind (Stop (stuck kind cs))) ≡ false → behind (Stop (stuck kind cs)) ≡ Stop (Sticks kind)
  noted Blocked cs h = go (turned first 0 (in_order cs)) h
    where
      go : (o : Option (List ℕ)) → goes_back (next_leaf f o) ≡ false → next_leaf f o ≡ Stop (Sticks Blocked)
      go None h = refl
      go (Some q) h = absurd (not_true false refl h)
  noted NoValue cs h = refl
  noted AssertFails cs h = refl
  noted Many cs h = refl

  -- the next event of the attempt is that of its leaf, where no other leaf begins
  pub tells_behind : (cs : List ChoiceMade) (w : LeafTree) (e : NextEvent) → LeafTells cs w e → goes_back (behind w) ≡ false → Tells (behind w) e
  tells_behind cs w (events.Access r) t h = (t.0, λ v. behind (t.1 v), ap behind t.2)
  tells_behind cs w events.Commit t h = (t.0, t.1, ap behind t.2)
  tells_behind cs w (events.Note kind) t h = ap behind t ∙ noted (kind_view kind) cs (sym (ap (λ w. goes_back (behind w)) t) ∙ h)

  next_no_end : (o : Option (List ℕ)) → goes_to_end (next_leaf f o) ≡ false
  next_no_end None = refl
  next_no_end (Some q) = refl

  pub end_leaf : (w : LeafTree) → StopsWith (behind w) → IsLeafEnd w
  end_leaf (Stop (Leads (Goes own prints))) s = (own, prints, refl)
  end_leaf (Stop (Leads (Sticks kind))) s = absurd (not_true (goes_to_end (behind (Stop (Leads (Sticks kind))))) refl (sym (ap goes_to_end s.2)))
  end_leaf (Stop (Blocks points)) s = absurd (not_true (goes_to_end (next_leaf f (turned first 0 points))) (next_no_end (turned first 0 points)) (sym (ap goes_to_end s.2)))
  end_leaf (Touch r leave rest) s = absurd (not_true (goes_to_end (behind (Touch r leave rest))) refl (sym (ap goes_to_end s.2)))
  end_leaf (Again w) s = absurd (not_true (goes_to_end (behind (Again w))) refl (sym (ap goes_to_end s.2)))

  -- another event than Blocked
  pub stays_behind : (cs : List ChoiceMade) (w : LeafTree) (e : NextEvent) → LeafTells cs w e → is_blocked e ≡ false → goes_back (behind w) ≡ false
  stays_behind cs w (events.Access r) t h = ap (λ w. goes_back (behind w)) t.2
  stays_behind cs w events.Commit t h = ap (λ w. goes_back (behind w)) t.2
  stays_behind cs w (events.Note kinds.Blocked) t h = absurd (not_true false refl h)
  stays_behind cs w (events.Note kinds.NoValue) t h = ap (λ w. goes_back (behind w)) t
  stays_behind cs w (events.Note kinds.AssertFails) t h = ap (λ w. goes_back (behind w)) t
  stays_behind cs w (events.Note kinds.Many) t h = ap (λ w. goes_back (behind w)) t

  -- a leaf that is blocked behind these choices
  pub next_behind : (ps : List ChoiceMade) (w : LeafTree) (o : Option (List ℕ)) → w ≡ Stop (Blocks ps) → o ≡ turned first 0 ps → behind w ≡ next_leaf f o
  next_behind ps w o e h = ap behind e ∙ ap (next_leaf f) (sym h)

pub blocked_leaf : (cs : List ChoiceMade) (w : LeafTree) (e : NextEvent) → LeafTells cs w e → is_blocked e ≡ true → w ≡ Stop (Blocks (in_order cs))
blocked_leaf cs w (events.Access r) t h = absurd (not_true false refl (sym h))
blocked_leaf cs w events.Commit t h = absurd (not_true false refl (sym h))
blocked_leaf cs w (events.Note kinds.Blocked) t h = t
blocked_leaf cs w (events.Note kinds.NoValue) t h = absurd (not_true false refl (sym h))
blocked_leaf cs w (events.Note kinds.AssertFails) t h = absurd (not_true false refl (sym h))
blocked_leaf cs w (events.Note kinds.Many) t h = absurd (not_true false refl (sym h))

-- ---- choices in order

onto_is : (cs qs : List ChoiceMade) → onto cs qs ≡ reverse cs ++ qs
onto_is [] qs = refl
onto_is (c ∷ cs) qs = onto_is cs (c ∷ qs) ∙ sym (ap (λ l. l ++ qs) (reverse-append (c ∷ []) cs) ∙ append_assoc (reverse cs) (c ∷ []) qs)

append_none : (l : List ChoiceMade) → l ++ [] ≡ l
append_none [] = refl
append_none (x ∷ l) = ap (λ k. x ∷ k) (append_none l)

pub in_order_points : (p : Picks) → in_order (choices_of p) ≡ points_of p
in_order_points p = onto_is (choices_of p) [] ∙ append_none (reverse (choices_of p)) ∙ reverse-reverse (points_of p)

-- ---- an attempt

-- what comes behind the leaf at a place
abbrev pub later : Program → Place → Own → (left : ℕ) → LeafEnd → Walk
later p q start left =
    let first = attempt_words q.stand.picks in on_end first (λ path. trying (λ path. leaf_from p q start (along 0 path first)) first left path)

pub later_kept : (p : Program) (old new : Place) (start : Own) (left : ℕ) → Kept old new → later p new start left ≡ later p old start left
later_kept p old new start left k = λ j. on_end (k.3 j) (λ path. trying (λ path.
    limited (count_of p.bound.now)
    (on no_value (nth p.codes.items (k.0 j)) (λ c.
    let xs = map step_of (instructions_in p.codes.items (k.0 j) (k.1 j)) in
    resume (attempt_view p.bound.now (k.2 j).value) (fixed_view (k.2 j).value) (length xs) xs (start_of c start (k.3 j) (along 0 path (k.3 j))))))
    (k.3 j) left path)

-- the leaf goes on
pub kept_walk : (p : Program) (old new : Place) (start : Own) (left : ℕ) → Kept old new → leaf_in p new ≡ leaf_in p old
    → and_then (leaf_in p new) (later p new start left) ≡ and_then (leaf_in p old) (later p old start left)
kept_walk p old new start left k e = λ j. and_then (e j) (later_kept p old new start left k j)

abbrev pub with_picks : Picks → Place → Place
with_picks x q = record q { stand = record q.stand { picks = x } }

leaf_kept : (p : Program) (old new : Place) (start : Own) (d : Words) → Kept old new → leaf_from p new start d ≡ leaf_from p old start d
leaf_kept p old new start d k = λ j.
    limited (count_of p.bound.now)
    (on no_value (nth p.codes.items (k.0 j)) (λ c.
    let xs = map step_of (instructions_in p.codes.items (k.0 j) (k.1 j)) in
    resume (attempt_view p.bound.now (k.2 j).value) (fixed_view (k.2 j).value) (length xs) xs (start_of c start (k.3 j) d)))

module _ (p : Program) (q : Place) (start : Own) (left : ℕ) (e : NextEvent) (tells : LeafTells (choices_of q.stand.picks) (leaf_in p q) e) (blocked : is_blocked e ≡ true) where
  abbrev first : Words
  first = attempt_words q.stand.picks

  abbrev tries : List ℕ → Walk
  tries path = trying (λ path. leaf_from p q start (along 0 path (attempt_words q.stand.picks))) (attempt_words q.stand.picks) left path

  turned_walk : (o : Option (List ℕ)) → o ≡ turned (attempt_words q.stand.picks) 0 (points_of q.stand.picks) → and_then (leaf_in p q) (later p q start left) ≡ next_leaf tries o
  turned_walk o h =
      next_behind first tries (points_of q.stand.picks) (leaf_in p q) o
      (blocked_leaf (choices_of q.stand.picks) (leaf_in p q) e tells blocked ∙ ap (λ ps. Stop (Blocks ps)) (in_order_points q.stand.picks)) h

  -- the last leaf is blocked
  pub last_leaf : None ≡ turned (attempt_words q.stand.picks) 0 (points_of q.stand.picks) → goes_back (and_then (leaf_in p q) (later p q start left)) ≡ false
  last_leaf h = ap goes_back (turned_walk None h)

  -- no more may be tried
  pub many_leaf : (path : List ℕ) → Some path ≡ turned (attempt_words q.stand.picks) 0 (points_of q.stand.picks) → left ≡ 0 → and_then (leaf_in p q) (later p q start left) ≡ Again (Stop (Sticks Many))
  many_leaf path h e =
      turned_walk (Some path) h ∙ ap (λ n. Again (trying (λ path. leaf_from p q start (along 0 path (attempt_words q.stand.picks))) (attempt_words q.stand.picks) n path)) e

  -- the next leaf begins
  pub again_leaf : (x : Picks) (new : Place) (m : ℕ) → Some (path_of x) ≡ turned (attempt_words q.stand.picks) 0 (points_of q.stand.picks) → attempt_words x ≡ attempt_words q.stand.picks → left ≡ suc m
      → leaf_in p new ≡ leaf_from p (with_picks x q) start (words_of x) → Kept (with_picks x q) new
      → and_then (leaf_in p q) (later p q start left) ≡ Again (and_then (leaf_in p new) (later p new start m))
  again_leaf x new m h f e leaf k =
      let same : Kept q (with_picks x q) = (refl, refl, refl, f) in
      let here : leaf_in p new ≡ leaf_from p q start (along 0 (path_of x) (attempt_words q.stand.picks)) =
      leaf ∙ leaf_kept p q (with_picks x q) start (words_of x) same ∙ ap (λ w. leaf_from p q start (along 0 (path_of x) w)) f in
      let behind_new : later p new start m ≡ later p q start m = later_kept p (with_picks x q) new start m k ∙ later_kept p q (with_picks x q) start m same in
      turned_walk (Some (path_of x)) h
      ∙ ap (λ n. Again (trying (λ path. leaf_from p q start (along 0 path (attempt_words q.stand.picks))) (attempt_words q.stand.picks) n (path_of x))) e
      ∙ (λ j. Again (and_then (sym here j) (sym behind_new j)))

-- the event of a leaf, where it isn't blocked or is the last one
pub settled_tells : (p : Program) (q new : Place) (start : Own) (left : ℕ) (e : NextEvent) → LeafTells (choices_of new.stand.picks) (leaf_in p new) e → Kept q new → leaf_in p new ≡ leaf_in p q
    → goes_back (and_then (leaf_in p q) (later p q start left)) ≡ false → Tells (and_then (leaf_in p new) (later p new start left)) e
settled_tells p q new start left e t kept same h =
    let first = attempt_words new.stand.picks in
    tells_behind first (λ path. trying (λ path. leaf_from p new start (along 0 path first)) first left path) (choices_of new.stand.picks) (leaf_in p new) e t
    (ap goes_back (kept_walk p q new start left kept same) ∙ h)

-- ---- the same section

pub on_ok : {X E : Type 0} (r : Result X E) (P : Type 0) → P → OnOk r P
on_ok (Ok x) P h = h
on_ok (Err e) P h = tt

pub on_ok_map : {X E : Type 0} (r : Result X E) (P Q : Type 0) → (P → Q) → OnOk r P → OnOk r Q
on_ok_map (Ok x) P Q f h = f h
on_ok_map (Err e) P Q f h = tt

pub kept_stopped : (old new : Place) → new ≡ record old { stopped = new.stopped } → Kept old new
kept_stopped old new e = (ap (λ (q : Place). q.instance) e, ap (λ (q : Place). q.section) e, ap (λ (q : Place). q.fixed) e, ap (λ (q : Place). attempt_words q.stand.picks) e)

pub kept_then : (a b c : Place) → Kept a b → Kept b c → Kept a c
kept_then a b c h k = (k.0 ∙ h.0, k.1 ∙ h.1, k.2 ∙ h.2, k.3 ∙ h.3)

pub on_ok_both : {X E : Type 0} (r : Result X E) (P Q R : Type 0) → (P → Q → R) → OnOk r P → OnOk r Q → OnOk r R
on_ok_both (Ok x) P Q R f h k = f h k
on_ok_both (Err e) P Q R f h k = tt

pub if_ok_three : {X E : Type 0} (r : Result X E) (P : X → Type 0) (Q R : Type 0) (S : X → Type 0) → ((x : X) → P x → Q → R → S x) → IfOk r P → OnOk r Q → OnOk r R → IfOk r S
if_ok_three (Ok x) P Q R S f h k l = f x h k l
if_ok_three (Err e) P Q R S f h k l = tt

-- ---- over leaves that are blocked

pub either_true : (b g : Bool) → g ≡ true → (if b then true else g) ≡ true
either_true true g h = refl
either_true false g h = h

pub settled_last : (b : Bool) (old new : Walk) → Turns (Some b) old new → new ≡ settled old
settled_last true old new h = sym (settled_there new h.1) ∙ sym (ap settled h.0)
settled_last false old new h = h.0 ∙ sym (settled_there old h.1)

pub back_last : (back b : Bool) (old new : Walk) → Turns (Some b) old new → (if back then true else b) ≡ (if back then true else goes_back old)
back_last true b old new h = refl
back_last false true old new h = sym (ap goes_back h.0)
back_last false false old new h = sym h.1
