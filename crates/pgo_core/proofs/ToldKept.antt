-- What the told lists of all boards of the core say together, and that a turn keeps it.
use Rattle.std.proofs.Common.{◌≡◌, ◌≤◌, ◌<◌, ◌+◌, ℕ, zero, suc, Bool, true, false, List, [], ◌∷◌, ◌++◌, length, Some, refl, sym, ap, ◌∙◌, subst, arith, ◌⊎◌, inl, inr}
use Rattle.std.specs.Prelude.{◌-◌, if◌then◌else◌, nat_eq, nat_lt}
use Rattle.pgo_model.specs.Accounts.{journal}
use Rattle.pgo_model.specs.Machine.{Entry, Machine, among, put, nth, last_state}
use Rattle.pgo_model.specs.MachineAccounts.{equal_or}
use Rattle.pgo_model.specs.MachineLists.{state_below}
use Rattle.pgo_workers.specs.Walk.{Agrees}
use Rattle.pgo_workers.specs.View.{Hold, IsHeld, Taking, Told, View, World, hold_at, stretch, resources_of, state}
use Rattle.pgo_workers.specs.Worker.{Program, Worker}
use Rattle.pgo_workers.specs.Sentences.{EachTaking, Sound, Runs}
use Rattle.pgo_workers.specs.Closed.{Has}
use Rattle.pgo_workers.specs.Holds as holds
use Rattle.pgo_workers.specs.CoreSteps.{R}
use Rattle.pgo_workers.specs.CoreStands.{Differs, put_here, put_else}
use Rattle.pgo_workers.specs.CoreTurns.{IsCore}
use Rattle.pgo_core.proofs.Stamps.{stamps, has_append}
use Rattle.pgo_core.proofs.TurnMade.{GrantedIn, GivesBack, TellsMore}

pub same_or : (i j : ℕ) → (i ≡ j) ⊎ (i ≡ j → ⊥)
same_or i j = go (nat_eq i j) refl
  where
    go : (b : Bool) → nat_eq i j ≡ b → (i ≡ j) ⊎ (i ≡ j → ⊥)
    go true e = inl ((equal_or i j true e).0 refl)
    go false e = inr ((equal_or i j false e).1 refl)

pub same_some : {A : Type 0} (x y : A) → Some x ≡ Some y → x ≡ y
same_some x y h = grind arith

has_left : {A : Type 0} (a b : List A) (x : A) → Has a x → Has (a ++ b) x
has_left [] b x h = absurd h
has_left (y ∷ a) b x (inl h) = inl h
has_left (y ∷ a) b x (inr h) = inr (has_left a b x h)

each_has : (Q : Taking → Type 0) (ms : List Taking) (m : Taking) → EachTaking Q ms → Has ms m → Q m
each_has Q [] m e h = absurd h
each_has Q (x ∷ ms) m e (inl h) = subst Q h e.0
each_has Q (x ∷ ms) m e (inr h) = each_has Q ms m e.1 h

-- where a member of two lists in a row stands
pub nth_append : {A : Type 0} (a b : List A) (i : ℕ) (x : A) → nth (a ++ b) i ≡ Some x → (nth a i ≡ Some x) ⊎ ((j : ℕ) × (i ≡ length a + j) × (nth b j ≡ Some x))
nth_append [] b i x e = inr (i, zero_plus i, e)
  where
    zero_plus : (i : ℕ) → i ≡ 0 + i
    zero_plus i = omega arith
nth_append (y ∷ a) b zero x e = inl e
nth_append (y ∷ a) b (suc i) x e = go (nth_append a b i x e)
  where
    next : (j : ℕ) → i ≡ length a + j → suc i ≡ suc (length a) + j
    next j e = omega (arith, e)

    go : (nth a i ≡ Some x) ⊎ ((j : ℕ) × (i ≡ length a + j) × (nth b j ≡ Some x)) → (nth a i ≡ Some x) ⊎ ((j : ℕ) × (suc i ≡ suc (length a) + j) × (nth b j ≡ Some x))
    go (inl e) = inl e
    go (inr q) = inr (q.0, next q.0 q.1, q.2)

-- a member of a row of pairs
stretch_is : (r c d i : ℕ) (x : ℕ × ℕ) → nth (stretch r c d) i ≡ Some x → (x.0 ≡ r) × (x.1 ≡ suc (c + i)) × (i < d)
stretch_is r c zero i x e = absurd (grind (arith, e))
stretch_is r c (suc d) zero x e = let q = same_some (r, suc c) x e in (ap (λ (x : ℕ × ℕ). x.0) (sym q), ap (λ (x : ℕ × ℕ). x.1) (sym q) ∙ plus c, omega arith)
  where
    plus : (c : ℕ) → suc c ≡ suc (c + 0)
    plus c = omega arith
stretch_is r c (suc d) (suc i) x e = let q = stretch_is r (suc c) d i x e in (q.0, q.1 ∙ shift c i, let l = q.2 in omega (arith, l))
  where
    shift : (c i : ℕ) → suc (suc c + i) ≡ suc (c + suc i)
    shift c i = omega arith

-- held resources and their stamps
has_among : (hs : List Hold) (x : ℕ × ℕ) → Has (stamps hs) x → among x.0 (resources_of hs) ≡ true
has_among [] x h = absurd h
has_among (h ∷ hs) x (inl e) = ap (λ b. if b then true else among x.0 (resources_of hs)) (same x.0 h.resource (ap (λ (x : ℕ × ℕ). x.0) (sym e)))
  where
    same : (a b : ℕ) → a ≡ b → nat_eq a b ≡ true
    same a b e = grind (arith, e)
has_among (h ∷ hs) x (inr e) = go (nat_eq x.0 h.resource) (has_among hs x e)
  where
    go : (b : Bool) {y : Bool} → y ≡ true → (if b then true else y) ≡ true
    go true e = refl
    go false e = e

abbrev stamp : Hold → ℕ × ℕ
stamp h = (h.resource, h.count)

hold_stamp : (hs : List Hold) (r : ℕ) (h : Hold) → hold_at hs r ≡ Some h → Has (stamps hs) (stamp h)
hold_stamp [] r h e = absurd (grind (arith, e))
hold_stamp (g ∷ hs) r h e = go (nat_eq g.resource r) e (λ e. hold_stamp hs r h e)
  where
    go : (b : Bool) → (if b then Some g else hold_at hs r) ≡ Some h → (hold_at hs r ≡ Some h → Has (stamps hs) (stamp h)) → (stamp g ≡ stamp h) ⊎ Has (stamps hs) (stamp h)
    go true e ih = inl (ap stamp (same_some g h e))
    go false e ih = inr (ih e)

module _ {S D : Type 0} (W : World S D) (P : Program S D) (Reaches : ℕ → ℕ → Type 0) (Good : S → Type 0) (runs : Runs W P Reaches Good) (differs : Differs W P Reaches Good runs) where
  pub record Keeps (m : Machine D) (bs : ℕ → View D) (ts : ℕ → Told) : Type 0 where
    -- each answered take agrees with the state after some number of entries
    pub agrees : (j : ℕ) (x : Taking) → Has (ts j).takes x → (p : ℕ) × (p ≤ length m.entries) × Agrees x.held (W.value (state W m.entries p)) × (W.own (state W m.entries p) j ≡ x.own)
    -- what is held was taken
    pub granted : (j : ℕ) → nat_lt j P.instances ≡ true → (x : ℕ × ℕ) → Has (stamps (bs j).held) x → GrantedIn (ts j).takes x.0
    -- who is named by a refusal took the resource
    pub named : (j r h : ℕ) → Has (ts j).refused (IsHeld r h) → (r ≡ journal → ⊥) × GrantedIn (ts h).takes r
    -- no passed pre-commit is above the count; of a held resource none is above the count at its take
    pub low : (j i : ℕ) (x : ℕ × ℕ) → nth (ts j).passed i ≡ Some x → x.1 ≤ m.counts x.0
    pub held_low : (j : ℕ) → nat_lt j P.instances ≡ true → (x : ℕ × ℕ) → Has (stamps (bs j).held) x → (l i : ℕ) (y : ℕ × ℕ) → nth (ts l).passed i ≡ Some y → y.0 ≡ x.0 → y.1 ≤ x.1
    -- none is passed twice
    pub once : (k l i j : ℕ) (x : ℕ × ℕ) → nth (ts k).passed i ≡ Some x → nth (ts l).passed j ≡ Some x → (k ≡ l) × (i ≡ j)

  module _ (m n : Machine D) (k : ℕ) (ws : ℕ → Worker) (bs cs : ℕ → View D) (ts : ℕ → Told) (core : IsCore W P Reaches Good runs differs m ws bs) (there : nat_lt k P.instances ≡ true)
      (holders : (r h : ℕ) → m.holder r ≡ Some h → nat_lt h P.instances ≡ true) (few : W.is_resource journal ≡ false) (old : Keeps m bs ts)
      (u : Told) (t : TellsMore W P Reaches Good runs differs m k (bs k) (cs k) (ts k) u) (others : (j : ℕ) → (j ≡ k → ⊥) → (cs j).held ≡ (bs j).held)
      (more : List (Entry D)) (grew : n.entries ≡ m.entries ++ more) (rises : (r : ℕ) → m.counts r ≤ n.counts r) where
    abbrev us : ℕ → Told
    us = put k u ts

    us_here : us k ≡ u
    us_here = put_here k u ts

    us_else : (j : ℕ) → (j ≡ k → ⊥) → us j ≡ ts j
    us_else j e = put_else k j u ts e

    -- what a told list has, it had, or k added it
    list_were : {A : Type 0} (f : Told → List A) (added : List A) → f u ≡ f (ts k) ++ added → (j : ℕ) (x : A) → Has (f (us j)) x → Has (f (ts j)) x ⊎ ((j ≡ k) × Has added x)
    list_were {A} f added is j x h = go (same_or j k)
      where
        split : j ≡ k → Has (f (ts k)) x ⊎ Has added x → Has (f (ts j)) x ⊎ ((j ≡ k) × Has added x)
        split e (inl a) = inl (subst (λ j. Has (f (ts j)) x) (sym e) a)
        split e (inr a) = inr (e, a)

        go : (j ≡ k) ⊎ (j ≡ k → ⊥) → Has (f (ts j)) x ⊎ ((j ≡ k) × Has added x)
        go (inl e) = split e (has_append (f (ts k)) added x (subst (λ l. Has l x) (ap (λ j. f (us j)) e ∙ ap f us_here ∙ is) h))
        go (inr e) = inl (subst (λ u. Has (f u) x) (us_else j e) h)

    list_kept : {A : Type 0} (f : Told → List A) (added : List A) → f u ≡ f (ts k) ++ added → (j : ℕ) (x : A) → Has (f (ts j)) x → Has (f (us j)) x
    list_kept f added is j x h = go (same_or j k)
      where
        go : (j ≡ k) ⊎ (j ≡ k → ⊥) → Has (f (us j)) x
        go (inl e) = subst (λ l. Has l x) (sym (ap (λ j. f (us j)) e ∙ ap f us_here ∙ is)) (has_left (f (ts k)) added x (subst (λ j. Has (f (ts j)) x) e h))
        go (inr e) = subst (λ u. Has (f u) x) (sym (us_else j e)) h

    passed_were : (j i : ℕ) (x : ℕ × ℕ) → nth (us j).passed i ≡ Some x → (nth (ts j).passed i ≡ Some x) ⊎ ((j ≡ k) × ((d : ℕ) × (i ≡ length (ts k).passed + d) × (nth t.passed_more d ≡ Some x)))
    passed_were j i x h = go (same_or j k)
      where
        split : j ≡ k → (nth (ts k).passed i ≡ Some x) ⊎ ((d : ℕ) × (i ≡ length (ts k).passed + d) × (nth t.passed_more d ≡ Some x))
            → (nth (ts j).passed i ≡ Some x) ⊎ ((j ≡ k) × ((d : ℕ) × (i ≡ length (ts k).passed + d) × (nth t.passed_more d ≡ Some x)))
        split e (inl a) = inl (ap (λ j. nth (ts j).passed i) e ∙ a)
        split e (inr a) = inr (e, a)

        go : (j ≡ k) ⊎ (j ≡ k → ⊥) → (nth (ts j).passed i ≡ Some x) ⊎ ((j ≡ k) × ((d : ℕ) × (i ≡ length (ts k).passed + d) × (nth t.passed_more d ≡ Some x)))
        go (inl e) = split e (nth_append (ts k).passed t.passed_more i x (sym (ap (λ j. nth (us j).passed i) e ∙ ap (λ (u : Told). nth u.passed i) us_here ∙ ap (λ l. nth l i) t.passed) ∙ h))
        go (inr e) = inl (ap (λ (u : Told). nth u.passed i) (sym (us_else j e)) ∙ h)

    granted_kept : (j r : ℕ) → GrantedIn (ts j).takes r → GrantedIn (us j).takes r
    granted_kept j r g = (g.0, list_kept (λ t. t.takes) t.takes_more t.takes j g.0 g.1, g.2, g.3)

    granted_new : (r : ℕ) → GrantedIn t.takes_more r → GrantedIn (us k).takes r
    granted_new r g = (g.0, subst (λ l. Has l g.0) (sym (ap (λ (u : Told). u.takes) us_here ∙ t.takes)) (behind (ts k).takes t.takes_more g.0 g.1), g.2, g.3)
      where
        behind : (a b : List Taking) (x : Taking) → Has b x → Has (a ++ b) x
        behind [] b x h = h
        behind (y ∷ a) b x h = inr (behind a b x h)

    -- who holds a resource in the machine
    holder_is : (j : ℕ) → nat_lt j P.instances ≡ true → (x : ℕ × ℕ) → Has (stamps (bs j).held) x → m.holder x.0 ≡ Some j
    holder_is j l x h = (core.stands j l).mine x.0 (ap (among x.0) (core.meets j l).taken ∙ has_among (bs j).held x h)

    -- what others hold is no resource that k gives
    not_given : (j : ℕ) → nat_lt j P.instances ≡ true → (j ≡ k → ⊥) → (x : ℕ × ℕ) → Has (stamps (bs j).held) x → (r : ℕ) (g : Hold) → hold_at (bs k).held r ≡ Some g → x.0 ≡ g.resource → ⊥
    not_given j l e x h r g at same = e (same_some j k (sym (holder_is j l x h) ∙ ap m.holder same ∙ holder_is k there (stamp g) (hold_stamp (bs k).held r g at)))

    -- a pair that k adds is of what it gives, above the count at the take
    abbrev AddedBy : ℕ → (ℕ × ℕ) → List (ℕ × ℕ) → Type 0
    AddedBy d x l = (g : GivesBack W P Reaches Good runs differs m (bs k) (cs k) t.takes_more l) × (x.0 ≡ g.hold.resource) × (x.1 ≡ suc (g.hold.count + d)) × (x.1 ≤ m.counts x.0)

    added : (d : ℕ) (x : ℕ × ℕ) → nth t.passed_more d ≡ Some x → AddedBy d x t.passed_more
    added d x h = go t.gives
      where
        bound : (i c a z : ℕ) → z ≡ suc (c + i) → i < a - c → c ≤ a → z ≤ a
        bound i c a z e l f = omega (arith, e, l, f)

        go : (t.passed_more ≡ []) ⊎ GivesBack W P Reaches Good runs differs m (bs k) (cs k) t.takes_more t.passed_more → AddedBy d x t.passed_more
        go (inl e) = absurd (let z : nth [] d ≡ Some x = ap (λ l. nth l d) (sym e) ∙ h in grind (arith, z))
        go (inr g) =
            let q = stretch_is g.hold.resource g.hold.count (g.hold.content.count - g.hold.count) d x (ap (λ l. nth l d) (sym g.passed) ∙ h) in
            let counts : m.counts x.0 ≡ g.hold.content.count = ap m.counts q.0 ∙ g.count in
            (g, q.0, q.1, subst (λ n. x.1 ≤ n) (sym counts) (bound d g.hold.count g.hold.content.count x.1 q.1 q.2 g.risen))

    added_once : (d e : ℕ) (x : ℕ × ℕ) → nth t.passed_more d ≡ Some x → nth t.passed_more e ≡ Some x → d ≡ e
    added_once d e x h f = go t.gives
      where
        apart : (a b c z : ℕ) → z ≡ suc (c + a) → z ≡ suc (c + b) → a ≡ b
        apart a b c z e f = omega (arith, e, f)

        go : (t.passed_more ≡ []) ⊎ GivesBack W P Reaches Good runs differs m (bs k) (cs k) t.takes_more t.passed_more → d ≡ e
        go (inl q) = absurd (let z : nth [] d ≡ Some x = ap (λ l. nth l d) (sym q) ∙ h in grind (arith, z))
        go (inr g) =
            let a = stretch_is g.hold.resource g.hold.count (g.hold.content.count - g.hold.count) d x (ap (λ l. nth l d) (sym g.passed) ∙ h) in
            let b = stretch_is g.hold.resource g.hold.count (g.hold.content.count - g.hold.count) e x (ap (λ l. nth l e) (sym g.passed) ∙ f) in
            apart d e g.hold.count x.1 a.1 b.1

    -- an old pair isn't added
    added_new : (l i d : ℕ) (x : ℕ × ℕ) → nth (ts l).passed i ≡ Some x → nth t.passed_more d ≡ Some x → ⊥
    added_new l i d x h f =
        let a = added d x f in let g = a.0 in
        above x.1 g.hold.count d (old.held_low k there (stamp g.hold) (hold_stamp (bs k).held g.resource g.hold g.is_held) l i x h a.1) a.2
      where
        above : (z c d : ℕ) → z ≤ c → z ≡ suc (c + d) → ⊥
        above z c d l e = omega (arith, l, e)

    grown_state : (p : ℕ) → p ≤ length m.entries → state W n.entries p ≡ state W m.entries p
    grown_state p l = ap (λ es. state W es p) grew ∙ state_below (R W P Reaches Good runs) W.start m.entries more p l

    longer : length m.entries ≤ length n.entries
    longer = subst (λ l. length m.entries ≤ length l) (sym grew) (front m.entries)
      where
        front : (l : List (Entry D)) → length l ≤ length (l ++ more)
        front [] = omega arith
        front (e ∷ l) = let q = front l in omega (arith, q)

    abbrev AgreesAt : ℕ → Taking → Type 0
    AgreesAt j x = (p : ℕ) × (p ≤ length n.entries) × Agrees x.held (W.value (state W n.entries p)) × (W.own (state W n.entries p) j ≡ x.own)

    agrees_at : (j : ℕ) (x : Taking) (p : ℕ) → p ≤ length m.entries → Agrees x.held (W.value (state W m.entries p)) → W.own (state W m.entries p) j ≡ x.own → AgreesAt j x
    agrees_at j x p l a o = (
      p,
      (let q = longer in omega (arith, l, q)),
      subst (λ s. Agrees x.held (W.value s)) (sym (grown_state p l)) a,
      ap (λ s. W.own s j) (grown_state p l) ∙ o,
    )

    agrees_next : (j : ℕ) (x : Taking) → Has (us j).takes x → AgreesAt j x
    agrees_next j x h = go (list_were (λ t. t.takes) t.takes_more t.takes j x h)
      where
        go : Has (ts j).takes x ⊎ ((j ≡ k) × Has t.takes_more x) → AgreesAt j x
        go (inl h) = let q = old.agrees j x h in agrees_at j x q.0 q.1 q.2 q.3
        go (inr h) =
            let q = each_has (λ x. Agrees x.held (W.value (last_state (R W P Reaches Good runs) m)) × (W.own (last_state (R W P Reaches Good runs) m) k ≡ x.own)) t.takes_more x t.agrees h.1 in
            agrees_at j x (length m.entries) (omega arith) q.0 (ap (W.own (last_state (R W P Reaches Good runs) m)) h.0 ∙ q.1)

    stamps_were : (j : ℕ) (x : ℕ × ℕ) → Has (stamps (cs j).held) x → ((j ≡ k) × Has (stamps (cs k).held) x) ⊎ ((j ≡ k → ⊥) × Has (stamps (bs j).held) x)
    stamps_were j x h = go (same_or j k)
      where
        go : (j ≡ k) ⊎ (j ≡ k → ⊥) → ((j ≡ k) × Has (stamps (cs k).held) x) ⊎ ((j ≡ k → ⊥) × Has (stamps (bs j).held) x)
        go (inl e) = inl (e, subst (λ j. Has (stamps (cs j).held) x) e h)
        go (inr e) = inr (e, subst (λ hs. Has (stamps hs) x) (others j e) h)

    granted_next : (j : ℕ) → nat_lt j P.instances ≡ true → (x : ℕ × ℕ) → Has (stamps (cs j).held) x → GrantedIn (us j).takes x.0
    granted_next j l x h = go (stamps_were j x h)
      where
        mine : j ≡ k → Has (stamps (bs k).held) x ⊎ ((x.1 ≡ m.counts x.0) × GrantedIn t.takes_more x.0) → GrantedIn (us j).takes x.0
        mine e (inl h) = subst (λ j. GrantedIn (us j).takes x.0) (sym e) (granted_kept k x.0 (old.granted k there x h))
        mine e (inr q) = subst (λ j. GrantedIn (us j).takes x.0) (sym e) (granted_new x.0 q.1)

        go : ((j ≡ k) × Has (stamps (cs k).held) x) ⊎ ((j ≡ k → ⊥) × Has (stamps (bs j).held) x) → GrantedIn (us j).takes x.0
        go (inl q) = mine q.0 (t.held x q.1)
        go (inr q) = granted_kept j x.0 (old.granted j l x q.1)

    named_next : (j r h : ℕ) → Has (us j).refused (IsHeld r h) → (r ≡ journal → ⊥) × GrantedIn (us h).takes r
    named_next j r h x = go (list_were (λ t. t.refused) t.refused_more t.refused j (IsHeld r h) x)
      where
        held : m.holder r ≡ Some h → (r ≡ journal → ⊥) × GrantedIn (us h).takes r
        held e =
            let l = holders r h e in
            let at = holds.held_there (bs h).held r (ap (among r) (sym (core.meets h l).taken) ∙ (core.stands h l).theirs r e) in
            let named = holds.hold_named (bs h).held r at.0 at.1 in
            let is = (holds.hold_is (Sound W P Reaches Good) (bs h).held r at.0 at.1 (core.meets h l).sound).3 in (
              λ z. (let q : true ≡ false = sym is ∙ ap W.is_resource (named ∙ z) ∙ few in grind (arith, q)),
              granted_kept h r (subst (λ r. GrantedIn (ts h).takes r) named (old.granted h l (stamp at.0) (hold_stamp (bs h).held r at.0 at.1))),
            )

        go : Has (ts j).refused (IsHeld r h) ⊎ ((j ≡ k) × Has t.refused_more (IsHeld r h)) → (r ≡ journal → ⊥) × GrantedIn (us h).takes r
        go (inl x) = let q = old.named j r h x in (q.0, granted_kept h r q.1)
        go (inr x) = held (t.holder r h x.1)

    low_next : (j i : ℕ) (x : ℕ × ℕ) → nth (us j).passed i ≡ Some x → x.1 ≤ n.counts x.0
    low_next j i x h = go (passed_were j i x h)
      where
        on : (a b c : ℕ) → a ≤ b → b ≤ c → a ≤ c
        on a b c l f = omega (arith, l, f)

        go : (nth (ts j).passed i ≡ Some x) ⊎ ((j ≡ k) × ((d : ℕ) × (i ≡ length (ts k).passed + d) × (nth t.passed_more d ≡ Some x))) → x.1 ≤ n.counts x.0
        go (inl h) = on x.1 (m.counts x.0) (n.counts x.0) (old.low j i x h) (rises x.0)
        go (inr h) = on x.1 (m.counts x.0) (n.counts x.0) (added h.1.0 x h.1.2).3 (rises x.0)

    held_low_next : (j : ℕ) → nat_lt j P.instances ≡ true → (x : ℕ × ℕ) → Has (stamps (cs j).held) x → (l i : ℕ) (y : ℕ × ℕ) → nth (us l).passed i ≡ Some y → y.0 ≡ x.0 → y.1 ≤ x.1
    held_low_next j j_there x h l i y p same = go (stamps_were j x h) (passed_were l i y p)
      where
        none : (l : List Taking) (y : Taking) → l ≡ [] → Has l y → ⊥
        none l y e h = subst (λ l. Has l y) e h

        mine : Has (stamps (cs k).held) x → Has (stamps (bs k).held) x ⊎ ((x.1 ≡ m.counts x.0) × GrantedIn t.takes_more x.0)
            → (nth (ts l).passed i ≡ Some y) ⊎ ((l ≡ k) × ((d : ℕ) × (i ≡ length (ts k).passed + d) × (nth t.passed_more d ≡ Some y))) → y.1 ≤ x.1
        mine now (inl h) (inl p) = old.held_low k there x h l i y p same
        mine now (inr q) (inl p) = subst (λ n. y.1 ≤ n) (ap m.counts same ∙ sym q.0) (old.low l i y p)
        mine now (inl h) (inr p) = let a = added p.1.0 y p.1.2 in absurd (a.0.gone x now (sym same ∙ a.1 ∙ holds.hold_named (bs k).held a.0.resource a.0.hold a.0.is_held))
        mine now (inr q) (inr p) = let a = added p.1.0 y p.1.2 in absurd (none t.takes_more q.1.0 a.0.took_none q.1.1)

        go : ((j ≡ k) × Has (stamps (cs k).held) x) ⊎ ((j ≡ k → ⊥) × Has (stamps (bs j).held) x)
            → (nth (ts l).passed i ≡ Some y) ⊎ ((l ≡ k) × ((d : ℕ) × (i ≡ length (ts k).passed + d) × (nth t.passed_more d ≡ Some y))) → y.1 ≤ x.1
        go (inl q) p = mine q.1 (t.held x q.1) p
        go (inr q) (inl p) = old.held_low j j_there x q.1 l i y p same
        go (inr q) (inr p) = let a = added p.1.0 y p.1.2 in absurd (not_given j j_there q.0 x q.1 a.0.resource a.0.hold a.0.is_held (sym same ∙ a.1))

    once_next : (f l i j : ℕ) (x : ℕ × ℕ) → nth (us f).passed i ≡ Some x → nth (us l).passed j ≡ Some x → (f ≡ l) × (i ≡ j)
    once_next f l i j x p q = go (passed_were f i x p) (passed_were l j x q)
      where
        go : (nth (ts f).passed i ≡ Some x) ⊎ ((f ≡ k) × ((d : ℕ) × (i ≡ length (ts k).passed + d) × (nth t.passed_more d ≡ Some x)))
            → (nth (ts l).passed j ≡ Some x) ⊎ ((l ≡ k) × ((d : ℕ) × (j ≡ length (ts k).passed + d) × (nth t.passed_more d ≡ Some x))) → (f ≡ l) × (i ≡ j)
        go (inl p) (inl q) = old.once f l i j x p q
        go (inl p) (inr q) = absurd (added_new f i q.1.0 x p q.1.2)
        go (inr p) (inl q) = absurd (added_new l j p.1.0 x q p.1.2)
        go (inr p) (inr q) = (p.0 ∙ sym q.0, p.1.1 ∙ ap (λ d. length (ts k).passed + d) (added_once p.1.0 q.1.0 x p.1.2 q.1.2) ∙ sym q.1.1)

    pub keeps_next : Keeps n cs us
    keeps_next = record { agrees = agrees_next; granted = granted_next; named = named_next; low = low_next; held_low = held_low_next; once = once_next }
