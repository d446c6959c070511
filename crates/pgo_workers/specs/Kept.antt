-- Each turn keeps what worker and board meet in.
use Rattle.std.proofs.Common.{◌≡◌, ◌≤◌, ℕ, Bool, true, false, List, [], ◌∷◌, ◌++◌, length, Option, Some, None, refl, sym, ap, ◌∙◌, subst, arith, ◌⊎◌, inl, inr, length-append}
use Rattle.std.proofs.lemmas.Option.{same_Some}
use Rattle.std.specs.Prelude.{if◌then◌else◌, nat_eq}
use Rattle.pgo_base.specs.Data.{Data}
use Rattle.pgo_model.specs.Machine.{Entry, Record, among, put, last_ends, nth}
use Rattle.pgo_model.specs.MachineLists.{nth_below, nth_end}
use Rattle.pgo_model.specs.MachineAccounts.{equal_or, append_none}
use Rattle.pgo_workers.specs.Walk.{Own, End, Goes, Walk, Stop, Touch, Again, At, Agrees, Along, Within, visits, visits_from, ending_from, taken_after, among_append, append_assoc, along_start, along_takes, along_operates, agrees_first}
use Rattle.pgo_workers.specs.View.{Shown, Hold, Taking, Told, View, World, Others, OtherNotes, EachHold, Once, Same, Grows, hold_at, resources_of, values_of, nows_of, with_content, own_left, own_seen, Takes, untold, answers}
use Rattle.pgo_workers.specs.Worker.{Program, Phase, is_resting, Resting, Walking, Giving, Worker, with_held, walks_on, attempt, rest_of, readied_of, Goes_on, is_giving, counted}
use Rattle.pgo_workers.specs.Sentences.{refusals, downs, Sub, flat, OthersAt, Shows, Ends, AccountsOfOne, OwnThen, Past, History, Under, Taken, PassedBy, Place, TakenNow, Lists, Sound, Meets, Runs, IsOwn}
use Rattle.pgo_workers.specs.OneAccounts.{own_then_grows, accounts_grow}
use Rattle.pgo_workers.specs.Holds as holds

pub touch_same : (r q : ℕ) (l m : Data → Data) (s t : Data → Walk) → Touch r l s ≡ Touch q m t → r ≡ q
touch_same r q l m s t e = ap (λ w. touched w) e
  where
    touched : Walk → ℕ
    touched (Stop e) = 0
    touched (Touch r l s) = r
    touched (Again w) = 0

pub stop_touch : (e : End) (r : ℕ) (l : Data → Data) (s : Data → Walk) → Stop e ≡ Touch r l s → ⊥
stop_touch e r l s q = let x : true ≡ false = ap (λ w. is_stop w) q in grind (arith, x)
  where
    is_stop : Walk → Bool
    is_stop (Stop e) = true
    is_stop (Touch r l s) = false
    is_stop (Again w) = false

along_at : (w : Walk) (p : List ℕ) (x : Walk) (a b c d : List At) → a ≡ b → c ≡ d → Along w a p x c → Along w b p x d
along_at w p x a b c d e f h = subst (λ c. Along w b p x c) f (subst (λ a. Along w a p x c) e h)

pub nil_append : {A : Type 0} (l : List A) → l ++ [] ≡ l
nil_append l = sym (append_none l)

module _ {S D : Type 0} (W : World S D) (P : Program S D) (Reaches : ℕ → ℕ → Type 0) (Good : S → Type 0) (runs : Runs W P Reaches Good) where
  abbrev pub UnderWay : Worker → View D → Walk → ℕ → Type 0
  UnderWay w b c j = Under W P Reaches Good w b c j

  pub no_holds : (w : Worker) (b : View D) → Meets W P Reaches Good w b → w.taken ≡ [] → b.held ≡ []
  no_holds w b m e = go b.held (sym m.taken ∙ e)
    where
      go : (hs : List Hold) → resources_of hs ≡ [] → hs ≡ []
      go [] e = refl
      go (h ∷ hs) e = absurd (grind (arith, e))

  -- what the board has seen of the instance are its own components
  pub own_seen_is : (b : View D) → IsOwn W b.instance (own_seen W b)
  own_seen_is b = holds.own_left_is W b.instance (W.own W.start b.instance) b.entries (runs.owned_is b.instance) (runs.own_is b.instance W.start)

  pub own_is : (w : Worker) (b : View D) → Meets W P Reaches Good w b → IsOwn W w.number w.own
  own_is w b m = subst (λ k. IsOwn W k w.own) m.instance (subst (IsOwn W b.instance) (sym m.own) (own_seen_is b))

  -- what an attempt that is under way, or that begins, has behind it
  pub under : (w : Worker) (b : View D) → Meets W P Reaches Good w b → Goes_on W P w → UnderWay w b (rest_of W P w w.phase) (readied_of W P w.phase)
  under w b m on = go w.phase refl m.place on.1
    where
      may : (x y z : Bool) → (if x then true else if y then true else z) ≡ false → (x ≡ false) × (y ≡ false) × (z ≡ false)
      may true y z h = absurd (grind (arith, h))
      may false true z h = absurd (grind (arith, h))
      may false false z h = (refl, refl, h)

      go : (p : Phase) → w.phase ≡ p → Place W P Reaches Good w b p → is_giving p ≡ false → UnderWay w b (rest_of W P w p) (readied_of W P p)
      go Resting e place g =
          let none = no_holds w b m place in
          let t : (if P.is_done w.number w.own then true else if last_ends w.records then true else nat_eq (length w.records) P.attempts) ≡ false =
          ap (λ p. if is_resting p then (if P.is_done w.number w.own then true else if last_ends w.records then true else nat_eq (length w.records) P.attempts) else false) (sym e) ∙ on.0 in
          let q = may (P.is_done w.number w.own) (last_ends w.records) (nat_eq (length w.records) P.attempts) t in
          let d = (equal_or (length w.records) P.attempts false q.2).1 refl in let bound = m.accounts.bounded in
          record {
            accesses = [];
            along = subst (λ hs. Along (P.tree w.number (attempt w) w.own) (values_of hs) [] (P.tree w.number (attempt w) w.own) (nows_of hs)) (sym none) (along_start (P.tree w.number (attempt w) w.own));
            holds = inl (ap resources_of (sym none));
            within = runs.within w.number (attempt w) w.own (own_is w b m);
            may = (q.1, omega (arith, d, bound));
            not_done = q.0;
            readied_below = omega arith;
            readied_at = inl refl;
          }
      go (Walking c j) e place g = place
      go Giving e place g = absurd (grind (arith, g))

  -- where what is left isn't an access, what was accessed is what is held
  pub all_taken : (w : Worker) (b : View D) (c : Walk) (j : ℕ) (e : End) → c ≡ Stop e → (u : UnderWay w b c j) → taken_after u.accesses [] ≡ resources_of b.held
  all_taken w b c j e is u = go u.holds
    where
      go : (taken_after u.accesses [] ≡ resources_of b.held) ⊎ ((r : ℕ) × (leave : Data → Data) × (rest : Data → Walk) × (c ≡ Touch r leave rest) × (taken_after u.accesses [] ++ (r ∷ []) ≡ resources_of b.held) × (among r u.accesses ≡ false)) → taken_after u.accesses [] ≡ resources_of b.held
      go (inl h) = h
      go (inr h) = absurd (stop_touch e h.0 h.1 h.2 (sym is ∙ h.3))

  -- a resource that is accessed next and isn't held wasn't accessed
  pub before_take : (w : Worker) (b : View D) (c : Walk) (j r : ℕ) (leave : Data → Data) (rest : Data → Walk) → c ≡ Touch r leave rest → among r (resources_of b.held) ≡ false → (u : UnderWay w b c j) → taken_after u.accesses [] ≡ resources_of b.held
  before_take w b c j r leave rest is new u = go u.holds
    where
      there : (l : List ℕ) (q : ℕ) → among q (l ++ (q ∷ [])) ≡ true
      there l q = among_append q l (q ∷ []) ∙ at (among q l) (let e : nat_eq q q ≡ true = grind arith in e)
        where
          at : (a : Bool) → nat_eq q q ≡ true → (if a then true else (if nat_eq q q then true else false)) ≡ true
          at true e = refl
          at false e = ap (λ b. if b then true else false) e

      go : (taken_after u.accesses [] ≡ resources_of b.held) ⊎ ((q : ℕ) × (leave : Data → Data) × (rest : Data → Walk) × (c ≡ Touch q leave rest) × (taken_after u.accesses [] ++ (q ∷ []) ≡ resources_of b.held) × (among q u.accesses ≡ false)) → taken_after u.accesses [] ≡ resources_of b.held
      go (inl h) = h
      go (inr h) =
          let e : r ≡ h.0 = touch_same r h.0 leave h.1 rest h.2 (sym is ∙ h.3) in
          let x : true ≡ false = sym (there (taken_after u.accesses []) r) ∙ (ap (λ q. among r (taken_after u.accesses [] ++ (q ∷ []))) e ∙ ap (among r) h.4) ∙ new in
          absurd (grind (arith, x))

  -- behind a take
  pub under_took_at : (w : Worker) (b c : View D) (j r : ℕ) (leave : Data → Data) (rest : Data → Walk) (x : Walk) → x ≡ Touch r leave rest → among r (resources_of b.held) ≡ false → Takes W r b c → (u : UnderWay w b x j) → (v : UnderWay (record w { phase = Walking (Touch r leave rest) 0; taken = w.taken ++ (r ∷ []) }) c (Touch r leave rest) 0) × (v.accesses ≡ u.accesses)
  under_took_at w b c j r leave rest x is new t u =
      let own : taken_after u.accesses [] ≡ resources_of b.held = before_take w b x j r leave rest is new u in
      let fresh : among r u.accesses ≡ false = (holds.not_accessed r u.accesses [] (ap (among r) own ∙ new)).0 in
      let h : Hold = record { resource = r; value = t.value; count = t.count; content = record { base = t.value; current = t.value; count = t.count; number = t.number } } in (
        record {
          accesses = u.accesses;
          along = along_at (P.tree w.number (attempt w) w.own) u.accesses (Touch r leave rest) _ _ _ _
              (sym (holds.values_append b.held (h ∷ [])) ∙ ap values_of (sym t.held)) (sym (holds.nows_append b.held (h ∷ [])) ∙ ap nows_of (sym t.held))
              (along_takes (P.tree w.number (attempt w) w.own) (Touch r leave rest) (values_of b.held) (nows_of b.held) u.accesses r t.value fresh (subst (λ x. Along (P.tree w.number (attempt w) w.own) (values_of b.held) u.accesses x (nows_of b.held)) is u.along));
          holds = inr (r, leave, rest, refl, ap (λ l. l ++ (r ∷ [])) own ∙ sym (holds.resources_append b.held (h ∷ [])) ∙ ap resources_of (sym t.held), fresh);
          within = subst (Within (Reaches w.number) (IsOwn W w.number)) is u.within;
          may = u.may;
          not_done = u.not_done;
          readied_below = omega arith;
          readied_at = inl refl;
        },
        refl,
      )

  pub under_took : (w : Worker) (b c : View D) (j r : ℕ) (leave : Data → Data) (rest : Data → Walk) (x : Walk) → x ≡ Touch r leave rest → among r (resources_of b.held) ≡ false → Takes W r b c → UnderWay w b x j
      → UnderWay (record w { phase = Walking (Touch r leave rest) 0; taken = w.taken ++ (r ∷ []) }) c (Touch r leave rest) 0
  under_took w b c j r leave rest x is new t u = (under_took_at w b c j r leave rest x is new t u).0

  -- behind an access
  pub under_operated_at : (w : Worker) (b : View D) (j r : ℕ) (leave : Data → Data) (rest : Data → Walk) (x : Walk) (h : Hold) → x ≡ Touch r leave rest → hold_at b.held r ≡ Some h → Once (resources_of b.held) → (u : UnderWay w b x j) → (v : UnderWay (walks_on (rest h.content.current) 0 w) (with_held (with_content r (record h.content { current = leave h.content.current }) b.held) b) (rest h.content.current) 0) × (v.accesses ≡ u.accesses ++ (r ∷ []))
  under_operated_at w b j r leave rest x h is at once u =
      let new : Shown = record h.content { current = leave h.content.current } in (
        record {
          accesses = u.accesses ++ (r ∷ []);
          along = along_at (P.tree w.number (attempt w) w.own) (u.accesses ++ (r ∷ [])) (rest h.content.current) _ _ _ _ (sym (holds.values_with r new b.held)) (sym (holds.nows_with r new b.held once))
              (along_operates (P.tree w.number (attempt w) w.own) (values_of b.held) (nows_of b.held) u.accesses r h.content.current leave rest (λ g a. holds.now_at b.held g r h at a)
              (subst (λ x. Along (P.tree w.number (attempt w) w.own) (values_of b.held) u.accesses x (nows_of b.held)) is u.along));
          holds = inl (holds.taken_append u.accesses (r ∷ []) [] ∙ go u.holds ∙ sym (holds.resources_with r new b.held));
          within = (subst (Within (Reaches w.number) (IsOwn W w.number)) is u.within).1 h.content.current;
          may = u.may;
          not_done = u.not_done;
          readied_below = omega arith;
          readied_at = inl refl;
        },
        refl,
      )
    where
      held : among r (resources_of b.held) ≡ true
      held = holds.hold_among b.held r h at

      not_here : (b : Bool) (l : List ℕ) → b ≡ false → (if b then l else l ++ (r ∷ [])) ≡ l ++ (r ∷ [])
      not_here true l e = absurd (grind (arith, e))
      not_here false l e = refl

      unseen : (p : List ℕ) → among r p ≡ false → among r (taken_after p []) ≡ false
      unseen p n = by_case (among r (taken_after p [])) refl
        where
          by_case : (b : Bool) → among r (taken_after p []) ≡ b → b ≡ false
          by_case true e = let y : true ≡ false = sym (holds.accessed r p [] e (λ z. let q : true ≡ false = sym z in absurd (grind (arith, q)))) ∙ n in absurd (grind (arith, y))
          by_case false e = refl

      go : (taken_after u.accesses [] ≡ resources_of b.held) ⊎ ((q : ℕ) × (leave : Data → Data) × (rest : Data → Walk) × (x ≡ Touch q leave rest) × (taken_after u.accesses [] ++ (q ∷ []) ≡ resources_of b.held) × (among q u.accesses ≡ false))
          → taken_after (r ∷ []) (taken_after u.accesses []) ≡ resources_of b.held
      go (inl e) = ap (λ b. if b then taken_after u.accesses [] else taken_after u.accesses [] ++ (r ∷ [])) (ap (among r) e ∙ held) ∙ e
      go (inr q) =
          let e : r ≡ q.0 = touch_same r q.0 leave q.1 rest q.2 (sym is ∙ q.3) in
          not_here (among r (taken_after u.accesses [])) (taken_after u.accesses []) (unseen u.accesses (ap (λ i. among i u.accesses) e ∙ q.5)) ∙ ap (λ i. taken_after u.accesses [] ++ (i ∷ [])) e ∙ q.4

  pub under_operated : (w : Worker) (b : View D) (j r : ℕ) (leave : Data → Data) (rest : Data → Walk) (x : Walk) (h : Hold) → x ≡ Touch r leave rest → hold_at b.held r ≡ Some h → Once (resources_of b.held) → UnderWay w b x j
      → UnderWay (walks_on (rest h.content.current) 0 w) (with_held (with_content r (record h.content { current = leave h.content.current }) b.held) b) (rest h.content.current) 0
  under_operated w b j r leave rest x h is at once u = (under_operated_at w b j r leave rest x h is at once u).0

  -- behind a pre-commit
  pub under_readied_at : (w : Worker) (b : View D) (j i r : ℕ) (x : Walk) (h : Hold) → i ≤ length w.taken → (i ≡ 0) ⊎ ((o : Own) × (ps : List Data) × (x ≡ Stop (Goes o ps))) → hold_at b.held r ≡ Some h → Once (resources_of b.held) → (u : UnderWay w b x j) → (v : UnderWay (walks_on x i w) (with_held (with_content r (counted h.content) b.held) b) x i) × (v.accesses ≡ u.accesses)
  under_readied_at w b j i r x h below at_end at once u = (
    record {
      accesses = u.accesses;
      along = along_at (P.tree w.number (attempt w) w.own) u.accesses x _ _ _ _ (sym (holds.values_with r (counted h.content) b.held)) (sym (holds.nows_counted r h b.held at)) u.along;
      holds = go u.holds;
      within = u.within;
      may = u.may;
      not_done = u.not_done;
      readied_below = below;
      readied_at = at_end;
    },
    refl,
  )
    where
      res : resources_of (with_content r (counted h.content) b.held) ≡ resources_of b.held
      res = holds.resources_with r (counted h.content) b.held

      go : (taken_after u.accesses [] ≡ resources_of b.held) ⊎ ((q : ℕ) × (leave : Data → Data) × (rest : Data → Walk) × (x ≡ Touch q leave rest) × (taken_after u.accesses [] ++ (q ∷ []) ≡ resources_of b.held) × (among q u.accesses ≡ false))
          → (taken_after u.accesses [] ≡ resources_of (with_content r (counted h.content) b.held)) ⊎ ((q : ℕ) × (leave : Data → Data) × (rest : Data → Walk) × (x ≡ Touch q leave rest) × (taken_after u.accesses [] ++ (q ∷ []) ≡ resources_of (with_content r (counted h.content) b.held)) × (among q u.accesses ≡ false))
      go (inl e) = inl (e ∙ sym res)
      go (inr q) = inr (q.0, q.1, q.2, q.3, q.4 ∙ sym res, q.5)

  pub under_readied : (w : Worker) (b : View D) (j i r : ℕ) (x : Walk) (h : Hold) → i ≤ length w.taken → (i ≡ 0) ⊎ ((o : Own) × (ps : List Data) × (x ≡ Stop (Goes o ps))) → hold_at b.held r ≡ Some h → Once (resources_of b.held) → UnderWay w b x j
      → UnderWay (walks_on x i w) (with_held (with_content r (counted h.content) b.held) b) x i
  under_readied w b j i r x h below at_end at once u = (under_readied_at w b j i r x h below at_end at once u).0

  -- the lists of an attempt that is under way, or that begins
  pub record Running (w : Worker) (b : View D) (t : Told) : Type 0 where
    pub not_done : P.is_done w.number w.own ≡ false
    pub refused : refusals w.records ≡ t.refused
    pub passed : Sub (downs w.records) t.passed
    pub now : List Taking
    pub history : w.dropped ≡ false → History W P Reaches Good w.number b.entries w.records t.takes now
    pub taken : w.dropped ≡ false → Taken W P Reaches Good w b now

  pub running : (w : Worker) (b : View D) (t : Told) → Meets W P Reaches Good w b → Goes_on W P w → b.told ≡ Some t → Running w b t
  running w b t m on told = go w.phase refl l.passed l.taken_now on.1 m.place
    where
      l : Lists W P Reaches Good w b t
      l = m.lists t told

      go : (p : Phase) → w.phase ≡ p → PassedBy W P Reaches Good p w.records b.held t.passed → (w.dropped ≡ false → TakenNow W P Reaches Good w b p l.now) → is_giving p ≡ false → Place W P Reaches Good w b p → Running w b t
      go Resting e passed now g place =
          let none = no_holds w b m place in
          record {
            not_done = (under w b m on).not_done;
            refused = l.refused;
            passed = passed;
            now = l.now;
            history = l.history;
            taken = λ d. subst (Taken W P Reaches Good w b) (sym (now d)) (record { members = tt; granted_is = ap resources_of (sym none); last_held = ap values_of (sym none) });
          }
      go (Walking c j) e passed now g place = record { not_done = (under w b m on).not_done; refused = l.refused; passed = passed; now = l.now; history = l.history; taken = now }
      go Giving e passed now g place = absurd (grind (arith, g))

  pub own_grows : (b c : View D) → Same b c → Grows W b c → own_seen W c ≡ own_seen W b
  own_grows b c s g =
      (λ i. own_left W (s.instance i) (W.own W.start (s.instance i)) (g.entries i)) ∙ holds.own_left_append W b.instance (W.own W.start b.instance) b.entries g.entries_more
      ∙ holds.own_left_others W b.instance (own_left W b.instance (W.own W.start b.instance) b.entries) g.entries_more g.others

  -- what was claimed of a journal, of one that goes on from it by others
  pub accounts_seen : (w : Worker) (b c : View D) → b.instance ≡ w.number → Grows W b c → length c.entries ≤ P.steps → AccountsOfOne W P Reaches Good w.number b.entries b.notes w.records → AccountsOfOne W P Reaches Good w.number c.entries c.notes w.records
  accounts_seen w b c is g room a =
      subst (λ es. AccountsOfOne W P Reaches Good w.number es c.notes w.records) (sym g.entries)
      (subst (λ ns. AccountsOfOne W P Reaches Good w.number (b.entries ++ g.entries_more) ns w.records) (sym g.notes)
      (accounts_grow W P Reaches Good w.number b.entries g.entries_more b.notes g.notes_more w.records (subst (λ es. length es ≤ P.steps) g.entries room) (subst (λ k. Others k g.entries_more) is g.others) (subst (λ k. OtherNotes k g.notes_more) is g.other_notes) a))

  pub own_then_seen : (w : Worker) (b c : View D) → Grows W b c → OwnThen W Good w.number b.entries w.own → OwnThen W Good w.number c.entries w.own
  own_then_seen w b c g t = subst (λ es. OwnThen W Good w.number es w.own) (sym g.entries) (own_then_grows W Good w.number b.entries g.entries_more w.own t)

  pub past_grows : (k : ℕ) (es more : List (Entry D)) (i : ℕ) (x : Record) (ms : List Taking) → Past W P Reaches Good k es i x ms → Past W P Reaches Good k (es ++ more) i x ms
  past_grows k es more i x ms p = record { own = p.own; then_own = own_then_grows W Good k es more p.own p.then_own; not_done = p.not_done; members = p.members; closes = p.closes }

  pub history_grows : (k : ℕ) (es more : List (Entry D)) (xs : List Record) (ts now : List Taking) → History W P Reaches Good k es xs ts now → History W P Reaches Good k (es ++ more) xs ts now
  history_grows k es more xs ts now h = record { attempts = h.attempts; takes = h.takes; as_many = h.as_many; past = λ i x ms a b. past_grows k es more i x ms (h.past i x ms a b) }

  -- one answered take more
  pub history_takes : (k : ℕ) (es : List (Entry D)) (xs : List Record) (ts now : List Taking) (m : Taking) → History W P Reaches Good k es xs ts now → History W P Reaches Good k es xs (ts ++ (m ∷ [])) (now ++ (m ∷ []))
  history_takes k es xs ts now m h = record {
    attempts = h.attempts;
    takes = ap (λ l. l ++ (m ∷ [])) h.takes ∙ append_assoc (flat h.attempts) now (m ∷ []);
    as_many = h.as_many;
    past = h.past;
  }

  -- the attempt is recorded
  pub history_ends : (k : ℕ) (es : List (Entry D)) (xs : List Record) (x : Record) (ts now : List Taking) → Past W P Reaches Good k es (length xs) x now → History W P Reaches Good k es xs ts now → History W P Reaches Good k es (xs ++ (x ∷ [])) ts []
  history_ends k es xs x ts now p h = record {
    attempts = h.attempts ++ (now ∷ []);
    takes = h.takes ∙ sym (holds.flat_append h.attempts now) ∙ append_none (flat (h.attempts ++ (now ∷ [])));
    as_many = len;
    past = λ i y ms a b. go i y ms (nth_end xs x i y a) b;
  }
    where
      len : length (h.attempts ++ (now ∷ [])) ≡ length (xs ++ (x ∷ []))
      len = let a = length-append h.attempts (now ∷ []) in let b = length-append xs (x ∷ []) in let c = h.as_many in omega (arith, a, b, c)

      go : (i : ℕ) (y : Record) (ms : List Taking) → (nth xs i ≡ Some y) ⊎ ((i ≡ length xs) × (x ≡ y)) → nth (h.attempts ++ (now ∷ [])) i ≡ Some ms → Past W P Reaches Good k es i y ms
      go i y ms (inl a) b = old (nth_end h.attempts now i ms b)
        where
          old : (nth h.attempts i ≡ Some ms) ⊎ ((i ≡ length h.attempts) × (now ≡ ms)) → Past W P Reaches Good k es i y ms
          old (inl c) = h.past i y ms a c
          old (inr c) = let z = nth_below xs i y a in let e = c.0 in let l = h.as_many in absurd (omega (arith, z, e, l))
      go i y ms (inr a) b = new (nth_end h.attempts now i ms b)
        where
          new : (nth h.attempts i ≡ Some ms) ⊎ ((i ≡ length h.attempts) × (now ≡ ms)) → Past W P Reaches Good k es i y ms
          new (inl c) = let z = nth_below h.attempts i ms c in let e = a.0 in let l = h.as_many in absurd (omega (arith, z, e, l))
          new (inr c) = subst (λ i. Past W P Reaches Good k es i y ms) (sym a.0) (subst (λ y. Past W P Reaches Good k es (length xs) y ms) a.1 (subst (λ ms. Past W P Reaches Good k es (length xs) x ms) c.1 p))

  -- what an answered take shows
  pub shows : (w : Worker) (b : View D) (j r : ℕ) (leave : Data → Data) (rest : Data → Walk) (x : Walk) (m : Taking) → x ≡ Touch r leave rest → among r (resources_of b.held) ≡ false → UnderWay w b x j
      → m.resource ≡ r → OthersAt m (resources_of b.held) → ((f : ℕ → Data) → Agrees m.held f → Agrees (values_of b.held) f) → Shows (P.tree w.number (attempt w) w.own) m
  shows w b j r leave rest x m is new u named others agrees = (
    resources_of b.held,
    others,
    λ f a.
        let q = u.along f (agrees f a) in
        (u.accesses, visits_from f (rest (q.0 r)) (put r (leave (q.0 r)) q.0), q.1.trace ∙ ap (λ w. u.accesses ++ visits_from f w q.0) is ∙ ap (λ i. u.accesses ++ (i ∷ visits_from f (rest (q.0 r)) (put r (leave (q.0 r)) q.0))) (sym named), before_take w b x j r leave rest is new u),
  )

  -- where the code has ended, on all values that agree
  pub ends_so : (w : Worker) (b : View D) (j : ℕ) (o : Own) (ps : List Data) (x : Walk) → x ≡ Stop (Goes o ps) → UnderWay w b x j → Ends (P.tree w.number (attempt w) w.own) (values_of b.held)
  ends_so w b j o ps x is u f a = let q = u.along f a in (o, ps, q.1.ends ∙ ap (λ w. ending_from f w q.0) is)

  -- what is held was accessed, on all values that agree
  pub reached : (w : Worker) (b : View D) (j : ℕ) (e : End) (x : Walk) (r : ℕ) → x ≡ Stop e → UnderWay w b x j → among r (resources_of b.held) ≡ true → (f : ℕ → Data) → Agrees (values_of b.held) f → among r (visits (P.tree w.number (attempt w) w.own) f) ≡ true
  reached w b j e x r is u there f a =
      let q = u.along f a in
      ap (among r) (q.1.trace ∙ ap (λ w. u.accesses ++ visits_from f w q.0) is ∙ nil_append u.accesses)
      ∙ holds.accessed r u.accesses [] (ap (among r) (all_taken w b x j e is u) ∙ there) (λ z. let y : true ≡ false = sym z in absurd (grind (arith, y)))

  -- the resource that is accessed next is one that the instance reaches
  pub reached_by : (w : Worker) (b : View D) (j r : ℕ) (leave : Data → Data) (rest : Data → Walk) (x : Walk) → x ≡ Touch r leave rest → UnderWay w b x j → Reaches w.number r
  reached_by w b j r leave rest x is u = (subst (Within (Reaches w.number) (IsOwn W w.number)) is u.within).0

  -- what the code leaves of the own components are own components
  pub left_is : (w : Worker) (b : View D) (j : ℕ) (o : Own) (ps : List Data) (x : Walk) → x ≡ Stop (Goes o ps) → UnderWay w b x j → IsOwn W w.number o
  left_is w b j o ps x is u = subst (Within (Reaches w.number) (IsOwn W w.number)) is u.within

  pub took : (w : Worker) (b c : View D) (on : Goes_on W P w) (r : ℕ) (leave : Data → Data) (rest : Data → Walk) → rest_of W P w w.phase ≡ Touch r leave rest → among r w.taken ≡ false → Takes W r b c
      → length c.entries ≤ c.steps → Meets W P Reaches Good w b → Meets W P Reaches Good (record w { phase = Walking (Touch r leave rest) 0; taken = w.taken ++ (r ∷ []) }) c
  took w b c on r leave rest is new t room m =
      let fresh : among r (resources_of b.held) ≡ false = ap (among r) (sym m.taken) ∙ new in
      let u = under w b m on in
      let own : own_seen W c ≡ own_seen W b = own_grows b c t.same t.grows in
      let h : Hold = record { resource = r; value = t.value; count = t.count; content = record { base = t.value; current = t.value; count = t.count; number = t.number } } in
      let res : resources_of c.held ≡ resources_of b.held ++ (r ∷ []) = ap resources_of t.held ∙ holds.resources_append b.held (h ∷ []) in
      let steps = t.same.steps in let steps_b = m.steps in
      record {
        number = m.number;
        instance = t.same.instance ∙ m.instance;
        steps = steps ∙ steps_b;
        share = subst (λ n. P.attempts ≤ n) (sym t.same.share) m.share;
        taken = ap (λ l. l ++ (r ∷ [])) m.taken ∙ sym res;
        once = holds.once_append w.taken r m.once new;
        sound = subst (EachHold (Sound W P Reaches Good)) (sym t.held) (holds.each_append (Sound W P Reaches Good) b.held (h ∷ []) m.sound ((refl, omega arith, t.numbered, runs.reaches w.number r (reached_by w b (readied_of W P w.phase) r leave rest (rest_of W P w w.phase) is u)), tt));
        own = m.own ∙ sym own;
        own_then = own_then_seen w b c t.grows m.own_then;
        accounts = accounts_seen w b c m.instance t.grows (subst (λ n. length c.entries ≤ n) (steps ∙ steps_b) room) m.accounts;
        place = under_took w b c (readied_of W P w.phase) r leave rest (rest_of W P w w.phase) is fresh t u;
        lists = λ s told. lists s (sym t.told ∙ told) u fresh own res;
      }
    where
      take : Taking
      take = record { resource = r; refusal = None; held = values_of c.held; own = own_seen W c }

      lists : (s : Told) → untold b.told (answers take) ≡ Some s → UnderWay w b (rest_of W P w w.phase) (readied_of W P w.phase) → among r (resources_of b.held) ≡ false → own_seen W c ≡ own_seen W b → resources_of c.held ≡ resources_of b.held ++ (r ∷ [])
          → Lists W P Reaches Good (record w { phase = Walking (Touch r leave rest) 0; taken = w.taken ++ (r ∷ []) }) c s
      lists s e u fresh own res = go b.told refl e
        where
          shown : Shows (P.tree w.number (attempt w) w.own) take
          shown = shows w b (readied_of W P w.phase) r leave rest (rest_of W P w w.phase) take is fresh u refl (holds.places_values c.held ∙ res, fresh)
              (λ f a. agrees_first (values_of b.held) _ f (subst (λ l. Agrees l f) (ap values_of t.held ∙ holds.values_append b.held _) a))

          go : (o : Option Told) → b.told ≡ o → untold o (answers take) ≡ Some s → Lists W P Reaches Good (record w { phase = Walking (Touch r leave rest) 0; taken = w.taken ++ (r ∷ []) }) c s
          go None told e = absurd (grind (arith, e))
          go (Some l) told e =
              let q = running w b l m on told in
              subst (Lists W P Reaches Good (record w { phase = Walking (Touch r leave rest) 0; taken = w.taken ++ (r ∷ []) }) c) (same_Some (answers take l) s e) (record {
                refused = q.refused;
                passed = q.passed;
                now = q.now ++ (take ∷ []);
                history = λ d. subst (λ es. History W P Reaches Good w.number es w.records (l.takes ++ (take ∷ [])) (q.now ++ (take ∷ []))) (sym t.grows.entries)
                    (history_grows w.number b.entries t.grows.entries_more w.records (l.takes ++ (take ∷ [])) (q.now ++ (take ∷ [])) (history_takes w.number b.entries w.records l.takes q.now take (q.history d)));
                taken_now = λ d. record {
                  members = holds.each_taking_append (λ m. (m.own ≡ w.own) × Shows (P.tree w.number (attempt w) w.own) m) q.now (take ∷ []) (q.taken d).members ((own ∙ sym m.own, shown), tt);
                  granted_is = holds.granted_append q.now (take ∷ []) ∙ ap (λ l. l ++ (r ∷ [])) (q.taken d).granted_is ∙ sym res;
                  last_held = holds.held_last_append q.now take;
                };
              })
