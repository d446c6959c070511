-- Lists of held resources, and of accesses.
use Rattle.std.proofs.Common.{◌≡◌, ◌≤◌, ◌<◌, ℕ, zero, suc, ◌+◌, ◌-◌, Bool, true, false, List, [], ◌∷◌, ◌++◌, map, Option, Some, None, refl, sym, ap, ◌∙◌, subst, arith, ◌⊎◌, inl, inr}
use Rattle.std.proofs.lemmas.Option.{same_Some}
use Rattle.std.specs.Prelude.{if◌then◌else◌, nat_eq, nat_lt}
use Rattle.pgo_base.specs.Data.{Data}
use Rattle.pgo_model.specs.Machine.{Entry, Record, Step, Noted, Held, Down, Full, among, nth}
use Rattle.pgo_model.specs.MachineAccounts.{equal_or}
use Rattle.pgo_workers.specs.Walk.{Own, At, Agrees, replaced, taken_after, among_append, append_assoc}
use Rattle.pgo_workers.specs.View.{Shown, raised, Hold, Taking, IsHeld, IsFull, World, hold_at, resources_of, values_of, nows_of, with_content, aborted, committed, EachHold, IsSteady, stretch, passing, Others, Once, changed, places, renewed, own_left}
use Rattle.pgo_workers.specs.Worker.{changes_of}
use Rattle.pgo_workers.specs.Sentences.{refusals, downs, Sub, SNone, SHere, SOver, flat, last_of, granted, held_last, EachTaking, changes_at, IsOwn}

-- appended
pub resources_append : (a b : List Hold) → resources_of (a ++ b) ≡ resources_of a ++ resources_of b
resources_append [] b = refl
resources_append (h ∷ a) b = ap (λ l. h.resource ∷ l) (resources_append a b)

pub values_append : (a b : List Hold) → values_of (a ++ b) ≡ values_of a ++ values_of b
values_append [] b = refl
values_append (h ∷ a) b = ap (λ l. (h.resource, h.value) ∷ l) (values_append a b)

pub nows_append : (a b : List Hold) → nows_of (a ++ b) ≡ nows_of a ++ nows_of b
nows_append [] b = refl
nows_append (h ∷ a) b = ap (λ l. (h.resource, h.content.current) ∷ l) (nows_append a b)

pub places_values : (hs : List Hold) → places (values_of hs) ≡ resources_of hs
places_values [] = refl
places_values (h ∷ hs) = ap (λ l. h.resource ∷ l) (places_values hs)

pub each_append : (Q : Hold → Type 0) (a b : List Hold) → EachHold Q a → EachHold Q b → EachHold Q (a ++ b)
each_append Q [] b h k = k
each_append Q (x ∷ a) b h k = (h.0, each_append Q a b h.1 k)

pub each_map : (Q T : Hold → Type 0) (hs : List Hold) → ((h : Hold) → Q h → T h) → EachHold Q hs → EachHold T hs
each_map Q T [] f e = tt
each_map Q T (h ∷ hs) f e = (f h e.0, each_map Q T hs f e.1)

pub each_both : (Q T : Hold → Type 0) (hs : List Hold) → EachHold Q hs → EachHold T hs → EachHold (λ h. Q h × T h) hs
each_both Q T [] d e = tt
each_both Q T (h ∷ hs) d e = ((d.0, e.0), each_both Q T hs d.1 e.1)

-- with another content
pub resources_with : (r : ℕ) (c : Shown) (hs : List Hold) → resources_of (with_content r c hs) ≡ resources_of hs
resources_with r c [] = refl
resources_with r c (h ∷ hs) = go (nat_eq h.resource r) (resources_with r c hs)
  where
    go : (b : Bool) → resources_of (with_content r c hs) ≡ resources_of hs → resources_of (if b then record h { content = c } ∷ hs else h ∷ with_content r c hs) ≡ h.resource ∷ resources_of hs
    go true e = refl
    go false e = ap (λ l. h.resource ∷ l) e

pub values_with : (r : ℕ) (c : Shown) (hs : List Hold) → values_of (with_content r c hs) ≡ values_of hs
values_with r c [] = refl
values_with r c (h ∷ hs) = go (nat_eq h.resource r) (values_with r c hs)
  where
    go : (b : Bool) → values_of (with_content r c hs) ≡ values_of hs → values_of (if b then record h { content = c } ∷ hs else h ∷ with_content r c hs) ≡ (h.resource, h.value) ∷ values_of hs
    go true e = refl
    go false e = ap (λ l. (h.resource, h.value) ∷ l) e

replaced_else : (r : ℕ) (x : Data) (hs : List Hold) → among r (resources_of hs) ≡ false → replaced r x (nows_of hs) ≡ nows_of hs
replaced_else r x [] n = refl
replaced_else r x (h ∷ hs) n = go (nat_eq r h.resource) refl n (λ m. replaced_else r x hs m)
  where
    go : (b : Bool) → nat_eq r h.resource ≡ b → (if b then true else among r (resources_of hs)) ≡ false → (among r (resources_of hs) ≡ false → replaced r x (nows_of hs) ≡ nows_of hs)
        → ((h.resource, if nat_eq h.resource r then x else h.content.current) ∷ replaced r x (nows_of hs)) ≡ ((h.resource, h.content.current) ∷ nows_of hs)
    go true e m ih = absurd (grind (arith, m))
    go false e m ih = let q : nat_eq h.resource r ≡ false = grind (arith, e) in (λ i. (h.resource, if q i then x else h.content.current) ∷ ih m i)

pub nows_with : (r : ℕ) (c : Shown) (hs : List Hold) → Once (resources_of hs) → nows_of (with_content r c hs) ≡ replaced r c.current (nows_of hs)
nows_with r c [] o = refl
nows_with r c (h ∷ hs) o = go (nat_eq h.resource r) refl (nows_with r c hs o.1)
  where
    go : (b : Bool) → nat_eq h.resource r ≡ b → nows_of (with_content r c hs) ≡ replaced r c.current (nows_of hs)
        → nows_of (if b then record h { content = c } ∷ hs else h ∷ with_content r c hs) ≡ ((h.resource, if b then c.current else h.content.current) ∷ replaced r c.current (nows_of hs))
    go true e ih = ap (λ l. (h.resource, c.current) ∷ l) (sym (replaced_else r c.current hs (subst (λ r. among r (resources_of hs) ≡ false) ((equal_or h.resource r true e).0 refl) o.0)))
    go false e ih = ap (λ l. (h.resource, h.content.current) ∷ l) ih

pub each_with : (Q : Hold → Type 0) (r : ℕ) (c : Shown) (hs : List Hold) (h : Hold) → hold_at hs r ≡ Some h → Q (record h { content = c }) → EachHold Q hs → EachHold Q (with_content r c hs)
each_with Q r c [] h e q a = tt
each_with Q r c (x ∷ hs) h e q a = go (nat_eq x.resource r) e (λ e. each_with Q r c hs h e q a.1)
  where
    go : (b : Bool) → (if b then Some x else hold_at hs r) ≡ Some h → (hold_at hs r ≡ Some h → EachHold Q (with_content r c hs)) → EachHold Q (if b then record x { content = c } ∷ hs else x ∷ with_content r c hs)
    go true e ih = (subst (λ (x : Hold). Q (record x { content = c })) (sym (same_Some x h e)) q, a.1)
    go false e ih = (a.0, ih e)

pub hold_is : (Q : Hold → Type 0) (hs : List Hold) (r : ℕ) (h : Hold) → hold_at hs r ≡ Some h → EachHold Q hs → Q h
hold_is Q [] r h e a = absurd (grind (arith, e))
hold_is Q (x ∷ hs) r h e a = go (nat_eq x.resource r) e (λ e. hold_is Q hs r h e a.1)
  where
    go : (b : Bool) → (if b then Some x else hold_at hs r) ≡ Some h → (hold_at hs r ≡ Some h → Q h) → Q h
    go true e ih = subst Q (same_Some x h e) a.0
    go false e ih = ih e

pub hold_named : (hs : List Hold) (r : ℕ) (h : Hold) → hold_at hs r ≡ Some h → h.resource ≡ r
hold_named [] r h e = absurd (grind (arith, e))
hold_named (x ∷ hs) r h e = go (nat_eq x.resource r) refl e (λ e. hold_named hs r h e)
  where
    go : (b : Bool) → nat_eq x.resource r ≡ b → (if b then Some x else hold_at hs r) ≡ Some h → (hold_at hs r ≡ Some h → h.resource ≡ r) → h.resource ≡ r
    go true q e ih = subst (λ (x : Hold). x.resource ≡ r) (same_Some x h e) ((equal_or x.resource r true q).0 refl)
    go false q e ih = ih e

pub hold_among : (hs : List Hold) (r : ℕ) (h : Hold) → hold_at hs r ≡ Some h → among r (resources_of hs) ≡ true
hold_among [] r h e = absurd (grind (arith, e))
hold_among (x ∷ hs) r h e = go (nat_eq x.resource r) refl e (λ e. hold_among hs r h e)
  where
    go : (b : Bool) → nat_eq x.resource r ≡ b → (if b then Some x else hold_at hs r) ≡ Some h → (hold_at hs r ≡ Some h → among r (resources_of hs) ≡ true) → (if nat_eq r x.resource then true else among r (resources_of hs)) ≡ true
    go true q e ih = let t : nat_eq r x.resource ≡ true = grind (arith, q) in ap (λ b. if b then true else among r (resources_of hs)) t
    go false q e ih = let t : nat_eq r x.resource ≡ false = grind (arith, q) in ap (λ b. if b then true else among r (resources_of hs)) t ∙ ih e

pub held_there : (hs : List Hold) (r : ℕ) → among r (resources_of hs) ≡ true → (h : Hold) × (hold_at hs r ≡ Some h)
held_there [] r e = absurd (grind (arith, e))
held_there (x ∷ hs) r e = go (nat_eq r x.resource) refl e (λ e. held_there hs r e)
  where
    go : (b : Bool) → nat_eq r x.resource ≡ b → (if b then true else among r (resources_of hs)) ≡ true → (among r (resources_of hs) ≡ true → (h : Hold) × (hold_at hs r ≡ Some h)) → (h : Hold) × ((if nat_eq x.resource r then Some x else hold_at hs r) ≡ Some h)
    go true q e ih = let t : nat_eq x.resource r ≡ true = grind (arith, q) in (x, ap (λ b. if b then Some x else hold_at hs r) t)
    go false q e ih = let t : nat_eq x.resource r ≡ false = grind (arith, q) in let i = ih e in (i.0, ap (λ b. if b then Some x else hold_at hs r) t ∙ i.1)

-- what is held now, where all agree with it
pub now_at : (hs : List Hold) (g : ℕ → Data) (r : ℕ) (h : Hold) → hold_at hs r ≡ Some h → Agrees (nows_of hs) g → g r ≡ h.content.current
now_at [] g r h e a = absurd (grind (arith, e))
now_at (x ∷ hs) g r h e a = go (nat_eq x.resource r) refl e (λ e. now_at hs g r h e a.1)
  where
    go : (b : Bool) → nat_eq x.resource r ≡ b → (if b then Some x else hold_at hs r) ≡ Some h → (hold_at hs r ≡ Some h → g r ≡ h.content.current) → g r ≡ h.content.current
    go true q e ih = ap g (sym ((equal_or x.resource r true q).0 refl)) ∙ a.0 ∙ ap (λ (h : Hold). h.content.current) (same_Some x h e)
    go false q e ih = ih e

-- aborted, committed, renewed
pub resources_aborted : (hs : List Hold) → resources_of (aborted hs) ≡ resources_of hs
resources_aborted [] = refl
resources_aborted (h ∷ hs) = ap (λ l. h.resource ∷ l) (resources_aborted hs)

pub values_aborted : (hs : List Hold) → values_of (aborted hs) ≡ values_of hs
values_aborted [] = refl
values_aborted (h ∷ hs) = ap (λ l. (h.resource, h.value) ∷ l) (values_aborted hs)

pub resources_committed : (cs : List At) (hs : List Hold) → resources_of (committed (renewed cs hs)) ≡ resources_of hs
resources_committed cs [] = refl
resources_committed cs (h ∷ hs) = ap (λ l. h.resource ∷ l) (resources_committed cs hs)

pub each_aborted : (Q T : Hold → Type 0) (hs : List Hold) → ((h : Hold) → Q h → T (record h { content = record h.content { current = h.content.base } })) → EachHold Q hs → EachHold T (aborted hs)
each_aborted Q T [] f e = tt
each_aborted Q T (h ∷ hs) f e = (f h e.0, each_aborted Q T hs f e.1)

pub each_committed : (Q T : Hold → Type 0) (cs : List At) (hs : List Hold) → ((h : Hold) → Q h → T (record h { value = changed cs h.resource h.value; content = record h.content { base = h.content.current } })) → EachHold Q hs → EachHold T (committed (renewed cs hs))
each_committed Q T cs [] f e = tt
each_committed Q T cs (h ∷ hs) f e = (f h e.0, each_committed Q T cs hs f e.1)

-- the pair that was refused is still to be passed
sub_one : {A : Type 0} (x : A) (ys zs : List A) → Sub (x ∷ []) ys → Sub (x ∷ []) (ys ++ zs)
sub_one x [] zs s = elim s [ ]
sub_one x (y ∷ ys) zs (SHere _ s) = SHere x (SNone (ys ++ zs))
sub_one x (y ∷ ys) zs (SOver _ s) = SOver y (sub_one x ys zs s)

pub sub_right : {A : Type 0} (xs ys zs : List A) → Sub xs ys → Sub xs (ys ++ zs)
sub_right xs ys zs (SNone _) = SNone (ys ++ zs)
sub_right xs ys zs (SHere x {xs = a} {ys = b} s) = SHere x (sub_right a b zs s)
sub_right xs ys zs (SOver y {xs = a} {ys = b} s) = SOver y (sub_right a b zs s)

sub_over : {A : Type 0} (xs ys zs : List A) → Sub xs zs → Sub xs (ys ++ zs)
sub_over xs [] zs s = s
sub_over xs (y ∷ ys) zs s = SOver y (sub_over xs ys zs s)

pub sub_join : {A : Type 0} (xs ys us vs : List A) → Sub xs ys → Sub us vs → Sub (xs ++ us) (ys ++ vs)
sub_join xs ys us vs (SNone _) t = sub_over us ys vs t
sub_join xs ys us vs (SHere x {xs = a} {ys = b} s) t = SHere x (sub_join a b us vs s t)
sub_join xs ys us vs (SOver y {xs = a} {ys = b} s) t = SOver y (sub_join a b us vs s t)

in_stretch : (r c n : ℕ) → Sub ((r, c + suc n) ∷ []) (stretch r c (suc n))
in_stretch r c zero = let e : c + 1 ≡ suc c = omega arith in subst (λ m. Sub {A = ℕ × ℕ} ((r, m) ∷ []) ((r, suc c) ∷ [])) (sym e) (SHere (r, suc c) (SNone []))
in_stretch r c (suc n) = let e : suc c + suc n ≡ c + suc (suc n) = omega arith in SOver (r, suc c) (subst (λ m. Sub {A = ℕ × ℕ} ((r, m) ∷ []) (stretch r (suc c) (suc n))) e (in_stretch r (suc c) n))

pub stretch_has : (r c m : ℕ) → c < m → Sub ((r, m) ∷ []) (stretch r c (m - c))
stretch_has r c m h =
    let d : m - c ≡ suc (m - suc c) = omega (arith, h) in let e : c + suc (m - suc c) ≡ m = omega (arith, h) in
    subst (λ n. Sub {A = ℕ × ℕ} ((r, m) ∷ []) (stretch r c n)) (sym d) (subst (λ k. Sub {A = ℕ × ℕ} ((r, k) ∷ []) (stretch r c (suc (m - suc c)))) e (in_stretch r c (m - suc c)))

-- a listed number is below the last value, so the count rose
pub raised_more : (n : ℕ) → raised n < 18446744073709551615 → raised n ≡ suc n
raised_more n h = go (nat_lt n 18446744073709551615) refl h
  where
    go : (b : Bool) → nat_lt n 18446744073709551615 ≡ b → (if b then n + 1 else n) < 18446744073709551615 → (if b then n + 1 else n) ≡ suc n
    go true e h = omega arith
    go false e h = let t : nat_lt n 18446744073709551615 ≡ true = grind (arith, h) in let x : true ≡ false = sym t ∙ e in absurd (grind (arith, x))

pub raised_le : (n : ℕ) → n ≤ raised n
raised_le n = go (nat_lt n 18446744073709551615)
  where
    go : (b : Bool) → n ≤ (if b then n + 1 else n)
    go true = omega arith
    go false = omega arith

pub to_pass : (r o : ℕ) (c : Shown) (hs : List Hold) (h : Hold) → hold_at hs r ≡ Some h → h.count < c.count → Sub ((r, c.count) ∷ []) (flat (map passing (aborted (with_content r c hs))))
to_pass r o c [] h e l = absurd (grind (arith, e))
to_pass r o c (x ∷ hs) h e l = go (nat_eq x.resource r) refl e (λ e. to_pass r o c hs h e l)
  where
    go : (b : Bool) → nat_eq x.resource r ≡ b → (if b then Some x else hold_at hs r) ≡ Some h → (hold_at hs r ≡ Some h → Sub ((r, c.count) ∷ []) (flat (map passing (aborted (with_content r c hs)))))
        → Sub ((r, c.count) ∷ []) (flat (map passing (aborted (if b then record x { content = c } ∷ hs else x ∷ with_content r c hs))))
    go true q e ih =
        let n : x.resource ≡ r = (equal_or x.resource r true q).0 refl in let d : x.count < c.count = subst (λ (h : Hold). h.count < c.count) (sym (same_Some x h e)) l in
        sub_one (r, c.count) (stretch x.resource x.count (c.count - x.count)) (flat (map passing (aborted hs))) (subst (λ r. Sub {A = ℕ × ℕ} ((r, c.count) ∷ []) (stretch x.resource x.count (c.count - x.count))) n (stretch_has x.resource x.count c.count d))
    go false q e ih = sub_over ((r, c.count) ∷ []) (stretch x.resource x.count (x.content.count - x.count)) (flat (map passing (aborted (with_content r c hs)))) (ih e)

-- what was taken
pub taken_append : (p q t : List ℕ) → taken_after (p ++ q) t ≡ taken_after q (taken_after p t)
taken_append [] q t = refl
taken_append (r ∷ p) q t = go (among r t) (taken_append p q t) (taken_append p q (t ++ (r ∷ [])))
  where
    go : (b : Bool) → taken_after (p ++ q) t ≡ taken_after q (taken_after p t) → taken_after (p ++ q) (t ++ (r ∷ [])) ≡ taken_after q (taken_after p (t ++ (r ∷ [])))
        → (if b then taken_after (p ++ q) t else taken_after (p ++ q) (t ++ (r ∷ []))) ≡ taken_after q (if b then taken_after p t else taken_after p (t ++ (r ∷ [])))
    go true a b = a
    go false a b = b

-- what isn't taken wasn't accessed
pub not_accessed : (i : ℕ) (p t : List ℕ) → among i (taken_after p t) ≡ false → (among i p ≡ false) × (among i t ≡ false)
not_accessed i [] t n = (refl, n)
not_accessed i (r ∷ p) t n = go (among r t) refl n (λ n. not_accessed i p t n) (λ n. not_accessed i p (t ++ (r ∷ [])) n)
  where
    there : nat_eq i r ≡ true → among r t ≡ true → among i t ≡ true
    there e a = ap (λ j. among j t) ((equal_or i r true e).0 refl) ∙ a

    last : (c : Bool) → (if among i t then true else (if c then true else false)) ≡ false → (among i t ≡ false) × (c ≡ false)
    last c h = at (among i t) c h
      where
        at : (a c : Bool) → (if a then true else (if c then true else false)) ≡ false → (a ≡ false) × (c ≡ false)
        at true c h = absurd (grind (arith, h))
        at false true h = absurd (grind (arith, h))
        at false false h = (refl, refl)

    front : (c : Bool) → c ≡ false → among i p ≡ false → (if c then true else among i p) ≡ false
    front true e h = absurd (grind (arith, e))
    front false e h = h

    own : (c : Bool) → nat_eq i r ≡ c → among r t ≡ true → among i t ≡ false → c ≡ false
    own true e a n = let x : true ≡ false = sym (there e a) ∙ n in absurd (grind (arith, x))
    own false e a n = refl

    go : (b : Bool) → among r t ≡ b → among i (if b then taken_after p t else taken_after p (t ++ (r ∷ []))) ≡ false
        → (among i (taken_after p t) ≡ false → (among i p ≡ false) × (among i t ≡ false)) → (among i (taken_after p (t ++ (r ∷ []))) ≡ false → (among i p ≡ false) × (among i (t ++ (r ∷ [])) ≡ false))
        → ((if nat_eq i r then true else among i p) ≡ false) × (among i t ≡ false)
    go true a n f g = let q = f n in (front (nat_eq i r) (own (nat_eq i r) refl a q.1) q.0, q.1)
    go false a n f g = let q = g n in let d = last (nat_eq i r) (sym (among_append i t (r ∷ [])) ∙ q.1) in (front (nat_eq i r) d.1 q.0, d.0)

pub once_append : (l : List ℕ) (r : ℕ) → Once l → among r l ≡ false → Once (l ++ (r ∷ []))
once_append [] r o n = (refl, tt)
once_append (x ∷ l) r o n = go (nat_eq r x) refl n (λ n. once_append l r o.1 n)
  where
    not_last : (b : Bool) → nat_eq x r ≡ b → nat_eq r x ≡ false → (if b then true else false) ≡ false
    not_last true e q = let t : nat_eq r x ≡ true = grind (arith, e) in let y : true ≡ false = sym t ∙ q in absurd (grind (arith, y))
    not_last false e q = refl

    go : (b : Bool) → nat_eq r x ≡ b → (if b then true else among r l) ≡ false → (among r l ≡ false → Once (l ++ (r ∷ []))) → (among x (l ++ (r ∷ [])) ≡ false) × Once (l ++ (r ∷ []))
    go true q n ih = absurd (grind (arith, n))
    go false q n ih = (among_append x l (r ∷ []) ∙ ap (λ b. if b then true else (if nat_eq x r then true else false)) o.0 ∙ not_last (nat_eq x r) refl q, ih n)

-- the entries of others leave the own components
pub own_left_others : {S D : Type 0} (W : World S D) (k : ℕ) (o : Own) (es : List (Entry D)) → Others k es → own_left W k o es ≡ o
own_left_others W k o [] h = refl
own_left_others W k o (e ∷ es) h = go (nat_eq e.instance k) refl (own_left_others W k o es h.1)
  where
    go : (b : Bool) → nat_eq e.instance k ≡ b → own_left W k o es ≡ o → own_left W k (if b then W.owned o e.change else o) es ≡ o
    go true q rest = absurd (h.0 ((equal_or e.instance k true q).0 refl))
    go false q rest = rest

pub own_left_append : {S D : Type 0} (W : World S D) (k : ℕ) (o : Own) (a b : List (Entry D)) → own_left W k o (a ++ b) ≡ own_left W k (own_left W k o a) b
own_left_append W k o [] b = refl
own_left_append W k o (e ∷ a) b = own_left_append W k (if nat_eq e.instance k then W.owned o e.change else o) a b

pub own_left_one : {S D : Type 0} (W : World S D) (k : ℕ) (o : Own) (e : Entry D) → e.instance ≡ k → own_left W k o (e ∷ []) ≡ W.owned o e.change
own_left_one W k o e h = go (nat_eq e.instance k) refl
  where
    go : (b : Bool) → nat_eq e.instance k ≡ b → (if b then W.owned o e.change else o) ≡ W.owned o e.change
    go true q = refl
    go false q = absurd ((equal_or e.instance k false q).1 refl h)

-- the own components keep their names along the entries
pub own_left_is : {S D : Type 0} (W : World S D) (k : ℕ) (o : Own) (es : List (Entry D)) → ((o : Own) (d : D) → IsOwn W k o → IsOwn W k (W.owned o d)) → IsOwn W k o → IsOwn W k (own_left W k o es)
own_left_is W k o [] keeps is = is
own_left_is W k o (e ∷ es) keeps is = own_left_is W k (if nat_eq e.instance k then W.owned o e.change else o) es keeps (go (nat_eq e.instance k))
  where
    go : (b : Bool) → IsOwn W k (if b then W.owned o e.change else o)
    go true = keeps o e.change is
    go false = is

-- lists of takes
pub granted_append : (a b : List Taking) → granted (a ++ b) ≡ granted a ++ granted b
granted_append [] b = refl
granted_append (m ∷ a) b = go m.refusal (granted_append a b)
  where
    go : (o : Option ℕ) → granted (a ++ b) ≡ granted a ++ granted b → (elim o as (λ o. List ℕ) [ None ↦ m.resource ∷ granted (a ++ b) | Some h ↦ granted (a ++ b) ]) ≡ (elim o as (λ o. List ℕ) [ None ↦ m.resource ∷ granted a | Some h ↦ granted a ]) ++ granted b
    go None e = ap (λ l. m.resource ∷ l) e
    go (Some h) e = e

pub last_of_append : {A : Type 0} (a : List A) (m : A) → last_of (a ++ (m ∷ [])) ≡ Some m
last_of_append [] m = refl
last_of_append (x ∷ []) m = refl
last_of_append (x ∷ (y ∷ a)) m = last_of_append (y ∷ a) m

pub held_last_append : (a : List Taking) (m : Taking) → held_last (a ++ (m ∷ [])) ≡ m.held
held_last_append a m = ap (λ o. elim o as (λ o. List At) [ None ↦ [] | Some m ↦ m.held ]) (last_of_append a m)

pub each_taking_append : (Q : Taking → Type 0) (a b : List Taking) → EachTaking Q a → EachTaking Q b → EachTaking Q (a ++ b)
each_taking_append Q [] b h k = k
each_taking_append Q (x ∷ a) b h k = (h.0, each_taking_append Q a b h.1 k)

pub flat_append : {A : Type 0} (xs : List (List A)) (l : List A) → flat (xs ++ (l ∷ [])) ≡ flat xs ++ l
flat_append [] l = go l
  where
    go : {A : Type 0} (l : List A) → l ++ [] ≡ l
    go [] = refl
    go (x ∷ l) = ap (λ k. x ∷ k) (go l)
flat_append (x ∷ xs) l = ap (λ k. x ++ k) (flat_append xs l) ∙ sym (append_assoc x (flat xs) l)

pub refusals_append : (a b : List Record) → refusals (a ++ b) ≡ refusals a ++ refusals b
refusals_append [] b = refl
refusals_append (Step n ∷ a) b = refusals_append a b
refusals_append (Noted kind p ∷ a) b = refusals_append a b
refusals_append (Held r h ∷ a) b = ap (λ l. IsHeld r h ∷ l) (refusals_append a b)
refusals_append (Down r o ∷ a) b = refusals_append a b
refusals_append (Full n ∷ a) b = ap (λ l. IsFull n ∷ l) (refusals_append a b)

pub downs_append : (a b : List Record) → downs (a ++ b) ≡ downs a ++ downs b
downs_append [] b = refl
downs_append (Step n ∷ a) b = downs_append a b
downs_append (Noted kind p ∷ a) b = downs_append a b
downs_append (Held r h ∷ a) b = downs_append a b
downs_append (Down r o ∷ a) b = ap (λ l. (r, o) ∷ l) (downs_append a b)
downs_append (Full n ∷ a) b = downs_append a b

-- what is held, as changes
pub changes_agree : (hs : List Hold) (f g : ℕ → Data) → EachHold IsSteady hs → Agrees (values_of hs) f → Agrees (nows_of hs) g → changes_at (resources_of hs) f g ≡ changes_of hs
changes_agree [] f g s a b = refl
changes_agree (h ∷ hs) f g s a b = (λ i. record { resource = h.resource; before = (a.0 ∙ sym s.0) i; after = b.0 i } ∷ changes_agree hs f g s.1 a.1 b.1 i)

pub agrees_values : (hs : List Hold) (f : ℕ → Data) → EachHold (λ h. f h.resource ≡ h.content.base) hs → EachHold IsSteady hs → Agrees (values_of hs) f
agrees_values [] f e s = tt
agrees_values (h ∷ hs) f e s = (e.0 ∙ s.0, agrees_values hs f e.1 s.1)

pub agrees_along : (vs : List At) (f g : ℕ → Data) → ((r : ℕ) → f r ≡ g r) → Agrees vs g → Agrees vs f
agrees_along [] f g e a = tt
agrees_along (v ∷ vs) f g e a = (e v.0 ∙ a.0, agrees_along vs f g e a.1)

pub nth_among : (l : List ℕ) (j r : ℕ) → nth l j ≡ Some r → among r l ≡ true
nth_among [] j r h = absurd (grind (arith, h))
nth_among (x ∷ l) zero r h = let e : nat_eq r x ≡ true = grind (arith, h) in ap (λ b. if b then true else among r l) e
nth_among (x ∷ l) (suc j) r h = go (nat_eq r x) (nth_among l j r h)
  where
    go : (b : Bool) → among r l ≡ true → (if b then true else among r l) ≡ true
    go true e = refl
    go false e = e

-- a pre-commit leaves what is held as it is
pub nows_counted : (r : ℕ) (h : Hold) (hs : List Hold) → hold_at hs r ≡ Some h → nows_of (with_content r (record h.content { count = raised h.content.count }) hs) ≡ nows_of hs
nows_counted r h [] e = refl
nows_counted r h (x ∷ hs) e = go (nat_eq x.resource r) e (λ e. nows_counted r h hs e)
  where
    go : (b : Bool) → (if b then Some x else hold_at hs r) ≡ Some h → (hold_at hs r ≡ Some h → nows_of (with_content r (record h.content { count = raised h.content.count }) hs) ≡ nows_of hs)
        → nows_of (if b then record x { content = record h.content { count = raised h.content.count } } ∷ hs else x ∷ with_content r (record h.content { count = raised h.content.count }) hs) ≡ ((x.resource, x.content.current) ∷ nows_of hs)
    go true e ih = ap (λ (h : Hold). (x.resource, h.content.current) ∷ nows_of hs) (sym (same_Some x h e))
    go false e ih = ap (λ l. (x.resource, x.content.current) ∷ l) (ih e)

-- what is taken was accessed
pub accessed : (i : ℕ) (p t : List ℕ) → among i (taken_after p t) ≡ true → (among i t ≡ true → among i p ≡ true) → among i p ≡ true
accessed i [] t h f = f h
accessed i (r ∷ p) t h f = go (among r t) refl h (λ h. accessed i p t h) (λ h. accessed i p (t ++ (r ∷ [])) h)
  where
    ends : (c : Bool) → among i p ≡ true → (if c then true else among i p) ≡ true
    ends true e = refl
    ends false e = e

    any : (c : Bool) → (if c then true else among i p) ≡ true → (c ≡ false → among i p ≡ true)
    any true e n = absurd (grind (arith, n))
    any false e n = e

    split : (a c : Bool) → (if a then true else (if c then true else false)) ≡ true → (a ≡ true) ⊎ (c ≡ true)
    split true c e = inl refl
    split false true e = inr refl
    split false false e = absurd (grind (arith, e))

    step : (c : Bool) → nat_eq i r ≡ c → (among i t ≡ true → (if nat_eq i r then true else among i p) ≡ true) → ((among i t ≡ true → among i p ≡ true) → among i p ≡ true) → (if c then true else among i p) ≡ true
    step true e f g = refl
    step false e f g = g (λ q. ap (λ c. if c then true else among i p) (sym e) ∙ f q)

    step_more : (c : Bool) → nat_eq i r ≡ c → (among i t ≡ true → (if nat_eq i r then true else among i p) ≡ true) → ((among i (t ++ (r ∷ [])) ≡ true → among i p ≡ true) → among i p ≡ true) → (if c then true else among i p) ≡ true
    step_more true e f g = refl
    step_more false e f g = g (λ q. at (split (among i t) (nat_eq i r) (sym (among_append i t (r ∷ [])) ∙ q)))
      where
        at : (among i t ≡ true) ⊎ (nat_eq i r ≡ true) → among i p ≡ true
        at (inl h) = ap (λ c. if c then true else among i p) (sym e) ∙ f h
        at (inr h) = let x : true ≡ false = sym h ∙ e in absurd (grind (arith, x))

    go : (b : Bool) → among r t ≡ b → among i (if b then taken_after p t else taken_after p (t ++ (r ∷ []))) ≡ true
        → (among i (taken_after p t) ≡ true → (among i t ≡ true → among i p ≡ true) → among i p ≡ true)
        → (among i (taken_after p (t ++ (r ∷ []))) ≡ true → (among i (t ++ (r ∷ [])) ≡ true → among i p ≡ true) → among i p ≡ true)
        → (if nat_eq i r then true else among i p) ≡ true
    go true e h a b = step (nat_eq i r) refl f (λ f. a h f)
    go false e h a b = step_more (nat_eq i r) refl f (λ f. b h f)
