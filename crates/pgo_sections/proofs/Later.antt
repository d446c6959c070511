-- Names that a path may still bind, and what it has found past them.
use Rattle.std.proofs.Common.{◌≡◌, ℕ, suc, ◌<◌, ◌≤◌, Bool, true, false, ◌||◌, if◌then◌else◌, List, [], ◌∷◌, ◌++◌, Option, Some, ◌⊎◌, refl, sym, ap, ◌∙◌, arith, inl, inr, append_assoc}
use Rattle.pgo_base.specs.Data.{Data}
use Rattle.pgo_base.specs.Lookup.{Name, Names, same_name, find}
use Rattle.pgo_model.specs.Names.{same_name-self, is_among}
pub use Rattle.pgo_model.specs.Names.{turned}
use Rattle.pgo_model.specs.Written.{made}
use Rattle.pgo_sections.specs.Plain.{All}
use Rattle.pgo_sections.specs.WellFormed.{NotMade, Bindable}
use Rattle.pgo_sections.proofs.Under.{names}

pub find_in : {A : Type 0} → (x : Name) (p : Name × A) (l : List (Name × A)) → same_name x p.0 ≡ true → find x (p ∷ l) ≡ Some p.1
find_in x p l e = ap (λ b. if b then Some p.1 else find x l) e

pub find_on : {A : Type 0} → (x : Name) (p : Name × A) (l : List (Name × A)) → same_name x p.0 ≡ false → find x (p ∷ l) ≡ find x l
find_on x p l e = ap (λ b. if b then Some p.1 else find x l) e

or_out : (b c : Bool) → b || c ≡ false → (b ≡ false) × (c ≡ false)
or_out true c h = absurd (grind (arith, h))
or_out false c h = (refl, h)

pub or_false : (b c : Bool) → b ≡ false → c ≡ false → b || c ≡ false
or_false b c e f = rw (e, f) refl

pub find_past : (Δ env : Names) (x : Name) → is_among x (names Δ) ≡ false → find x (Δ ++ env) ≡ find x env
find_past [] env x h = refl
find_past (p ∷ Δ) env x h =
    let o = or_out (same_name x p.0) (is_among x (names Δ)) h in find_on x p (Δ ++ env) o.0 ∙ find_past Δ env x o.1

module _ (vs : List Name) (L : ℕ) (apart : (b b' : Name) (m m' : ℕ) → m ≤ L → m' ≤ L → same_name (made b m) (made b' m') ≡ true → m ≡ m') where
  -- a made name with a number above n
  abbrev pub Made : ℕ → Name → Type 0
  Made n y = (b : Name) × (m : ℕ) × (y ≡ made b m) × (n < m) × (m ≤ L)

  abbrev pub Later : ℕ → Name → Type 0
  Later n y = Bindable vs y ⊎ Made n y

  abbrev pub AllLater : ℕ → Names → Type 0
  AllLater n Δ = All (Later n) (names Δ)

  abbrev pub AllMade : ℕ → Names → Type 0
  AllMade n Δ = All (Made n) (names Δ)

  made_less : (n n' : ℕ) (y : Name) → n ≤ n' → Made n' y → Made n y
  made_less n n' y le h = (h.0, h.1, h.2, (let lt : n' < h.1 = h.3 in omega (arith, le, lt)), h.4)

  pub later_less : (n n' : ℕ) (Δ : Names) → n ≤ n' → AllLater n' Δ → AllLater n Δ
  later_less n n' [] le h = tt
  later_less n n' (p ∷ Δ) le h = (go h.0, later_less n n' Δ le h.1)
    where
      go : Later n' p.0 → Later n p.0
      go (inl b) = inl b
      go (inr m) = inr (made_less n n' p.0 le m)

  pub all_less : (n n' : ℕ) (Δ : Names) → n ≤ n' → AllMade n' Δ → AllMade n Δ
  all_less n n' [] le h = tt
  all_less n n' (p ∷ Δ) le h = (made_less n n' p.0 le h.0, all_less n n' Δ le h.1)

  pub made_later : (n : ℕ) (Δ : Names) → AllMade n Δ → AllLater n Δ
  made_later n [] h = tt
  made_later n (p ∷ Δ) h = (inr h.0, made_later n Δ h.1)

  pub bindable_later : (n : ℕ) (Δ : Names) → All (Bindable vs) (names Δ) → AllLater n Δ
  bindable_later n [] h = tt
  bindable_later n (p ∷ Δ) h = (inl h.0, bindable_later n Δ h.1)

  pub later_append : (n : ℕ) (Δ Γ : Names) → AllLater n Δ → AllLater n Γ → AllLater n (Δ ++ Γ)
  later_append n [] Γ h g = g
  later_append n (p ∷ Δ) Γ h g = (h.0, later_append n Δ Γ h.1 g)

  pub made_append : (n : ℕ) (Δ Γ : Names) → AllMade n Δ → AllMade n Γ → AllMade n (Δ ++ Γ)
  made_append n [] Γ h g = g
  made_append n (p ∷ Δ) Γ h g = (h.0, made_append n Δ Γ h.1 g)

  -- a made name is not among later ones
  pub apart_later : (b : Name) (m n : ℕ) (Δ : Names) → m ≤ n → m ≤ L → AllLater n Δ → is_among (made b m) (names Δ) ≡ false
  apart_later b m n [] le top h = refl
  apart_later b m n (p ∷ Δ) le top h = or_false (same_name (made b m) p.0) (is_among (made b m) (names Δ)) (go h.0) (apart_later b m n Δ le top h.1)
    where
      clash : (q : Made n p.0) → (t : Bool) → same_name (made b m) (made q.0 q.1) ≡ t → same_name (made b m) (made q.0 q.1) ≡ false
      clash q true e = absurd (let same : m ≡ q.1 = apart b q.0 m q.1 top q.4 e in let lt : n < q.1 = q.3 in omega (arith, same, lt, le))
      clash q false e = e

      go : Later n p.0 → same_name (made b m) p.0 ≡ false
      go (inl bind) = turned p.0 (made b m) (bind.0 b m)
      go (inr q) = ap (λ y. same_name (made b m) y) q.2 ∙ clash q (same_name (made b m) (made q.0 q.1)) refl

  -- no name of the specification is among made ones
  pub source_apart : (x : Name) (n : ℕ) (Δ : Names) → NotMade x → AllMade n Δ → is_among x (names Δ) ≡ false
  source_apart x n [] s h = refl
  source_apart x n (p ∷ Δ) s h =
      let q = h.0 in or_false (same_name x p.0) (is_among x (names Δ)) (ap (λ y. same_name x y) q.2 ∙ s q.0 q.1) (source_apart x n Δ s h.1)

  -- no variable, and not self, is among those that may be bound later
  pub hidden_not : (x : Name) (n : ℕ) (Δ : Names) → NotMade x → ((y : Name) → Bindable vs y → same_name x y ≡ false) → AllLater n Δ → is_among x (names Δ) ≡ false
  hidden_not x n [] s k h = refl
  hidden_not x n (p ∷ Δ) s k h = or_false (same_name x p.0) (is_among x (names Δ)) (go h.0) (hidden_not x n Δ s k h.1)
    where
      go : Later n p.0 → same_name x p.0 ≡ false
      go (inl bind) = k p.0 bind
      go (inr q) = ap (λ y. same_name x y) q.2 ∙ s q.0 q.1

  -- env' is env with made names past n before it
  pub record Ext (n : ℕ) (env env' : Names) : Type 0 where
    pub more : Names
    pub past : AllMade n more
    pub is : more ++ env ≡ env'

  pub ext_same : (n : ℕ) (env : Names) → Ext n env env
  ext_same n env = record { more = []; past = tt; is = refl }

  pub ext_more : (n : ℕ) (b : Name) (m : ℕ) (v : Option Data) (env env' : Names) → n < m → m ≤ L → Ext n env env' → Ext n env ((made b m, v) ∷ env')
  ext_more n b m v env env' lt top x =
      record { more = (made b m, v) ∷ x.more; past = ((b, m, refl, lt, top), x.past); is = ap (λ l. (made b m, v) ∷ l) x.is }

  pub ext_then : (n n' : ℕ) (env env' env'' : Names) → n ≤ n' → Ext n env env' → Ext n' env' env'' → Ext n env env''
  ext_then n n' env env' env'' le x y = record {
    more = y.more ++ x.more;
    past = made_append n y.more x.more (all_less n n' y.more le y.past) x.past;
    is = append_assoc y.more x.more env ∙ ap (λ l. y.more ++ l) x.is ∙ y.is;
  }

  -- a made name that was just bound
  pub just_bound : (b : Name) (n : ℕ) (v : Option Data) (env Γ : Names) → suc n ≤ L → AllLater (suc n) Γ → find (made b (suc n)) (Γ ++ (made b (suc n), v) ∷ env) ≡ Some v
  just_bound b n v env Γ top later =
      find_past Γ ((made b (suc n), v) ∷ env) (made b (suc n)) (apart_later b (suc n) (suc n) Γ (omega arith) top later)
      ∙ find_in (made b (suc n)) (made b (suc n), v) env (same_name-self (made b (suc n)))

  pub found_ext : (b : Name) (n : ℕ) (v : Option Data) (env env' Γ : Names) → suc n ≤ L → Ext (suc n) ((made b (suc n), v) ∷ env) env' → AllLater (suc n) Γ → find (made b (suc n)) (Γ ++ env') ≡ Some v
  found_ext b n v env env' Γ top x later =
      ap (λ l. find (made b (suc n)) (Γ ++ l)) (sym x.is)
      ∙ ap (λ l. find (made b (suc n)) l) (sym (append_assoc Γ x.more ((made b (suc n), v) ∷ env)))
      ∙ just_bound b n v env (Γ ++ x.more) top (later_append (suc n) Γ x.more later (made_later (suc n) x.more x.past))
