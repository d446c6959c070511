-- The fields of a line: what they read, and what is read by them.
use Rattle.std.proofs.Common.{◌≡◌, ◌<◌, ◌^◌, ℕ, Bool, true, nat_eq, IsTrue, List, ◌∷◌, ◌++◌, decimal, Some, None, refl, ap, subst, ◌∙◌}
use Rattle.std.specs.Prelude.{codes}
use Rattle.std.proofs.lemmas.Bool.{eqb-true, eq-eqb}
use Rattle.pgo_base.specs.Data.{Data}
use Rattle.pgo_base.specs.Lookup.{Name}
use Rattle.pgo_model.specs.ValueText.{value_text}
use Rattle.pgo_model.specs.BundleParts.{is_read_name}
use Rattle.pgo_value_text.proofs.Steps.{if_some, cond_true, bind_then, then_at, some_pair}
use Rattle.pgo_value_text.proofs.Runs.{expected, expects, is_apart}
use Rattle.pgo_log_text.specs.IsBundle.{IsCanonicalValue}
use Rattle.pgo_log_text.specs.Lines.{where_holds, this_number, this_field, number_field, name_field, last_number, last_value}
use Rattle.pgo_log_text.proofs.BytesNumbers.{number_some, number_finds, name_some, name_finds}
use Rattle.pgo_log_text.proofs.BytesValues.{value_some, value_finds}

-- ---- what was read

holds_some : (b : Bool) (bs : List ℕ) (u : Unit {0}) (r : List ℕ) → where_holds b bs ≡ Some (u, r) → (b ≡ true) × (bs ≡ r)
holds_some b bs u r e =
    if_some b (Some (tt, bs)) None (u, r) ((b ≡ true) × (bs ≡ r)) e (λ t e. (t, (some_pair tt u bs r e).1)) (λ _ e. absurd (cc))

pub this_number_some : (n : ℕ) (bs : List ℕ) (u : Unit {0}) (r : List ℕ) → this_number n bs ≡ Some (u, r) → (bs ≡ decimal n ++ r) × (n < 2 ^ 32)
unfolding this_number
this_number_some n bs u r e =
    let G : Type 0 = (bs ≡ decimal n ++ r) × (n < 2 ^ 32) in
    bind_then _ _ _ G e (λ m i a e.
    let read = number_some bs m i a in
    let test = holds_some (nat_eq m n) i u r e in
    let same : m ≡ n = eqb-true m n test.0 in
    (read.0 ∙ (λ j. decimal (same j) ++ test.1 j), subst (λ k. k < 2 ^ 32) same read.1))

pub this_field_some : (n : ℕ) (bs : List ℕ) (u : Unit {0}) (r : List ℕ) → this_field n bs ≡ Some (u, r) → (bs ≡ decimal n ++ 32 ∷ r) × (n < 2 ^ 32)
unfolding this_field
this_field_some n bs u r e =
    let G : Type 0 = (bs ≡ decimal n ++ 32 ∷ r) × (n < 2 ^ 32) in
    bind_then _ _ _ G e (λ v i a e.
    let read = this_number_some n bs v i a in
    (read.0 ∙ ap (λ x. decimal n ++ x) (expected (codes " ") i u r e), read.1))

pub number_field_some : (bs : List ℕ) (n : ℕ) (r : List ℕ) → number_field bs ≡ Some (n, r) → (bs ≡ decimal n ++ 32 ∷ r) × (n < 2 ^ 32)
unfolding number_field
number_field_some bs n r e =
    let G : Type 0 = (bs ≡ decimal n ++ 32 ∷ r) × (n < 2 ^ 32) in
    bind_then _ _ _ G e (λ m i a e. bind_then _ _ _ G e (λ u j b e.
    let read = number_some bs m i a in
    let same = some_pair m n j r e in
    (read.0 ∙ ap (λ x. decimal m ++ x) (expected (codes " ") i u j b) ∙ (λ k. decimal (same.0 k) ++ 32 ∷ same.1 k), subst (λ k. k < 2 ^ 32) same.0 read.1)))

pub last_number_some : (bs : List ℕ) (n : ℕ) (r : List ℕ) → last_number bs ≡ Some (n, r) → (bs ≡ decimal n ++ 10 ∷ r) × (n < 2 ^ 32)
unfolding last_number
last_number_some bs n r e =
    let G : Type 0 = (bs ≡ decimal n ++ 10 ∷ r) × (n < 2 ^ 32) in
    bind_then _ _ _ G e (λ m i a e. bind_then _ _ _ G e (λ u j b e.
    let read = number_some bs m i a in
    let same = some_pair m n j r e in
    (read.0 ∙ ap (λ x. decimal m ++ x) (expected (codes "\n") i u j b) ∙ (λ k. decimal (same.0 k) ++ 10 ∷ same.1 k), subst (λ k. k < 2 ^ 32) same.0 read.1)))

pub name_field_some : (bs : List ℕ) (x : Name) (r : List ℕ) → name_field bs ≡ Some (x, r) → (bs ≡ x ++ 32 ∷ r) × IsTrue (is_read_name x)
unfolding name_field
name_field_some bs x r e =
    let G : Type 0 = (bs ≡ x ++ 32 ∷ r) × IsTrue (is_read_name x) in
    bind_then _ _ _ G e (λ y i a e. bind_then _ _ _ G e (λ u j b e.
    let read = name_some bs y i a in
    let same = some_pair y x j r e in
    (read.0 ∙ ap (λ z. y ++ z) (expected (codes " ") i u j b) ∙ (λ k. same.0 k ++ 32 ∷ same.1 k), subst (λ y. IsTrue (is_read_name y)) same.0 read.1)))

pub last_value_some : (bs : List ℕ) (v : Data) (r : List ℕ) → last_value bs ≡ Some (v, r) → (bs ≡ value_text v ++ 10 ∷ r) × IsCanonicalValue v
unfolding last_value
last_value_some bs v r e =
    let G : Type 0 = (bs ≡ value_text v ++ 10 ∷ r) × IsCanonicalValue v in
    bind_then _ _ _ G e (λ w i a e. bind_then _ _ _ G e (λ u j b e.
    let read = value_some bs w i a in
    let same = some_pair w v j r e in
    (read.0 ∙ ap (λ z. value_text w ++ z) (expected (codes "\n") i u j b) ∙ (λ k. value_text (same.0 k) ++ 10 ∷ same.1 k), subst (λ w. IsCanonicalValue w) same.0 read.1)))

-- ---- what is read

pub this_number_finds : (n : ℕ) (r : List ℕ) → n < 2 ^ 32 → is_apart r ≡ true → this_number n (decimal n ++ r) ≡ Some (tt, r)
unfolding this_number
this_number_finds n r h a = then_at _ _ _ n r (number_finds n r h a) (cond_true (nat_eq n n) (Some (tt, r)) None (eq-eqb n n refl))

pub this_field_finds : (n : ℕ) (r : List ℕ) → n < 2 ^ 32 → this_field n (decimal n ++ 32 ∷ r) ≡ Some (tt, r)
unfolding this_field
this_field_finds n r h = then_at _ _ _ tt (32 ∷ r) (this_number_finds n (32 ∷ r) h refl) (expects (codes " ") r)

pub number_field_finds : (n : ℕ) (r : List ℕ) → n < 2 ^ 32 → number_field (decimal n ++ 32 ∷ r) ≡ Some (n, r)
unfolding number_field
number_field_finds n r h = then_at _ _ _ n (32 ∷ r) (number_finds n (32 ∷ r) h refl) refl

pub last_number_finds : (n : ℕ) (r : List ℕ) → n < 2 ^ 32 → last_number (decimal n ++ 10 ∷ r) ≡ Some (n, r)
unfolding last_number
last_number_finds n r h = then_at _ _ _ n (10 ∷ r) (number_finds n (10 ∷ r) h refl) refl

pub name_field_finds : (x : Name) (r : List ℕ) → IsTrue (is_read_name x) → name_field (x ++ 32 ∷ r) ≡ Some (x, r)
unfolding name_field
name_field_finds x r h = then_at _ _ _ x (32 ∷ r) (name_finds x (32 ∷ r) h refl) refl

pub last_value_finds : (v : Data) (r : List ℕ) → IsCanonicalValue v → last_value (value_text v ++ 10 ∷ r) ≡ Some (v, r)
unfolding last_value
last_value_finds v r h = then_at _ _ _ v (10 ∷ r) (value_finds v (10 ∷ r) h refl) refl
