-- Which macros bind a name, by their places.
use Rattle.std.proofs.Common.{◌≡◌, ◌<◌, ◌≤◌, ◌+◌, ℕ, Bool, true, false, not, ◌&&◌, ◌||◌, List, [], ◌∷◌, length, get_or, refl, ap, sym, ◌∙◌, arith}
use Rattle.std.specs.Prelude.{nat_eq, nat_lt, Option, Some, None, ◌↔◌, IsTrue}
use Rattle.std.specs.List.{list_any}
use Rattle.std.specs.Ordering.{nat_cmp, is_eq, match_ordering}
use Rattle.std.specs.declared.cmp.Ordering.{Ordering}
use Rattle.std.specs.declared.cmp.Ordering.TheVariants.{Less, Equal, Greater}
use Rattle.std.specs.BTreeMap.{is_at}
use Rattle.std.specs.BTreeSet.{BTreeSet, insert_key, IsDisjoint}
use Rattle.std.proofs.lemmas.Bool.{eq-eqb, eqb-true}
use Rattle.std.proofs.lemmas.Bool.Decides.{nat_tests}
use Rattle.std.proofs.lemmas.Option.{slice_get_past, slice_get-get_or}
use Rattle.pgo_base.specs.Lookup.{Name}
use Rattle.pgo_syntax.specs.declared.macros.Macro.{Macro}
use Rattle.pgo_uses.specs.declared.uses.Use.{Use}
use Rattle.pgo_uses.specs.AllUses.{macro_uses}
use Rattle.pgo_scope.specs.Binders.{some_number, is_bound_by, bound_at}
use Rattle.pgo_scope.specs.Targets.{has_number, has_number_of}
use Rattle.pgo_scope.specs.Twice.{is_bound_in}
use Rattle.pgo_scope.proofs.CaptureLaws.{or_back}
use Rattle.pgo_scope.proofs.Targeting.{or_moved, number_turned}

same_number : (x y : ℕ) → is_eq (nat_cmp x y) ≡ nat_eq x y
same_number x y = grind (arith, nat_tests)

equal_number : (x y : ℕ) → nat_cmp x y ≡ Equal → x ≡ y
equal_number x y h = eqb-true x y (sym (same_number x y) ∙ ap is_eq h)

twice_there : (b c : Bool) → b || c ≡ b || (b || c)
twice_there true c = refl
twice_there false c = refl

-- one number more
pub number_inserted : (s : Option (BTreeSet ℕ)) (ks : List ℕ) (n : ℕ) → some_number s (insert_key nat_cmp ks n) ≡ has_number_of s n || some_number s ks
number_inserted s [] n = refl
number_inserted s (k ∷ ks) n = go (nat_cmp n k) refl (number_inserted s ks n)
  where
    go : (o : Ordering) → nat_cmp n k ≡ o → some_number s (insert_key nat_cmp ks n) ≡ has_number_of s n || some_number s ks → some_number s (match_ordering o (n ∷ k ∷ ks) (k ∷ ks) (k ∷ insert_key nat_cmp ks n)) ≡ has_number_of s n || (has_number_of s k || some_number s ks)
    go Less e h = refl
    go Equal e h = twice_there (has_number_of s k) (some_number s ks) ∙ ap (λ i. has_number_of s i || (has_number_of s k || some_number s ks)) (sym (equal_number n k e))
    go Greater e h = ap (λ b. has_number_of s k || b) h ∙ or_moved (has_number_of s k) (has_number_of s n) (some_number s ks)

both_false : (b c : Bool) → b || c ≡ false → (b ≡ false) × (c ≡ false)
both_false true c h = absurd (cc)
both_false false c h = (refl, h)

-- two sets have a number in common, or none
none_common : (s : BTreeSet ℕ) (ks : List ℕ) → ((q : ℕ) → has_number s q ≡ true → list_any (is_at (nat_cmp q)) ks ≡ false) → some_number (Some s) ks ≡ false
none_common s [] h = refl
none_common s (k ∷ ks) h =
    go (has_number s k) refl (none_common s ks (λ q m. (both_false (is_at (nat_cmp q) k) (list_any (is_at (nat_cmp q)) ks) (h q m)).1))
  where
    itself : is_at (nat_cmp k) k ≡ true
    itself = same_number k k ∙ eq-eqb k k refl

    go : (b : Bool) → has_number s k ≡ b → some_number (Some s) ks ≡ false → b || some_number (Some s) ks ≡ false
    go true e rest = absurd (let one = (both_false (is_at (nat_cmp k) k) (list_any (is_at (nat_cmp k)) ks) (h k e)).0 in let other = itself in cc)
    go false e rest = rest

apart : (s : BTreeSet ℕ) (ks : List ℕ) → some_number (Some s) ks ≡ false → (q : ℕ) → has_number s q ≡ true → list_any (is_at (nat_cmp q)) ks ≡ false
apart s [] h q m = refl
apart s (k ∷ ks) h q m = go (is_at (nat_cmp q) k) refl (apart s ks (both_false (has_number s k) (some_number (Some s) ks) h).1 q m)
  where
    go : (b : Bool) → is_at (nat_cmp q) k ≡ b → list_any (is_at (nat_cmp q)) ks ≡ false → b || list_any (is_at (nat_cmp q)) ks ≡ false
    go true e rest = absurd (let same : q ≡ k = eqb-true q k (sym (same_number q k) ∙ e) in let here : has_number s k ≡ true = ap (has_number s) (sym same) ∙ m in let none = (both_false (has_number s k) (some_number (Some s) ks) h).0 in cc)
    go false e rest = rest

pub some_common : (d : Bool) (s t : BTreeSet ℕ) → IsTrue d ↔ IsDisjoint nat_cmp s t → not d ≡ some_number (Some s) t.keys
some_common true s t h = sym (none_common s t.keys (h.0 refl))
some_common false s t h = go (some_number (Some s) t.keys) refl
  where
    go : (b : Bool) → some_number (Some s) t.keys ≡ b → true ≡ b
    go true e = refl
    go false e = absurd (let all = h.1 (apart s t.keys e) in cc)

-- where nothing is noted there is no number
pub none_noted : (o : Option (BTreeSet ℕ)) (ks : List ℕ) → o ≡ None → some_number o ks ≡ false
none_noted None [] e = refl
none_noted None (k ∷ ks) e = none_noted None ks refl
none_noted (Some s) ks e = absurd (cc)

or_turned : (a b c : Bool) → a || (b || c) ≡ (b || a) || c
or_turned true true c = refl
or_turned true false c = refl
or_turned false true c = refl
or_turned false false c = refl

-- the numbers so far and those that are left, once the next is added
pub number_more : (o : Option (BTreeSet ℕ)) (ks rest : List ℕ) (n : ℕ) (old new all : Bool) → ks ≡ n ∷ rest → new ≡ has_number_of o n || old → some_number o ks || old ≡ all → some_number o rest || new ≡ all
number_more o ks rest n old new all e h k =
    ap (λ b. some_number o rest || b) h ∙ or_turned (some_number o rest) (has_number_of o n) old ∙ ap (λ l. some_number o l || old) (sym e) ∙ k

or_false : (b : Bool) → b || false ≡ b
or_false true = refl
or_false false = refl

-- a number is added where there is none
pub number_alone : (o : Option (BTreeSet ℕ)) (ks : List ℕ) (b new : Bool) → ks ≡ [] → new ≡ b || some_number o ks → new ≡ b
number_alone o ks b new e h = h ∙ ap (λ l. b || some_number o l) e ∙ or_false b

-- what the macro in this place binds
pub macro_at : (ms : List Macro) (i : ℕ) (m : Macro) (x : Name) → i < length ms → m ≡ get_or ms i m → bound_at ms i x ≡ is_bound_in false (macro_uses i m) x
macro_at ms i m x low at = ap (is_bound_by i x) (slice_get-get_or ms i m low ∙ ap Some (sym at))

-- what the macros before the next bind, once what that binds is added
pub binders_more : (ms : List Macro) (i j : ℕ) (m : Macro) (us : List Use) (x : Name) (old new : Bool) → i < length ms → m ≡ get_or ms i m → us ≡ macro_uses i m → new ≡ old || (is_bound_in false us x && nat_eq i j) → old ≡ nat_lt j i && bound_at ms j x → new ≡ nat_lt j (i + 1) && bound_at ms j x
binders_more ms i j m us x old new low at e h k =
    number_turned (λ n. bound_at ms n x) i j false old new
    (h ∙ or_back old (is_bound_in false us x && nat_eq i j) ∙ ap (λ b. (b && nat_eq i j) || old) (ap (λ l. is_bound_in false l x) e ∙ sym (macro_at ms i m x low at)))
    k

-- no macro stands behind the last
pub binders_all : (ms : List Macro) (i j : ℕ) (x : Name) (b : Bool) → length ms ≤ i → b ≡ nat_lt j i && bound_at ms j x → b ≡ bound_at ms j x
binders_all ms i j x b low h = h ∙ go (nat_lt j i) refl
  where
    go : (c : Bool) → nat_lt j i ≡ c → c && bound_at ms j x ≡ bound_at ms j x
    go true e = refl
    go false e = sym (ap (is_bound_by j x) (slice_get_past ms j (grind (arith, low, e))))
