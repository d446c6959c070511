-- The first name that clashes with one is found by how they are written.
use Rattle.std.proofs.Common.{◌≡◌, ◌<◌, ◌≤◌, ◌+◌, ℕ, zero, suc, take, length, get_or, arith, Bool, true, false, not, ◌&&◌, List, [], ◌∷◌, ◌++◌, refl, ap, sym, ◌∙◌, append_assoc}
use Rattle.std.specs.Prelude.{if◌then◌else◌, Option, Some, None, option_map}
use Rattle.std.proofs.lemmas.List.{append-nil}
use Rattle.std.proofs.lemmas.Option.{slice_get_past}
use Rattle.pgo_base.specs.Lookup.{Name, same_name, find}
use Rattle.pgo_uses.specs.Names.{Rows, first_at}
use Rattle.pgo_scope.specs.declared.finding.Finding.{Finding}
use Rattle.pgo_scope.specs.declared.module_names.ModuleName.{ModuleName}
use Rattle.pgo_scope.specs.Clash.{clash_with}
use Rattle.pgo_scope.specs.Seen.{any_rows, unbound_row, unbound_rows, clash_place, clash_of, clash_at}

pub any_more : (ts : List ModuleName) (t : ModuleName) → any_rows (ts ++ t ∷ []) ≡ any_rows ts ++ (t.written, 0) ∷ []
any_more [] t = refl
any_more (u ∷ us) t = ap (λ l. (u.written, 0) ∷ l) (any_more us t)

behind : (n m k : ℕ) → m ≡ n + suc k → m ≡ suc n + k
behind n m k h = omega (arith, h)

here : (n m : ℕ) → m ≡ n + zero → n ≡ m
here n m h = omega (arith, h)

pub unbound_more : (n m : ℕ) (ts : List ModuleName) (t : ModuleName) → m ≡ n + length ts → unbound_rows n (ts ++ t ∷ []) ≡ unbound_rows n ts ++ unbound_row m t
unbound_more n m [] t h = append-nil (unbound_row n t) ∙ ap (λ k. unbound_row k t) (here n m h)
unbound_more n m (u ∷ us) t h =
    ap (λ l. unbound_row n u ++ l) (unbound_more (suc n) m us t (behind n m (length us) h))
    ∙ sym (append_assoc (unbound_row n u) (unbound_rows (suc n) us) (unbound_row m t))

-- each place is one more
one_on : (x : Name) (n : ℕ) (us : List ModuleName) → find x (unbound_rows (suc n) us) ≡ option_map suc (find x (unbound_rows n us))
one_on x n [] = refl
one_on x n (u ∷ us) = go u.bound (one_on x (suc n) us)
  where
    either : (b : Bool) → find x (unbound_rows (suc (suc n)) us) ≡ option_map suc (find x (unbound_rows (suc n) us)) → (if b then Some (suc n) else find x (unbound_rows (suc (suc n)) us)) ≡ option_map suc (if b then Some n else find x (unbound_rows (suc n) us))
    either true h = refl
    either false h = h

    go : (c : Bool) → find x (unbound_rows (suc (suc n)) us) ≡ option_map suc (find x (unbound_rows (suc n) us)) → find x ((if c then [] else (u.written, suc n) ∷ []) ++ unbound_rows (suc (suc n)) us) ≡ option_map suc (find x ((if c then [] else (u.written, n) ∷ []) ++ unbound_rows (suc n) us))
    go true h = h
    go false h = either (same_name x u.written) h

-- a name before all of them
one_before : (t u : ModuleName) (us : List ModuleName) (o : Option ℕ) → clash_at us t o ≡ clash_at (u ∷ us) t (option_map suc o)
one_before t u us None = refl
one_before t u us (Some i) = refl

pub none_there : (out : List Finding) (us : List ModuleName) (t : ModuleName) (o : Option ℕ) (i : ℕ) → o ≡ Some i → length us ≤ i → out ≡ out ++ clash_at us t o
none_there out us t o i e h = sym (append-nil out) ∙ ap (λ l. out ++ l) (sym (ap (clash_at us t) e ∙ ap (clash_of t) (slice_get_past us i h)))

of_any : (t : ModuleName) (us : List ModuleName) → t.bound ≡ false → clash_at us t (first_at t.written (any_rows us)) ≡ clash_with us t
of_any t [] h = refl
of_any t (u ∷ us) h =
    go (same_name t.written u.written) (of_any t us h) ∙ sym (ap (λ b. if same_name t.written u.written && not (b && u.bound) then clash_of t (Some u) else clash_with us t) h)
  where
    go : (s : Bool) → clash_at us t (first_at t.written (any_rows us)) ≡ clash_with us t → clash_at (u ∷ us) t (if s then Some 0 else option_map suc (first_at t.written (any_rows us))) ≡ (if s && true then clash_of t (Some u) else clash_with us t)
    go true e = refl
    go false e = sym (one_before t u us (first_at t.written (any_rows us))) ∙ e

of_unbound : (t : ModuleName) (us : List ModuleName) → t.bound ≡ true → clash_at us t (find t.written (unbound_rows 0 us)) ≡ clash_with us t
of_unbound t [] h = refl
of_unbound t (u ∷ us) h =
    go (same_name t.written u.written) u.bound refl (ap (clash_at (u ∷ us) t) (one_on t.written 0 us) ∙ sym (one_before t u us (find t.written (unbound_rows 0 us))) ∙ of_unbound t us h)
    ∙ sym (ap (λ b. if same_name t.written u.written && not (b && u.bound) then clash_of t (Some u) else clash_with us t) h)
  where
    go : (s c : Bool) → same_name t.written u.written ≡ s → clash_at (u ∷ us) t (find t.written (unbound_rows 1 us)) ≡ clash_with us t → clash_at (u ∷ us) t (find t.written ((if c then [] else (u.written, 0) ∷ []) ++ unbound_rows 1 us)) ≡ (if s && not (true && c) then clash_of t (Some u) else clash_with us t)
    go true true k e = e
    go false true k e = e
    go true false k e = ap (λ b. clash_at (u ∷ us) t (if b then Some 0 else find t.written (unbound_rows 1 us))) k
    go false false k e = ap (λ b. clash_at (u ∷ us) t (if b then Some 0 else find t.written (unbound_rows 1 us))) k ∙ e

pub first_clash : (us : List ModuleName) (t : ModuleName) → clash_at us t (clash_place (any_rows us) (unbound_rows 0 us) t) ≡ clash_with us t
first_clash us t = go t.bound refl
  where
    go : (b : Bool) → t.bound ≡ b → clash_at us t (if b then find t.written (unbound_rows 0 us) else first_at t.written (any_rows us)) ≡ clash_with us t
    go true k = of_unbound t us k
    go false k = of_any t us k

pub found_there : (out made : List Finding) (any unbound : Rows) (us : List ModuleName) (t : ModuleName) → any ≡ any_rows us → unbound ≡ unbound_rows 0 us → made ≡ out ++ clash_at us t (clash_place any unbound t) → made ≡ out ++ clash_with us t
found_there out made any unbound us t e f h = h ∙ ap (λ l. out ++ l) ((λ i. clash_at us t (clash_place (e i) (f i) t)) ∙ first_clash us t)

pub take_more : {A : Type 0} (xs : List A) (i : ℕ) (x : A) → i < length xs → x ≡ get_or xs i x → take (i + 1) xs ≡ take i xs ++ x ∷ []
take_more [] i x h e = absurd (omega arith)
take_more (y ∷ ys) zero x h e = λ k. (sym e) k ∷ []
take_more (y ∷ ys) (suc i) x h e = ap (λ n. take n (y ∷ ys)) (next i) ∙ ap (λ l. y ∷ l) (take_more ys i x (omega arith) e)
  where
    next : (i : ℕ) → suc i + 1 ≡ suc (i + 1)
    next i = omega arith
