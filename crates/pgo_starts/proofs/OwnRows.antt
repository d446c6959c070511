-- Own components, list by list.
use Rattle.std.proofs.Common.{◌≡◌, ◌∙◌, ℕ, zero, suc, Bool, true, false, List, [], ◌∷◌, ◌++◌, map, Some, refl, sym, ap, subst, append_assoc, ◌<◌, ◌+◌, length, drop, add-one, drop-cons}
use Rattle.std.specs.Prelude.{get_or}
use Rattle.std.proofs.Common.{arith}
use Rattle.std.specs.Prelude.{if◌then◌else◌}
use Rattle.std.specs.List.{flat_map}
use Rattle.pgo_base.specs.Data.{Data}
use Rattle.pgo_base.specs.Lookup.{Name, Vars}
use Rattle.pgo_model.specs.Log.{own_names}
use Rattle.pgo_model.specs.Operators.{contains}
use Rattle.pgo_model.specs.System.{Owned}
use Rattle.pgo_base.specs.View.{data_of}
use Rattle.pgo_model.specs.Machine.{nth}
use Rattle.pgo_model.specs.Options.{on}
use Rattle.pgo_model.specs.Written.{pc, written}
use Rattle.pgo_resource.specs.Kept.{member_view}
use Rattle.pgo_resource.specs.declared.layout.Member.{Member}
use Rattle.pgo_resource.specs.Layouts.{ids_at, owned_at}
use Rattle.pgo_workers.specs.Worlds.{own_at}

pub own_append : (k : ℕ) (id : Data) (xs ys : List Name) (s : Vars) → own_at k id (xs ++ ys) s ≡ own_at k id xs s ++ own_at k id ys s
own_append k id [] ys s = refl
own_append k id (x ∷ xs) ys s = ap (λ l. (own_at k id (x ∷ []) s) ++ l) (own_append k id xs ys s)

pub own_number : (j k : ℕ) (id : Data) (xs : List Name) (s : Vars) → own_at j id xs s ≡ own_at k id xs s
own_number j k id [] s = refl
own_number j k id (x ∷ xs) s = ap (λ l. (own_at j id (x ∷ []) s) ++ l) (own_number j k id xs s)

-- the variables of one process
abbrev pub names_of_one : Data → List (Data × Name) → Name × List Name → List Name
names_of_one id ms o = if contains id (ids_at ms o.0) then map (written o.0) o.1 else []

of_names : (id : Data) (ids : List Data) (p : Name) (t : Bool) (xs : List Name) (rest : List Owned) → contains id ids ≡ t
    → own_names id (map (λ x. record { variable = written p x; ids = ids }) xs ++ rest) ≡ (if t then map (written p) xs else []) ++ own_names id rest
of_names id ids p true [] rest h = refl
of_names id ids p false [] rest h = refl
of_names id ids p true (x ∷ xs) rest h = ap (λ b. if b then written p x ∷ own_names id (map (λ x. record { variable = written p x; ids = ids }) xs ++ rest) else own_names id (map (λ x. record { variable = written p x; ids = ids }) xs ++ rest)) h ∙ ap (λ l. written p x ∷ l) (of_names id ids p true xs rest h)
of_names id ids p false (x ∷ xs) rest h = ap (λ b. if b then written p x ∷ own_names id (map (λ x. record { variable = written p x; ids = ids }) xs ++ rest) else own_names id (map (λ x. record { variable = written p x; ids = ids }) xs ++ rest)) h ∙ of_names id ids p false xs rest h

-- the variables of all processes
pub names_of_all : (id : Data) (ms : List (Data × Name)) (os : List (Name × List Name)) → own_names id (flat_map (owned_at ms) os) ≡ flat_map (names_of_one id ms) os
names_of_all id ms [] = refl
names_of_all id ms (o ∷ os) =
    of_names id (ids_at ms o.0) o.0 (contains id (ids_at ms o.0)) o.1 (flat_map (owned_at ms) os) refl
    ∙ ap (λ l. names_of_one id ms o ++ l) (names_of_all id ms os)

-- the components of the variables of all processes
abbrev pub rows : Data → List (Data × Name) → List (Name × List Name) → Vars → Vars
rows id ms os s = own_at 0 id (flat_map (names_of_one id ms) os) s

module _ (id : Data) (ms : List (Data × Name)) (s : Vars) (before : Vars) (o : Name × List Name) (os : List (Name × List Name)) where
  pub row_there : contains id (ids_at ms o.0) ≡ true → before ++ rows id ms (o ∷ os) s ≡ (before ++ own_at 0 id (map (written o.0) o.1) s) ++ rows id ms os s
  row_there h =
      ap (λ t. before ++ own_at 0 id ((if t then map (written o.0) o.1 else []) ++ flat_map (names_of_one id ms) os) s) h
      ∙ ap (λ l. before ++ l) (own_append 0 id (map (written o.0) o.1) (flat_map (names_of_one id ms) os) s)
      ∙ sym (append_assoc before (own_at 0 id (map (written o.0) o.1) s) (rows id ms os s))

  pub row_not_there : contains id (ids_at ms o.0) ≡ false → before ++ rows id ms (o ∷ os) s ≡ before ++ rows id ms os s
  row_not_there h = ap (λ t. before ++ own_at 0 id ((if t then map (written o.0) o.1 else []) ++ flat_map (names_of_one id ms) os) s) h

pub drop_step : {A : Type 0} (xs : List A) (i : ℕ) (x : A) → i < length xs → x ≡ get_or xs i x → drop i xs ≡ x ∷ drop (i + 1) xs
drop_step xs i x h e = rw (add-one, drop-cons xs i x, ← e)

pub nth_id : (xs : List Member) (n : ℕ) (d : Member) → n < length (map (λ m. m.0) (map member_view xs)) → nth (map (λ m. m.0) (map member_view xs)) n ≡ Some (data_of (get_or xs n d).id)
nth_id [] n d h = absurd (omega (arith, h))
nth_id (x ∷ xs) zero d h = refl
nth_id (x ∷ xs) (suc n) d h = nth_id xs n d (omega (arith, h))

-- `pc`, and then the variables
pub assembled : (ids : List Data) (os : List Owned) (s : Vars) (k : ℕ) (id : Data) (one all : Vars) → nth ids k ≡ Some id → one ≡ own_at 0 id (pc ∷ []) s → all ≡ one ++ own_at 0 id (own_names id os) s
    → all ≡ on [] (nth ids k) (λ id. own_at k id (pc ∷ own_names id os) s)
assembled ids os s k id one all at first rest =
    rest ∙ ap (λ l. l ++ own_at 0 id (own_names id os) s) first ∙ own_number 0 k id (pc ∷ own_names id os) s
    ∙ sym (ap (λ o. on [] o (λ id. own_at k id (pc ∷ own_names id os) s)) at)

-- one more at the end of a list
pub one_more : (P : ℕ → Vars → Type 0) (xs : List Vars) (x : Vars) → ((k : ℕ) (o : Vars) → nth xs k ≡ Some o → P k o) → P (length xs) x
    → (k : ℕ) (o : Vars) → nth (xs ++ x ∷ []) k ≡ Some o → P k o
one_more P [] x h p zero o e = subst (P 0) (let q : x ≡ o = grind (arith, e) in q) p
one_more P [] x h p (suc k) o e = absurd (grind (arith, e))
one_more P (y ∷ xs) x h p zero o e = h zero o e
one_more P (y ∷ xs) x h p (suc k) o e = one_more (λ n. P (suc n)) xs x (λ k o. h (suc k) o) p k o e
