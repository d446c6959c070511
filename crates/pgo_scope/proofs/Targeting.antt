-- What is looked up among the targets of clauses is what the clauses name.
use Rattle.std.proofs.Common.{◌≡◌, ◌<◌, ◌-◌, ◌+◌, ℕ, suc, Bool, true, false, ◌&&◌, ◌||◌, cond, List, [], ◌∷◌, map, length, zero, refl, subst, ap, sym, ◌∙◌, arith}
use Rattle.std.specs.Prelude.{nat_eq, nat_lt, slice_get, Option, Some, None, unwrap_or}
use Rattle.std.specs.BTreeMap.{is_at}
use Rattle.std.specs.List.{list_any}
use Rattle.std.specs.Ordering.{nat_cmp}
use Rattle.std.specs.BTreeSet.{BTreeSet}
use Rattle.std.proofs.lemmas.Bool.{eq-eqb, eqb-true}
use Rattle.pgo_base.specs.Lookup.{Name, same_name}
use Rattle.pgo_model.specs.Names.{same_name-is, same_name_back}
use Rattle.pgo_syntax.specs.declared.archetype.Archetype.{Archetype}
use Rattle.pgo_syntax.specs.declared.archetype.Parameter.{Parameter}
use Rattle.pgo_syntax.specs.declared.process.Argument.{Argument}
use Rattle.pgo_syntax.specs.declared.process.Argument.TheVariants as arguments
use Rattle.pgo_syntax.specs.declared.process.MappingClause.{MappingClause}
use Rattle.pgo_syntax.specs.declared.process.Process.{Process}
use Rattle.pgo_uses.specs.Names.{Rows, has_row}
use Rattle.pgo_scope.specs.Mapped.{is_ref_to, names_argument, some_clause, some_process, mapped_kind}
use Rattle.pgo_scope.specs.Targets.{has_number, ref_among, some_clause_or, names_parameter, some_process_or, has_number_of, kinds_by, kinds_with}
use Rattle.pgo_scope.specs.UnitRows.{parameter_rows, mapped_kinds, kinds_of}

or_turned : (a b c : Bool) → (a || b) || c ≡ b || (a || c)
or_turned true true c = refl
or_turned true false c = refl
or_turned false b c = refl

pub or_moved : (a b c : Bool) → a || (b || c) ≡ b || (a || c)
or_moved true true c = refl
or_moved true false c = refl
or_moved false b c = refl

or_assoc : (a b c : Bool) → (a || b) || c ≡ a || (b || c)
or_assoc true b c = refl
or_assoc false b c = refl

pub cond_or : (b c : Bool) → cond b true c ≡ b || c
cond_or true c = refl
cond_or false c = refl

same_truth : (b c : Bool) → (b ≡ true → c ≡ true) → (c ≡ true → b ≡ true) → b ≡ c
same_truth true true f g = refl
same_truth false false f g = refl
same_truth true false f g = sym (f refl)
same_truth false true f g = g refl

pub one_less : (m n : ℕ) → 0 < m → nat_eq (m - 1) n ≡ nat_eq m (suc n)
one_less m n h = same_truth (nat_eq (m - 1) n) (nat_eq m (suc n))
    (λ e. eq-eqb m (suc n) (let k : m - 1 ≡ n = eqb-true (m - 1) n e in omega (arith, k, h)))
    (λ e. eq-eqb (m - 1) n (let k : m ≡ suc n = eqb-true m (suc n) e in omega (arith, k, h)))

-- one global more
pub ref_more : (g : Name) (old new : Rows) → ((x : Name) → has_row x new ≡ same_name x g || has_row x old) → (o : Option Argument) → ref_among new o ≡ is_ref_to g o || ref_among old o
ref_more g old new h None = refl
ref_more g old new h (Some (arguments.Value p e)) = refl
ref_more g old new h (Some (arguments.Ref x extent)) = h x.name ∙ ap (λ b. b || has_row x.name old) (same_name_back x.name g)

pub some_or : (b : Bool) (n : ℕ) (es : List Argument) (cs : List MappingClause) → some_clause_or b n es cs ≡ b || some_clause n es cs
some_or b n es [] = go b
  where
    go : (b : Bool) → b ≡ b || false
    go true = refl
    go false = refl
some_or b n es (c ∷ cs) = some_or (names_argument n es c.target || b) n es cs ∙ or_turned (names_argument n es c.target) b (some_clause n es cs)

-- where there is no global
pub no_global : (b : Bool) (o : Option Argument) → b || ref_among [] o ≡ b
no_global b o = go b (ref_among [] o) (none o)
  where
    none : (o : Option Argument) → ref_among [] o ≡ false
    none None = refl
    none (Some (arguments.Value p e)) = refl
    none (Some (arguments.Ref x extent)) = refl

    go : (b c : Bool) → c ≡ false → b || c ≡ b
    go true c h = refl
    go false c h = h

-- what was there, or nothing
pub taken : (o : Option (BTreeSet ℕ)) (none : BTreeSet ℕ) (n : ℕ) → none.keys ≡ [] → has_number (unwrap_or o none) n ≡ has_number_of o n
taken None none n e = ap (list_any (is_at (nat_cmp n))) e
taken (Some s) none n e = refl

-- the process is one more
pub named_more : (old : Name → Bool) (q r : Name) (n : ℕ) (c : Bool) (made : Option (BTreeSet ℕ)) (s : BTreeSet ℕ) (rest : Option (BTreeSet ℕ)) → made ≡ cond (same_name r q) (Some s) rest → has_number s n ≡ old q || c → (same_name r q ≡ false → has_number_of rest n ≡ old r) → has_number_of made n ≡ old r || (same_name r q && c)
named_more old q r n c made s rest e h k = ap (λ o. has_number_of o n) e ∙ go (same_name r q) refl
  where
    or_false : (b : Bool) → b ≡ b || false
    or_false true = refl
    or_false false = refl

    go : (b : Bool) → same_name r q ≡ b → has_number_of (cond b (Some s) rest) n ≡ old r || (b && c)
    go true m = h ∙ ap (λ y. old y || c) (sym (same_name-is r q m))
    go false m = k m ∙ or_false (old r)

some_process_or_is : (b : Bool) (r : Name) (n : ℕ) (ps : List Process) → some_process_or b r n ps ≡ b || some_process r n ps
some_process_or_is b r n [] = go b
  where
    go : (b : Bool) → b ≡ b || false
    go true = refl
    go false = refl
some_process_or_is b r n (p ∷ ps) = some_process_or_is (b || names_parameter r n p) r n ps ∙ or_assoc b (names_parameter r n p) (some_process r n ps)

kinds_are : (f : ℕ → Bool) (r : Name) (procs : List Process) → ((n : ℕ) → f n ≡ some_process r n procs) → (n : ℕ) (ps : List Parameter) → kinds_by f n ps ≡ mapped_kinds r procs n ps
kinds_are f r procs h n [] = refl
kinds_are f r procs h n (p ∷ ps) = λ i. mapped_kind (h n i) p.kind ∷ kinds_are f r procs h (suc n) ps i

-- what is named by one of the processes
pub all_kinds_are : (f : Name → ℕ → Bool) (procs : List Process) → ((r : Name) (n : ℕ) → f r n ≡ some_process_or false r n procs) → (rs : List Archetype) → map (kinds_with f) rs ≡ map (kinds_of procs) rs
all_kinds_are f procs h [] = refl
all_kinds_are f procs h (r ∷ rs) = λ i.
    (parameter_rows r.params, kinds_are (f r.name.name) r.name.name procs (λ n. h r.name.name n ∙ some_process_or_is false r.name.name n procs) 0 r.params i) ∷ all_kinds_are f procs h rs i

-- the numbers below the next, where R holds of them
turn_numbers : (R : ℕ → Bool) (i n : ℕ) → nat_lt n (i + 1) && R n ≡ (R i && nat_eq i n) || (nat_lt n i && R n)
turn_numbers R i n = go (nat_eq i n) refl
  where
    here : (b c d : Bool) → b ≡ true → d ≡ false → b && c ≡ (c && true) || (d && c)
    here true true d h k = refl
    here true false true h k = refl
    here true false false h k = refl
    here false c d h k = absurd (cc)

    there : (c x y : Bool) → x ≡ y → x ≡ (c && false) || y
    there true x y h = h
    there false x y h = h

    go : (b : Bool) → nat_eq i n ≡ b → nat_lt n (i + 1) && R n ≡ (R i && b) || (nat_lt n i && R n)
    go true e =
        let same : i ≡ n = eqb-true i n e in
        subst (λ m. nat_lt m (i + 1) && R m ≡ (R i && true) || (nat_lt m i && R m)) same (here (nat_lt i (i + 1)) (R i) (nat_lt i i) (grind arith) (grind arith))
    go false e = there (R i) (nat_lt n (i + 1) && R n) (nat_lt n i && R n) (ap (λ b. b && R n) (grind (arith, e)))

-- one number more, where R holds of it
pub number_turned : (R : ℕ → Bool) (i n : ℕ) (h old new : Bool) → new ≡ (R i && nat_eq i n) || old → old ≡ h || (nat_lt n i && R n) → new ≡ h || (nat_lt n (i + 1) && R n)
number_turned R i n h old new e k =
    e ∙ ap (λ b. (R i && nat_eq i n) || b) k ∙ or_moved (R i && nat_eq i n) h (nat_lt n i && R n)
    ∙ ap (λ b. h || b) (sym (turn_numbers R i n))

-- a number past the last is that of no argument
pub number_inside : (g : Rows) (es : List Argument) (n : ℕ) → nat_lt n (length es) && ref_among g (slice_get es n) ≡ ref_among g (slice_get es n)
number_inside g [] n = none (nat_lt n 0)
  where
    none : (b : Bool) → b && false ≡ false
    none true = refl
    none false = refl
number_inside g (e ∷ es) zero =
    let first : nat_lt 0 (suc (length es)) ≡ true = grind arith in ap (λ b. b && ref_among g (Some e)) first
number_inside g (e ∷ es) (suc n) =
    let less : nat_lt (suc n) (suc (length es)) ≡ nat_lt n (length es) = grind arith in
    ap (λ b. b && ref_among g (slice_get es n)) less ∙ number_inside g es n
