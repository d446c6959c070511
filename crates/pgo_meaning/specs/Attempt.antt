-- What an attempt does: it tries the choices of its section one after another. Source: this project's choice.
use Rattle.std.proofs.Common.{◌≡◌, ℕ, zero, suc, Bool, true, false, List, [], ◌∷◌, Option, Some, None, refl, sym, ap, ◌∙◌, subst, arith}
use Rattle.std.specs.Prelude.{if◌then◌else◌}
use Rattle.std.specs.List.{AllByRecursion}
use Rattle.pgo_base.specs.Data.{Data}
use Rattle.pgo_base.specs.Lookup.{Vars}
use Rattle.pgo_model.specs.Machine.{nth}
use Rattle.pgo_model.specs.Options.{on}
use Rattle.pgo_model.specs.Outcome.{Many, most_leaves, Outcome, Next, Stuck, Nowhere, Section}
use Rattle.pgo_model.specs.System.{Words, Touched}
use Rattle.pgo_model.specs.Written.{pc}
use Rattle.pgo_syntax.specs.declared.bound.Bound.{Bound}
use Rattle.pgo_syntax.specs.declared.bound.Instance.{Instance}
use Rattle.pgo_bound.specs.Declares.{value_in}
use Rattle.pgo_bound.specs.State.{id_of}
use Rattle.pgo_sections.specs.ChoiceTrees.{in_order}
use Rattle.pgo_sections.specs.Code.{Code}
use Rattle.pgo_sections.specs.Macros.{exec}
use Rattle.pgo_sections.specs.Section.{ended, run_of}
use Rattle.pgo_sections.specs.SectionRun.{begun}
use Rattle.pgo_tries.specs.Attempts.{Tried, Try, is_blocked, then_next, try_from, try_trace}
use Rattle.pgo_tries.specs.Chosen.{In, Here, There, turned}
use Rattle.pgo_tries.specs.Sections.{along}
use Rattle.pgo_meaning.specs.Sect.{Sect, context_of, code_at, nothing}

abbrev pub no_points : Tried Touched Vars
no_points = record { section = nothing; points = [] }

abbrev pub code_leaf : Bound → Instance → Vars → Code → Words → Tried Touched Vars
code_leaf b i s c d = let o = exec (context_of b i s) c [] d (begun [] []) in record { section = ended (context_of b i s) o; points = in_order (run_of o).choices }

-- the section of instance k on s with the words d, and the choices that it makes
abbrev pub SectLeaf : Bound → ℕ → Vars → Words → Tried Touched Vars
SectLeaf b k s d = on no_points (nth b.instances k) (λ i. on no_points (code_at b i (value_in s pc (id_of i))) (λ c. code_leaf b i s c d))

-- an attempt on s with the words d
abbrev pub SectTry : Bound → ℕ → Vars → Words → Section Touched Vars
SectTry b k s d = Try (SectLeaf b k s) d

-- ---- laws

-- a leaf is a section
pub leaf_section : (b : Bound) (k : ℕ) (s : Vars) (d : Words) → (SectLeaf b k s d).section ≡ Sect b k s d
leaf_section b k s d = go (nth b.instances k)
  where
    code : (i : Instance) (o : Option Code) → (on no_points o (λ c. code_leaf b i s c d)).section ≡ on nothing o (λ c. ended (context_of b i s) (exec (context_of b i s) c [] d (begun [] [])))
    code i None = refl
    code i (Some c) = refl

    go : (o : Option Instance) → (on no_points o (λ i. on no_points (code_at b i (value_in s pc (id_of i))) (λ c. code_leaf b i s c d))).section
        ≡ on nothing o (λ i. on nothing (code_at b i (value_in s pc (id_of i))) (λ c. ended (context_of b i s) (exec (context_of b i s) c [] d (begun [] []))))
    go None = refl
    go (Some i) = code i (code_at b i (value_in s pc (id_of i)))

-- an attempt that isn't Many ends as one of its leaves does
try_ends : {R S : Type 0} (run : Words → Tried R S) (w : Words) (room : ℕ) (p : List ℕ) (o : Outcome S) → (Stuck Many ≡ o → ⊥) → (try_from run w room p).end ≡ o → (q : List ℕ) × ((run (along 0 q w)).section.end ≡ o)
try_ends run w zero p o few h = absurd (few h)
try_ends {R} {S} run w (suc room) p o few h = go (is_blocked (run (along 0 p w)).section.end) (turned w 0 (run (along 0 p w)).points) (λ q. try_ends run w room q o few) h
  where
    x : Section R S
    x = (run (along 0 p w)).section

    go : (b : Bool) (t : Option (List ℕ)) → ((q : List ℕ) → (try_from run w room q).end ≡ o → (q : List ℕ) × ((run (along 0 q w)).section.end ≡ o))
        → (if b then then_next x (λ q. try_from run w room q) t else x).end ≡ o → (q : List ℕ) × ((run (along 0 q w)).section.end ≡ o)
    go true None ih h = (p, h)
    go true (Some q) ih h = ih q h
    go false t ih h = (p, h)

-- where the first leaf isn't Blocked, it is all
first_free : {R S : Type 0} (run : Words → Tried R S) (w : Words) (room : ℕ) → is_blocked (run w).section.end ≡ false → try_from run w (suc room) [] ≡ (run w).section
first_free run w room h = ap (λ (b : Bool). if b then then_next (run w).section (λ q. try_from run w room q) (turned w 0 (run w).points) else (run w).section) h

-- an attempt that isn't Many ends as the section does with some words
pub end_of_try : (b : Bound) (k : ℕ) (s : Vars) (d : Words) (o : Outcome Vars) → (Stuck Many ≡ o → ⊥) → (SectTry b k s d).end ≡ o → (v : Words) × ((Sect b k s v).end ≡ o)
end_of_try b k s d o few e =
    let q = try_ends (SectLeaf b k s) d most_leaves [] o few e in
    (along 0 q.0 d, ap (λ (x : Section Touched Vars). x.end) (sym (leaf_section b k s (along 0 q.0 d))) ∙ q.1)

-- so where it goes on, the section does with some words
pub next_of_try : (b : Bound) (k : ℕ) (s : Vars) (d : Words) (t : Vars) (prints : List Data) → (SectTry b k s d).end ≡ Next t prints → (v : Words) × ((Sect b k s v).end ≡ Next t prints)
next_of_try b k s d t prints e = end_of_try b k s d (Next t prints) (λ h. grind (arith, h)) e

-- and it has no end only where the section has none with some words
pub nowhere_of_try : (b : Bound) (k : ℕ) (s : Vars) (d : Words) → (SectTry b k s d).end ≡ Nowhere → (v : Words) × ((Sect b k s v).end ≡ Nowhere)
nowhere_of_try b k s d e = end_of_try b k s d Nowhere (λ h. grind (arith, h)) e

-- what the section accesses with all words, an attempt does
pub trace_of_try : (P : Touched → Type 0) (b : Bound) (k : ℕ) (s : Vars) (d : Words) → ((v : Words) → AllByRecursion P (Sect b k s v).trace) → AllByRecursion P (SectTry b k s d).trace
trace_of_try P b k s d h =
    try_trace (SectLeaf b k s) P d most_leaves [] (λ v. subst (λ (x : Section Touched Vars). AllByRecursion P x.trace) (sym (leaf_section b k s v)) (h v))

-- a member of a list of which each is so
member_is : {A : Type 0} (P : A → Type 0) (l : List A) (x : A) → AllByRecursion P l → In x l → P x
member_is P [] x a i = elim i [ ]
member_is P (x ∷ l) _ a (Here _) = a.0
member_is P (y ∷ l) x a (There _ i) = member_is P l x a.1 i

each_in : {A : Type 0} (P : A → Type 0) (l : List A) → ((x : A) → In x l → P x) → AllByRecursion P l
each_in P [] h = tt
each_in P (x ∷ l) h = (h x (Here l), each_in P l (λ y i. h y (There x i)))

-- so each of its accesses the section makes with some words
pub access_of_try : (b : Bound) (k : ℕ) (s : Vars) (d : Words) (c : Touched) → In c (SectTry b k s d).trace → (v : Words) × In c (Sect b k s v).trace
access_of_try b k s d c i =
    let P : Touched → Type 0 = λ c. (v : Words) × In c (Sect b k s v).trace in
    member_is P (SectTry b k s d).trace c (trace_of_try P b k s d (λ v. each_in P (Sect b k s v).trace (λ x i. (v, i)))) i

-- where the section isn't Blocked with these words, an attempt with them is the section
pub try_first : (b : Bound) (k : ℕ) (s : Vars) (d : Words) → is_blocked (Sect b k s d).end ≡ false → SectTry b k s d ≡ Sect b k s d
try_first b k s d h =
    first_free (SectLeaf b k s) d 65535 (ap (λ (x : Section Touched Vars). is_blocked x.end) (leaf_section b k s d) ∙ h) ∙ leaf_section b k s d

-- so it has no end where the section has none
pub try_nowhere : (b : Bound) (k : ℕ) (s : Vars) (d : Words) → (Sect b k s d).end ≡ Nowhere → (SectTry b k s d).end ≡ Nowhere
try_nowhere b k s d h = ap (λ (x : Section Touched Vars). x.end) (try_first b k s d (ap is_blocked h)) ∙ h
