-- An attempt of a system's machine, which names resources by their numbers, tries leaf after leaf too.
use Rattle.std.proofs.Common.{◌≡◌, ℕ, zero, suc, Bool, true, false, List, [], ◌∷◌, ◌++◌, Option, Some, None, refl, ap, ◌∙◌}
use Rattle.std.specs.Prelude.{if◌then◌else◌}
use Rattle.pgo_base.specs.Lookup.{Vars}
use Rattle.pgo_model.specs.Core.{number_among, numbers_of, numbered}
use Rattle.pgo_model.specs.Options.{on}
use Rattle.pgo_model.specs.Outcome.{most_leaves, Section}
use Rattle.pgo_model.specs.System.{System, Resource, Words, Touched}
use Rattle.pgo_syntax.specs.declared.bound.Bound.{Bound}
use Rattle.pgo_tries.specs.Attempts.{Tried, Try, is_blocked, then_next, try_from}
use Rattle.pgo_tries.specs.Chosen.{turned}
use Rattle.pgo_tries.specs.Sections.{along}
use Rattle.pgo_meaning.specs.Attempt.{SectLeaf, SectTry}
use Rattle.pgo_meaning.specs.System.{system_of}

abbrev pub numbered_leaf : System → Tried Touched Vars → Tried ℕ Vars
numbered_leaf y l = record { section = numbered y l.section; points = l.points }

-- the section of instance k on s with the words d, by the numbers of resources, and the choices that it makes
abbrev pub NumberedLeaf : Bound → ℕ → Vars → Words → Tried ℕ Vars
NumberedLeaf b k s d = numbered_leaf (system_of b) (SectLeaf b k s d)

-- ---- laws

numbers_append : (rs : List Resource) (l m : List Touched) → numbers_of rs (l ++ m) ≡ numbers_of rs l ++ numbers_of rs m
numbers_append rs [] m = refl
numbers_append rs (c ∷ l) m = go (number_among rs c) (numbers_append rs l m)
  where
    go : (o : Option ℕ) → numbers_of rs (l ++ m) ≡ numbers_of rs l ++ numbers_of rs m → on (numbers_of rs (l ++ m)) o (λ n. n ∷ numbers_of rs (l ++ m)) ≡ on (numbers_of rs l) o (λ n. n ∷ numbers_of rs l) ++ numbers_of rs m
    go None ih = ih
    go (Some n) ih = ap (λ l. n ∷ l) ih

module _ (y : System) (run : Words → Tried Touched Vars) (w : Words) where
  abbrev run_by_number : Words → Tried ℕ Vars
  run_by_number d = numbered_leaf y (run d)

  numbered_from : (room : ℕ) (p : List ℕ) → numbered y (try_from run w room p) ≡ try_from run_by_number w room p
  numbered_from zero p = refl
  numbered_from (suc room) p = go (is_blocked (run (along 0 p w)).section.end) (turned w 0 (run (along 0 p w)).points) (λ q. numbered_from room q)
    where
      x : Section Touched Vars
      x = (run (along 0 p w)).section

      go : (b : Bool) (t : Option (List ℕ)) → ((q : List ℕ) → numbered y (try_from run w room q) ≡ try_from run_by_number w room q)
          → numbered y (if b then then_next x (λ q. try_from run w room q) t else x) ≡ (if b then then_next (numbered y x) (λ q. try_from run_by_number w room q) t else numbered y x)
      go true None ih = refl
      go true (Some q) ih =
          (λ i. record { trace = numbers_append y.resources x.trace (try_from run w room q).trace i; end = (try_from run w room q).end })
          ∙ ap (λ (z : Section ℕ Vars). record { trace = numbers_of y.resources x.trace ++ z.trace; end = z.end }) (ih q)
      go false t ih = refl

pub numbered_try : (b : Bound) (k : ℕ) (s : Vars) (d : Words) → numbered (system_of b) (SectTry b k s d) ≡ Try (NumberedLeaf b k s) d
numbered_try b k s d = numbered_from (system_of b) (SectLeaf b k s) d most_leaves []
