-- Which macros bind which names, and sets of macros whose bound names may not stand in arguments, as they lie in memory. A
-- macro is its place among all macros.
use Rattle.std.specs.Prelude.{ℕ, Bool, false, ◌||◌, if◌then◌else◌, map, slice_get, List, [], ◌∷◌, Option, Some, None}
use Rattle.std.specs.Borrow.{Bor}
use Rattle.std.specs.BTreeSet.{BTreeSet}
use Rattle.std.specs.Global.{Vec}
use Rattle.pgo_base.specs.Lookup.{Name}
use Rattle.pgo_base.specs.NameMaps.{found}
use Rattle.pgo_syntax.specs.declared.macros.Macro.{Macro}
use Rattle.pgo_uses.specs.AllUses.{macro_uses}
use Rattle.pgo_scope.specs.declared.binders.Binders.{Binders}
use Rattle.pgo_scope.specs.declared.captures.Captures.{Captures}
use Rattle.pgo_scope.specs.declared.captures.CaptureTable as code
use Rattle.pgo_scope.specs.declared.handed.HandedOn.{HandedOn}
use Rattle.pgo_scope.specs.Targets.{has_number_of}
use Rattle.pgo_scope.specs.Twice.{MacroCaptures, CaptureTable, is_bound_in}

abbrev pub is_bound_by : ℕ → Name → Option Macro → Bool
is_bound_by i x None = false
is_bound_by i x (Some m) = is_bound_in false (macro_uses i m) x

-- the macro in this place binds the name
abbrev pub bound_at : List Macro → ℕ → Name → Bool
bound_at ms i x = is_bound_by i x (slice_get ms i)

abbrev pub binds : Binders → ℕ → Name → Bool
binds b i x = has_number_of (found b.map x) i

-- one of these numbers is in the set, if there is one
abbrev pub some_number : Option (BTreeSet ℕ) → List ℕ → Bool
some_number s [] = false
some_number s (i ∷ is) = has_number_of s i || some_number s is

-- one of these macros binds the name
abbrev pub some_binds : Binders → BTreeSet ℕ → Name → Bool
some_binds b s x = some_number (found b.map x) s.keys

-- c, or a macro of one of these sets binds the name
abbrev pub some_set_binds : Bool → Binders → List (Bor (BTreeSet ℕ)) → Name → Bool
some_set_binds c b [] x = c
some_set_binds c b (s ∷ ss) x = some_set_binds (some_binds b s.now x || c) b ss x

-- c, or a macro of one of the sets that p has binds x
abbrev pub some_set_of : Bool → Binders → Option (Vec (Bor (BTreeSet ℕ))) → Name → Bool
some_set_of c b None x = c
some_set_of c b (Some ss) x = some_set_binds c b ss.items x

-- x may not stand in an argument in which p stands
abbrev pub is_handed : Binders → HandedOn → Name → Name → Bool
is_handed b k p x = some_set_of false b (found k.map p) x

-- x may not stand in the argument for p: one of these macros binds it, or it may not stand where p is handed on
abbrev pub is_captured : Binders → HandedOn → BTreeSet ℕ → Name → Name → Bool
is_captured b k own p x = some_set_of (some_binds b own x) b (found k.map p) x

-- c, or where b is true v
abbrev pub or_if : Bool → Bool → Bool → Bool
or_if b v c = if b then v || c else c

-- the names that may not stand in arguments of a macro, and in those of the first macros
abbrev pub see_macro_captures : Binders → Captures → MacroCaptures
see_macro_captures b c = (map (some_binds b) c.handed.items, some_binds b c.own)

abbrev pub see_captures : code.CaptureTable → CaptureTable
see_captures k = (k.names.now, map (see_macro_captures k.binders.now) k.list.now)
