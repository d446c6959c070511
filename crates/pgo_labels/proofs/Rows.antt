-- The rules of labels on small specifications, computed.
use Rattle.std.specs.Prelude.{◌≡◌, ℕ, pos, true, List, [], ◌∷◌, Option, Some, None, codes, refl}
use Rattle.pgo_base.specs.Tree.{Tree, name, truth, number}
use Rattle.pgo_base.specs.Lookup.{Name}
use Rattle.pgo_syntax.specs.declared.name.PlacedName.{PlacedName}
use Rattle.pgo_syntax.specs.declared.binding.Origin.TheVariants.{Equals}
use Rattle.pgo_syntax.specs.declared.macros.Macro.{Macro}
use Rattle.pgo_syntax.specs.declared.macros.MappingMacro.{MappingMacro}
use Rattle.pgo_syntax.specs.declared.archetype.Archetype.{Archetype}
use Rattle.pgo_syntax.specs.declared.spec.Spec.{Spec}
use Rattle.pgo_syntax.specs.Statement.{Statement, skip, assign, if_then, if_else, while_do, either_of, await_that, with_in, print_out, go_to, yield_as, block, labeled, statements, guarded}
use Rattle.pgo_labels.specs.declared.errors.LabelError.{LabelError}
use Rattle.pgo_labels.specs.declared.errors.LabelError.TheVariants.{NeedsLabel, LabelHere, UnknownLabel, LabelTwice, ReservedDone, YieldRule}
use Rattle.pgo_labels.specs.Inside.{Item}
use Rattle.pgo_labels.specs.Refusal.{label_refusal}

abbrev placed : ℕ → Name → PlacedName
placed p n = record { name = n; place = p }

abbrev spec : List Macro → List MappingMacro → List Archetype → Spec
spec ms maps arches = record {
  name = placed 0 (codes "S");
  extends = [];
  constants = [];
  definitions = [];
  algorithm = placed 1 (codes "S");
  define = None;
  macros = ms;
  mappings = maps;
  archetypes = arches;
  globals = [];
  processes = [];
}

abbrev archetype : ℕ → Name → List Item → Archetype
archetype p n b = record { name = placed p n; params = []; locals = []; body = b }

-- the refusal of an archetype alone
abbrev of_body : List Item → Option LabelError
of_body b = label_refusal (spec [] [] (archetype 10 (codes "A") b ∷ []))

abbrev at : ℕ → Name → Statement → Item
at p l s = (Some (placed p l), s)

abbrev alone : Statement → Item
alone s = (None, s)

abbrev in_braces : ℕ → List Item → Statement
in_braces p b = block p (labeled b)

abbrev when_true : ℕ → Statement → Statement
when_true p s = if_then p (guarded ((p, (truth true, s)) ∷ []))

abbrev set_v : ℕ → Statement
set_v p = assign p (record { left = record { name = placed p (codes "v"); path = [] }; right = number (pos 1) } ∷ [])

abbrev let_w : ℕ → Statement → Statement
let_w p s = with_in p (record { name = placed p (codes "w"); origin = Equals (number (pos 1)) } ∷ []) s

abbrev l : Name
l = codes "l"

abbrev A : Name
A = codes "A"

-- `l: if (TRUE) { goto l; }; v := 1;`
behind_a_jump : of_body (at 20 l (when_true 21 (in_braces 22 (alone (go_to 23 (placed 24 l)) ∷ []))) ∷ alone (set_v 30) ∷ []) ≡ Some (NeedsLabel A l)
behind_a_jump = refl

-- `l: if (TRUE) { v := 1; }; v := 1;`
behind_no_jump : of_body (at 20 l (when_true 21 (in_braces 22 (alone (set_v 23) ∷ []))) ∷ alone (set_v 30) ∷ []) ≡ None
behind_no_jump = refl

-- `l: if (TRUE) { goto l; }; m: v := 1;`
labeled_behind_a_jump : of_body (at 20 l (when_true 21 (in_braces 22 (alone (go_to 23 (placed 24 l)) ∷ []))) ∷ at 30 (codes "m") (set_v 31) ∷ []) ≡ None
labeled_behind_a_jump = refl

-- `l: { goto l; }; v := 1;`
behind_a_block : of_body (at 20 l (in_braces 21 (alone (go_to 23 (placed 24 l)) ∷ [])) ∷ alone (set_v 30) ∷ []) ≡ Some (NeedsLabel A l)
behind_a_block = refl

-- `l: with (w = 1) goto l; v := 1;`
behind_a_with : of_body (at 20 l (let_w 21 (go_to 23 (placed 24 l))) ∷ alone (set_v 30) ∷ []) ≡ Some (NeedsLabel A l)
behind_a_with = refl

-- `l: while (TRUE) { goto l; }; v := 1;`
behind_a_loop : of_body (at 20 l (while_do 21 (truth true) (in_braces 22 (alone (go_to 23 (placed 24 l)) ∷ []))) ∷ alone (set_v 30) ∷ []) ≡ None
behind_a_loop = refl

-- `l: v := 1; while (TRUE) v := 1;`
loop_alone : of_body (at 20 l (set_v 21) ∷ alone (while_do 25 (truth true) (set_v 26)) ∷ []) ≡ Some (NeedsLabel A l)
loop_alone = refl

-- `{ }` and `{ v := 1; l: v := 1; }`
no_statement : of_body [] ≡ Some (NeedsLabel A [])
no_statement = refl

first_alone : of_body (alone (set_v 20) ∷ at 30 l (set_v 31) ∷ []) ≡ Some (NeedsLabel A [])
first_alone = refl

-- `l: with (w = 1) { m: v := 1; };`
in_a_with : of_body (at 20 l (let_w 21 (in_braces 22 (at 23 (codes "m") (set_v 24) ∷ []))) ∷ []) ≡ Some (LabelHere A (codes "m"))
in_a_with = refl

-- `l: goto q;`, and `l: goto Done;`
to_nothing : of_body (at 20 l (go_to 21 (placed 22 (codes "q"))) ∷ []) ≡ Some (UnknownLabel A (codes "q"))
to_nothing = refl

to_done : of_body (at 20 l (go_to 21 (placed 22 (codes "Done"))) ∷ []) ≡ None
to_done = refl

-- `l: v := 1; l: v := 1;`
twice : of_body (at 20 l (set_v 21) ∷ at 30 l (set_v 31) ∷ []) ≡ Some (LabelTwice A l)
twice = refl

-- `Done: v := 1;`
reserved : of_body (at 20 (codes "Done") (set_v 21) ∷ []) ≡ Some (ReservedDone A)
reserved = refl

-- a label in the macro that stands before the archetype comes before the label in its `with`
least_place : label_refusal (spec (record { name = placed 2 (codes "M"); params = []; body = at 3 (codes "k") (set_v 4) ∷ [] } ∷ []) [] (archetype 10 A (at 20 l (let_w 21 (in_braces 22 (at 23 (codes "m") (set_v 24) ∷ []))) ∷ []) ∷ [])) ≡ Some (LabelHere (codes "M") (codes "k"))
least_place = refl

abbrev of_mapping : List Item → List Item → Option LabelError
of_mapping r w = label_refusal (spec [] (record { name = placed 2 (codes "F"); read = r; write = w } ∷ []) [])

abbrev variable : Tree
variable = name (codes "$variable")

abbrev give : ℕ → Tree → Item
give p e = alone (yield_as p e)

abbrev F : Option LabelError
F = Some (YieldRule (codes "F"))

-- `read { await TRUE; with (w = 1) { v := 1; yield w; }; } write { yield $value; }`
channel : of_mapping (alone (await_that 3 (truth true)) ∷ alone (let_w 4 (in_braces 5 (alone (set_v 6) ∷ give 7 variable ∷ []))) ∷ []) (give 8 (name (codes "$value")) ∷ []) ≡ None
channel = refl

value_in_a_read : of_mapping (give 3 (name (codes "$value")) ∷ []) (give 8 variable ∷ []) ≡ F
value_in_a_read = refl

two_yields : of_mapping (give 3 variable ∷ give 4 variable ∷ []) (give 8 variable ∷ []) ≡ F
two_yields = refl

no_else : of_mapping (alone (when_true 3 (yield_as 4 variable)) ∷ []) (give 8 variable ∷ []) ≡ F
no_else = refl

with_else : of_mapping (alone (if_else 3 (guarded ((3, (truth true, yield_as 4 variable)) ∷ [])) (yield_as 5 variable)) ∷ []) (give 8 variable ∷ []) ≡ None
with_else = refl

one_alternative : of_mapping (give 3 variable ∷ []) (alone (either_of 5 (statements (yield_as 6 variable ∷ skip 7 ∷ []))) ∷ []) ≡ F
one_alternative = refl

printed : of_mapping (alone (print_out 3 variable) ∷ give 4 variable ∷ []) (give 8 variable ∷ []) ≡ F
printed = refl

empty : of_mapping (give 3 variable ∷ []) [] ≡ F
empty = refl
