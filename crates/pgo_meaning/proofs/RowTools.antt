-- Specifications in rows, written shortly.
use Rattle.std.specs.List.{list_all}
use Rattle.std.specs.Prelude.{ℕ, zero, suc, Bool, true, not, List, [], ◌∷◌, map, pos, Option, Some, None, codes}
use Rattle.pgo_base.specs.Tree.{Tree, name, number}
use Rattle.pgo_base.specs.Data.{Data, integer, string, set, items, function, pairs}
use Rattle.pgo_base.specs.declared.module.Defined.{Defined}
use Rattle.pgo_base.specs.declared.value.Value.{Value}
use Rattle.pgo_base.specs.Lookup.{Name, Vars}
use Rattle.pgo_model.specs.Outcome.{Kind, Next, Stuck, Section}
use Rattle.pgo_model.specs.Written.{pc}
use Rattle.pgo_syntax.specs.Statement.{Statement, yield_as}
use Rattle.pgo_syntax.specs.declared.archetype.Archetype.{Archetype}
use Rattle.pgo_syntax.specs.declared.assignment.Assignment.{Assignment}
use Rattle.pgo_syntax.specs.declared.assignment.Step.{Step}
use Rattle.pgo_syntax.specs.declared.binding.Origin.{Origin}
use Rattle.pgo_syntax.specs.declared.binding.WithName.{WithName}
use Rattle.pgo_syntax.specs.declared.bound.Binding.{Binding}
use Rattle.pgo_syntax.specs.declared.bound.Bound.{Bound}
use Rattle.pgo_syntax.specs.declared.bound.Target.{Target}
use Rattle.pgo_syntax.specs.declared.bound.Target.TheVariants as targets
use Rattle.pgo_syntax.specs.declared.archetype.Extent.TheVariants as extents
use Rattle.pgo_syntax.specs.declared.macros.Macro.{Macro}
use Rattle.pgo_syntax.specs.declared.macros.MappingMacro.{MappingMacro}
use Rattle.pgo_syntax.specs.declared.name.PlacedName.{PlacedName}
use Rattle.pgo_sections.specs.Expansion.{Expansion, With, In, Skip, Await, Assert, Print, If, Either, End, Expansions, no_expansions, more_expansions}
use Rattle.pgo_model.specs.Names.{is_among}
use Rattle.pgo_model.specs.Choice.{word_at}
use Rattle.pgo_model.specs.System.{Touched}
use Rattle.pgo_meaning.specs.Parameters.{places_of, own_variables}
use Rattle.pgo_sections.specs.PlainTest.{is_plain, plain_code, names_pass}
use Rattle.pgo_meaning.specs.Expansions.{expansions_of}
use Rattle.pgo_meaning.specs.Sect.{Sect}
use Rattle.pgo_meaning.specs.Sections.{sections_of}

abbrev pub placed_name : Name → PlacedName
placed_name x = record { name = x; place = 0 }

abbrev pub assignment : Name → List Step → Tree → Assignment
assignment x path e = record { left = record { name = placed_name x; path = path }; right = e }

abbrev pub with_name : Name → Origin → WithName
with_name x o = record { name = placed_name x; origin = o }

abbrev pub Block : Type 0
Block = List (Option PlacedName × Statement)

abbrev pub archetype : Name → List Name → Block → Archetype
archetype x locals b = record { name = placed_name x; params = []; locals = map (λ y. record { name = placed_name y; initial = None }) locals; body = b }

abbrev pub macro : Name → List Name → Block → Macro
macro x ps b = record { name = placed_name x; params = map placed_name ps; body = b }

abbrev pub mapping : Name → Block → Block → MappingMacro
mapping x r w = record { name = placed_name x; read = r; write = w }

abbrev pub binding : Name → Target → Binding
binding x t = record { parameter = x; target = t }

abbrev pub n : ℕ → Tree
n k = number (pos k)

abbrev pub int : ℕ → Data
int k = integer (pos k)

-- 7, in a set in a set, so many times
abbrev pub deep : ℕ → Data
deep zero = int 7
deep (suc k) = set (items (deep k ∷ []))

-- an unmapped parameter
abbrev pub ref : Name → Name → Binding
ref x g = binding x (targets.Global g extents.Whole None)

-- a mapping macro's `write` that writes what it is given
abbrev pub writes_value : Block
writes_value = (None, yield_as 0 (name (codes "$value"))) ∷ []

-- ---- what comes of a section

abbrev pub whole : Name → Touched
whole g = (g, None)

abbrev pub element : Name → ℕ → Touched
element g k = (g, Some (int k))

-- where the instance 1 is
abbrev pub at_label : Name → Name × Data
at_label l = (pc, function (pairs ((int 1, string l) ∷ [])))

abbrev pub stuck : List Touched → Kind → Section Touched Vars
stuck ts kind = record { trace = ts; end = Stuck kind }

abbrev pub leads : List Touched → Vars → List Data → Section Touched Vars
leads ts t prints = record { trace = ts; end = Next t prints }

-- ---- specifications

abbrev mutual
  -- the tree as it is printed: neither a `skip` nor that a macro is called is seen in it
  pub without_skips : Expansion → Expansion
  without_skips (With x e rest) = With x e (without_skips rest)
  without_skips (In x e rest) = In x e (without_skips rest)
  without_skips (Skip rest) = without_skips rest
  without_skips (Await e rest) = Await e (without_skips rest)
  without_skips (Assert e rest) = Assert e (without_skips rest)
  without_skips (Print e rest) = Print e (without_skips rest)
  without_skips (If e a b) = If e (without_skips a) (without_skips b)
  without_skips (Either arms) = Either (all_without_skips arms)
  without_skips (End changes l) = End changes l

  pub all_without_skips : Expansions → Expansions
  all_without_skips no_expansions = no_expansions
  all_without_skips (more_expansions x xs) = more_expansions (without_skips x) (all_without_skips xs)

abbrev pub all_expansions : List Name → List Macro → Name → Archetype → List Binding → List (Name × Expansion)
all_expansions vars ms p a bs = map (λ e. (e.0, without_skips e.1)) (expansions_of vars ms p a bs)

-- a specification with these macros and globals, bound with one instance
abbrev pub one_instance : List Macro → Name → Archetype → List Binding → List Name → List Defined → Value → Bound
one_instance ms p a bs globals ds id = record {
  spec = record {
    name = placed_name (codes "S");
    extends = [];
    constants = [];
    definitions = [];
    algorithm = placed_name (codes "S");
    define = None;
    macros = ms;
    mappings = [];
    archetypes = a ∷ [];
    globals = map (λ g. record { name = placed_name g; initial = None }) globals;
    processes = [];
  };
  defs = ds;
  instances = record { number = 0; id = id; process = p; archetype = a; bindings = bs } ∷ [];
  resources = [];
  start = [];
}

-- what its section does on a state, with these words of choice
abbrev pub row_of : List Macro → Name → Archetype → List Binding → List Name → List Defined → Value → Vars → List ℕ → Section Touched Vars
row_of ms p a bs globals ds id s ws = Sect (one_instance ms p a bs globals ds id) 0 s (word_at ws)

-- the names of all sections of a process are well formed
abbrev pub all_plain : List Name → List Name → List Macro → Name → Archetype → List Binding → Bool
all_plain vars globals ms p a bs = list_all (λ c. plain_code vars globals (places_of p a bs) [] c.1) (sections_of ms p a bs)

-- these bodies have no prime, and name no variable
abbrev pub all_closed : List Name → List Tree → Bool
all_closed vars es = list_all (λ e. is_plain (λ x. not (is_among x vars)) (λ x. not (is_among x vars)) (λ x. true) e) es

-- the names of the variables are as `Fit` asks
abbrev pub all_named : List Name → List Name → Name → Archetype → List Binding → Bool
all_named vars globals p a bs = names_pass vars globals (own_variables p a bs) (places_of p a bs)
