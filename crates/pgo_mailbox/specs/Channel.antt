-- The reliable channel, a mapping macro whose content is a sequence of messages: a read takes the first, and a write puts one behind
-- the last where there are fewer than a capacity.
--
--     read { await Len($variable) > 0; with (m = Head($variable)) { $variable := Tail($variable); yield m; }; }
--     write { await Len($variable) < c; yield Append($variable, $value); }
--
-- m is any name but the content's, and c any but those of the content and the value.
-- Source: this project's choice.
use Rattle.std.specs.Prelude.{◌≡◌, ℕ, false, pos, codes, List, [], ◌∷◌, Option, None}
use Rattle.pgo_base.specs.Lookup.{Name, same_name}
use Rattle.pgo_base.specs.Tree.{Tree, name, number, binary, call, trees}
use Rattle.pgo_base.specs.declared.expr.Infix.TheVariants as infixs
use Rattle.pgo_model.specs.Written.{content_name, value_name}
use Rattle.pgo_syntax.specs.Statement.{Statement, assign, await_that, with_in, yield_as, block, labeled}
use Rattle.pgo_syntax.specs.declared.binding.Origin.TheVariants.{Equals}
use Rattle.pgo_syntax.specs.declared.macros.MappingMacro.{MappingMacro}
use Rattle.pgo_syntax.specs.declared.name.PlacedName.{PlacedName}

abbrev pub Block : Type 0
Block = List (Option PlacedName × Statement)

-- two statements without labels
abbrev pub both_rows : Statement → Statement → Block
both_rows a b = (None, a) ∷ (None, b) ∷ []

-- `f($variable)`
abbrev pub of_content : Name → Tree
of_content f = call f (trees (name content_name ∷ []))

-- `Len($variable) > 0`
abbrev pub is_filled : Tree
is_filled = binary infixs.Greater (of_content (codes "Len")) (number (pos 0))

-- `Len($variable) < c`
abbrev pub has_room : Name → Tree
has_room c = binary infixs.Less (of_content (codes "Len")) (name c)

-- `Append($variable, $value)`
abbrev pub with_value : Tree
with_value = call (codes "Append") (trees (name content_name ∷ name value_name ∷ []))

-- `{ $variable := Tail($variable); yield m; }`; x is the place of the assigned name, and the others are those of the statements
abbrev pub take_rest : PlacedName → (p q r x : ℕ) → Statement
take_rest m p q r x =
    block p (labeled (both_rows
    (assign q (record { left = record { name = record { name = content_name; place = x }; path = [] }; right = of_content (codes "Tail") } ∷ []))
    (yield_as r (name m.name))))

pub record IsRead (b : Block) : Type 0 where
  pub message : PlacedName
  pub await_place : ℕ
  pub with_place : ℕ
  pub block_place : ℕ
  pub assign_place : ℕ
  pub yield_place : ℕ
  pub name_place : ℕ
  pub apart : same_name content_name message.name ≡ false
  pub is : b ≡ both_rows (await_that await_place is_filled) (with_in with_place (record { name = message; origin = Equals (of_content (codes "Head")) } ∷ []) (take_rest message block_place assign_place yield_place name_place))

pub record IsWrite (c : Name) (b : Block) : Type 0 where
  pub await_place : ℕ
  pub yield_place : ℕ
  pub not_content : same_name content_name c ≡ false
  pub not_value : same_name value_name c ≡ false
  pub is : b ≡ both_rows (await_that await_place (has_room c)) (yield_as yield_place with_value)

-- m is the reliable channel, with this capacity
pub record IsChannel (m : MappingMacro) (capacity : Tree) : Type 0 where
  pub limit : Name
  pub capacity_is : capacity ≡ name limit
  pub reads : IsRead m.read
  pub writes : IsWrite limit m.write
