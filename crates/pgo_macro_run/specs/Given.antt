-- What a macro's block is run with, and what its statements see and do.
use Rattle.std.specs.Prelude.{ℕ, Bool, true, false, List, [], ◌∷◌, ◌++◌, length, get_or, Option, Some, None, option_and_then, unwrap_or}
use Rattle.pgo_base.specs.Data.{Data}
use Rattle.pgo_base.specs.Lookup.{Name, Names}
use Rattle.pgo_base.specs.Tree.{Tree}
use Rattle.pgo_model.specs.Choice.{pick}
use Rattle.pgo_model.specs.Operators.{members_of}
use Rattle.pgo_model.specs.Outcome.{Kind, Blocked, NoValue}
use Rattle.pgo_model.specs.System.{Words}
use Rattle.pgo_model.specs.Val.{Defined, Val}
use Rattle.pgo_model.specs.Written.{self_name}
use Rattle.pgo_syntax.specs.declared.binding.Origin.{Origin}
use Rattle.pgo_syntax.specs.declared.binding.Origin.TheVariants.{Equals, In}
use Rattle.pgo_syntax.specs.declared.binding.WithName.{WithName}
use Rattle.pgo_sections.specs.BoundValues.{bindable}
use Rattle.pgo_sections.specs.Code.{content_name}
use Rattle.pgo_sections.specs.SectionRun.{ChoiceMade, choice_among}

-- the definitions, `self`, the content that the block begins with, and the words of choice
pub record Given : Type 0 where
  pub defs : List Defined
  pub id : Data
  pub old : Data
  pub words : Words

-- the content where the block assigned it, and the choices that were made, the newest first
pub record Now : Type 0 where
  pub content : Option Data
  pub choices : List ChoiceMade

-- how a statement ends
pub data Answer : Type 0 where
  -- the block goes on behind it
  Goes : (now : Now) → Answer
  Yields : (v : Data) → (now : Now) → Answer
  Fails : (kind : Kind) → (choices : List ChoiceMade) → Answer

-- what comes where there is a value
abbrev pub needs : {A : Type 0} → Option A → List ChoiceMade → (A → Answer) → Answer
needs None cs f = Fails NoValue cs
needs (Some v) cs f = f v

-- a condition
abbrev pub decide : Option Bool → List ChoiceMade → Answer → Answer → Answer
decide None cs a b = Fails NoValue cs
decide (Some true) cs a b = a
decide (Some false) cs a b = b

abbrev pub then_do : Answer → (Now → Answer) → Answer
then_do (Goes n) f = f n
then_do (Yields v n) f = Yields v n
then_do (Fails k cs) f = Fails k cs

-- the number that the next word picks among so many
abbrev pub next_pick : Words → Now → ℕ → ℕ
next_pick d n many = pick (d (length n.choices)) many

-- number i of so many was picked
abbrev pub drawn : ℕ → ℕ → Now → Now
drawn many i n = record n { choices = choice_among many i ∷ n.choices }

-- the content is c where there is one
abbrev pub setting : Option (Option Data) → Now → Answer
setting o n = needs o n.choices (λ c. Goes (record n { content = c }))

-- how the names of a `with` are bound
pub data Bound : Type 0 where
  Binds : (env : Names) → (now : Now) → Bound
  Lacks : (kind : Kind) → (choices : List ChoiceMade) → Bound

abbrev pub then_in : Bound → (Names → Now → Answer) → Answer
then_in (Binds env n) f = f env n
then_in (Lacks k cs) f = Fails k cs

-- x is bound to what was found
abbrev pub named : Name → Names → Answer → (Names → Now → Bound) → Bound
named x env (Goes n) f = f env n
named x env (Yields v n) f = f ((x, Some v) ∷ env) n
named x env (Fails k cs) f = Lacks k cs

-- a member that a word picks
abbrev pub choose : Words → List Data → Now → Answer
choose d [] n = Fails Blocked n.choices
choose d (m ∷ ms) n = let many = length (m ∷ ms) in let i = next_pick d n many in Yields (get_or (m ∷ ms) i m) (drawn many i n)

-- an expression sees the names that the block binds, the content and `self`
abbrev pub value_at : List Defined → (id old : Data) → Tree → Names → Option Data → Option Data
value_at ds id old e env c = Val ds e (env ++ ((content_name, Some (unwrap_or c old)) ∷ (self_name, Some id) ∷ [])) [] None

module _ (g : Given) where
  abbrev pub value_of : Tree → Names → Option Data → Option Data
  value_of e env c = value_at g.defs g.id g.old e env c

  -- what a `with` name stands for
  abbrev pub origin : Origin → Names → Now → Answer
  origin (Equals e) env n = needs (bindable (value_of e env n.content)) n.choices (λ v. Yields v n)
  origin (In e) env n = needs (option_and_then members_of (value_of e env n.content)) n.choices (λ ms. choose g.words ms n)

  abbrev pub bind_all : List WithName → Names → Now → Bound
  bind_all [] env n = Binds env n
  bind_all (w ∷ ws) env n = named w.name.name env (origin w.origin env n) (λ env' m. bind_all ws env' m)
