-- The code that one level of it stands for.
use Rattle.std.specs.Prelude.{List, [], ◌∷◌}
use Rattle.pgo_base.specs.ExprView.{tree}
use Rattle.pgo_sections.specs.Code.{Code, Empty, Skip, Let, Pick, Await, Assert, Print, If, Either, Seq, Goto, Yield, Read, Codes, no_codes, more_codes, in_turn}
use Rattle.pgo_meaning.specs.Statements.{Setting}
use Rattle.pgo_rewrite.specs.Views.{mapped_view}
use Rattle.pgo_effects.specs.declared.piece.Effect.{Effect}
use Rattle.pgo_effects.specs.declared.piece.Effect.TheVariants as effects
use Rattle.pgo_effects.specs.declared.piece.Last.{Last}
use Rattle.pgo_effects.specs.declared.piece.Last.TheVariants as last
use Rattle.pgo_effects.specs.declared.piece.Piece.{Piece}
use Rattle.pgo_effects.specs.Todos.{change_code, code_of, codes_of}

-- an effect, and what is done then
abbrev pub effect_code : Effect → Code → Code
effect_code (effects.Let b x e) c = Let b x (tree e) c
effect_code (effects.Pick b x e) c = Pick b x (tree e) c
effect_code (effects.Read x m i) c = Read x m.global.now i (mapped_view m).reads c

abbrev pub code_with : List Effect → Code → Code
code_with [] c = c
code_with (e ∷ es) c = effect_code e (code_with es c)

-- these arms, and then further ones
abbrev pub arms_then : List Code → Codes → Codes
arms_then [] ds = ds
arms_then (c ∷ cs) ds = more_codes c (arms_then cs ds)

abbrev pub all_arms : List Code → Codes
all_arms cs = arms_then cs no_codes

abbrev pub last_code : Setting → Last → Code
last_code s last.Empty = Empty
last_code s last.Skip = Skip
last_code s (last.Change c) = change_code c
last_code s (last.Await e) = Await (tree e)
last_code s (last.Assert e) = Assert (tree e)
last_code s (last.Print e) = Print (tree e)
last_code s (last.Yield e) = Yield (tree e)
last_code s (last.Goto l) = Goto l
last_code s (last.If e t u) = If (tree e) (code_of s t) (code_of s u)
last_code s (last.Either ts) = Either (all_arms (codes_of s ts.items))
last_code s (last.Then t u) = Seq (code_of s t) (code_of s u)
last_code s (last.Row ts) = in_turn (codes_of s ts.items)
last_code s (last.Code t) = code_of s t

abbrev pub piece_code : Setting → Piece → Code
piece_code s p = code_with p.effects.items (last_code s p.last)
