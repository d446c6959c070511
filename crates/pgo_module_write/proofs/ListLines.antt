-- A line with names behind a word.
use Rattle.std.proofs.Common.{◌≡◌, ℕ, true, false, List, [], ◌∷◌, ◌++◌, refl, ap, sym, ◌∙◌, subst}
use Rattle.std.specs.Prelude.{codes}
use Rattle.std.proofs.lemmas.List.{append_assoc, append-nil}
use Rattle.pgo_base.specs.Lookup.{Name}
use Rattle.pgo_model.specs.ExprText.{names_text}
use Rattle.pgo_model.specs.ModuleText.{line}
use Rattle.pgo_lexer.specs.declared.token.Lexeme.{Lexeme}
use Rattle.pgo_lexer.specs.declared.token.Token.TheVariants as t
use Rattle.pgo_expr_read.specs.Lookahead.{tokens_of}
use Rattle.pgo_expr_read.specs.Spells.{names}
use Rattle.pgo_mpcal_read.specs.Elements.{word}
use Rattle.pgo_expr_write.specs.WellFormed.{IsName, AreNames}
use Rattle.pgo_expr_write.proofs.Lexed.{SignsEnd, Lexed, blank, end}
use Rattle.pgo_expr_write.proofs.Leaves.{name_said}
use Rattle.pgo_expr_write.proofs.Inners.{regroup}
use Rattle.pgo_module_spells.specs.Grammar.{AreListed, listed}
use Rattle.pgo_module_write.proofs.Placed.{begins_blank}
use Rattle.pgo_module_write.proofs.Blocks.{Said, line_said}
use Rattle.pgo_module_write.proofs.NameLines.{names_before, no_blank}
use Rattle.pgo_module_write.proofs.TokenShapes.{one_token, names_shape}

-- names behind this word
abbrev pub Lists : Name → List Name → List Lexeme → Type 0
Lists h ns ts = AreListed h ts ns

listed_shape : (h x : Name) (xs : List Name) (ls : List Lexeme) → tokens_of ls ≡ t.Name h ∷ names x xs → Lists h (x ∷ xs) ls
listed_shape h x xs ls e =
    let first = one_token ls (t.Name h) (names x xs) e in
    let items = names_shape x xs first.rest first.same in
    subst (λ z. AreListed h z (x ∷ xs)) (sym first.is) (subst (λ z. AreListed h (word first.spot h ∷ first.rest) z) items.same (listed first.spot items.items))

listed_lexed : (h x : Name) (xs : List Name) → IsName h → IsName x → AreNames xs → Lexed [] true (h ++ codes " " ++ names_text (x ∷ xs)) (t.Name h ∷ names x xs)
listed_lexed h x xs named first others =
    let behind = names_before x xs first others [] true [] [] tt end in
    let bytes : h ++ (32 ∷ (names_text (x ∷ xs) ++ [])) ≡ h ++ codes " " ++ names_text (x ∷ xs) = ap (λ z. h ++ (32 ∷ z)) (append-nil (names_text (x ∷ xs))) ∙ sym (append_assoc h (32 ∷ []) (names_text (x ∷ xs))) in
    regroup _ _ _ _ bytes (ap (λ z. t.Name h ∷ z) (append-nil (names x xs))) (name_said h (32 ∷ (names_text (x ∷ xs) ++ [])) named (refl, refl) (blank behind))

listed_begins : (h text : List ℕ) → IsName h → begins_blank (h ++ codes " " ++ text) ≡ false
listed_begins h text named = ap begins_blank (append_assoc h (codes " ") text) ∙ no_blank h (codes " " ++ text) named

pub listed_said : SignsEnd → (h x : Name) (xs : List Name) → IsName h → IsName x → AreNames xs → Said (Lists h (x ∷ xs)) (line (h ++ codes " " ++ names_text (x ∷ xs)))
listed_said ends h x xs named first others =
    line_said ends (h ++ codes " " ++ names_text (x ∷ xs)) (t.Name h) (names x xs) (listed_lexed h x xs named first others) (listed_begins h (names_text (x ∷ xs)) named) refl (listed_shape h x xs)

-- one name or more
pub some_listed : SignsEnd → (h : Name) (ns : List Name) → IsName h → AreNames ns → (ns ≡ [] → ⊥) → Said (Lists h ns) (line (h ++ codes " " ++ names_text ns))
some_listed ends h [] named are some = absurd (some refl)
some_listed ends h (x ∷ xs) named are some = listed_said ends h x xs named are.0 are.1
