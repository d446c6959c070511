-- What is read of a text is what it spells.
use Rattle.std.proofs.Common.{◌≡◌, ℕ, List, Result, Ok, Err, IfOk, sym, ◌∙◌, subst}
use Rattle.pgo_lexer.specs.declared.token.Lexeme.{Lexeme}
use Rattle.pgo_lexer.specs.declared.errors.TextStop.{TextStop}
use Rattle.pgo_lexer.specs.declared.errors.TextStop.TheVariants.{Syntax, NoMemory}
use Rattle.pgo_spec_text.specs.SpecText.{IsSpecText}
use Rattle.pgo_spec_text.specs.SpecText as layout
use Rattle.pgo_syntax.specs.declared.spec.Spec.{Spec}
use Rattle.pgo_expr_read.specs.Steps.{Makes}
use Rattle.pgo_mpcal_read.specs.ReadingSpec.{spec}
use Rattle.pgo_mpcal_read.specs.Spells.{SpellsTokens}
use Rattle.pgo_mpcal_read.specs.Texts.{SpellsSpec, IsOrNoMemory}
use Rattle.pgo_mpcal_read.proofs.Exact.{found_tokens, only_tokens, one_spec_of_tokens}

pub found_text : (text : List ℕ) (h a : List Lexeme) (r : Result Spec TextStop) → IsSpecText text h a → Makes (spec h a) r → IfOk r (λ s. SpellsSpec text s)
found_text text h a (Ok s) t made = record { header = h; algorithm = a; layout = t; spells = found_tokens h a s made }
found_text text h a (Err stop) t made = tt

only_spec : (h a : List Lexeme) (r : Result Spec TextStop) → Makes (spec h a) r → (s : Spec) → SpellsTokens h a s → IsOrNoMemory r s
only_spec h a (Ok z) made s d = let q = sym made ∙ only_tokens h a s d in cc
only_spec h a (Err (Syntax n)) made s d = absurd (let q = sym made ∙ only_tokens h a s d in cc)
only_spec h a (Err NoMemory) made s d = tt

pub only_text : (text : List ℕ) (h a : List Lexeme) (r : Result Spec TextStop) → ((h2 a2 : List Lexeme) → IsSpecText text h2 a2 → (h ≡ h2) × (a ≡ a2)) → Makes (spec h a) r → (s : Spec) → SpellsSpec text s → IsOrNoMemory r s
only_text text h a r same made s d =
    let q = same d.header d.algorithm d.layout in
    let P : List Lexeme → Type 0 = λ x. SpellsTokens x d.algorithm s in
    let Q : List Lexeme → Type 0 = λ x. SpellsTokens h x s in
    only_spec h a r made s (subst Q (sym q.1) (subst P (sym q.0) d.spells))

-- without tokens there is no specification
pub only_err : (text : List ℕ) (stop : TextStop) → ((h a : List Lexeme) → IsSpecText text h a → layout.IsOrNoMemory (Err stop) h a) → (s : Spec) → SpellsSpec text s → IsOrNoMemory (Err stop) s
only_err text (Syntax n) only s d = absurd (only d.header d.algorithm d.layout)
only_err text NoMemory only s d = tt

pub one_text : ((text : List ℕ) (h a h2 a2 : List Lexeme) → IsSpecText text h a → IsSpecText text h2 a2 → (h ≡ h2) × (a ≡ a2))
    → (text : List ℕ) (s t : Spec) → SpellsSpec text s → SpellsSpec text t → s ≡ t
one_text same text s t d e =
    let q = same text d.header d.algorithm e.header e.algorithm d.layout e.layout in
    let P : List Lexeme → Type 0 = λ x. SpellsTokens x d.algorithm s in
    let Q : List Lexeme → Type 0 = λ x. SpellsTokens e.header x s in
    one_spec_of_tokens e.header e.algorithm s t (subst Q q.1 (subst P q.0 d.spells)) e.spells
