-- What was added in turn, as one text.
use Rattle.std.proofs.Common.{◌≡◌, ◌<◌, ◌-◌, ℕ, zero, suc, List, [], ◌∷◌, ◌++◌, refl, ap, sym, ◌∙◌, arith}
use Rattle.std.specs.Prelude.{codes}
use Rattle.std.proofs.lemmas.List.{append_assoc}
use Rattle.pgo_pluscal.specs.Text.{blanks, line}

nested : (o a b c d e : List ℕ) → o ++ a ++ b ++ c ++ d ++ e ≡ o ++ (a ++ b ++ c ++ d ++ e)
nested o a b c d e = simp append_assoc refl

pub five : (o x1 x2 x3 x4 a b c d e : List ℕ) → x1 ≡ o ++ a → x2 ≡ x1 ++ b → x3 ≡ x2 ++ c → x4 ≡ x3 ++ d
    → x4 ++ e ≡ o ++ (a ++ b ++ c ++ d ++ e)
five o x1 x2 x3 x4 a b c d e e1 e2 e3 e4 =
    ap (λ l. l ++ e) (e4 ∙ ap (λ l. l ++ d) (e3 ∙ ap (λ l. l ++ c) (e2 ∙ ap (λ l. l ++ b) e1))) ∙ nested o a b c d e

pub one_less : (b : List ℕ) (n : ℕ) → 0 < n → b ++ codes "  " ++ blanks (n - 1) ≡ b ++ blanks n
one_less b zero h = absurd (omega arith)
one_less b (suc n) h = append_assoc b (codes "  ") (blanks (suc n - 1)) ∙ ap (λ k. b ++ (codes "  " ++ blanks k)) (less n)
  where
    less : (n : ℕ) → suc n - 1 ≡ n
    less n = omega arith

pub variables_line : (d f : List ℕ) → codes "  " ++ codes "variables " ++ d ++ f ++ codes ";\n" ≡ line 1 (codes "variables " ∷ (d ++ f) ∷ codes ";" ∷ [])
variables_line d f = ap (λ l. codes "  variables " ++ l) (sym (append_assoc (d ++ f) (codes ";") (codes "\n")))
