-- Lists that stand one behind the other, nested to the right and to the left.
use Rattle.std.proofs.Common.{◌≡◌, ℕ, List, [], ◌++◌, ap, sym, ◌∙◌, append_assoc}
use Rattle.std.proofs.lemmas.List.{append-nil}

pub two : (a b : List ℕ) → a ++ (b ++ []) ≡ a ++ b
two a b = ap (λ l. a ++ l) (append-nil b)

pub three : (a b c : List ℕ) → a ++ (b ++ (c ++ [])) ≡ a ++ b ++ c
three a b c = simp (append_assoc, append-nil)

pub five : (a b c d e : List ℕ) → a ++ (b ++ (c ++ (d ++ (e ++ [])))) ≡ a ++ b ++ c ++ d ++ e
five a b c d e = simp (append_assoc, append-nil)

pub six : (a b c d e f : List ℕ) → a ++ (b ++ (c ++ (d ++ (e ++ (f ++ []))))) ≡ a ++ b ++ c ++ d ++ e ++ f
six a b c d e f = simp (append_assoc, append-nil)

pub seven : (a b c d e f g : List ℕ) → a ++ (b ++ (c ++ (d ++ (e ++ (f ++ (g ++ [])))))) ≡ a ++ b ++ c ++ d ++ e ++ f ++ g
seven a b c d e f g = simp (append_assoc, append-nil)

-- the same before another list
pub two_more : (a b x y : List ℕ) → x ≡ y → a ++ (b ++ x) ≡ a ++ b ++ y
two_more a b x y h = sym (append_assoc a b x) ∙ ap (λ l. a ++ b ++ l) h

pub three_more : (a b c x y : List ℕ) → x ≡ y → a ++ (b ++ (c ++ x)) ≡ a ++ b ++ c ++ y
three_more a b c x y h = ap (λ l. a ++ l) (two_more b c x y h) ∙ nested
  where
    nested : a ++ (b ++ c ++ y) ≡ a ++ b ++ c ++ y
    nested = simp append_assoc

pub four_more : (a b c d x y : List ℕ) → x ≡ y → a ++ (b ++ (c ++ (d ++ x))) ≡ a ++ b ++ c ++ d ++ y
four_more a b c d x y h = ap (λ l. a ++ l) (three_more b c d x y h) ∙ nested
  where
    nested : a ++ (b ++ c ++ d ++ y) ≡ a ++ b ++ c ++ d ++ y
    nested = simp append_assoc

-- what is added one behind the other
pub added : {A : Type 0} (whole first second a b c : List A) → first ≡ whole ++ a → second ≡ first ++ b → second ++ c ≡ whole ++ (a ++ (b ++ c))
added whole first second a b c e f =
    ap (λ l. l ++ c) (f ∙ ap (λ l. l ++ b) e) ∙ append_assoc (whole ++ a) b c ∙ append_assoc whole a (b ++ c)
