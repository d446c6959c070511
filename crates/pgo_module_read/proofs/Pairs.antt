-- Two parts, one behind the other, and a part in another form: what is read is so, and what is so is read.
use Rattle.std.proofs.Common.{List, ◌++◌, refl, ap, sym, ◌∙◌, subst}
use Rattle.std.proofs.lemmas.List.{append_assoc}
use Rattle.pgo_lexer.specs.declared.token.Lexeme.{Lexeme}
use Rattle.pgo_mpcal_read.specs.Reading.{Parser}
use Rattle.pgo_expr_read.proofs.Steps.{some_pair, next_step}
use Rattle.pgo_mpcal_read.proofs.Parts.{Front, Sound, Reach, front_then}
use Rattle.pgo_module_read.specs.Reading.{both, mapped}

pub data Both {A B : Type 0} (R : List Lexeme → A → Type 0) (S : List Lexeme → B → Type 0) : List Lexeme → A × B → Type 0 where
  pair : {xs ys : List Lexeme} {a : A} {b : B} → R xs a → S ys b → Both R S (xs ++ ys) (a, b)

pub data Mapped {A B : Type 0} (f : A → B) (R : List Lexeme → A → Type 0) : List Lexeme → B → Type 0 where
  as_mapped : {ts : List Lexeme} {a : A} → R ts a → Mapped f R ts (f a)

pub sound_both : {A B : Type 0} (R : List Lexeme → A → Type 0) (S : List Lexeme → B → Type 0) (p : Parser A) (q : Parser B) → Sound R p → Sound S q → Sound (Both R S) (both p q)
sound_both {A} {B} R S p q s t i a rest got =
    front_then R p s i _ _ _ got (λ xs x j e1 d got.
    front_then S q t j _ _ _ got (λ ys y k e2 m got.
    let z = some_pair _ _ _ _ got in
    let P : A × B → Type 0 = λ w. Front (Both R S) i w rest in
    subst P z.0 (record { front = xs ++ ys; split = e1 ∙ ap (λ w. xs ++ w) (e2 ∙ ap (λ w. ys ++ w) z.1) ∙ sym (append_assoc xs ys rest); holds = pair d m })))

pub reach_both : {A B : Type 0} (R : List Lexeme → A → Type 0) (S : List Lexeme → B → Type 0) (p : Parser A) (q : Parser B) (F G : List Lexeme → Type 0) → Reach R p F → Reach S q G
    → ((ys : List Lexeme) (b : B) (rest : List Lexeme) → S ys b → G rest → F (ys ++ rest)) → Reach (Both R S) (both p q) G
reach_both R S p q F G r s between front c (pair {xs = xs} {ys = ys} {a = a} {b = b} d m) rest g =
    ap (both p q) (append_assoc xs ys rest) ∙ next_step _ _ _ _ _ (r xs a d (ys ++ rest) (between ys b rest m g)) (next_step _ _ _ _ _ (s ys b m rest g) refl)

pub sound_mapped : {A B : Type 0} (f : A → B) (R : List Lexeme → A → Type 0) (p : Parser A) → Sound R p → Sound (Mapped f R) (mapped f p)
sound_mapped {A} {B} f R p s i b rest got =
    front_then R p s i _ _ _ got (λ xs a j e d got.
    let z = some_pair _ _ _ _ got in
    let P : B → Type 0 = λ w. Front (Mapped f R) i w rest in
    subst P z.0 (record { front = xs; split = e ∙ ap (λ w. xs ++ w) z.1; holds = as_mapped d }))

pub reach_mapped : {A B : Type 0} (f : A → B) (R : List Lexeme → A → Type 0) (p : Parser A) (F : List Lexeme → Type 0) → Reach R p F → Reach (Mapped f R) (mapped f p) F
reach_mapped f R p F r front b (as_mapped {ts = ts} {a = a} d) rest g = next_step _ _ _ _ _ (r ts a d rest g) refl
