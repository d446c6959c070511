-- Which attempts came to the same: those that are like one are like the same others.
use Rattle.std.proofs.Common.{◌≡◌, ℕ, Bool, true, false, Option, Some, None, refl, ap, ◌∙◌, arith}
use Rattle.std.specs.Prelude.{◌&&◌, nat_eq}
use Rattle.std.specs.declared.cmp.Ordering.{Ordering}
use Rattle.std.specs.declared.cmp.Ordering.TheVariants.{Less, Equal, Greater}
use Rattle.std.specs.Ordering.{is_eq}
use Rattle.std.proofs.lemmas.Bool.{and_parts}
use Rattle.pgo_base.specs.Data.{Data}
use Rattle.pgo_base.specs.Order.{data_cmp}
use Rattle.pgo_base.specs.Exact.{data_exact}
use Rattle.pgo_base.specs.Lookup.{Name, same_name}
use Rattle.pgo_base.specs.SameName.{same_name-is}
use Rattle.pgo_model.specs.Operators.{same_data}
use Rattle.pgo_model.specs.Outcome.{Kind}
use Rattle.pgo_bundle.specs.Accounts.{AttemptLine, StepLine, NoteLine, HeldLine, HeldLogLine, DownLine, FullLine}
use Rattle.pgo_show_text.specs.Facts.{is_alike, is_refused, is_index, is_resource, rank}

same_of : (x y : Data) → same_data x y ≡ true → x ≡ y
same_of x y h = go (data_cmp x y) refl h
  where
    go : (o : Ordering) → data_cmp x y ≡ o → is_eq o ≡ true → x ≡ y
    go Less e g = absurd (cc)
    go Equal e g = data_exact x y e
    go Greater e g = absurd (cc)

index_is : (i j : Option Data) → is_index i j ≡ true → i ≡ j
index_is None None h = refl
index_is None (Some w) h = absurd (grind (arith, h))
index_is (Some v) None h = absurd (grind (arith, h))
index_is (Some v) (Some w) h = ap Some (same_of v w h)

number_is : (m n : ℕ) → nat_eq m n ≡ true → m ≡ n
number_is m n h = grind (arith, h)

-- ---- an attempt is like all that differ only in what isn't looked at

steps : (z : AttemptLine) (n m : ℕ) → is_alike z (StepLine n) ≡ is_alike z (StepLine m)
steps (StepLine r) n m = refl
steps (NoteLine c s) n m = refl
steps (HeldLine d w e) n m = refl
steps (HeldLogLine d) n m = refl
steps (DownLine v w e) n m = refl
steps (FullLine r) n m = refl

notes : (z : AttemptLine) (k l : Kind) (p q : ℕ) → rank k ≡ rank l → is_alike z (NoteLine k p) ≡ is_alike z (NoteLine l q)
notes (StepLine r) k l p q t = refl
notes (NoteLine c s) k l p q t = ap (nat_eq (rank c)) t
notes (HeldLine d w e) k l p q t = refl
notes (HeldLogLine d) k l p q t = refl
notes (DownLine v w e) k l p q t = refl
notes (FullLine r) k l p q t = refl

numbers : (z : AttemptLine) (o u : ℕ) (x : Name) (i : Option Data) → is_alike z (DownLine o x i) ≡ is_alike z (DownLine u x i)
numbers (StepLine r) o u x i = refl
numbers (NoteLine c s) o u x i = refl
numbers (HeldLine d w e) o u x i = refl
numbers (HeldLogLine d) o u x i = refl
numbers (DownLine v w e) o u x i = refl
numbers (FullLine r) o u x i = refl

fulls : (z : AttemptLine) (n m : ℕ) → is_alike z (FullLine n) ≡ is_alike z (FullLine m)
fulls (StepLine r) n m = refl
fulls (NoteLine c s) n m = refl
fulls (HeldLine d w e) n m = refl
fulls (HeldLogLine d) n m = refl
fulls (DownLine v w e) n m = refl
fulls (FullLine r) n m = refl

resources : (f : Name → Option Data → Bool) (x y : Name) (i j : Option Data) → is_resource x i y j ≡ true → f x i ≡ f y j
resources f x y i j t =
    let p = and_parts (same_name x y) (is_index i j) t in
    ap (λ w. f w i) (same_name-is x y p.0) ∙ ap (f y) (index_is i j p.1)

helds : (z : AttemptLine) (h g : ℕ) (x y : Name) (i j : Option Data) → (nat_eq h g && is_resource x i y j) ≡ true → is_alike z (HeldLine h x i) ≡ is_alike z (HeldLine g y j)
helds z h g x y i j t =
    let p = and_parts (nat_eq h g) (is_resource x i y j) t in
    ap (λ n. is_alike z (HeldLine n x i)) (number_is h g p.0) ∙ resources (λ w e. is_alike z (HeldLine g w e)) x y i j p.1

downs : (z : AttemptLine) (o u : ℕ) (x y : Name) (i j : Option Data) → is_resource x i y j ≡ true → is_alike z (DownLine o x i) ≡ is_alike z (DownLine u y j)
downs z o u x y i j t = numbers z o u x i ∙ resources (λ w e. is_alike z (DownLine u w e)) x y i j t

-- what is like one of two that are alike is like the other
pub alike_to : (z b a : AttemptLine) → is_alike b a ≡ true → is_alike z b ≡ is_alike z a
alike_to z (StepLine n) (StepLine m) t = steps z n m
alike_to z (StepLine n) (NoteLine l q) t = absurd (grind (arith, t))
alike_to z (StepLine n) (HeldLine g y j) t = absurd (grind (arith, t))
alike_to z (StepLine n) (HeldLogLine g) t = absurd (grind (arith, t))
alike_to z (StepLine n) (DownLine u y j) t = absurd (grind (arith, t))
alike_to z (StepLine n) (FullLine m) t = absurd (grind (arith, t))
alike_to z (NoteLine k p) (StepLine m) t = absurd (grind (arith, t))
alike_to z (NoteLine k p) (NoteLine l q) t = notes z k l p q (number_is (rank k) (rank l) t)
alike_to z (NoteLine k p) (HeldLine g y j) t = absurd (grind (arith, t))
alike_to z (NoteLine k p) (HeldLogLine g) t = absurd (grind (arith, t))
alike_to z (NoteLine k p) (DownLine u y j) t = absurd (grind (arith, t))
alike_to z (NoteLine k p) (FullLine m) t = absurd (grind (arith, t))
alike_to z (HeldLine h x i) (StepLine m) t = absurd (grind (arith, t))
alike_to z (HeldLine h x i) (NoteLine l q) t = absurd (grind (arith, t))
alike_to z (HeldLine h x i) (HeldLine g y j) t = helds z h g x y i j t
alike_to z (HeldLine h x i) (HeldLogLine g) t = absurd (grind (arith, t))
alike_to z (HeldLine h x i) (DownLine u y j) t = absurd (grind (arith, t))
alike_to z (HeldLine h x i) (FullLine m) t = absurd (grind (arith, t))
alike_to z (HeldLogLine h) (StepLine m) t = absurd (grind (arith, t))
alike_to z (HeldLogLine h) (NoteLine l q) t = absurd (grind (arith, t))
alike_to z (HeldLogLine h) (HeldLine g y j) t = absurd (grind (arith, t))
alike_to z (HeldLogLine h) (HeldLogLine g) t = ap (λ r. is_alike z (HeldLogLine r)) (number_is h g t)
alike_to z (HeldLogLine h) (DownLine u y j) t = absurd (grind (arith, t))
alike_to z (HeldLogLine h) (FullLine m) t = absurd (grind (arith, t))
alike_to z (DownLine o x i) (StepLine m) t = absurd (grind (arith, t))
alike_to z (DownLine o x i) (NoteLine l q) t = absurd (grind (arith, t))
alike_to z (DownLine o x i) (HeldLine g y j) t = absurd (grind (arith, t))
alike_to z (DownLine o x i) (HeldLogLine g) t = absurd (grind (arith, t))
alike_to z (DownLine o x i) (DownLine u y j) t = downs z o u x y i j t
alike_to z (DownLine o x i) (FullLine m) t = absurd (grind (arith, t))
alike_to z (FullLine n) (StepLine m) t = absurd (grind (arith, t))
alike_to z (FullLine n) (NoteLine l q) t = absurd (grind (arith, t))
alike_to z (FullLine n) (HeldLine g y j) t = absurd (grind (arith, t))
alike_to z (FullLine n) (HeldLogLine g) t = absurd (grind (arith, t))
alike_to z (FullLine n) (DownLine u y j) t = absurd (grind (arith, t))
alike_to z (FullLine n) (FullLine m) t = fulls z n m

-- a refusal is like refusals alone
pub unlike : (b a : AttemptLine) → is_refused b ≡ true → is_refused a ≡ false → is_alike b a ≡ false
unlike (StepLine n) a t f = absurd (grind (arith, t))
unlike (NoteLine k p) a t f = absurd (grind (arith, t))
unlike (HeldLine h x i) (StepLine m) t f = refl
unlike (HeldLine h x i) (NoteLine l q) t f = refl
unlike (HeldLine h x i) (HeldLine g y j) t f = absurd (grind (arith, f))
unlike (HeldLine h x i) (HeldLogLine g) t f = absurd (grind (arith, f))
unlike (HeldLine h x i) (DownLine u y j) t f = absurd (grind (arith, f))
unlike (HeldLine h x i) (FullLine m) t f = absurd (grind (arith, f))
unlike (HeldLogLine h) (StepLine m) t f = refl
unlike (HeldLogLine h) (NoteLine l q) t f = refl
unlike (HeldLogLine h) (HeldLine g y j) t f = absurd (grind (arith, f))
unlike (HeldLogLine h) (HeldLogLine g) t f = absurd (grind (arith, f))
unlike (HeldLogLine h) (DownLine u y j) t f = absurd (grind (arith, f))
unlike (HeldLogLine h) (FullLine m) t f = absurd (grind (arith, f))
unlike (DownLine o x i) (StepLine m) t f = refl
unlike (DownLine o x i) (NoteLine l q) t f = refl
unlike (DownLine o x i) (HeldLine g y j) t f = absurd (grind (arith, f))
unlike (DownLine o x i) (HeldLogLine g) t f = absurd (grind (arith, f))
unlike (DownLine o x i) (DownLine u y j) t f = absurd (grind (arith, f))
unlike (DownLine o x i) (FullLine m) t f = absurd (grind (arith, f))
unlike (FullLine n) (StepLine m) t f = refl
unlike (FullLine n) (NoteLine l q) t f = refl
unlike (FullLine n) (HeldLine g y j) t f = absurd (grind (arith, f))
unlike (FullLine n) (HeldLogLine g) t f = absurd (grind (arith, f))
unlike (FullLine n) (DownLine u y j) t f = absurd (grind (arith, f))
unlike (FullLine n) (FullLine m) t f = absurd (grind (arith, f))
