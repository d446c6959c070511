-- The index of a function at a choice.
use Rattle.std.proofs.Common.{◌≡◌, ℕ, ◌<◌, ◌≤◌, ◌+◌, List, [], ◌∷◌, ◌++◌, length, map, drop, get_or, refl, ap, sym, ◌∙◌, arith, add-one, drop-cons, append_assoc, subst}
use Rattle.std.specs.Prelude.{Some}
use Rattle.pgo_base.specs.View.{data_of}
use Rattle.pgo_base.specs.Lookup.{nth}
use Rattle.pgo_base.specs.declared.bindings.BoundName.{BoundName}
use Rattle.pgo_base.specs.declared.value.Value.{Value}
use Rattle.pgo_model.specs.Operators.{sequence}
use Rattle.pgo_model.specs.Val.{index_of}
use Rattle.pgo_eval.specs.Choices.{AreAt, chosen}
use Rattle.pgo_eval.proofs.Choices.{First, first_chosen}

-- the index over one name
pub one_key : (bs : List BoundName) (d : BoundName) → length bs ≡ 1 → AreAt bs → nth (get_or bs 0 d).set (get_or bs 0 d).at ≡ index_of (chosen bs)
one_key [] d h a = absurd (omega arith)
one_key (b ∷ c ∷ bs) d h a = absurd (omega arith)
one_key (b ∷ []) d h a = let f = first_chosen b [] a.0 in f.is ∙ ap index_of (sym f.before)

-- the index over several names
pub several_keys : (bs : List BoundName) → 2 ≤ length bs → AreAt bs → index_of (chosen bs) ≡ sequence (chosen bs)
several_keys [] h a = absurd (omega arith)
several_keys (b ∷ []) h a = absurd (omega arith)
several_keys (b ∷ c ∷ bs) h a =
    let f = first_chosen b (c ∷ bs) a.0 in
    let g = first_chosen c bs a.1.0 in
    let e : chosen (b ∷ c ∷ bs) ≡ f.member ∷ g.member ∷ chosen bs = f.before ∙ ap (λ xs. f.member ∷ xs) g.before in
    ap index_of e ∙ sym (ap sequence e)

-- the next name has a member
pub next_has : (bs : List BoundName) (i : ℕ) (b : BoundName) → i < length bs → b ≡ get_or bs i b → AreAt (drop i bs) → First b (drop (i + 1) bs)
next_has bs i b h e a =
    let s : drop i bs ≡ b ∷ drop (i + 1) bs = drop-cons bs i b h ∙ (λ j. sym e j ∷ drop (sym (add-one i) j) bs) in
    first_chosen b (drop (i + 1) bs) (subst AreAt s a).0

-- one name more is done
pub next_key : (bs : List BoundName) (i : ℕ) (b : BoundName) (v : Value) (done more : List Value) → i < length bs → b ≡ get_or bs i b → AreAt (drop i bs) → Some (data_of v) ≡ nth b.set b.at → more ≡ done ++ v ∷ [] → chosen bs ≡ map data_of done ++ chosen (drop i bs) → (chosen bs ≡ map data_of more ++ chosen (drop (i + 1) bs)) × AreAt (drop (i + 1) bs)
next_key bs i b v done more h e a g p c =
    let s : drop i bs ≡ b ∷ drop (i + 1) bs = drop-cons bs i b h ∙ (λ j. sym e j ∷ drop (sym (add-one i) j) bs) in
    let f = next_has bs i b h e a in
    let m : f.member ≡ data_of v = let k : Some f.member ≡ Some (data_of v) = sym f.is ∙ sym g in cc in
    (c ∙ ap (λ xs. map data_of done ++ chosen xs) s ∙ ap (λ xs. map data_of done ++ xs) (f.before ∙ ap (λ x. x ∷ chosen (drop (i + 1) bs)) m) ∙ sym (append_assoc (map data_of done) (data_of v ∷ []) (chosen (drop (i + 1) bs))) ∙ ap (λ xs. xs ++ chosen (drop (i + 1) bs)) (sym (pushed done v) ∙ ap (map data_of) (sym p)), (subst AreAt s a).1)
  where
    pushed : (xs : List Value) (y : Value) → map data_of (xs ++ y ∷ []) ≡ map data_of xs ++ data_of y ∷ []
    pushed [] y = refl
    pushed (x ∷ xs) y = ap (λ zs. data_of x ∷ zs) (pushed xs y)
