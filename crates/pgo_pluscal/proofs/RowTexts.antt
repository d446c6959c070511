-- The text of a row of statements and what follows it.
use Rattle.std.proofs.Common.{◌≡◌, ◌+◌, ◌-◌, ℕ, zero, suc, List, [], ◌∷◌, ◌++◌, refl, ap, sym, ◌∙◌, arith}
use Rattle.std.specs.Prelude.{codes}
use Rattle.std.proofs.lemmas.List.{append_assoc, append-nil}
use Rattle.pgo_base.specs.Lookup.{Name}
use Rattle.pgo_sections.specs.Expansion.{Expansion}
use Rattle.pgo_pluscal.specs.declared.part.Step.{Step}
use Rattle.pgo_pluscal.specs.declared.part.Step.TheVariants as steps
use Rattle.pgo_pluscal.specs.PartView.{around}
use Rattle.pgo_pluscal.specs.Steps.{level_within, step_text, opened, closings}
use Rattle.pgo_pluscal.specs.Text.{line, tree_text}

-- the line that closes a block
abbrev closing : ℕ → List ℕ
closing n = line n (codes "}" ∷ [])

-- how many blocks a row opens
abbrev blocks : List Step → ℕ
blocks [] = 0
blocks (steps.With x e ∷ ss) = suc (blocks ss)
blocks (steps.In x e ∷ ss) = suc (blocks ss)
blocks (s ∷ ss) = blocks ss

within_is : (n : ℕ) (ss : List Step) → level_within n ss ≡ n + blocks ss
within_is n [] = omega arith
within_is n (steps.With x e ∷ ss) = omega (arith, within_is (n + 1) ss)
within_is n (steps.In x e ∷ ss) = omega (arith, within_is (n + 1) ss)
within_is n (steps.Skip ∷ ss) = within_is n ss
within_is n (steps.Await e ∷ ss) = within_is n ss
within_is n (steps.Assert e ∷ ss) = within_is n ss
within_is n (steps.Print e ∷ ss) = within_is n ss

next : (n k : ℕ) → n + 1 + k ≡ n + suc k
next n k = omega arith

same : (n : ℕ) → n ≡ n + 0
same n = omega arith

closings_last : (n k : ℕ) → closings (n + 1) k ++ closing n ≡ closings n (suc k)
closings_last n zero = ap closing (same n) ∙ sym (append-nil (closing (n + 0)))
closings_last n (suc k) =
    append_assoc (closing (n + 1 + k)) (closings (n + 1) k) (closing n)
    ∙ ap (λ l. closing (n + 1 + k) ++ l) (closings_last n k)
    ∙ ap (λ m. closing m ++ closings n (suc k)) (next n k)

behind : (a o t k : List ℕ) → a ++ (o ++ t ++ k) ≡ a ++ o ++ t ++ k
behind a o t k = simp append_assoc refl

between : (a o t k c : List ℕ) → a ++ (o ++ t ++ k) ++ c ≡ a ++ o ++ t ++ (k ++ c)
between a o t k c = simp append_assoc refl

module _ (own : List Name) (t : Expansion) where
  -- the text of what follows the row, with the lines before it and behind it
  abbrev framed : ℕ → List Step → List ℕ
  framed n ss = opened own n ss ++ tree_text own (level_within n ss) t ++ closings n (blocks ss)

  -- behind a statement that opens a block, and behind another
  in_block : (n : ℕ) (a : List ℕ) (ss : List Step) (r : List ℕ) → r ≡ framed (n + 1) ss
      → a ++ r ++ closing n ≡ a ++ opened own (n + 1) ss ++ tree_text own (level_within (n + 1) ss) t ++ closings n (suc (blocks ss))
  in_block n a ss r e =
      ap (λ l. a ++ l ++ closing n) e
      ∙ between a (opened own (n + 1) ss) (tree_text own (level_within (n + 1) ss) t) (closings (n + 1) (blocks ss)) (closing n)
      ∙ ap (λ l. a ++ opened own (n + 1) ss ++ tree_text own (level_within (n + 1) ss) t ++ l) (closings_last n (blocks ss))

  in_row : (n : ℕ) (a : List ℕ) (ss : List Step) (r : List ℕ) → r ≡ framed n ss
      → a ++ r ≡ a ++ opened own n ss ++ tree_text own (level_within n ss) t ++ closings n (blocks ss)
  in_row n a ss r e =
      ap (λ l. a ++ l) e ∙ behind a (opened own n ss) (tree_text own (level_within n ss) t) (closings n (blocks ss))

  row_text : (n : ℕ) (ss : List Step) → tree_text own n (around ss t) ≡ framed n ss
  row_text n [] = sym (append-nil (tree_text own n t))
  row_text n (steps.With x e ∷ ss) = in_block n (step_text own n (steps.With x e)) ss _ (row_text (n + 1) ss)
  row_text n (steps.In x e ∷ ss) = in_block n (step_text own n (steps.In x e)) ss _ (row_text (n + 1) ss)
  row_text n (steps.Skip ∷ ss) = row_text n ss
  row_text n (steps.Await e ∷ ss) = in_row n (step_text own n (steps.Await e)) ss _ (row_text n ss)
  row_text n (steps.Assert e ∷ ss) = in_row n (step_text own n (steps.Assert e)) ss _ (row_text n ss)
  row_text n (steps.Print e ∷ ss) = in_row n (step_text own n (steps.Print e)) ss _ (row_text n ss)

blocks_are : (n k m : ℕ) (ss : List Step) → m ≡ level_within n ss → k ≡ m - n → blocks ss ≡ k
blocks_are n k m ss e f = omega (arith, within_is n ss)

-- what is added behind `old`: the row's lines, those of what follows, and those that close its blocks
pub part_text : (own : List Name) (t part : Expansion) (n k m : ℕ) (ss : List Step) (old b1 b2 : List ℕ)
    → b1 ≡ old ++ opened own n ss → b2 ≡ b1 ++ tree_text own m t → around ss t ≡ part → m ≡ level_within n ss → k ≡ m - n
    → b2 ++ closings n k ≡ old ++ tree_text own n part
part_text own t part n k m ss old b1 b2 e1 e2 e f g =
    ap (λ l. l ++ closings n k) (e2 ∙ ap (λ l. l ++ tree_text own m t) e1)
    ∙ ap (λ l. old ++ opened own n ss ++ tree_text own l t ++ closings n k) f
    ∙ ap (λ l. old ++ opened own n ss ++ tree_text own (level_within n ss) t ++ closings n l) (sym (blocks_are n k m ss f g))
    ∙ sym (behind old (opened own n ss) (tree_text own (level_within n ss) t) (closings n (blocks ss)))
    ∙ ap (λ l. old ++ l) (sym (row_text own t n ss))
    ∙ ap (λ x. old ++ tree_text own n x) e
