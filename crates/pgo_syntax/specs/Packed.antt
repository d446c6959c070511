-- Values as trees of numbers that can be read back, by which a proof tells them apart.
use Rattle.std.specs.Prelude.{◌≡◌, ◌⊎◌, ℕ, zero, suc, List, [], ◌∷◌, Option, Some, None, refl}
use Rattle.std.proofs.Common.{ap, ◌∙◌, inl, inr}
use Rattle.std.specs.Coded.{Coded, code_by}
use base.Stored.{Gv, gnil, gnum, gcons}
use denote.Struct.Codes.{itself}
use Rattle.pgo_base.specs.Data.{Data}
use Rattle.pgo_base.specs.Code.{num_of, text_tree, text_of, text_back, coded_data, data_of, back}
use Rattle.pgo_base.specs.View as values
use Rattle.pgo_base.specs.ValueCode.{value_from, value_back}
use Rattle.pgo_base.specs.declared.value.Value.{Value}
use Rattle.pgo_base.specs.Tree.{Tree}
use Rattle.pgo_base.specs.TreeCode.{tree_code, tree_of, tree_back}

pub record Packed (A : Type 0) : Type 0 where
  pub pack : A → Gv
  pub unpack : Gv → A
  pub back : (x : A) → unpack (pack x) ≡ x

abbrev pub coded_of : {A : Type 0} → Packed A → Coded A
coded_of p = code_by Gv itself p.pack p.unpack p.back

-- as B is, where `from` undoes `to`
abbrev pub packed_by : {A : Type 0} (B : Type 0) → Packed B → (to : A → B) (from : B → A) → ((x : A) → from (to x) ≡ x) → Packed A
packed_by B p to from back = record { pack = λ x. p.pack (to x); unpack = λ g. from (p.unpack g); back = λ x. ap from (p.back (to x)) ∙ back x }

abbrev pub head : Gv → Gv
head (gcons a b) = a
head _ = gnil

abbrev pub tail : Gv → Gv
tail (gcons a b) = b
tail _ = gnil

abbrev pub packed_ℕ : Packed ℕ
packed_ℕ = record { pack = gnum; unpack = num_of; back = λ n. refl }

abbrev pub packed_name : Packed (List ℕ)
packed_name = record { pack = text_tree; unpack = text_of; back = text_back }

abbrev pub packed_tree : Packed Tree
packed_tree = record { pack = tree_code; unpack = tree_of; back = tree_back }

abbrev pub packed_data : Packed Data
packed_data = record { pack = coded_data.code; unpack = data_of; back = back }

abbrev pub packed_value : Packed Value
packed_value = packed_by Data packed_data values.data_of value_from value_back

module _ {A B : Type 0} (a : Packed A) (b : Packed B) where
  abbrev pub packed× : Packed (A × B)
  packed× = record { pack = λ p. gcons (a.pack p.0) (b.pack p.1); unpack = λ g. (a.unpack (head g), b.unpack (tail g)); back = λ p i. (a.back p.0 i, b.back p.1 i) }

  abbrev either : ℕ → Gv → A ⊎ B
  either zero g = inl (a.unpack g)
  either (suc n) g = inr (b.unpack g)

  abbrev pack⊎ : A ⊎ B → Gv
  pack⊎ (inl x) = gcons (gnum 0) (a.pack x)
  pack⊎ (inr y) = gcons (gnum 1) (b.pack y)

  pub back⊎ : (s : A ⊎ B) → either (num_of (head (pack⊎ s))) (tail (pack⊎ s)) ≡ s
  back⊎ (inl x) = ap inl (a.back x)
  back⊎ (inr y) = ap inr (b.back y)

  abbrev pub packed⊎ : Packed (A ⊎ B)
  packed⊎ = record { pack = pack⊎; unpack = λ g. either (num_of (head g)) (tail g); back = back⊎ }

module _ {A : Type 0} (a : Packed A) where
  abbrev pack_option : Option A → Gv
  pack_option None = gnil
  pack_option (Some x) = gcons (a.pack x) gnil

  abbrev unpack_option : Gv → Option A
  unpack_option (gcons g h) = Some (a.unpack g)
  unpack_option _ = None

  pub back_option : (o : Option A) → unpack_option (pack_option o) ≡ o
  back_option None = refl
  back_option (Some x) = ap Some (a.back x)

  abbrev pub packed_option : Packed (Option A)
  packed_option = record { pack = pack_option; unpack = unpack_option; back = back_option }

  abbrev pack_list : List A → Gv
  pack_list [] = gnil
  pack_list (x ∷ xs) = gcons (a.pack x) (pack_list xs)

  abbrev unpack_list : Gv → List A
  unpack_list gnil = []
  unpack_list (gnum n) = []
  unpack_list (gcons g h) = a.unpack g ∷ unpack_list h

  pub back_list : (xs : List A) → unpack_list (pack_list xs) ≡ xs
  back_list [] = refl
  back_list (x ∷ xs) = λ i. a.back x i ∷ back_list xs i

  abbrev pub packed_list : Packed (List A)
  packed_list = record { pack = pack_list; unpack = unpack_list; back = back_list }
