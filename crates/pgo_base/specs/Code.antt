-- A value as a tree of numbers, by which a proof tells values apart.
use Rattle.std.specs.Prelude.{◌≡◌, ℕ, zero, suc, ℤ, pos, negsuc, Option, Bool, true, false, List, [], ◌∷◌, refl}
use Rattle.std.proofs.Common.{ap}
use Rattle.std.specs.Coded.{Coded, coded_ℕ, coded_option, coded_list, coded×, code_by}
use base.Stored.{Gv, gnil, gnum, gcons}
use denote.Struct.Codes.{itself}
use Rattle.pgo_base.specs.Data.{Data, boolean, integer, string, model, set, function, Items, no_items, item, Pairs, no_pairs, pair}

abbrev pub bit_tree : Bool → Gv
bit_tree true = gnum 1
bit_tree false = gnum 0

abbrev pub int_tree : ℤ → Gv
int_tree (pos n) = gcons gnil (gnum n)
int_tree (negsuc n) = gnum n

abbrev pub text_tree : List ℕ → Gv
text_tree [] = gnil
text_tree (b ∷ bs) = gcons (gnum b) (text_tree bs)

abbrev mutual
  tree : Data → Gv
  tree (boolean b) = gcons (gnum 0) (bit_tree b)
  tree (integer z) = gcons (gnum 1) (int_tree z)
  tree (string s) = gcons (gnum 2) (text_tree s)
  tree (model s) = gcons (gnum 3) (text_tree s)
  tree (set xs) = gcons (gnum 4) (items_tree xs)
  tree (function ps) = gcons (gnum 5) (pairs_tree ps)

  items_tree : Items → Gv
  items_tree no_items = gnil
  items_tree (item x xs) = gcons (tree x) (items_tree xs)

  pairs_tree : Pairs → Gv
  pairs_tree no_pairs = gnil
  pairs_tree (pair k v ps) = gcons (tree k) (gcons (tree v) (pairs_tree ps))

abbrev pub num_of : Gv → ℕ
num_of gnil = 0
num_of (gnum n) = n
num_of (gcons a b) = 0

abbrev pub bit_of : Gv → Bool
bit_of (gnum (suc n)) = true
bit_of _ = false

abbrev pub int_of : Gv → ℤ
int_of (gnum n) = negsuc n
int_of (gcons a b) = pos (num_of b)
int_of gnil = pos 0

abbrev pub text_of : Gv → List ℕ
text_of gnil = []
text_of (gnum n) = []
text_of (gcons a b) = num_of a ∷ text_of b

abbrev pick : ℕ → Gv → Items → Pairs → Data
pick zero g xs ps = boolean (bit_of g)
pick (suc zero) g xs ps = integer (int_of g)
pick (suc (suc zero)) g xs ps = string (text_of g)
pick (suc (suc (suc zero))) g xs ps = model (text_of g)
pick (suc (suc (suc (suc zero)))) g xs ps = set xs
pick _ g xs ps = function ps

abbrev first_value : Items → Data
first_value no_items = boolean false
first_value (item x xs) = x

mutual
  pub data_of : Gv → Data
  data_of (gcons a b) = pick (num_of a) b (items_of b) (pairs_of b)
  data_of _ = boolean false

  pub items_of : Gv → Items
  items_of (gcons a b) = item (data_of a) (items_of b)
  items_of _ = no_items

  pub pairs_of : Gv → Pairs
  pairs_of (gcons a (gcons b c)) = pair (data_of a) (data_of b) (pairs_of c)
  pairs_of _ = no_pairs

pub bit_back : (b : Bool) → bit_of (bit_tree b) ≡ b
bit_back true = refl
bit_back false = refl

pub int_back : (z : ℤ) → int_of (int_tree z) ≡ z
int_back (pos n) = refl
int_back (negsuc n) = refl

pub text_back : (s : List ℕ) → text_of (text_tree s) ≡ s
text_back [] = refl
text_back (b ∷ bs) = ap (λ t. b ∷ t) (text_back bs)

mutual
  unfolding data_of items_of pairs_of

  pub back : (d : Data) → data_of (tree d) ≡ d
  back (boolean b) = ap boolean (bit_back b)
  back (integer z) = ap integer (int_back z)
  back (string s) = ap string (text_back s)
  back (model s) = ap model (text_back s)
  back (set xs) = ap set (items_back xs)
  back (function ps) = ap function (pairs_back ps)

  items_back : (xs : Items) → items_of (items_tree xs) ≡ xs
  items_back no_items = refl
  items_back (item x xs) = λ i. item (back x i) (items_back xs i)

  pairs_back : (ps : Pairs) → pairs_of (pairs_tree ps) ≡ ps
  pairs_back no_pairs = refl
  pairs_back (pair k v ps) = λ i. pair (back k i) (back v i) (pairs_back ps i)

abbrev pub coded_data : Coded Data
coded_data = code_by Gv itself tree data_of back

abbrev pub coded_members : Coded (List Data)
coded_members = coded_list coded_data

abbrev pub coded_graph : Coded (List (Data × Data))
coded_graph = coded_list (coded× coded_data coded_data)

abbrev pub coded_state : Coded (List (List ℕ × Data))
coded_state = coded_list (coded× (coded_list coded_ℕ) coded_data)

abbrev pub coded_bindings : Coded (List (List ℕ × Option Data))
coded_bindings = coded_list (coded× (coded_list coded_ℕ) (coded_option coded_data))
