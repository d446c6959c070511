-- The canonical text in the shape of the code: a list of parts, each but the first behind the word between them.
use Rattle.std.specs.Prelude.{ℕ, zero, suc, if◌then◌else◌, List, [], ◌∷◌, ◌++◌, codes}
use Rattle.pgo_base.specs.Data.{Data, Pairs, pairs}
use Rattle.pgo_model.specs.ValueText.{value_text, field_text, is_sequence_from, all_fields}
use Rattle.pgo_value_text.specs.declared.write.FunctionForm.{FunctionForm}
use Rattle.pgo_value_text.specs.declared.write.FunctionForm.TheVariants.{Tuple, Record, Mapping}

-- the word before the part at this place
abbrev pub before : List ℕ → ℕ → List ℕ
before w zero = []
before w (suc n) = w

-- the texts of the parts from this place on, with the word between them
abbrev pub parts_text : {A : Type 0} → List ℕ → (A → List ℕ) → ℕ → List A → List ℕ
parts_text w text n [] = []
parts_text w text n (a ∷ as') = before w n ++ (text a ++ parts_text w text (suc n) as')

abbrev pub form_of : Pairs → FunctionForm
form_of ps = if is_sequence_from 1 ps then Tuple else if all_fields ps then Record else Mapping

abbrev pub opening : FunctionForm → List ℕ
opening Tuple = codes "<<"
opening Record = codes "["
opening Mapping = codes "("

abbrev pub closing : FunctionForm → List ℕ
closing Tuple = codes ">>"
closing Record = codes "]"
closing Mapping = codes ")"

abbrev pub between : FunctionForm → List ℕ
between Tuple = codes ", "
between Record = codes ", "
between Mapping = codes " @@ "

-- a key with the arrow behind it
abbrev pub key_text : FunctionForm → Data → List ℕ
key_text Tuple k = []
key_text Record k = field_text k ++ codes " |-> "
key_text Mapping k = value_text k ++ codes " :> "

abbrev pub pair_text : FunctionForm → Data × Data → List ℕ
pair_text f p = key_text f p.0 ++ value_text p.1

abbrev pub pairs_text : FunctionForm → List (Data × Data) → List ℕ
pairs_text f ps = parts_text (between f) (pair_text f) 0 ps

abbrev pub set_text : List Data → List ℕ
set_text xs = codes "{" ++ parts_text (codes ", ") value_text 0 xs ++ codes "}"

abbrev pub function_text : List (Data × Data) → List ℕ
function_text ps = opening (form_of (pairs ps)) ++ pairs_text (form_of (pairs ps)) ps ++ closing (form_of (pairs ps))
