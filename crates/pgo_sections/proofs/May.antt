-- What code may do, for some words of choice: neither words, nor prints, nor names of the tree.
use Rattle.std.proofs.Common.{◌≡◌, Bool, true, false, if◌then◌else◌, List, [], ◌∷◌, Option, Some, None, ◌⊎◌, Contains, refl, option_map, option_and_then}
use Rattle.pgo_base.specs.Data.{Data, boolean}
use Rattle.pgo_base.specs.Lookup.{Name, Names, Vars, find}
use Rattle.pgo_model.specs.Operators.{members_of}
use Rattle.pgo_sections.specs.Code.{variable_of, Code, Empty, Skip, Let, Pick, Become, Set, Await, Assert, Print, If, Either, Seq, Goto, Yield, Read, Write, Codes, no_codes, more_codes, content_name, value_name}
use Rattle.pgo_sections.specs.BoundValues.{bindable, value_under}
use Rattle.pgo_sections.specs.Context.{Context, block_context, content, put_content, put_new, content_state, new_content, index_value, is_assigned, value_of}

-- where the blocks of a section's mapping macros run
abbrev pub block_of : Context → Context
block_of k = block_context k.defs k.id

-- the changes where a block ended with these: its content is put back where it assigned it
abbrev pub left_content : Context → Name → Option Data → Vars → Vars → Option Vars
left_content k g j mem ch = if is_assigned mem then put_content k g j (find content_name mem) ch else Some ch

abbrev put_if : Context → Name → Option Data → Vars → Bool → Option Data → Option Vars
put_if k g j ch b v = option_and_then (λ new. put_new k g j new ch) (if b then option_map (λ v. Some v) v else Some None)

-- so it is by the new content
pub left_is : (k : Context) (g : Name) (j : Option Data) (mem ch : Vars) → left_content k g j mem ch ≡ option_and_then (λ new. put_new k g j new ch) (new_content mem)
left_is k g j mem ch = go (is_assigned mem) (find content_name mem) j
  where
    go : (b : Bool) (v : Option Data) (j : Option Data) → (if b then put_content k g j v ch else Some ch) ≡ put_if k g j ch b v
    go true None None = refl
    go true None (Some i) = refl
    go true (Some v) j = refl
    go false v j = refl

abbrev pub never : Vars → Type 0
never st = ⊥

abbrev pub never_at : Name → Vars → Type 0
never_at l st = ⊥

abbrev mutual
  -- some choices end behind it in P, at a jump in J, or at a yield in Y
  pub May : Context → Code → Names → Vars → (Vars → Type 0) → (Name → Vars → Type 0) → (Data → Vars → Type 0) → Type 0
  May k Empty env st P J Y = P st
  May k Skip env st P J Y = P st
  May k (Let b w e c) env st P J Y = (v : Data) × (bindable (value_of k e env st) ≡ Some v) × May k c ((w, Some v) ∷ env) st P J Y
  May k (Pick b w e c) env st P J Y =
      (v : Data) × (ms : List Data) × (option_and_then members_of (value_of k e env st) ≡ Some ms) × Contains ms v
      × May k c ((w, Some v) ∷ env) st P J Y
  May k (Become p w) env st P J Y = (v : Data) × (value_under w env ≡ Some v) × P ((variable_of p, v) ∷ st)
  May k (Set b p e) env st P J Y = (v : Data) × (bindable (value_of k e env st) ≡ Some v) × P ((variable_of p, v) ∷ st)
  May k (Await e) env st P J Y = (value_of k e env st ≡ Some (boolean true)) × P st
  May k (Assert e) env st P J Y = (value_of k e env st ≡ Some (boolean true)) × P st
  May k (Print e) env st P J Y = (v : Data) × (value_of k e env st ≡ Some v) × P st
  May k (If e a b) env st P J Y =
      ((value_of k e env st ≡ Some (boolean true)) × May k a env st P J Y)
      ⊎ ((value_of k e env st ≡ Some (boolean false)) × May k b env st P J Y)
  May k (Either cs) env st P J Y = SomeMay k cs env st P J Y
  May k (Seq a b) env st P J Y = May k a env st (λ st'. May k b env st' P J Y) J Y
  May k (Goto l) env st P J Y = J l st
  May k (Yield e) env st P J Y = (v : Data) × (bindable (value_of k e env st) ≡ Some v) × Y v st
  May k (Read w g i m c) env st P J Y =
      (j : Option Data) × (old : Data) × (index_value i env ≡ Some j) × (bindable (content k g j st) ≡ Some old)
      × May (block_of k) m [] (content_state old) never never_at (λ v mem.
      (st' : Vars) × (left_content k g j mem st ≡ Some st') × May k c ((w, Some v) ∷ env) st' P J Y)
  May k (Write g i w m) env st P J Y =
      (j : Option Data) × (old : Data) × (index_value i env ≡ Some j) × (bindable (content k g j st) ≡ Some old)
      × ((value : Data) × (value_under w env ≡ Some value)
      × May (block_of k) m ((value_name, Some value) ∷ []) (content_state old) never never_at (λ v mem.
      (st' : Vars) × (put_content k g j (Some v) st ≡ Some st') × P st'))

  pub SomeMay : Context → Codes → Names → Vars → (Vars → Type 0) → (Name → Vars → Type 0) → (Data → Vars → Type 0) → Type 0
  SomeMay k no_codes env st P J Y = ⊥
  SomeMay k (more_codes c cs) env st P J Y = May k c env st P J Y ⊎ SomeMay k cs env st P J Y
