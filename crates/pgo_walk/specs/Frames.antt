-- An expansion one effect at a time: what is still to be done is a stack of frames.
--
-- `expand` hands on what follows the code as three functions. Here that is data: the code that follows is a frame, and so is
-- what a block's yield ends. Nothing is copied but where the expansion itself has a branch.
use Rattle.std.specs.Prelude.{ℕ, suc, Bool, true, false, List, [], ◌∷◌, Option, Some, None}
use Rattle.pgo_base.specs.Lookup.{Name}
use Rattle.pgo_base.specs.Tree.{Tree, name}
use Rattle.pgo_sections.specs.Code.{Place, Whole, Code, content_name, val_base, new_base}
use Rattle.pgo_sections.specs.Context.{is_assigned}
use Rattle.pgo_sections.specs.Expand.{Renames, Current, OnGo, OnJump, OnYield, no_go, no_jump, no_yield, to_end, expand, current, put_back, left_behind}
use Rattle.pgo_model.specs.Written.{made}
use Rattle.pgo_sections.specs.Expansion.{Expansion, With}

pub data Frame : Type 0 where
  -- then c, where these names are bound
  Run : (ps : List (Name × Place)) → (c : Code) → (ren : Renames) → Frame
  -- a yield ends a read of g, or of its element at what i stands for; then c, where w stands for the value. ren and cur are as
  -- before the read
  Reading : (w g : Name) → (i : Option Name) → (ps : List (Name × Place)) → (c : Code) → (ren : Renames) → (cur : Current) → Frame
  -- a yield ends a write to g, or to its element
  Writing : (g : Name) → (i : Option Name) → (ren : Renames) → (cur : Current) → Frame
  -- then g, or its element, has the value of e
  Put : (g : Name) → (i : Option Name) → (ren : Renames) → (e : Tree) → Frame

-- these codes one after the other, and then fs
abbrev pub runs : List (Name × Place) → Renames → List Code → List Frame → List Frame
runs ps ren [] fs = fs
runs ps ren (c ∷ cs) fs = Run ps c ren ∷ runs ps ren cs fs

-- whether a block is among them
abbrev pub has_block : List Frame → Bool
has_block [] = false
has_block (Run ps c ren ∷ fs) = has_block fs
has_block (Reading w g i ps c ren cur ∷ fs) = true
has_block (Writing g i ren cur ∷ fs) = true
has_block (Put g i ren e ∷ fs) = has_block fs

-- the innermost block's frame, and those behind it
abbrev pub block_in : List Frame → Option (Frame × List Frame)
block_in [] = None
block_in (Run ps c ren ∷ fs) = block_in fs
block_in (Reading w g i ps c ren cur ∷ fs) = Some (Reading w g i ps c ren cur, fs)
block_in (Writing g i ren cur ∷ fs) = Some (Writing g i ren cur, fs)
block_in (Put g i ren e ∷ fs) = block_in fs

-- what an arm and what follows it see of the frames: the three ways on of `expand`
module _ (vs : List Name) where
  abbrev mutual
    -- behind all code of the innermost block, or of the section, nothing follows
    pub goes : List Frame → OnGo
    goes [] cur n = no_go cur n
    goes (Run ps c ren ∷ fs) cur n = expand ps c ren cur n (goes fs) (jumps fs) (yields fs)
    goes (Reading w g i ps c ren cur ∷ fs) mem n = no_go mem n
    goes (Writing g i ren cur ∷ fs) mem n = no_go mem n
    goes (Put g i ren e ∷ fs) cur n = put_back ren cur g i e n (goes fs)

    -- a section ends at a jump, and a block has none
    pub jumps : List Frame → OnJump
    jumps [] l cur n = to_end vs l cur n
    jumps (Run ps c ren ∷ fs) l cur n = jumps fs l cur n
    jumps (Reading w g i ps c ren cur ∷ fs) l mem n = no_jump l mem n
    jumps (Writing g i ren cur ∷ fs) l mem n = no_jump l mem n
    jumps (Put g i ren e ∷ fs) l cur n = jumps fs l cur n

    -- the innermost block ends with this value
    pub yields : List Frame → OnYield
    yields [] e cur n = no_yield e cur n
    yields (Run ps c ren ∷ fs) e cur n = yields fs e cur n
    yields (Put g i ren e' ∷ fs) e cur n = yields fs e cur n
    yields (Reading w g i ps c ren cur ∷ fs) e mem n =
        With (made val_base (suc n)) e
        (left_behind (is_assigned mem) ren cur g i (current mem (Whole content_name)) (suc n) (λ cur' n'.
        expand ps c ((w, made val_base (suc n)) ∷ ren) cur' n' (goes fs) (jumps fs) (yields fs)))
    yields (Writing g i ren cur ∷ fs) e mem n =
        With (made new_base (suc n)) e (put_back ren cur g i (name (made new_base (suc n))) (suc n) (goes fs))

-- what is still to be done, the current values, and how many names are bound above
pub record State : Type 0 where
  pub frames : List Frame
  pub current : Current
  pub bound : ℕ

-- the expansion of what is still to be done
abbrev pub rest_of : List Name → State → Expansion
rest_of vs s = goes vs s.frames s.current s.bound

-- a section before its first effect
abbrev pub started : List (Name × Place) → Code → State
started ps c = record { frames = Run ps c [] ∷ []; current = []; bound = 0 }
