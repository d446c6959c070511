-- What a client knows of its board.
use Rattle.std.specs.Prelude.{◌≡◌, ◌≤◌, ℕ, List, [], ◌∷◌, Some, if◌then◌else◌, nat_eq}
use Rattle.pgo_base.specs.View.{data_of}
use Rattle.pgo_base.specs.declared.value.Value.{Value}
use Rattle.pgo_model.specs.Log.{Effect}
use Rattle.pgo_resource.specs.Layouts.{layout_view}
use Rattle.pgo_workers.specs.View.{Hold, Shown, View, with_content, EachHold, MayNumber, Once, hold_at, resources_of, notes_of}
use Rattle.pgo_workers.specs.Worker.{with_held}
use Rattle.pgo_shared.specs.SeatBoards.{layout_of_board, shows_of, table_of}
use Rattle.pgo_shared.specs.declared.shared.Shared.{Shared}
use Rattle.pgo_starts.specs.declared.content.Content.{Content}
use Rattle.pgo_table_rows.specs.declared.client.Client.{Client}

-- a held content's base is the resource's value, its count hasn't fallen, and its number is the resource's or none
abbrev pub IsGood : Hold → Type 0
IsGood h = (h.content.base ≡ h.value) × (h.count ≤ h.content.count) × MayNumber h

-- all but r
abbrev pub others : ℕ → List ℕ → List ℕ
others r [] = []
others r (x ∷ xs) = if nat_eq x r then others r xs else x ∷ others r xs

-- what is known of a board between two calls
pub record Knows (b : View Effect) (number share noted : ℕ) (held : List ℕ) : Type 0 where
  pub instance : b.instance ≡ number
  pub share_is : b.share ≡ share
  pub notes_are : notes_of b.instance b.notes ≡ noted
  pub listed : resources_of b.held ≡ held
  pub once : Once held
  pub good : EachHold IsGood b.held

pub record Stands (c : Client) : Type 0 where
  pub layout_is : layout_view c.layout.now ≡ layout_of_board c.board
  pub knows : Knows (shows_of c.board) c.number c.share c.noted c.held.items

-- v is what the content of r is
abbrev pub IsNow : View Effect → ℕ → Value → Type 0
IsNow b r v = (h : Hold) → hold_at b.held r ≡ Some h → data_of v ≡ h.content.current

-- r has this content, and all else is as it was
abbrev pub PutWith : ℕ → Shown → View Effect → View Effect → Type 0
PutWith r x b c = c ≡ with_held (with_content r x b.held) b

-- r is some value now
abbrev pub PutSome : ℕ → Hold → View Effect → View Effect → Type 0
PutSome r h b c = (x : Shown) × (x ≡ record h.content { current = x.current }) × PutWith r x b c

-- it stands at this table
abbrev pub IsClientOf : Shared Content → Client → Type 0
IsClientOf s c = Stands c × (table_of c.board ≡ s)
