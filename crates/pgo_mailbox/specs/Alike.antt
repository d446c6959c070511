-- That a mailbox and a cell answer alike: the clauses of a content decide what each call answers and leaves, where memory isn't
-- wanting.
use Rattle.std.specs.Prelude.{◌≡◌, ℕ, true, false, List, [], ◌∷◌, Option, Ok, Err}
use Rattle.pgo_base.specs.Data.{Data}
use Rattle.pgo_base.specs.View.{data_of}
use Rattle.pgo_base.specs.declared.module.Defined.{Defined}
use Rattle.pgo_base.specs.declared.value.Value.{Value}
use Rattle.pgo_cells.specs.CellView.{cell_view}
use Rattle.pgo_cells.specs.declared.cell.Cell.{Cell}
use Rattle.pgo_model.specs.Outcome.{Kind, Blocked, NoValue, AssertFails, Many}
use Rattle.pgo_syntax.specs.declared.bound.Mapping.{Mapping}
use Rattle.pgo_workers.specs.View.{Shown, raised}
use Rattle.pgo_workers.specs.Worker.{counted}
use Rattle.pgo_resource.specs.Answers.{Read, Written, fails}
use Rattle.pgo_resource.specs.Picked.{attempt_words, words_of, choices_of}
use Rattle.pgo_resource.specs.declared.picks.Picks.{Picks}
use Rattle.pgo_resource.specs.declared.resource.OpStop.{OpStop}
use Rattle.pgo_resource.specs.declared.resource.OpStop.TheVariants as stops
use Rattle.pgo_mailbox.specs.BoxView.{box_view}
use Rattle.pgo_mailbox.specs.declared.mailbox.Mailbox.{Mailbox}

-- a call that may change a content; the others answer what it shows
pub data Call : Type 0 where
  Reads : (m : Mapping) → (ds : List Defined) → (id : Data) → (at : Option Data) → Call
  Writes : (m : Mapping) → (ds : List Defined) → (id : Data) → (at : Option Data) → (x : Data) → Call
  PreCommits : (down : List (ℕ × ℕ)) → Call
  Commits : Call
  Aborts : Call

pub data Answer : Type 0 where
  Gave : (x : Data) → Answer
  Done : Answer
  Stopped : (kind : Kind) → Answer
  IsDown : (operation : ℕ) → Answer

-- a stop of this kind has this; none is of kind Many
abbrev pub StopsBy : Kind → (OpStop → Type 0) → Type 0
StopsBy Blocked P = P stops.Blocked
StopsBy NoValue P = P stops.NoValue
StopsBy AssertFails P = P stops.AssertFails
StopsBy Many P = ⊥

-- a call on a content that shows s, with the words of p, is answered so, and it shows t then, with the words of q
abbrev pub Made : Call → (s t : Shown) → (p q : Picks) → Answer → Type 0
Made (Reads m ds id at) s t p q (Gave x) = (v : Value) × (data_of v ≡ x) × Read m ds id at s t p q (Ok v)
Made (Reads m ds id at) s t p q (Stopped kind) = StopsBy kind (λ e. Read m ds id at s t p q (Err e))
Made (Reads m ds id at) s t p q Done = ⊥
Made (Reads m ds id at) s t p q (IsDown n) = ⊥
Made (Writes m ds id at x) s t p q Done = Written m ds id at x s t p q (Ok tt)
Made (Writes m ds id at x) s t p q (Stopped kind) = StopsBy kind (λ e. Written m ds id at x s t p q (Err e))
Made (Writes m ds id at x) s t p q (Gave y) = ⊥
Made (Writes m ds id at x) s t p q (IsDown n) = ⊥
Made (PreCommits down) s t p q Done = (t ≡ counted s) × (fails down s.number (raised s.count) ≡ false) × (q ≡ p)
Made (PreCommits down) s t p q (IsDown n) = (t ≡ counted s) × (n ≡ raised s.count) × (fails down s.number (raised s.count) ≡ true) × (q ≡ p)
Made (PreCommits down) s t p q (Gave x) = ⊥
Made (PreCommits down) s t p q (Stopped kind) = ⊥
Made Commits s t p q Done = (t ≡ record s { base = s.current }) × (q ≡ p)
Made Commits s t p q (Gave x) = ⊥
Made Commits s t p q (Stopped kind) = ⊥
Made Commits s t p q (IsDown n) = ⊥
Made Aborts s t p q Done = (t ≡ record s { current = s.base }) × (q ≡ p)
Made Aborts s t p q (Gave x) = ⊥
Made Aborts s t p q (Stopped kind) = ⊥
Made Aborts s t p q (IsDown n) = ⊥

abbrev pub AllMade : List Call → (s t : Shown) → (p q : Picks) → List Answer → Type 0
AllMade [] s t p q [] = (t ≡ s) × (q ≡ p)
AllMade [] s t p q (a ∷ as') = ⊥
AllMade (c ∷ cs) s t p q [] = ⊥
AllMade (c ∷ cs) s t p q (a ∷ as') = (u : Shown) × (r : Picks) × Made c s u p r a × AllMade cs u t r q as'

-- the same words of choice, and the same choices were made
abbrev pub SamePicks : Picks → Picks → Type 0
SamePicks p q = (words_of p ≡ words_of q) × (attempt_words p ≡ attempt_words q) × (choices_of p ≡ choices_of q)

-- of a mailbox and a cell that show the same, every list of calls has the same answers, and they show the same behind it
abbrev pub Alike : Type 0
Alike = (cs : List Call) (b b' : Mailbox) (c c' : Cell) (p p' q q' : Picks) (as' bs : List Answer) → box_view b ≡ cell_view c → SamePicks p q
    → AllMade cs (box_view b) (box_view b') p p' as' → AllMade cs (cell_view c) (cell_view c') q q' bs
    → (as' ≡ bs) × (box_view b' ≡ cell_view c') × SamePicks p' q'
