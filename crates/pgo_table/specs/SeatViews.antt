-- What the table knows of a seat: the resources that it holds, the journal that it has seen, and what it was told.
use Rattle.std.specs.Prelude.{◌≡◌, ℕ, zero, suc, ◌+◌, ◌-◌, Bool, true, false, List, [], ◌∷◌, length, Option, None, Some, ◌⊎◌, if◌then◌else◌, nat_eq, nat_lt}
use Rattle.pgo_base.specs.Data.{Data}
use Rattle.pgo_model.specs.Log.{Effect}
use Rattle.pgo_model.specs.Machine.{Entry, Note}
use Rattle.pgo_workers.specs.Closed.{Has}
use Rattle.pgo_workers.specs.Walk.{At}
use Rattle.pgo_workers.specs.View.{Told, changed}
use Rattle.pgo_workers.specs.Worlds.{Layout}

-- a held resource: its value, and its content's count at the take
pub record Holding : Type 0 where
  pub resource : ℕ
  pub value : Data
  pub count : ℕ

-- what is known under a seat's number: the journal as it was seen, and what the seat was told
pub record History : Type 0 where
  pub number : ℕ
  pub entries : List (Entry Effect)
  pub notes : List Note
  pub told : Told

-- what a table is told once: the layout, at how many entries the journal is full, and how many notes each instance may add
pub record TableTerms : Type 0 where
  pub layout : Layout
  pub steps : ℕ
  pub share : ℕ

-- an atomic step at a word: its number among all steps at this word, what it found there and what it left
pub record WordStep : Type 0 where
  pub word : ℕ
  pub number : ℕ
  pub found : ℕ
  pub left : ℕ

pub record SeatView : Type 0 where
  pub terms : TableTerms
  -- the seat was joined to another
  pub gone : Bool
  pub me : History
  -- what was known under the numbers of the seats that were joined to it
  pub joined : List History
  -- the numbers that it may give to new seats
  pub spare : List ℕ
  -- whether it has the journal
  pub has : Bool
  -- in the order of taking
  pub holds : List Holding
  -- its steps at words, in order, and those of the seats that were joined to it
  pub word_steps : List WordStep

abbrev pub holding : ℕ → Data → ℕ → Holding
holding r x n = record { resource = r; value = x; count = n }

abbrev pub untold : Told
untold = record { refused = []; takes = []; passed = [] }

abbrev pub no_history : ℕ → History
no_history k = record { number = k; entries = []; notes = []; told = untold }

-- the first holding of r
abbrev pub holding_at : List Holding → ℕ → Option Holding
holding_at [] r = None
holding_at (h ∷ hs) r = if nat_eq h.resource r then Some h else holding_at hs r

abbrev pub without : List Holding → ℕ → List Holding
without [] r = []
without (h ∷ hs) r = if nat_eq h.resource r then without hs r else h ∷ without hs r

abbrev pub values : List Holding → List At
values [] = []
values (h ∷ hs) = (h.resource, h.value) ∷ values hs

abbrev pub resources : List Holding → List ℕ
resources [] = []
resources (h ∷ hs) = h.resource ∷ resources hs

-- the values after an entry's changes
abbrev pub renewed : List At → List Holding → List Holding
renewed cs [] = []
renewed cs (h ∷ hs) = holding h.resource (changed cs h.resource h.value) h.count ∷ renewed cs hs

-- what a view knows, under any number
abbrev pub HasHistory : SeatView → History → Type 0
HasHistory v a = ((v.gone ≡ false) × (v.me ≡ a)) ⊎ Has v.joined a

-- ---- sums over views

abbrev pub total : {A : Type 0} → (A → ℕ) → List A → ℕ
total f [] = 0
total f (x ∷ xs) = f x + total f xs

abbrev pub bit : Bool → ℕ
bit b = if b then 1 else 0

-- how often x stands in the list
abbrev pub times : ℕ → List ℕ → ℕ
times x xs = total (λ y. bit (nat_eq y x)) xs

-- how often something is known under the number x
abbrev pub numbered : ℕ → List History → ℕ
numbered x l = total (λ (a : History). bit (nat_eq a.number x)) l

abbrev pub tells : ℕ → SeatView → ℕ
tells x v = (if v.gone then 0 else bit (nat_eq v.me.number x)) + numbered x v.joined

-- how often x is a number of the view's
abbrev pub claims : ℕ → SeatView → ℕ
claims x v = tells x v + times x v.spare

-- for how many seats it stands
abbrev pub weight : SeatView → ℕ
weight v = (if v.gone then 0 else 1) + (length v.joined + length v.spare)

-- how often the pair stands in the list
abbrev pub stands : ℕ → ℕ → List (ℕ × ℕ) → ℕ
stands r n ps = total (λ (p : ℕ × ℕ). if nat_eq p.0 r then bit (nat_eq p.1 n) else 0) ps

abbrev pub passes : ℕ → ℕ → SeatView → ℕ
passes r n v = (if v.gone then 0 else stands r n v.me.told.passed) + total (λ (a : History). stands r n a.told.passed) v.joined

-- how many of the steps are at the word r and have the number n
abbrev pub made : ℕ → ℕ → List WordStep → ℕ
made r n xs = total (λ (x : WordStep). if nat_eq x.word r then bit (nat_eq x.number n) else 0) xs

-- 1 below n, and else 0
abbrev pub cap : ℕ → ℕ → ℕ
cap n x = bit (nat_lt x n)

-- a seat that is gone
abbrev pub spent : TableTerms → SeatView
spent y = record { terms = y; gone = true; me = no_history 0; joined = []; spare = []; has = false; holds = []; word_steps = [] }

abbrev pub no_terms : TableTerms
no_terms = record { layout = record { start = []; resources = []; ids = []; own = [] }; steps = 0; share = 0 }

abbrev pub nothing_seen : SeatView
nothing_seen = spent no_terms

-- so many numbers, from a on
abbrev pub upto : ℕ → ℕ → List ℕ
upto a zero = []
upto a (suc n) = a ∷ upto (a + 1) n

-- the first seat, which stands for all instances. It has the last number
abbrev pub opening_view : TableTerms → SeatView
opening_view y = record { terms = y; gone = false; me = no_history (length y.layout.ids - 1); joined = []; spare = upto 0 (length y.layout.ids - 1); has = false; holds = []; word_steps = [] }
