-- The picture of a bundle: a function of its log.
use Rattle.std.specs.Prelude.{ℕ, zero, suc, if◌then◌else◌, max, ◌+◌, ◌-◌, List, [], ◌∷◌, ◌++◌, length, map, codes, decimal, Option, Some, None}
use Rattle.pgo_model.specs.ModuleText.{Line, line, flatten}
use Rattle.pgo_bundle.specs.Accounts.{AttemptLine, StepLine, NoteLine, HeldLine, HeldLogLine, DownLine, FullLine, Account}
use Rattle.pgo_bundle.specs.BundleLog.{LoggedEntry, BundleLog}
use Rattle.pgo_model.specs.Core.{End}
use Rattle.pgo_show_picture.specs.declared.layout.Size.{Size}
use Rattle.pgo_show_picture.specs.Layout.{has_labels, band_of, across, across_entry, right_end, lane_in, down}
use Rattle.pgo_show_picture.specs.Marks.{note_shape, stands_behind, is_again, label_behind, ending_text, escaped}

-- the pieces one behind the other, as a line
abbrev pub joined : List (List ℕ) → Line
joined pieces = line (flatten pieces)

-- ---- what is drawn

-- a shape at a place
abbrev pub mark_line : List ℕ → (x y : ℕ) → Line
mark_line s x y = joined (codes "<use href='#" ∷ s ∷ codes "' x='" ∷ decimal x ∷ codes "' y='" ∷ decimal y ∷ codes "'/>" ∷ [])

abbrev pub label_line : List ℕ → (x y : ℕ) → Line
label_line l x y =
    joined (codes "<text font-size='9' transform='translate(" ∷ decimal x ∷ codes " " ∷ decimal y ∷ codes ") translate(0 -12) rotate(-25)'>"
    ∷ escaped l ∷ codes "</text>" ∷ [])

-- the line from one lane to another
abbrev pub link_line : (x y z : ℕ) → Line
link_line x y z =
    joined (codes "<path d='M" ∷ decimal x ∷ codes " " ∷ decimal y ∷ codes "V" ∷ decimal z ∷ codes "' stroke='black' stroke-dasharray='3 3'/>" ∷ [])

abbrev pub ending_at : (x y : ℕ) → List ℕ → Line
ending_at x y t = joined (codes "<text x='" ∷ decimal x ∷ codes "' y='" ∷ decimal y ∷ codes "' dx='8' dy='4'>" ∷ t ∷ codes "</text>" ∷ [])

abbrev pub name_at : (k y : ℕ) → Line
name_at k y = joined (codes "<text x='6' y='" ∷ decimal y ∷ codes "' dy='4'>instance " ∷ decimal k ∷ codes "</text>" ∷ [])

abbrev pub lane_at : (y right : ℕ) → Line
lane_at y r = joined (codes "<path d='M100 " ∷ decimal y ∷ codes "H" ∷ decimal r ∷ codes "' stroke='gray'/>" ∷ [])

-- ---- the marks of a lane

-- behind these lines a label, where labels are drawn
abbrev pub with_label : Size → List ℕ → (x y : ℕ) → List Line → List Line
with_label z l x y ls = if has_labels z then ls ++ label_line l x y ∷ [] else ls

-- the entry behind so many, in lane k
abbrev pub with_entry : List LoggedEntry → Size → ℕ → (q : ℕ) → List Line → List Line
with_entry es z k q ls =
    with_label z (label_behind es q) (across_entry z q) (down z k q)
    (ls ++ mark_line (codes "committed") (across_entry z q) (down z k q) ∷ [])

-- an attempt that is no entry
abbrev pub note_line : Size → ℕ → (shape : List ℕ) → (q : ℕ) → Line
note_line z k s q = mark_line s (across z q) (down z k q)

-- the line to the lane of instance h
abbrev pub holder_line : Size → ℕ → (h q : ℕ) → Line
holder_line z k h q = link_line (across z q) (down z k q) (down z h q)

-- an attempt that was refused by instance h
abbrev pub with_held : Size → ℕ → (h q : ℕ) → List Line → List Line
with_held z k h q ls = (ls ++ holder_line z k h q ∷ []) ++ note_line z k (codes "held") q ∷ []

-- an attempt in lane k, that stands behind so many entries
abbrev pub with_attempt : List LoggedEntry → Size → ℕ → (q : ℕ) → AttemptLine → List Line → List Line
with_attempt es z k q (StepLine n) ls = with_entry es z k (n - 1) ls
with_attempt es z k q (NoteLine kind p) ls = ls ++ note_line z k (note_shape kind) q ∷ []
with_attempt es z k q (HeldLine h x i) ls = with_held z k h q ls
with_attempt es z k q (HeldLogLine h) ls = with_held z k h q ls
with_attempt es z k q (DownLine o x i) ls = ls ++ note_line z k (codes "failed") q ∷ []
with_attempt es z k q (FullLine n) ls = ls ++ note_line z k (codes "full") q ∷ []

-- the same, but for one that has the shape and the number of the attempt before it
abbrev pub with_new : List LoggedEntry → Size → ℕ → (q : ℕ) → (before : Option AttemptLine) → AttemptLine → List Line → List Line
with_new es z k q b a ls = if is_again b a then ls else with_attempt es z k q a ls

-- behind these lines those of the attempts of lane k, in order; the one before them stands behind p entries
unfoldable pub with_attempts : List LoggedEntry → Size → ℕ → (p : ℕ) → (before : Option AttemptLine) → List AttemptLine → List Line → List Line
with_attempts es z k p b [] ls = ls
with_attempts es z k p b (a ∷ as') ls =
    with_attempts es z k (stands_behind p a) (Some a) as' (with_new es z k (stands_behind p a) b a ls)

-- at the right of the last band, how the instance of lane k ended
abbrev pub ending_line : Size → ℕ → Option End → Line
ending_line z k e = ending_at (right_end z) (down z k z.entries) (ending_text e)

unfoldable pub with_account : List LoggedEntry → Size → ℕ → Account → List Line → List Line
with_account es z k a ls = with_attempts es z k 0 None a.attempts (ls ++ ending_line z k a.finish ∷ [])

-- the accounts from lane k on
unfoldable pub with_accounts : List LoggedEntry → Size → ℕ → List Account → List Line → List Line
with_accounts es z k [] ls = ls
with_accounts es z k (a ∷ as') ls = with_accounts es z (suc k) as' (with_account es z k a ls)

-- ---- the lanes

abbrev pub name_line : Size → (b k : ℕ) → Line
name_line z b k = name_at k (lane_in z b k)

abbrev pub lane_line : Size → (b k : ℕ) → Line
lane_line z b k = lane_at (lane_in z b k) (right_end z)

-- the lanes of a band, one for each of these accounts, from lane k on
unfoldable pub with_lanes : Size → (b k : ℕ) → List Account → List Line → List Line
with_lanes z b k [] ls = ls
with_lanes z b k (a ∷ as') ls = with_lanes z b (suc k) as' ((ls ++ name_line z b k ∷ []) ++ lane_line z b k ∷ [])

-- so many bands, from band b on
unfoldable pub with_bands : Size → List Account → (b count : ℕ) → List Line → List Line
with_bands z as' b zero ls = ls
with_bands z as' b (suc n) ls = with_bands z as' (suc b) n (with_lanes z b 0 as' ls)

-- ---- the whole

-- how wide it is, and where its foot begins
abbrev pub width_of : Size → ℕ
width_of z = max (right_end z + 110) 760

abbrev pub foot_of : Size → ℕ
foot_of z = down z z.lanes z.entries

abbrev pub head_line : (w h : ℕ) → Line
head_line w h =
    joined (codes "<svg xmlns='http://www.w3.org/2000/svg' width='" ∷ decimal w ∷ codes "' height='" ∷ decimal h ∷ codes "' viewBox='0 0 " ∷ decimal w
    ∷ codes " " ∷ decimal h ∷ codes "' font-family='sans-serif' font-size='11'>" ∷ [])

abbrev pub ground_line : (w h : ℕ) → Line
ground_line w h = joined (codes "<rect width='" ∷ decimal w ∷ codes "' height='" ∷ decimal h ∷ codes "' fill='white'/>" ∷ [])

abbrev pub whole_line : (lanes entries : ℕ) → Line
whole_line k n = joined (codes "<text x='6' y='16'>instances " ∷ decimal k ∷ codes ", entries " ∷ decimal n ∷ codes "</text>" ∷ [])

unfoldable pub large_shapes : List (List ℕ)
large_shapes =
    codes "<defs>"
    ∷ codes "<path id='committed' d='M-3 -9H3V9H-3Z'/>"
    ∷ codes "<circle id='blocked' r='4' fill='white' stroke='black'/>"
    ∷ codes "<path id='stopped' d='M-5 -5L5 5M-5 5L5 -5' stroke='black' stroke-width='2'/>"
    ∷ codes "<circle id='held' r='3'/>"
    ∷ codes "<path id='failed' d='M-5 -5L5 -5L0 5Z' fill='white' stroke='black'/>"
    ∷ codes "<path id='full' d='M-4 -4H4V4H-4Z' fill='white' stroke='black'/>"
    ∷ codes "</defs>"
    ∷ []

unfoldable pub small_shapes : List (List ℕ)
small_shapes =
    codes "<defs>"
    ∷ codes "<path id='committed' d='M-1 -9H1V9H-1Z'/>"
    ∷ codes "<circle id='blocked' r='2' fill='white' stroke='black'/>"
    ∷ codes "<path id='stopped' d='M-4 -4L4 4M-4 4L4 -4' stroke='black' stroke-width='2'/>"
    ∷ codes "<circle id='held' r='2'/>"
    ∷ codes "<path id='failed' d='M-3 -3L3 -3L0 3Z' fill='white' stroke='black'/>"
    ∷ codes "<path id='full' d='M-3 -3H3V3H-3Z' fill='white' stroke='black'/>"
    ∷ codes "</defs>"
    ∷ []

-- large where labels are drawn
abbrev pub shapes : Size → List (List ℕ)
shapes z = if has_labels z then large_shapes else small_shapes

-- what the marks are
unfoldable pub key_rows : List (List ℕ)
key_rows =
    codes "<use href='#committed'/><text x='10' y='4'>committed, with its label</text>"
    ∷ codes "<use href='#blocked' x='180'/><text x='190' y='4'>blocked</text>"
    ∷ codes "<use href='#stopped' x='260'/><text x='270' y='4'>no value, or an assertion failed</text>"
    ∷ codes "<use href='#failed' y='20'/><text x='10' y='24'>a pre-commit failed</text>"
    ∷ codes "<use href='#full' x='180' y='20'/><text x='190' y='24'>journal full</text>"
    ∷ codes "<use href='#held' x='280' y='20'/><text x='290' y='24'>held by the instance to which the line leads</text>"
    ∷ codes "</g>"
    ∷ codes "</svg>"
    ∷ []

abbrev pub key_line : (y : ℕ) → Line
key_line y = joined (codes "<g transform='translate(100 " ∷ decimal y ∷ codes ")'>" ∷ [])

-- behind these lines the first ones, of a picture that is so high
abbrev pub with_title : Size → (h : ℕ) → List Line → List Line
with_title z h ls = ((ls ++ head_line (width_of z) h ∷ []) ++ ground_line (width_of z) h ∷ []) ++ whole_line z.lanes z.entries ∷ []

-- and the shapes: what stands before all lanes
abbrev pub with_front : Size → List Line → List Line
with_front z ls = with_title z (foot_of z + 50) ls ++ map line (shapes z)

-- behind these lines what stands behind all lanes
abbrev pub with_key : Size → List Line → List Line
with_key z ls = (ls ++ key_line (foot_of z) ∷ []) ++ map line key_rows

-- the lanes in all bands
abbrev pub lanes_of : Size → List Account → List Line
lanes_of z as' = with_bands z as' 0 (suc (band_of z z.entries)) (with_front z [])

abbrev pub drawn : Size → List LoggedEntry → List Account → List Line
drawn z es as' = with_key z (with_accounts es z 0 as' (lanes_of z as'))

-- the whole picture
abbrev pub picture_lines : BundleLog → List Line
picture_lines l = drawn (record { entries = length l.entries; lanes = length l.accounts }) l.entries l.accounts
