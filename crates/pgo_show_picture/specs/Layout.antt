-- Where things stand in a picture: time goes from left to right, in bands that have all lanes, one below the other.
use Rattle.std.specs.Prelude.{ℕ, Bool, if◌then◌else◌, nat_le, min, ◌+◌, ◌*◌, ◌/◌, ◌%◌}
use Rattle.pgo_show_picture.specs.declared.layout.Size.{Size}

-- a greater number is drawn as a million
abbrev pub within : ℕ → ℕ
within n = min n 1000000

-- labels are drawn where there are at most so many entries
abbrev pub has_labels : Size → Bool
has_labels z = nat_le z.entries 300

-- a band has 30 entries, each 40 wide, where labels are drawn, and else 300, each 4 wide

-- of what is behind so many entries: in which band it stands
abbrev pub band_of : Size → ℕ → ℕ
band_of z q = if has_labels z then within q / 30 else within q / 300

-- how far from the left
abbrev pub across : Size → ℕ → ℕ
across z q = if has_labels z then 100 + 40 * (within q % 30) else 100 + 4 * (within q % 300)

-- the next entry stands half its width to the right of it
abbrev pub across_entry : Size → ℕ → ℕ
across_entry z q = across z q + (if has_labels z then 20 else 2)

-- where lanes end
abbrev pub right_end : Size → ℕ
right_end z = if has_labels z then 140 + 40 * min z.entries 30 else 1340

abbrev pub band_height : Size → ℕ
band_height z = 44 * within z.lanes + 30

-- how far from the top lane k stands in a band
abbrev pub lane_in : Size → (band k : ℕ) → ℕ
lane_in z b k = 70 + band_height z * within b + 44 * within k

-- and behind so many entries
abbrev pub down : Size → (k q : ℕ) → ℕ
down z k q = lane_in z (band_of z q) k
