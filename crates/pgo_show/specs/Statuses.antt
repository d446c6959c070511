-- The numbers of the statuses, and the lines that go to the error output.
use Rattle.std.specs.Prelude.{ℕ, List, codes, Option, Some, None}
use Rattle.pgo_show.specs.declared.status.Status.{Status}
use Rattle.pgo_show.specs.declared.status.Status.TheVariants as status

abbrev pub number_of : Status → ℕ
number_of status.Fine = 0
number_of status.Usage = 10
number_of status.ReadFault = 12
number_of status.WriteFault = 13
number_of status.TooLong = 14
number_of status.BadBundle = 31
number_of status.NoComponent = 10
number_of status.NoMemory = 40

-- the line of the error output, where the status alone says it: that of a text that is no bundle names a line, and that of
-- a component that isn't there names it
abbrev pub line_of : Status → Option (List ℕ)
line_of status.Fine = None
line_of status.Usage = Some (codes "pgo: usage\n")
line_of status.ReadFault = Some (codes "pgo: read fault\n")
line_of status.WriteFault = Some (codes "pgo: write fault\n")
line_of status.TooLong = Some (codes "pgo: too long\n")
line_of status.BadBundle = None
line_of status.NoComponent = None
line_of status.NoMemory = Some (codes "pgo: no memory\n")
