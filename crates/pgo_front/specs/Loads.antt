-- What `pgo load` promises of its words.
use Rattle.std.specs.Prelude.{◌≡◌, ℕ, List, ◌++◌, codes, decimal}
use Rattle.pgo_accept.specs.Answers.{IsExpandable}
use Rattle.pgo_accept.specs.Refusals.{RefusedWith}
use Rattle.pgo_model.specs.ModuleText.{line}
use Rattle.pgo_load.specs.Load.{Loads, load_consts, load_text}
use Rattle.pgo_front.specs.Asked.{AsksLoad}

-- `load size: instances so many, steps so many, verdict run so many`
abbrev pub load_line : (size instances steps : ℕ) → List ℕ
load_line size instances steps =
    line (codes "load " ++ (decimal size ++ (codes ": instances " ++ (decimal instances ++ (codes ", steps " ++ (decimal steps ++ (codes ", verdict run " ++ decimal steps)))))))

-- the words ask for the load of some size and for no other, its run has so many instances and entries, its bundle is judged a
-- run of them, and this is the line that says so
pub record Loaded (words : List (List ℕ)) (written : List ℕ) : Type 0 where
  pub size : ℕ
  pub asks : AsksLoad size words
  pub no_others : (other : ℕ) → AsksLoad other words → other ≡ size
  pub instances : ℕ
  pub steps : ℕ
  pub loads : Loads size instances steps
  pub written_is : written ≡ load_line size instances steps

-- the same words, and that load has no run: its text spells no specification, or one that is refused
pub record NotLoaded (words : List (List ℕ)) : Type 0 where
  pub size : ℕ
  pub asks : AsksLoad size words
  pub no_others : (other : ℕ) → AsksLoad other words → other ≡ size
  pub refused : IsExpandable (load_text size) (load_consts size) → ⊥

-- the line refuses the specification of the load that the words ask for
pub record LoadRefusedBy (words : List (List ℕ)) (line : List ℕ) : Type 0 where
  pub size : ℕ
  pub asks : AsksLoad size words
  pub refused : RefusedWith (load_text size) (load_consts size) line
