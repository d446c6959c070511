use Rattle.std.proofs.Common.{◌≡◌, ◌++◌, ℕ, List, ◌∷◌, Option, Some, None, MatchOption}
use Rattle.std.specs.Borrow.{Bor}
use Rattle.std.proofs.lemmas.Str.Pattern.{split_parts}
use Rattle.pgo_words.specs.Cuts.{Lacks, Cuts}
use Rattle.pgo_words.proofs.cuts.cut.Goals as goal

cuts : (b : ℕ) (bs : List ℕ) (r : Option (Bor (List ℕ) × Bor (List ℕ)))
    → MatchOption r (Lacks b bs) (λ x. (bs ≡ x.0.now ++ (b ∷ x.1.now)) × Lacks b x.0.now) → Cuts b bs r
cuts b bs None h = h
cuts b bs (Some x) h = h

pub returns : goal.returns
returns c = cuts _ _ _ (split_parts c.args.at c.args.text.now c.split_once.result c.split_once.ensures.cases c.requires)
