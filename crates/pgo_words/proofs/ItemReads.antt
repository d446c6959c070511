-- An item is read by its cut at the star.
use Rattle.std.proofs.Common.{ℕ, List, [], ◌∷◌, ◌++◌, replicate, sym, ◌∙◌, subst, Option, Some, None}
use Rattle.std.specs.Borrow.{Bor}
use Rattle.pgo_words.specs.Cuts.{Cuts}
use Rattle.pgo_words.specs.Items.{turns_of, ReadsItem, ReadsSingle, ReadsRepeated}
use Rattle.pgo_words.specs.declared.turns.Item as read
use Rattle.pgo_words.specs.Turns.{Item, once, times}
use Rattle.pgo_words.proofs.TurnLists.{item_parts}

pub single_item : (bs : List ℕ) (o : Option read.Item) → Cuts 42 bs None → ReadsSingle bs o → ReadsItem bs o
single_item bs None c r = λ ts i few. let p = item_parts bs ts None c few i in r p.0 p.1 p.2
single_item bs (Some i) c r = (
  subst (λ n. Item bs (replicate n i.instance)) (sym r.1) (subst (λ z. Item z (i.instance ∷ [])) (sym r.0) (once r.2)),
  λ ts j few.
      let p = item_parts bs ts None c few j in let e = r.3 p.0 p.1 p.2 in
      p.3 ∙ (λ q. replicate (sym r.1 q) (e q)),
)

pub repeated_item : (bs : List ℕ) (x : Bor (List ℕ) × Bor (List ℕ)) (o : Option read.Item) → Cuts 42 bs (Some x) → ReadsRepeated x.0.now x.1.now o → ReadsItem bs o
repeated_item bs x None c r = λ ts i few.
    let p = item_parts bs ts (Some x) c few i in r p.0 p.1 p.2 p.3 p.4 p.5 p.6
repeated_item bs x (Some i) c r = (
  subst (λ z. Item z (turns_of i)) (sym (c.0 ∙ (λ q. r.0 q ++ (42 ∷ r.1 q)))) (times r.2 r.3),
  λ ts j few.
      let p = item_parts bs ts (Some x) c few j in let e = r.4 p.0 p.1 p.2 p.4 p.5 p.6 in
      p.7 ∙ (λ q. replicate (e.1 q) (e.0 q)),
)
