-- Marks stay as they are where the tokens stand further right than they must.
use Rattle.std.proofs.Common.{ℕ, Bool, List, [], ◌∷◌, ◌++◌}
use Rattle.pgo_lexer.specs.declared.token.Lexeme.{Lexeme}
use Rattle.pgo_lexer.specs.Layout.{Marked, AllFrom}
use Rattle.pgo_lexer.specs.Layout as l

parted : (c : ℕ) (xs ys : List Lexeme) → AllFrom c (xs ++ ys) → AllFrom c xs × AllFrom c ys
parted c [] ys h = (tt, h)
parted c (x ∷ xs) ys h = let q = parted c xs ys h.1 in ((h.0, q.0), q.1)

pub further_right : (c : ℕ) {s : Bool} {b : ℕ} {p q : Bool} {rs ms : List Lexeme} → Marked s b p rs ms q → AllFrom c rs → Marked s c p rs ms q
further_right c l.done h = l.done
further_right c (l.plain low is d) h = l.plain h.0 is (further_right c d h.1)
further_right c (l.separator low is d) h = l.separator h.0 is (further_right c d h.1)
further_right c (l.bracket z {xs = xs} {rs = rs} low is d low2 is2 d') h =
    let q = parted c xs (z ∷ rs) h.1 in
    l.bracket z h.0 is (further_right c d q.0) q.1.0 is2 (further_right c d' q.1.1)
further_right c (l.list {xs = xs} {ys = ys} {rs = rs} low is d d' past d'') h =
    let q = parted c xs (ys ++ rs) h.1 in
    l.list h.0 is d d' past (further_right c d'' (parted c ys rs q.1).1)
