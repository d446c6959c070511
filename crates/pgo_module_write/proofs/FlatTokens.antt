-- Tokens with no junction list among them: whatever follows them, their marks are themselves.
use Rattle.std.proofs.Common.{◌≡◌, ◌≤◌, ℕ, Bool, true, false, List, [], ◌∷◌, ◌++◌, ap, sym, subst, arith}
use Rattle.std.proofs.lemmas.List.{append_assoc}
use Rattle.pgo_lexer.specs.declared.token.Lexeme.{Lexeme}
use Rattle.pgo_lexer.specs.declared.symbol.Bracket.{Bracket}
use Rattle.pgo_lexer.specs.declared.kind.Kind.TheVariants as kind
use Rattle.pgo_lexer.specs.declared.kind.Role.TheVariants as role
use Rattle.pgo_lexer.specs.Kinds.{kind_of, role_of, ends_operand}
use Rattle.pgo_lexer.specs.Layout.{Marked, AllFrom}
use Rattle.pgo_lexer.specs.Layout as m

-- no bullet and no `;` is among them, and their brackets are closed
pub data Flat : (before : Bool) → List Lexeme → (behind : Bool) → Type 0 where
  done : {p : Bool} → Flat p [] p
  plain : {p q : Bool} {r : Lexeme} {rs : List Lexeme} → role_of p (kind_of r.token) ≡ role.Plain → Flat (ends_operand r.token) rs q → Flat p (r ∷ rs) q
  bracket : {p u q : Bool} {k : Bracket} {o : Lexeme} (z : Lexeme) {xs rs : List Lexeme} → kind_of o.token ≡ kind.Open k → Flat false xs u → kind_of z.token ≡ kind.Close k → Flat true rs q
      → Flat p (o ∷ (xs ++ (z ∷ rs))) q

-- ---- columns

pub from_both : (c : ℕ) (xs ys : List Lexeme) → AllFrom c (xs ++ ys) → AllFrom c xs × AllFrom c ys
from_both c [] ys h = (tt, h)
from_both c (x ∷ xs) ys h = let q = from_both c xs ys h.1 in ((h.0, q.0), q.1)

pub from_less : (b c : ℕ) (xs : List Lexeme) → b ≤ c → AllFrom c xs → AllFrom b xs
from_less b c [] e h = tt
from_less b c (x ∷ xs) e h = (omega (arith, e, h.0), from_less b c xs e h.1)

-- ---- marks

pub marked_alone : {s : Bool} (b : ℕ) {p q : Bool} {xs : List Lexeme} → Flat p xs q → AllFrom b xs → Marked s b p xs xs q
marked_alone b done h = m.done
marked_alone b (plain is d) h = m.plain h.0 is (marked_alone b d h.1)
marked_alone b (bracket z {xs = xs} {rs = rs} is d close e) h =
    let q = from_both b xs (z ∷ rs) h.1 in
    m.bracket z h.0 is (marked_alone b d q.0) q.1.0 close (marked_alone b e q.1.1)

pub marked_before : {s : Bool} (b : ℕ) {p q r : Bool} {xs : List Lexeme} (ys ms : List Lexeme) → Flat p xs q → AllFrom b xs → Marked s b q ys ms r → Marked s b p (xs ++ ys) (xs ++ ms) r
marked_before b ys ms done h then = then
marked_before b ys ms (plain is d) h then = m.plain h.0 is (marked_before b ys ms d h.1 then)
marked_before {s} b {p} {q} {r} ys ms (bracket {o = o} z {xs = xs} {rs = rs} is d close e) h then =
    let k = from_both b xs (z ∷ rs) h.1 in
    let P : List Lexeme → Type 0 = λ w. Marked s b p (o ∷ w) (o ∷ (xs ++ (z ∷ (rs ++ ms)))) r in
    let Q : List Lexeme → Type 0 = λ w. Marked s b p (o ∷ ((xs ++ (z ∷ rs)) ++ ys)) (o ∷ w) r in
    subst Q (sym (append_assoc xs (z ∷ rs) ms))
    (subst P (sym (append_assoc xs (z ∷ rs) ys)) (m.bracket z h.0 is (marked_alone b d k.0) k.1.0 close (marked_before b ys ms e k.1.1 then)))

-- a token that is neither bracket nor `/\` stands first behind anything
pub flat_anywhere : {p q : Bool} {r : Lexeme} {rs : List Lexeme} → kind_of r.token ≡ kind.Plain → Flat p (r ∷ rs) q → (u : Bool) → Flat u (r ∷ rs) q
flat_anywhere is (plain may d) u = plain (ap (role_of u) is) d
flat_anywhere is (bracket z open' d close e) u = absurd (let k = sym is in let n = k in cc)

-- ---- brackets that are open before them

pub data Nest : List Bracket → Bool → List Lexeme → Type 0 where
  whole : {p q : Bool} {rs : List Lexeme} → Flat p rs q → Nest [] p rs
  inside : {k : Bracket} {ks : List Bracket} {p u : Bool} (z : Lexeme) {xs rs : List Lexeme} → Flat p xs u → kind_of z.token ≡ kind.Close k → Nest ks true rs → Nest (k ∷ ks) p (xs ++ (z ∷ rs))

pub nest_plain : {st : List Bracket} {p : Bool} (r : Lexeme) {rs : List Lexeme} → role_of p (kind_of r.token) ≡ role.Plain → Nest st (ends_operand r.token) rs → Nest st p (r ∷ rs)
nest_plain r is (whole d) = whole (plain is d)
nest_plain r is (inside z {xs = xs} d c n) = inside z {xs = r ∷ xs} (plain is d) c n

pub nest_open : {st : List Bracket} {p : Bool} {k : Bracket} (o : Lexeme) {rs : List Lexeme} → kind_of o.token ≡ kind.Open k → Nest (k ∷ st) false rs → Nest st p (o ∷ rs)
nest_open o is (inside z d c (whole e)) = whole (bracket z is d c e)
nest_open {p = p} o is (inside z {xs = xs} d c (inside {k = k'} {ks = ks} y {xs = ys} {rs = rs} e c' n)) =
    let P : List Lexeme → Type 0 = λ w. Nest (k' ∷ ks) p (o ∷ w) in
    subst P (append_assoc xs (z ∷ ys) (y ∷ rs)) (inside y {xs = o ∷ (xs ++ (z ∷ ys))} (bracket z is d c e) c' n)

pub nest_close : {st : List Bracket} {p : Bool} {k : Bracket} (r : Lexeme) {rs : List Lexeme} → kind_of r.token ≡ kind.Close k → Nest st true rs → Nest (k ∷ st) p (r ∷ rs)
nest_close r is n = inside r {xs = []} done is n

-- the tokens of a whole line
pub record WholeLine (p : Bool) (ls : List Lexeme) : Type 0 where
  pub behind : Bool
  pub flat : Flat p ls behind

pub whole_line : {p : Bool} {ls : List Lexeme} → Nest [] p ls → WholeLine p ls
whole_line (whole {q = q} d) = record { behind = q; flat = d }
