-- Usages taken together, one after another.
use Rattle.std.proofs.Common.{◌≡◌, Bool, true, false, ◌||◌, List, [], ◌∷◌, refl, ap, sym, ◌∙◌, cond}
use Rattle.std.specs.Prelude.{Option, Some}
use Rattle.pgo_base.specs.Tree.{Tree}
use Rattle.pgo_base.specs.Lookup.{Name, same_name}
use Rattle.pgo_model.specs.Names.{same_name-is}
use Rattle.pgo_uses.specs.declared.uses.Around.{Around}
use Rattle.pgo_uses.specs.declared.uses.Use.{Use}
use Rattle.pgo_scope.specs.declared.usage.Usage.{Usage}
use Rattle.pgo_scope.specs.NameUsage.{or_no_usage}
use Rattle.pgo_scope.specs.Usage.{no_usage, either_usage, usage_if, read_of, reads_from, reads, passed_usage, call_usage_from, call_usage}

or_false : (a : Bool) → a || false ≡ a
or_false true = refl
or_false false = refl

pub or_assoc : (a b c : Bool) → (a || b) || c ≡ a || (b || c)
or_assoc true b c = refl
or_assoc false b c = refl

pub either_none : (w : Usage) → either_usage w no_usage ≡ w
either_none w = λ i. record {
  plain = or_false w.plain i;
  indexed = or_false w.indexed i;
  hidden = or_false w.hidden i;
  hidden_indexed = or_false w.hidden_indexed i;
  bare = or_false w.bare i;
  one_index = or_false w.one_index i;
  further = or_false w.further i;
}

pub either_assoc : (u v w : Usage) → either_usage (either_usage u v) w ≡ either_usage u (either_usage v w)
either_assoc u v w = λ i. record {
  plain = or_assoc u.plain v.plain w.plain i;
  indexed = or_assoc u.indexed v.indexed w.indexed i;
  hidden = or_assoc u.hidden v.hidden w.hidden i;
  hidden_indexed = or_assoc u.hidden_indexed v.hidden_indexed w.hidden_indexed i;
  bare = or_assoc u.bare v.bare w.bare i;
  one_index = or_assoc u.one_index v.one_index w.one_index i;
  further = or_assoc u.further v.further w.further i;
}

-- nothing is added
pub not_used : (w v : Usage) → v ≡ no_usage → w ≡ either_usage w v
not_used w v e = sym (ap (either_usage w) e ∙ either_none w)

-- what is found under p, once what was found under the name and w are put there
pub added : (found : Name → Option Usage) (made : Option Usage) (name p : Name) (w : Usage) → made ≡ cond (same_name p name) (Some (either_usage (or_no_usage (found name)) w)) (found p) → or_no_usage made ≡ either_usage (or_no_usage (found p)) (usage_if (same_name p name) w)
added found made name p w e = ap or_no_usage e ∙ go (same_name p name) refl
  where
    go : (b : Bool) → same_name p name ≡ b → or_no_usage (cond b (Some (either_usage (or_no_usage (found name)) w)) (found p)) ≡ either_usage (or_no_usage (found p)) (usage_if b w)
    go true h = ap (λ y. either_usage (or_no_usage (found y)) w) (sym (same_name-is p name h))
    go false h = sym (either_none (or_no_usage (found p)))

-- what is gathered behind v is v and what is gathered behind none
reads_behind : (v w : Usage) (p : Name) (us : List Use) → reads_from (either_usage v w) p us ≡ either_usage v (reads_from w p us)
reads_behind v w p [] = refl
reads_behind v w p (u ∷ us) =
    ap (λ x. reads_from x p us) (either_assoc v w (read_of p u u.form)) ∙ reads_behind v (either_usage w (read_of p u u.form)) p us

pub reads_after : (w : Usage) (p : Name) (us : List Use) → reads_from w p us ≡ either_usage w (reads p us)
reads_after w p us = ap (λ x. reads_from x p us) (sym (either_none w)) ∙ reads_behind w no_usage p us

call_behind : (v w : Usage) (qs : List (Name × Usage)) (a : Around) (p : Name) (ts : List Tree) → call_usage_from (either_usage v w) qs a p ts ≡ either_usage v (call_usage_from w qs a p ts)
call_behind v w [] a p ts = refl
call_behind v w (q ∷ qs) a p [] = refl
call_behind v w (q ∷ qs) a p (t ∷ ts) =
    ap (λ x. call_usage_from x qs a p ts) (either_assoc v w (passed_usage q.1 a p t))
    ∙ call_behind v (either_usage w (passed_usage q.1 a p t)) qs a p ts

pub call_after : (w : Usage) (qs : List (Name × Usage)) (a : Around) (p : Name) (ts : List Tree) → call_usage_from w qs a p ts ≡ either_usage w (call_usage qs a p ts)
call_after w qs a p ts = ap (λ x. call_usage_from x qs a p ts) (sym (either_none w)) ∙ call_behind w no_usage qs a p ts

-- seven that are taken one after another
pub seven : (w a b c d e f g : Usage) → either_usage (either_usage (either_usage (either_usage (either_usage (either_usage (either_usage w a) b) c) d) e) f) g ≡ either_usage w (either_usage a (either_usage b (either_usage c (either_usage d (either_usage e (either_usage f g))))))
seven w a b c d e f g =
    either_assoc (either_usage (either_usage (either_usage (either_usage (either_usage w a) b) c) d) e) f g
    ∙ either_assoc (either_usage (either_usage (either_usage (either_usage w a) b) c) d) e (either_usage f g)
    ∙ either_assoc (either_usage (either_usage (either_usage w a) b) c) d (either_usage e (either_usage f g))
    ∙ either_assoc (either_usage (either_usage w a) b) c (either_usage d (either_usage e (either_usage f g)))
    ∙ either_assoc (either_usage w a) b (either_usage c (either_usage d (either_usage e (either_usage f g))))
    ∙ either_assoc w a (either_usage b (either_usage c (either_usage d (either_usage e (either_usage f g)))))
