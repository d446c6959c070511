-- The constants of a bundle, and the bytes of its module.
use Rattle.std.proofs.Common.{◌≡◌, ◌<◌, ◌^◌, ℕ, zero, suc, true, IsTrue, List, [], ◌∷◌, ◌++◌, length, map, decimal, Some, refl, sym, ap, subst, ◌∙◌, append_assoc}
use Rattle.std.specs.Prelude.{codes}
use Rattle.std.proofs.lemmas.List.{append-nil}
use Rattle.std.proofs.lemmas.Bool.{and_parts, and_from}
use Rattle.pgo_base.specs.Data.{Data}
use Rattle.pgo_base.specs.Lookup.{Name, Vars, same_name}
use Rattle.pgo_base.specs.SameName.{same_name-self, same_name-is}
use Rattle.pgo_model.specs.ValueText.{value_text}
use Rattle.pgo_model.specs.ModuleText.{Line, line, flatten}
use Rattle.pgo_model.specs.Bundle.{value_line}
use Rattle.pgo_model.specs.BundleParts.{is_read_name}
use Rattle.pgo_value_text.proofs.Steps.{if_some, cond_true, bind_then, then_at, some_pair}
use Rattle.pgo_value_text.proofs.Runs.{expected}
use Rattle.pgo_log_text.specs.IsBundle.{Version, One, Two, BundleLog, IsCanonicalValue, AreConstants, head_lines, IsLogText}
use Rattle.pgo_bundle.specs.Lines.{version_line}
use Rattle.pgo_log_text.specs.Bytes.{begins}
use Rattle.pgo_log_text.specs.Lines.{constant_line, constants, version, constants_part, opening, module_part, are_named, log_of}
use Rattle.pgo_log_text.proofs.BytesNumbers.{name_some, name_finds}
use Rattle.pgo_log_text.proofs.BytesTaken.{taken_some, taken_finds}
use Rattle.pgo_log_text.proofs.LinesFields.{last_number_some, last_number_finds, last_value_some, last_value_finds}
use Rattle.pgo_log_text.proofs.LinesStart.{line_nest}
use Rattle.pgo_log_text.proofs.LinesEntries.{flatten_append}
use Rattle.pgo_log_text.proofs.LinesTold.{word_some, word_finds}
use Rattle.pgo_log_text.proofs.LinesLog.{log_some, log_finds}

-- ---- a constant

abbrev constant_text : Name × Data → List ℕ → List ℕ
constant_text p r = p.0 ++ (codes " = " ++ (value_text p.1 ++ 10 ∷ r))

-- what was read as a constant
record ConstantText (bs : List ℕ) (p : Name × Data) (r : List ℕ) : Type 0 where
  text_is : bs ≡ constant_text p r
  name : IsTrue (is_read_name p.0)
  value : IsCanonicalValue p.1

constant_some : (bs : List ℕ) (p : Name × Data) (r : List ℕ) → constant_line bs ≡ Some (p, r) → ConstantText bs p r
unfolding constant_line
constant_some bs p r e =
    let G : Type 0 = ConstantText bs p r in
    bind_then _ _ _ G e (λ x i a e. bind_then _ _ _ G e (λ u j b e. bind_then _ _ _ G e (λ v k c e.
    let name = name_some bs x i a in
    let value = last_value_some j v k c in
    let same = some_pair {A = Name × Data} (x, v) p k r e in
    subst (λ p. ConstantText bs p r) same.0 (record {
      text_is = name.0 ∙ ap (λ z. x ++ z) (expected (codes " = ") i u j b ∙ ap (λ z. codes " = " ++ z) (value.0 ∙ ap (λ z. value_text v ++ 10 ∷ z) same.1));
      name = name.1;
      value = value.1;
    }))))

constant_finds : (p : Name × Data) (r : List ℕ) → IsTrue (is_read_name p.0) → IsCanonicalValue p.1 → constant_line (constant_text p r) ≡ Some (p, r)
unfolding constant_line
constant_finds p r n v =
    let value_on : List ℕ = value_text p.1 ++ 10 ∷ r in
    then_at _ _ _ p.0 (codes " = " ++ value_on) (name_finds p.0 (codes " = " ++ value_on) n refl)
    (then_at _ _ _ p.1 r (last_value_finds p.1 r v) refl)

-- ---- constants

-- the constants behind those that were read
record ConstantsText (n : ℕ) (done all : Vars) (bs r : List ℕ) : Type 0 where
  behind : Vars
  is_all : all ≡ done ++ behind
  text_is : bs ≡ flatten (map value_line behind) ++ r
  count : length behind ≡ n
  read : AreConstants behind

constants_some : (n : ℕ) (done : Vars) (bs : List ℕ) (all : Vars) (r : List ℕ) → constants n done bs ≡ Some (all, r) → ConstantsText n done all bs r
unfolding constants
constants_some zero done bs all r e =
    let same = some_pair done all bs r e in
    record { behind = []; is_all = sym same.0 ∙ sym (append-nil done); text_is = same.1; count = refl; read = tt }
constants_some (suc n) done bs all r e =
    let G : Type 0 = ConstantsText (suc n) done all bs r in
    bind_then _ _ _ G e (λ p i a e.
    let one = constant_some bs p i a in
    let more = constants_some n (done ++ p ∷ []) i all r e in
    record {
      behind = p ∷ more.behind;
      is_all = more.is_all ∙ append_assoc done (p ∷ []) more.behind;
      text_is = one.text_is ∙ ap (constant_text p) more.text_is ∙ sym (line_nest p.0 (value_text p.1) (flatten (map value_line more.behind)) r);
      count = ap (λ k. suc k) more.count;
      read = (one.name, one.value, more.read);
    })

constants_finds : (cs : Vars) (n : ℕ) (done : Vars) (r : List ℕ) → n ≡ length cs → AreConstants cs → constants n done (flatten (map value_line cs) ++ r) ≡ Some (done ++ cs, r)
unfolding constants
constants_finds [] zero done r n h = λ i. Some (sym (append-nil done) i, r)
constants_finds [] (suc k) done r n h = absurd (cc)
constants_finds (p ∷ cs) zero done r n h = absurd (cc)
constants_finds (p ∷ cs) (suc k) done r n h =
    let rest : List ℕ = flatten (map value_line cs) ++ r in
    let few : k ≡ length cs = cc in
    ap (constants (suc k) done) (line_nest p.0 (value_text p.1) (flatten (map value_line cs)) r)
    ∙ then_at _ _ _ p rest (constant_finds p rest h.0 h.1) (constants_finds cs k (done ++ p ∷ []) r few h.2)
    ∙ (λ i. Some (append_assoc done (p ∷ []) cs i, r))

-- ---- the head

-- the text of a head
abbrev pub version_text : Version → List ℕ
version_text One = codes "pgo 1\n"
version_text Two = codes "pgo 2\n"

abbrev pub constants_text : Vars → List ℕ → List ℕ
constants_text cs r = codes "consts " ++ (decimal (length cs) ++ 10 ∷ (flatten (map value_line cs) ++ r))

abbrev pub size_text : ℕ → List ℕ → List ℕ
size_text n r = codes "module " ++ (decimal n ++ 10 ∷ r)

count_nest : (d t r : List ℕ) → ((d ++ 10 ∷ []) ++ t) ++ r ≡ d ++ 10 ∷ (t ++ r)
count_nest d t r = simp append_assoc

last_nest : (w k r : List ℕ) → (line (w ++ k) ++ []) ++ r ≡ w ++ (k ++ 10 ∷ r)
last_nest w k r = simp append_assoc

lines_nest : (v : List Line) (k r : List ℕ) → flatten (v ++ line (codes "module " ++ k) ∷ []) ++ r ≡ flatten v ++ (codes "module " ++ (k ++ 10 ∷ r))
lines_nest v k r =
    let last : Line = line (codes "module " ++ k) in
    ap (λ z. z ++ r) (flatten_append v (last ∷ [])) ∙ append_assoc (flatten v) (last ++ []) r ∙ ap (λ z. flatten v ++ z) (last_nest (codes "module ") k r)

head_nest : (v : Version) (d k r : List ℕ) (ls : List Line) → flatten ((version_line v ∷ line (codes "consts " ++ d) ∷ []) ++ ls ++ (line (codes "module " ++ k) ∷ [])) ++ r
    ≡ version_text v ++ (codes "consts " ++ (d ++ 10 ∷ (flatten ls ++ (codes "module " ++ (k ++ 10 ∷ r)))))
head_nest One d k r ls =
    ap (λ z. codes "pgo 1\nconsts " ++ z) (count_nest d (flatten (ls ++ line (codes "module " ++ k) ∷ [])) r ∙ ap (λ z. d ++ 10 ∷ z) (lines_nest ls k r))
head_nest Two d k r ls =
    ap (λ z. codes "pgo 2\nconsts " ++ z) (count_nest d (flatten (ls ++ line (codes "module " ++ k) ∷ [])) r ∙ ap (λ z. d ++ 10 ∷ z) (lines_nest ls k r))

pub head_opened : (v : Version) (cs : Vars) (n : ℕ) (r : List ℕ) → flatten (head_lines v cs n) ++ r ≡ version_text v ++ constants_text cs (size_text n r)
head_opened v cs n r = head_nest v (decimal (length cs)) (decimal n) r (map value_line cs)

version_some : (bs : List ℕ) (v : Version) (r : List ℕ) → version bs ≡ Some (v, r) → bs ≡ version_text v ++ r
unfolding version
version_some bs v r e =
    let G : Version → Type 0 = λ v. bs ≡ version_text v ++ r in
    if_some (begins (codes "pgo 2\n") bs) _ _ (v, r) (G v) e (λ _ e. let w = word_some (codes "pgo 2\n") Two v bs r e in subst G w.1 w.0)
    (λ _ e. let w = word_some (codes "pgo 1\n") One v bs r e in subst G w.1 w.0)

version_finds : (v : Version) (r : List ℕ) → version (version_text v ++ r) ≡ Some (v, r)
unfolding version
version_finds One r = word_finds (codes "pgo 1\n") One r
version_finds Two r = word_finds (codes "pgo 2\n") Two r

-- what was read as the constants
record Given (bs : List ℕ) (cs : Vars) (r : List ℕ) : Type 0 where
  text_is : bs ≡ constants_text cs r
  count : length cs < 2 ^ 32
  constants : AreConstants cs

given_some : (bs : List ℕ) (cs : Vars) (r : List ℕ) → constants_part bs ≡ Some (cs, r) → Given bs cs r
unfolding constants_part
given_some bs cs r e =
    let G : Type 0 = Given bs cs r in
    bind_then _ _ _ G e (λ v i a e. bind_then _ _ _ G e (λ n j b e.
    let number = last_number_some i n j b in
    let more = constants_some n [] j cs r e in
    let many : length cs ≡ n = ap length more.is_all ∙ more.count in
    let all : cs ≡ more.behind = more.is_all in
    record {
      text_is = expected (codes "consts ") bs v i a
          ∙ ap (λ z. codes "consts " ++ z) (number.0 ∙ (λ k. decimal (sym many k) ++ 10 ∷ (more.text_is ∙ ap (λ z. flatten (map value_line z) ++ r) (sym all)) k));
      count = subst (λ k. k < 2 ^ 32) (sym many) number.1;
      constants = subst AreConstants (sym all) more.read;
    }))

given_finds : (cs : Vars) (r : List ℕ) → length cs < 2 ^ 32 → AreConstants cs → constants_part (constants_text cs r) ≡ Some (cs, r)
unfolding constants_part
given_finds cs r few h =
    let lines_on : List ℕ = flatten (map value_line cs) ++ r in
    then_at _ _ _ (length cs) lines_on (last_number_finds (length cs) lines_on few) (constants_finds cs (length cs) [] r refl h)

-- what was read as the version and the constants
pub record Opened (bs : List ℕ) (v : Version) (cs : Vars) (r : List ℕ) : Type 0 where
  pub text_is : bs ≡ version_text v ++ constants_text cs r
  pub count : length cs < 2 ^ 32
  pub constants : AreConstants cs

pub opened_some : (bs : List ℕ) (v : Version) (cs : Vars) (r : List ℕ) → opening bs ≡ Some ((v, cs), r) → Opened bs v cs r
unfolding opening
opened_some bs v cs r e =
    let G : Type 0 = Opened bs v cs r in
    bind_then _ _ _ G e (λ w i a e. bind_then _ _ _ G e (λ ds j b e.
    let first = version_some bs w i a in
    let given = given_some i ds j b in
    let same = some_pair {A = Version × Vars} (w, ds) (v, cs) j r e in
    let version_is : w ≡ v = ap (λ (p : Version × Vars). p.0) same.0 in
    let constants_are : ds ≡ cs = ap (λ (p : Version × Vars). p.1) same.0 in
    record {
      text_is = first ∙ (λ k. version_text (version_is k) ++ (given.text_is ∙ (λ m. constants_text (constants_are m) (same.1 m))) k);
      count = subst (λ cs. length cs < 2 ^ 32) constants_are given.count;
      constants = subst AreConstants constants_are given.constants;
    }))

pub opened_finds : (v : Version) (cs : Vars) (r : List ℕ) → length cs < 2 ^ 32 → AreConstants cs → opening (version_text v ++ constants_text cs r) ≡ Some ((v, cs), r)
unfolding opening
opened_finds v cs r few h = then_at _ _ _ v (constants_text cs r) (version_finds v (constants_text cs r)) (then_at _ _ _ cs r (given_finds cs r few h) refl)

-- what was read as the module's bytes
pub module_some : (bs x r : List ℕ) → module_part bs ≡ Some (x, r) → (bs ≡ codes "module " ++ (decimal (length x) ++ 10 ∷ (x ++ r))) × (length x < 2 ^ 32)
unfolding module_part
module_some bs x r e =
    let G : Type 0 = (bs ≡ codes "module " ++ (decimal (length x) ++ 10 ∷ (x ++ r))) × (length x < 2 ^ 32) in
    bind_then _ _ _ G e (λ u i a e. bind_then _ _ _ G e (λ n j b e.
    let number = last_number_some i n j b in
    let rest = taken_some n j x r e in (
      expected (codes "module ") bs u i a ∙ ap (λ z. codes "module " ++ z) (number.0 ∙ (λ h. decimal (sym rest.1 h) ++ 10 ∷ rest.0 h)),
      subst (λ h. h < 2 ^ 32) (sym rest.1) number.1,
    )))

pub module_finds : (x r : List ℕ) → length x < 2 ^ 32 → module_part (codes "module " ++ (decimal (length x) ++ 10 ∷ (x ++ r))) ≡ Some (x, r)
unfolding module_part
module_finds x r h = then_at _ _ _ (length x) (x ++ r) (last_number_finds (length x) (x ++ r) h) (taken_finds x r)

-- ---- the log of these constants

are_names : (cs : Vars) (names : List Name) → are_named cs names ≡ true → map (λ p. p.0) cs ≡ names
are_names [] [] h = refl
are_names [] (x ∷ xs) h = absurd (cc)
are_names (p ∷ ps) [] h = absurd (cc)
are_names (p ∷ ps) (x ∷ xs) h = let t = and_parts (same_name p.0 x) (are_named ps xs) h in λ i. same_name-is p.0 x t.0 i ∷ are_names ps xs t.1 i

names_found : (cs : Vars) → are_named cs (map (λ p. p.0) cs) ≡ true
names_found [] = refl
names_found (p ∷ ps) = and_from (same_name p.0 p.0) (are_named ps (map (λ p. p.0) ps)) (same_name-self p.0) (names_found ps)

pub log_of_some : (v : Version) (cs : Vars) (names variables : List Name) (bs : List ℕ) (l : BundleLog) (r : List ℕ) → log_of v cs names variables bs ≡ Some (l, r)
    → (map (λ p. p.0) cs ≡ names) × IsLogText bs variables l × (r ≡ []) × (l.version ≡ v)
unfolding log_of
log_of_some v cs names variables bs l r e =
    if_some (are_named cs names) _ _ (l, r) ((map (λ p. p.0) cs ≡ names) × IsLogText bs variables l × (r ≡ []) × (l.version ≡ v)) e
    (λ t e. let log = log_some v variables bs l r e in (are_names cs names t, log.0, log.1, log.2))
    (λ _ e. absurd (cc))

pub log_of_finds : (cs : Vars) (names variables : List Name) (bs : List ℕ) (l : BundleLog) → map (λ p. p.0) cs ≡ names → IsLogText bs variables l → log_of l.version cs names variables bs ≡ Some (l, [])
unfolding log_of
log_of_finds cs names variables bs l e h =
    cond_true (are_named cs names) _ _ (subst (λ ns. are_named cs ns ≡ true) e (names_found cs)) ∙ log_finds variables bs l h
