-- A bundle is read where the text is one, and is the only one that the text is.
use Rattle.std.proofs.Common.{◌≡◌, List, [], ◌∷◌, ◌++◌, length, decimal, Some, None, Err, sym, ap, subst, ◌∙◌}
use Rattle.std.specs.Prelude.{ℕ, codes}
use Rattle.pgo_base.specs.Lookup.{Vars}
use Rattle.pgo_model.specs.Module.{Module}
use Rattle.pgo_model.specs.ModuleText.{flatten}
use Rattle.pgo_module_spells.specs.Spells.{SpellsModule}
use Rattle.pgo_value_text.proofs.Steps.{some_pair}
use Rattle.pgo_log_text.specs.declared.errors.LineStop.{LineStop}
use Rattle.pgo_log_text.specs.declared.errors.LineStop.TheVariants as parts
use Rattle.pgo_log_text.specs.declared.errors.LogStop.{LogStop}
use Rattle.pgo_log_text.specs.declared.errors.LogStop.TheVariants.{BadLog, NoMemory}
use Rattle.pgo_log_text.specs.IsBundle.{Version, BundleLog, head_lines, HasForm, IsTiedAs}
use Rattle.pgo_log_text.specs.Parsers.{ReadsAs}
use Rattle.pgo_log_text.specs.Lines.{opening, module_part, log_of}
use Rattle.pgo_log_text.specs.ReadBundle.{IsReadBundle, IsOnlyBundle, IsRefused, HasOnlyForm, HasNoForm, IsFormless, IsStopped, TellsTie, stop_at, SpellsOnly, SpellsNone, HasNoModule}
use Rattle.pgo_log_text.proofs.Ties.{not_tied}
use Rattle.pgo_log_text.proofs.LinesConstants.{version_text, constants_text, head_opened, opened_some, opened_finds, module_some, module_finds, log_of_some, log_of_finds}

-- what the readers gave: the version and the constants, the module's bytes, and what stands behind each
pub record Head (text : List ℕ) (v : Version) (cs : Vars) (x r : List ℕ) : Type 0 where
  pub behind : List ℕ
  pub opened : opening text ≡ Some ((v, cs), behind)
  pub part : module_part behind ≡ Some (x, r)

-- ---- what was read has the form of a bundle

pub form_read : (text : List ℕ) (v : Version) (cs : Vars) (x r : List ℕ) (m : Module) (l : BundleLog) (rest : List ℕ) → Head text v cs x r → SpellsModule x m
    → log_of v cs m.constants m.variables r ≡ Some (l, rest) → HasForm text m cs l
form_read text v cs x r m l rest head spelled log =
    let opened = opened_some text v cs head.behind head.opened in
    let part = module_some head.behind x r head.part in
    let read = log_of_some v cs m.constants m.variables r l rest log in
    record {
      module_text = x;
      log_text = r;
      text_is = opened.text_is ∙ ap (λ z. version_text v ++ constants_text cs z) part.0 ∙ sym (head_opened v cs (length x) (x ++ r))
          ∙ ap (λ w. flatten (head_lines w cs (length x)) ++ (x ++ r)) (sym read.3);
      module_count = part.1;
      spells = spelled;
      names = read.0;
      constant_count = opened.count;
      constants = opened.constants;
      log = read.1;
    }

-- ---- a text of that form is read

-- what is read of it
record Found (text : List ℕ) (m : Module) (cs : Vars) (l : BundleLog) : Type 0 where
  part : List ℕ
  log_text : List ℕ
  head : Head text l.version cs part log_text
  spells : SpellsModule part m
  log : log_of l.version cs m.constants m.variables log_text ≡ Some (l, [])

found : (text : List ℕ) (m : Module) (cs : Vars) (l : BundleLog) → HasForm text m cs l → Found text m cs l
found text m cs l b =
    let behind : List ℕ = codes "module " ++ (decimal (length b.module_text) ++ 10 ∷ (b.module_text ++ b.log_text)) in
    record {
      part = b.module_text;
      log_text = b.log_text;
      head = record {
        behind = behind;
        opened = ap opening (b.text_is ∙ head_opened l.version cs (length b.module_text) (b.module_text ++ b.log_text)) ∙ opened_finds l.version cs behind b.constant_count b.constants;
        part = module_finds b.module_text b.log_text b.module_count;
      };
      spells = b.spells;
      log = log_of_finds cs m.constants m.variables b.log_text l b.names b.log;
    }

-- the head of a text is read in one way
record SameHead (v w : Version) (cs ds : Vars) (x y r s : List ℕ) : Type 0 where
  version : v ≡ w
  constants : cs ≡ ds
  part : x ≡ y
  behind : r ≡ s

same_head : (text : List ℕ) (v w : Version) (cs ds : Vars) (x y r s : List ℕ) → Head text v cs x r → Head text w ds y s → SameHead v w cs ds x y r s
same_head text v w cs ds x y r s g h =
    let first = some_pair {A = Version × Vars} (v, cs) (w, ds) g.behind h.behind (sym g.opened ∙ h.opened) in
    let second = some_pair x y r s (sym g.part ∙ ap module_part first.1 ∙ h.part) in
    record { version = ap (λ (p : Version × Vars). p.0) first.0; constants = ap (λ (p : Version × Vars). p.1) first.0; part = second.0; behind = second.1 }

-- what the log's reader gives of a text with this head, whose module is this one
same_log : (v w : Version) (cs ds : Vars) (m n : Module) (r s : List ℕ) (k : BundleLog) → v ≡ w → cs ≡ ds → n ≡ m → r ≡ s → log_of w ds n.constants n.variables s ≡ Some (k, []) → log_of v cs m.constants m.variables r ≡ Some (k, [])
same_log v w cs ds m n r s k a c e b log = (λ i. log_of (a i) (c i) (sym e i).constants (sym e i).variables (b i)) ∙ log

-- ---- what was read is the only one

pub only_read : (text : List ℕ) (v : Version) (cs : Vars) (x r : List ℕ) (m : Module) (l : BundleLog) (rest : List ℕ) → Head text v cs x r → SpellsOnly x m
    → log_of v cs m.constants m.variables r ≡ Some (l, rest) → HasOnlyForm text m cs l
only_read text v cs x r m l rest head spelled log n ds k b =
    let f = found text n ds k b in
    let same = same_head text v k.version cs ds x f.part r f.log_text head f.head in
    let module_is : n ≡ m = spelled.only n (subst (λ y. SpellsModule y n) (sym same.part) f.spells) in
    let other = same_log v k.version cs ds m n r f.log_text k same.version same.constants module_is same.behind f.log in
    (module_is, sym same.constants, (some_pair k l [] rest (sym other ∙ log)).0)

-- a text has the form of the bundle of one module, constants and log alone, where it spells one module alone
pub one_form : ((t : List ℕ) (m n : Module) → SpellsModule t m → SpellsModule t n → m ≡ n) → (text : List ℕ) (m : Module) (cs : Vars) (l : BundleLog) → HasForm text m cs l → HasOnlyForm text m cs l
one_form one text m cs l b =
    let f = found text m cs l b in
    only_read text l.version cs f.part f.log_text m l [] f.head (record { spells = f.spells; only = λ n h. one f.part n m h f.spells }) f.log

pub one_bundle : ((t : List ℕ) (m n : Module) → SpellsModule t m → SpellsModule t n → m ≡ n) → (text : List ℕ) (m : Module) (cs : Vars) (l : BundleLog) → IsReadBundle text m cs l → IsOnlyBundle text m cs l
one_bundle one text m cs l b n ds k c = one_form one text m cs l b.form n ds k c.form

-- ---- what has no such form

-- a text without constants
none_without_constants : (text : List ℕ) → opening text ≡ None → HasNoForm text
none_without_constants text e m cs l b = let f = found text m cs l b in let g = sym e ∙ f.head.opened in absurd (cc)

-- one whose module has no bytes
none_without_part : (text behind : List ℕ) (v : Version) (cs : Vars) → opening text ≡ Some ((v, cs), behind) → module_part behind ≡ None → HasNoForm text
none_without_part text behind v cs e p m ds l b =
    let f = found text m ds l b in
    let first = some_pair {A = Version × Vars} (v, cs) (l.version, ds) behind f.head.behind (sym e ∙ f.head.opened) in
    let g = sym p ∙ ap module_part first.1 ∙ f.head.part in absurd (cc)

-- one whose module's bytes spell none
none_without_module : (text : List ℕ) (v : Version) (cs : Vars) (x r : List ℕ) → Head text v cs x r → SpellsNone x → HasNoForm text
none_without_module text v cs x r head none m ds l b =
    let f = found text m ds l b in
    let same = same_head text v l.version cs ds x f.part r f.log_text head f.head in
    none m (subst (λ y. SpellsModule y m) (sym same.part) f.spells)

-- one whose log is none
none_without_log : (text : List ℕ) (v : Version) (cs : Vars) (x r : List ℕ) (m : Module) → Head text v cs x r → SpellsOnly x m → log_of v cs m.constants m.variables r ≡ None → HasNoForm text
none_without_log text v cs x r m head spelled e n ds k b =
    let f = found text n ds k b in
    let same = same_head text v k.version cs ds x f.part r f.log_text head f.head in
    let module_is : n ≡ m = spelled.only n (subst (λ y. SpellsModule y n) (sym same.part) f.spells) in
    let g = sym e ∙ same_log v k.version cs ds m n r f.log_text k same.version same.constants module_is same.behind f.log in absurd (cc)

-- ---- why a text is refused

-- a stop with its line
pub with_line : (text : List ℕ) (line : ℕ) (stop : LineStop) (s : LogStop) → s ≡ stop_at line stop → IsStopped text stop → IsFormless text s
with_line text line stop s e h = subst (λ p. IsFormless text p) (sym e) (go stop h)
  where
    go : (stop : LineStop) → IsStopped text stop → IsFormless text (stop_at line stop)
    go parts.BadLine h = h
    go parts.NoMemory h = tt

opening_refused_there : {B : Type 0} (see : B → Version × Vars) (text new : List ℕ) (stop : LineStop) → ReadsAs see (opening text) (Err stop) new → IsStopped text stop
opening_refused_there see text new parts.BadLine h = none_without_constants text h
opening_refused_there see text new parts.NoMemory h = tt

pub opening_refused : {B : Type 0} (see : B → Version × Vars) (text here new : List ℕ) (stop : LineStop) → here ≡ text → ReadsAs see (opening here) (Err stop) new → IsStopped text stop
opening_refused see text here new stop e h = opening_refused_there see text new stop (subst (λ t. ReadsAs see (opening t) (Err stop) new) e h)

pub part_refused : {B : Type 0} (see : B → List ℕ) (text behind new : List ℕ) (v : Version) (cs : Vars) (stop : LineStop) → opening text ≡ Some ((v, cs), behind) → ReadsAs see (module_part behind) (Err stop) new
    → IsStopped text stop
part_refused see text behind new v cs parts.BadLine e h = none_without_part text behind v cs e h
part_refused see text behind new v cs parts.NoMemory e h = tt

pub module_refused : (text : List ℕ) (v : Version) (cs : Vars) (x r : List ℕ) (stop : LogStop) → Head text v cs x r → HasNoModule x stop → IsFormless text stop
module_refused text v cs x r (BadLog l) head h = none_without_module text v cs x r head h
module_refused text v cs x r NoMemory head h = tt

pub log_refused : {B : Type 0} (see : B → BundleLog) (text : List ℕ) (v : Version) (cs : Vars) (x r new : List ℕ) (m : Module) (stop : LineStop) → Head text v cs x r → SpellsOnly x m
    → ReadsAs see (log_of v cs m.constants m.variables r) (Err stop) new
    → IsStopped text stop
log_refused see text v cs x r new m parts.BadLine head spelled h = none_without_log text v cs x r m head spelled h
log_refused see text v cs x r new m parts.NoMemory head spelled h = tt

-- ---- whether its records are tied

-- a text without the form of a bundle is none
pub formless_refused : (text : List ℕ) (stop : LogStop) → IsFormless text stop → IsRefused text stop
formless_refused text (BadLog l) h = λ m cs log b. h m cs log b.form
formless_refused text NoMemory h = tt

pub tie_refused : (text : List ℕ) (m : Module) (cs : Vars) (l : BundleLog) (first : ℕ) (stop : LogStop) → HasOnlyForm text m cs l → TellsTie l first (Some stop) → IsRefused text stop
tie_refused text m cs l first (BadLog n) only h = λ k ds log b. not_tied l first n h (subst (λ z. IsTiedAs z.version z) (only k ds log b.form).2 b.tied)
tie_refused text m cs l first NoMemory only h = tt

pub tied_only : (text : List ℕ) (m : Module) (cs : Vars) (l : BundleLog) → HasOnlyForm text m cs l → IsOnlyBundle text m cs l
tied_only text m cs l only n ds k b = only n ds k b.form
