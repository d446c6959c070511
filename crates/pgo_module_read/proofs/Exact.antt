-- What is read of a text is what it spells.
use Rattle.std.proofs.Common.{◌≡◌, ℕ, List, [], ◌∷◌, Some, Result, Ok, Err, IfOk, ap, sym, ◌∙◌, subst}
use Rattle.std.specs.List.{AllByRecursion}
use Rattle.pgo_base.specs.declared.module.Module as memory
use Rattle.pgo_lexer.specs.declared.errors.TextStop.{TextStop}
use Rattle.pgo_lexer.specs.declared.errors.TextStop.TheVariants.{Syntax, NoMemory}
use Rattle.pgo_model.specs.Module.{Module, WrittenProcess}
use Rattle.pgo_model.specs.ModuleView.{module_view}
use Rattle.pgo_expr_read.specs.Steps.{Makes}
use Rattle.pgo_mpcal_read.specs.ReadingSpec.{if_some}
use Rattle.pgo_module_spells.specs.Grammar.{AreParts}
use Rattle.pgo_module_spells.specs.Spells.{SpellsModule, IsOrNoMemory}
use Rattle.pgo_module_spells.specs.Written.{IsWrittenProcess, IsWritten}
use Rattle.pgo_module_read.specs.Building.{module_of, module_from_text}
use Rattle.pgo_module_read.specs.Cutting.{cut}
use Rattle.pgo_module_read.specs.Reading.{all_lines}
use Rattle.pgo_module_read.proofs.Built.{module_found, module_given, in_memory, same_module}
use Rattle.pgo_module_read.proofs.CutWhole.{IsCut, cut_sound, cut_complete}
use Rattle.pgo_module_read.proofs.LinesExact.{all_sound, all_complete}
use Rattle.pgo_module_read.proofs.ProcessesExact.{IsFew, few_calls}
use Rattle.pgo_module_read.proofs.StepsExact.{some_then}
use Rattle.pgo_module_read.proofs.Told.{told, parts_formed, lines_formed, module_written}

module_sound : (text : List ℕ) (m : memory.Module) → module_from_text text ≡ Some m → SpellsModule text (module_view m)
module_sound text m e =
    some_then (cut text) _ m (SpellsModule text (module_view m)) e (λ ts got e.
    some_then (all_lines ts) module_of m (SpellsModule text (module_view m)) e (λ l is e.
    let c = cut_sound text ts got in
    let a = all_sound ts l is in
    let b = module_found l m (lines_formed l (parts_formed a.parts (told text ts c a.plain))) e in
    record {
      before = c.before;
      part = c.part;
      behind = c.behind;
      both = c.both;
      unmarked = c.unmarked;
      tokens = ts;
      line = c.line;
      cut = c.cut;
      ends = c.ends;
      few = c.few;
      marks = c.marks;
      plain = a.plain;
      parts = subst (AreParts ts) b.parts a.parts;
      processes = b.processes;
    }))

cut_of : (text : List ℕ) (m : Module) (h : SpellsModule text m) → IsCut text h.tokens
cut_of text m h = record { before = h.before; part = h.part; behind = h.behind; unmarked = h.unmarked; both = h.both; line = h.line; cut = h.cut; ends = h.ends; few = h.few; marks = h.marks }

pub spelled_written : (text : List ℕ) (m : Module) → SpellsModule text m → IsWritten m
spelled_written text m h = module_written m (parts_formed h.parts (told text h.tokens (cut_of text m h) h.plain)) h.processes

-- of a written module each process has few label actions
few_of : (ps : List WrittenProcess) → AllByRecursion IsWrittenProcess ps → AllByRecursion IsFew ps
few_of [] h = tt
few_of (p ∷ ps) h = (few_calls p.actions h.0.own.low, few_of ps h.1)

-- what the text spells is given
record IsGiven (text : List ℕ) (m : Module) : Type 0 where
  given : module_from_text text ≡ Some (in_memory m)
  same : module_view (in_memory m) ≡ m

module_complete : (text : List ℕ) (m : Module) → SpellsModule text m → IsGiven text m
module_complete text m h =
    let a = all_complete h.tokens m h.plain h.parts in
    record {
      given = ap (λ o. if_some o (λ ts. if_some (all_lines ts) module_of)) (cut_complete text h.tokens (cut_of text m h))
          ∙ ap (λ o. if_some o module_of) a.0
          ∙ module_given m h.processes (few_of m.processes (spelled_written text m h).processes) a.1;
      same = same_module m a.1;
    }

-- ---- the clauses of the public calls

pub result_found : (text : List ℕ) (r : Result memory.Module TextStop) → Makes (module_from_text text) r → IfOk r (λ m. SpellsModule text (module_view m))
result_found text (Ok m) e = module_sound text m e
result_found text (Err (Syntax n)) e = tt
result_found text (Err NoMemory) e = tt

pub result_only : (text : List ℕ) (r : Result memory.Module TextStop) → Makes (module_from_text text) r → (m : Module) → SpellsModule text m → IsOrNoMemory r m
result_only text (Ok b) e m h =
    let k = module_complete text m h in
    let q = sym e ∙ k.given in
    let same : b ≡ in_memory m = cc in
    ap module_view same ∙ k.same
result_only text (Err (Syntax n)) e m h = absurd (let q = sym e ∙ (module_complete text m h).given in cc)
result_only text (Err NoMemory) e m h = tt

pub one_module : (text : List ℕ) (m n : Module) → SpellsModule text m → SpellsModule text n → m ≡ n
one_module text m n h k =
    let a = module_complete text m h in
    let b = module_complete text n k in
    let q = sym a.given ∙ b.given in
    let same : in_memory m ≡ in_memory n = cc in
    sym a.same ∙ ap module_view same ∙ b.same
