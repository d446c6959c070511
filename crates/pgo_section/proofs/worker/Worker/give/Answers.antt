use Rattle.std.proofs.Common.{◌≡◌, ◌∙◌, ◌<◌, ℕ, List, [], ◌∷◌, length, true, refl, sym, ap, subst, arith, inl}
use Rattle.pgo_model.specs.Core.{Reaches}
use Rattle.pgo_section.specs.Programs.{IsGood}
use Rattle.pgo_workers.specs.View.{Gives}
use Rattle.pgo_workers.specs.Worker.{TGave, is_giving}
use Rattle.pgo_workers.specs.Worlds.{world_of}
use Rattle.pgo_section.specs.Sight.{see, program_at, phase_at}
use Rattle.pgo_section.proofs.Events.{world}
use Rattle.pgo_section.proofs.Gives.{may_give, some_taken, first_of_list, phase_of}
use Rattle.pgo_section.proofs.worker.Worker.give.Goals as goal

pub remove-r-requires : goal.remove-r-requires
remove-r-requires g c =
    let a = c.args.self.now in let y = g.S.Sections.system c.args.sections.now in let tree = g.S.Sections.tree c.args.sections.now in let walk = g.S.Sections.walk c.args.sections.now in let b = g.B.Board.shows c.args.board.now in let w = see walk a in
    let giving : is_giving w.phase ≡ true = ap (λ b. is_giving (phase_at walk b a.place a.readied)) c.requires.giving in
    some_len a.taken.items _ a.taken.ok.0 (some_taken (world y) (program_at y tree a) (Reaches y) (IsGood y) w b c.requires.met.meets giving)
  where
    some_len : (l : List ℕ) (n : ℕ) → n ≡ length l → (l ≡ [] → ⊥) → 0 < n
    some_len [] n e h = absurd (h refl)
    some_len (x ∷ l) n e h = omega (arith, e)

pub give-requires : goal.give-requires
give-requires g c =
    let a = c.args.self.now in let y = g.S.Sections.system c.args.sections.now in let tree = g.S.Sections.tree c.args.sections.now in let walk = g.S.Sections.walk c.args.sections.now in let b = g.B.Board.shows c.args.board.now in let w = see walk a in
    let giving : is_giving w.phase ≡ true = ap (λ b. is_giving (phase_at walk b a.place a.readied)) c.requires.giving in
    record { may = may_give (world y) (program_at y tree a) (Reaches y) (IsGood y) w b c.remove-r.result _ c.requires.met.meets giving (first_of_list a.taken.items c.remove-r.result (some_taken (world y) (program_at y tree a) (Reaches y) (IsGood y) w b c.requires.met.meets giving) c.remove-r.ensures.value) }

pub returns-clause-turned : goal.returns-clause-turned
returns-clause-turned g c =
    let a = c.args.self.now in let y = g.S.Sections.system c.args.sections.now in let tree = g.S.Sections.tree c.args.sections.now in let walk = g.S.Sections.walk c.args.sections.now in let b = g.B.Board.shows c.args.board.now in let w = see walk a in
    let giving : is_giving w.phase ≡ true = ap (λ b. is_giving (phase_at walk b a.place a.readied)) c.requires.giving in
    let first = first_of_list a.taken.items c.remove-r.result (some_taken (world y) (program_at y tree a) (Reaches y) (IsGood y) w b c.requires.met.meets giving) c.remove-r.ensures.value in
    TGave c.remove-r.result c.remove-r.new.self.items giving (first ∙ ap (λ l. c.remove-r.result ∷ l) (sym c.remove-r.ensures.items)) (subst (λ l. Gives (world_of l) c.remove-r.result b (g.B.Board.shows c.give.new.self)) c.requires.layout c.give.ensures.gives)
    (λ i. record w { phase = phase_of walk a.readied c.remove-r.new.self.items _ _ (sym c.remove-r.new.self.ok.0) c.is_empty.ensures i; taken = c.remove-r.new.self.items }) refl

pub returns-clause-apart : goal.returns-clause-apart
returns-clause-apart g c = inl c.give.ensures.lent
