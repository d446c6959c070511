use Rattle.std.proofs.Common.{arith}
use Rattle.pgo_resource.specs.Picked.{attempt_words}
use Rattle.pgo_resource.proofs.Turning.{word_in, word_behind}
use Rattle.pgo_resource.proofs.picks.Picks.word.Goals as goal

pub returns-then-at-len : goal.returns-then-at-len
returns-then-at-len c =
    let s = c.args.self.now in let p = s.points.ok.0 in let q = s.path.ok.0 in let n = c.len-at.ensures in let m = c.len.ensures in let t = c.if-at-len.true in
    word_in s.path.items (attempt_words s) s.points.items c.len-at.result c.index.result.now (omega (arith, p, n)) (omega (arith, q, m, t)) c.index.ensures

pub returns-else-at-len : goal.returns-else-at-len
returns-else-at-len c =
    let s = c.args.self.now in let p = s.points.ok.0 in let q = s.path.ok.0 in let n = c.len-at.ensures in let m = c.len.ensures in let t = c.if-at-len.false in
    word_behind s.path.items (attempt_words s) s.points.items c.len-at.result c.word_of.result (omega (arith, p, n)) (omega (arith, q, m, t)) c.word_of.ensures
