use Rattle.std.proofs.Common.{◌∙◌, refl, subst, sym}
use Rattle.pgo_front.specs.Headline.{Headline}
use Rattle.pgo_front.specs.Streams.{around}
use Rattle.pgo_main.specs.Arguments.{words_of}
use Rattle.pgo_main.proofs.NoMemory.{nothing_done}
use Rattle.pgo_main.proofs.run.Goals as goal

-- the words that `pgo` is given are those of the arguments
pub returns-in-Ok-clause-exits : goal.returns-in-Ok-clause-exits
returns-in-Ok-clause-exits g c =
    let input = around g.S.Source.left g.S.Source.faults c.args.input.now c.pgo.new.input in
    let out = around g.O.Sink.held g.O.Sink.faults c.args.out.now c.pgo.new.out in
    let err = around g.E.Sink.held g.E.Sink.faults c.args.err.now c.pgo.new.err in
    record {
      status = c.pgo.result;
      headline = subst (λ ws. Headline ws input out err c.pgo.result) (c.as_slice.ensures.value ∙ c.in-Ok.ensures.words) c.pgo.ensures;
      code_is = c.exit_code.ensures;
    }

pub returns-in-Err-clause-exits : goal.returns-in-Err-clause-exits
returns-in-Err-clause-exits g c =
    let input = around g.S.Source.left g.S.Source.faults c.args.input.now c.args.input.now in
    let out = around g.O.Sink.held g.O.Sink.faults c.args.out.now c.args.out.now in
    let err = around g.E.Sink.held g.E.Sink.faults c.args.err.now c.no_memory.new.err in
    record {
      status = c.no_memory.result;
      headline = subst (Headline (words_of c.args.arguments) input out err) (sym c.no_memory.ensures.status)
          (nothing_done (words_of c.args.arguments) input out err refl refl c.no_memory.ensures.says);
      code_is = c.exit_code-in-Err.ensures;
    }
