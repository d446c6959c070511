use Rattle.std.proofs.Common.{◌∙◌, refl, subst, sym}
use Rattle.pgo_show.specs.Promise.{Promise}
use Rattle.pgo_show.specs.Streams.{around}
use Rattle.pgo_show_main.specs.Arguments.{words_of}
use Rattle.pgo_show_main.proofs.NoMemory.{nothing_done}
use Rattle.pgo_show_main.proofs.run.Goals as goal

-- the words that `show` is given are those of the arguments
pub returns-in-Ok-clause-exits : goal.returns-in-Ok-clause-exits
returns-in-Ok-clause-exits g c =
    let input = around g.S.Source.left g.S.Source.faults c.args.input.now c.show.new.input in
    let out = around g.O.Sink.held g.O.Sink.faults c.args.out.now c.show.new.out in
    let err = around g.E.Sink.held g.E.Sink.faults c.args.err.now c.show.new.err in
    record {
      status = c.show.result;
      promise = subst (λ ws. Promise ws input out err c.show.result) (c.as_slice.ensures.value ∙ c.in-Ok.ensures.words) c.show.ensures;
      code_is = c.exit_code.ensures;
    }

pub returns-in-Err-clause-exits : goal.returns-in-Err-clause-exits
returns-in-Err-clause-exits g c =
    let input = around g.S.Source.left g.S.Source.faults c.args.input.now c.args.input.now in
    let out = around g.O.Sink.held g.O.Sink.faults c.args.out.now c.args.out.now in
    let err = around g.E.Sink.held g.E.Sink.faults c.args.err.now c.no_memory.new.err in
    record {
      status = c.no_memory.result;
      promise = subst (Promise (words_of c.args.arguments) input out err) (sym c.no_memory.ensures.status)
          (nothing_done (words_of c.args.arguments) input out err refl refl c.no_memory.ensures.says);
      code_is = c.exit_code-in-Err.ensures;
    }
