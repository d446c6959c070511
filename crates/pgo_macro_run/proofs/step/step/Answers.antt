use Rattle.pgo_macro_run.specs.AroundView.{env_of}
use Rattle.pgo_macro_run.proofs.step.step.Goals as goal

pub returns-in-Assign-clause-next : goal.returns-in-Assign-clause-next
returns-in-Assign-clause-next c = rw c.in-Assign.is (rw c.as_slice.ensures at (c.assign_all.ensures.next c.args.picks.now))

pub returns-in-Either-clause-next : goal.returns-in-Either-clause-next
returns-in-Either-clause-next c =
    rw c.in-Either.is (rw c.as_slice-in-Either.ensures at (c.either.ensures.next c.args.around.now (env_of c.args.names.now.items) c.args.content.now))

pub returns-in-If-clause-next : goal.returns-in-If-clause-next
returns-in-If-clause-next c = rw c.in-If.is (rw c.as_slice-in-If.ensures at (rw c.deref.ensures.value at (c.if_then.ensures c.args.picks.now)))

pub returns-in-IfElse-clause-next : goal.returns-in-IfElse-clause-next
returns-in-IfElse-clause-next c =
    rw c.in-IfElse.is (rw c.get-in-IfElse.ensures at (rw c.as_slice-in-IfElse.ensures at (rw c.deref-in-IfElse.ensures.value at (c.if_else.ensures c.args.picks.now))))

pub returns-in-While-clause-next : goal.returns-in-While-clause-next
returns-in-While-clause-next c = rw c.in-While.is (rw c.get-in-While.ensures at (rw c.deref-in-While.ensures.value at (c.while_do.ensures c.args.picks.now)))

pub returns-in-Await-clause-next : goal.returns-in-Await-clause-next
returns-in-Await-clause-next c = rw c.in-Await.is (rw c.get-in-Await.ensures at (rw c.deref-in-Await.ensures.value at (c.await_that.ensures c.args.picks.now)))

pub returns-in-Assert-clause-next : goal.returns-in-Assert-clause-next
returns-in-Assert-clause-next c = rw c.in-Assert.is (rw c.get-in-Assert.ensures at (rw c.deref-in-Assert.ensures.value at (c.assert_that.ensures c.args.picks.now)))

pub returns-in-Print-clause-next : goal.returns-in-Print-clause-next
returns-in-Print-clause-next c = rw c.in-Print.is (rw c.get-in-Print.ensures at (rw c.deref-in-Print.ensures.value at (c.print_out.ensures c.args.picks.now)))

pub returns-in-Yield-clause-next : goal.returns-in-Yield-clause-next
returns-in-Yield-clause-next c = rw c.in-Yield.is (rw c.get-in-Yield.ensures at (rw c.deref-in-Yield.ensures.value at (c.yield_as.ensures c.args.picks.now)))
