use Rattle.po_type_calls.proofs.CalledFunctions.{no_callee, function_called, printf_called}
use Rattle.po_type_calls.proofs.calling.calls.Goals as goal

pub returns-in-Some-2 : goal.returns-in-Some-2
returns-in-Some-2 c =
    function_called c.args.context.now c.args.x.now c.args.xs.now c.args.vs.now c.in-Some.function.now c.in-Some.ensures c.in-Some-2.called (rw c.in-Some-2.is at c.in_ok-called-in-Some.ensures)

pub returns-in-None : goal.returns-in-None
returns-in-None c = no_callee c.args.context.now c.args.x.now c.args.xs.now c.args.vs.now c.in-None.ensures

pub returns-in-None-2 : goal.returns-in-None-2
returns-in-None-2 c =
    printf_called c.args.context.now c.args.x.now c.args.xs.now c.args.vs.now c.in-Some.function.now c.in-Some.ensures (rw c.in-None-2.is at c.in_ok-called-in-Some.ensures) c.calls_printf.result c.calls_printf.ensures
