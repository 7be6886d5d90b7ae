use Rattle.std.proofs.Common.{◌≤◌, ◌+◌, ◌-◌, List, Result, length, subst, arith}
use Rattle.tx_read.specs.Answer.{Tells}
use Rattle.tx_read.specs.Pieces.{pieces}
use Rattle.tx_route.specs.declared.input.Input.{Input}
use Rattle.tx_pilot.specs.ScriptReading.{Met, inputs_of, told}
use Rattle.tx_pilot.proofs.ScriptSteps.{so-line, so-more}
use Rattle.tx_pilot.proofs.script.read_lines.Goals as goal

pub returns-in-Err : goal.returns-in-Err
returns-in-Err c =
    let size = length c.args.bytes.now - length c.in-Some.rest.now in
    let short : length c.loop-line.left.now ≤ length c.args.bytes.now = omega (arith, c.loop-line.invariant.lines) in
    subst (λ (r : Result (List Input) Met). Tells (told c.in-Err.fault) r)
    (so-line c.args.bytes.now c.loop-line.left.now c.in-Some.line.now c.in-Some.rest.now c.loop-line.inputs.items c.loop-line.before c.in-Some.ensures.pieces short c.loop-line.invariant.so)
    (c.in-Err.ensures.fault (inputs_of (pieces 10 c.in-Some.rest.now) (c.loop-line.before + 1) size))

pub loop-line-preserved : goal.loop-line-preserved
loop-line-preserved c =
    let size = length c.args.bytes.now - length c.in-Some.rest.now in
    let short : length c.loop-line.left.now ≤ length c.args.bytes.now = omega (arith, c.loop-line.invariant.lines) in
    record {
      lines = omega (arith, c.loop-line.invariant.lines, c.in-Some.ensures.shorter);
      so = so-more c.args.bytes.now c.loop-line.left.now c.in-Some.line.now c.in-Some.rest.now c.loop-line.inputs.items c.read_next.new.inputs.items c.loop-line.before c.in-Some.ensures.pieces short c.loop-line.invariant.so
          (c.in-Ok.ensures.read (inputs_of (pieces 10 c.in-Some.rest.now) (c.loop-line.before + 1) size));
    }
