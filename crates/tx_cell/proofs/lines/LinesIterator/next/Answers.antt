use Rattle.std.proofs.Common.{◌≡◌, [], ◌∷◌, rules, lit<}
use Rattle.tx_cell.specs.Lines.{lines_left}
use Rattle.tx_cell.proofs.LineLemmas.{pieces_of-cut, pieces_of-none}
use Rattle.tx_cell.proofs.lines.LinesIterator.next.Goals as goal

pub returns-in-Some-clause-steps : goal.returns-in-Some-clause-steps
returns-in-Some-clause-steps c =
    let cut = c.in-Some.ensures.byte (lit< tt) (λ w o h. h) in
    rw c.if-self.false (pieces_of-cut c.args.self.now.rest.now c.in-Some.line.now c.in-Some.rest.now c.without_return.result.now cut.0 cut.1 cut.2 c.without_return.ensures)

pub returns-in-Some-clause-goes : goal.returns-in-Some-clause-goes
returns-in-Some-clause-goes c =
    let cut = c.in-Some.ensures.byte (lit< tt) (λ w o h. h) in
    let steps : lines_left c.args.self.now ≡ c.without_return.result.now ∷ lines_left (record { rest = c.in-Some.rest; is_done = c.args.self.now.is_done }) =
    rw c.if-self.false (pieces_of-cut c.args.self.now.rest.now c.in-Some.line.now c.in-Some.rest.now c.without_return.result.now cut.0 cut.1 cut.2 c.without_return.ensures) in
    search rules

pub returns-in-None-clause-steps : goal.returns-in-None-clause-steps
returns-in-None-clause-steps c =
    let none = c.in-None.ensures.byte (lit< tt) (λ w o h. h) in
    rw c.if-self.false (pieces_of-none c.args.self.now.rest.now none)

pub returns-in-None-clause-goes : goal.returns-in-None-clause-goes
returns-in-None-clause-goes c =
    let none = c.in-None.ensures.byte (lit< tt) (λ w o h. h) in
    let steps : lines_left c.args.self.now ≡ c.args.self.now.rest.now ∷ [] = rw c.if-self.false (pieces_of-none c.args.self.now.rest.now none) in
    search rules
