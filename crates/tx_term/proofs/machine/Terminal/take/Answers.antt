use Rattle.std.proofs.Common.{sym, ◌∙◌, ap, []}
use Rattle.std.proofs.lemmas.Bool.{or_left}
use Rattle.std.proofs.lemmas.Str.{is_utf8-from_IsUtf8}
use Rattle.tx_term.proofs.MachineLemmas.{no_text, with_bytes-whole, with_bytes-cut, with_bytes-other}
use Rattle.tx_term.specs.Canvas.{with_character}
use Rattle.tx_term.specs.Machine.{Machine}
use Rattle.tx_term.proofs.machine.Terminal.take.Goals as goal

pub returns-in-Ok-clause-known : goal.returns-in-Ok-clause-known
returns-in-Ok-clause-known c =
    let cases = rw c.as_slice.ensures.value at c.in-Ok.ensures.cases in
    sym (or_left _ _ (is_utf8-from_IsUtf8 c.args.bytes.items cases.1))

pub returns-in-Ok-clause-taken : goal.returns-in-Ok-clause-taken
returns-in-Ok-clause-taken c =
    let cases = rw c.as_slice.ensures.value at c.in-Ok.ensures.cases in
    c.take_character.ensures
    ∙ ap (λ text. record c.args.self.now { canvas = with_character text c.args.self.now.canvas; unfinished = [] }) cases.0
    ∙ sym (with_bytes-whole c.args.bytes.items c.args.self.now c.args.self.now (is_utf8-from_IsUtf8 c.args.bytes.items cases.1))

pub returns-then-cut-clause-taken : goal.returns-then-cut-clause-taken
returns-then-cut-clause-taken c =
    let cases = rw c.as_slice.ensures.value at c.in_default.ensures.cases in
    let text = no_text c.args.bytes.items cases.0 in
    let cut = rw c.as_slice-2.ensures.value at c.is_cut-cut.ensures in
    ap (λ (m : Machine). record m { unfinished = c.args.bytes.items }) c.self.view_is
    ∙ sym (with_bytes-cut c.args.bytes.items c.args.self.now c.args.self.now text (sym (cut text) ∙ c.if-cut.true))

pub returns-else-cut-clause-known : goal.returns-else-cut-clause-known
returns-else-cut-clause-known c =
    let cases = rw c.as_slice.ensures.value at c.in_default.ensures.cases in
    let text = no_text c.args.bytes.items cases.0 in
    let cut = rw c.as_slice-2.ensures.value at c.is_cut-cut.ensures in
    rw text (cut text)

pub returns-else-cut-clause-taken : goal.returns-else-cut-clause-taken
returns-else-cut-clause-taken c =
    let cases = rw c.as_slice.ensures.value at c.in_default.ensures.cases in
    let text = no_text c.args.bytes.items cases.0 in
    let cut = rw c.as_slice-2.ensures.value at c.is_cut-cut.ensures in
    sym (with_bytes-other c.args.bytes.items c.args.self.now c.args.self.now text (sym (cut text) ∙ c.if-cut.false))
