use Rattle.std.proofs.Common.{◌∙◌, ap, drop, is_none}
use Rattle.std.proofs.lemmas.Str.{is_utf8-from_IsUtf8}
use Rattle.std.specs.Str.Lossy.{utf8_error_len}
use Rattle.tx_term.proofs.MachineLemmas.{none_is}
use Rattle.tx_term.proofs.machine.is_cut.Goals as goal

pub returns-in-Ok : goal.returns-in-Ok
returns-in-Ok c = λ no. absurd (let yes = is_utf8-from_IsUtf8 c.args.bytes.now c.in-Ok.ensures.cases.1 in cc)

pub returns-in-Err : goal.returns-in-Err
returns-in-Err c = λ no.
    none_is c.error_len.result c.is_none.result c.is_none.ensures
    ∙ ap is_none (c.error_len.ensures ∙ c.in-Err.ensures.fault ∙ ap (λ n. utf8_error_len (drop n c.args.bytes.now)) c.in-Err.ensures.valid_len)
