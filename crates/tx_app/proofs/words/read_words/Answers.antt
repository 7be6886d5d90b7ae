use Rattle.std.proofs.Common.{◌≡◌, ◌∙◌, inl, inr, ap, sym, subst, refl, true, map, string_bytes, List, [], ℕ}
use Rattle.std.proofs.lemmas.Result.{IfOk-weaker}
use Rattle.std.proofs.lemmas.Str.{IsUtf8-string_bytes}
use Rattle.clap.specs.Faults.{fault_of, is_simple_and_free}
use Rattle.clap.specs.Kinds.{HasKind}
use Rattle.clap.specs.Simple.{HasMatchesOf, subcommand_of}
use Rattle.clap.specs.Words.{subcommand_rows_of}
use Rattle.tx_app.specs.CommandLine.{asked_in, command_app}
use Rattle.tx_app.proofs.CommandLemmas.{is_judgeable, judged_fine, judged_faulty, texts_begin}
use Rattle.tx_app.proofs.words.read_words.Goals as goal

pub returns-in-Ok-clause-asks : goal.returns-in-Ok-clause-asks
returns-in-Ok-clause-asks c =
    let words : List (List ℕ) = map string_bytes c.args.words.now in
    let begin = texts_begin string_bytes IsUtf8-string_bytes c.args.words.now in
    let fine : fault_of command_app words ≡ [] = subst (λ a. is_simple_and_free a ≡ true → fault_of a words ≡ []) c.in_ok-command.ensures c.in-Ok.ensures.kinds is_judgeable in
    let met : subcommand_rows_of c.in-Ok.matches ≡ subcommand_of command_app words = (subst (λ a. HasMatchesOf a words c.in-Ok.matches) c.in_ok-command.ensures c.in-Ok.ensures.matches refl).1 in
    IfOk-weaker c.read_matches.result _ _ (λ task is. is ∙ ap asked_in met ∙ judged_fine words begin fine) c.read_matches.ensures.asks

pub returns : goal.returns
returns c =
    let words : List (List ℕ) = map string_bytes c.args.words.now in
    let begin = texts_begin string_bytes IsUtf8-string_bytes c.args.words.now in
    let have : HasKind (fault_of command_app words) c.in-Err.error =
    subst (λ a. is_simple_and_free a ≡ true → HasKind (fault_of a words) c.in-Err.error) c.in_ok-command.ensures c.in-Err.ensures.kinds is_judgeable in
    elim have [
      | inl memory ↦ absurd (c.in_default.not-OutOfMemory (c.kind.ensures ∙ memory))
      | inr among ↦ record { asks = sym (judged_faulty words _ begin among); screen = tt }
    ]
