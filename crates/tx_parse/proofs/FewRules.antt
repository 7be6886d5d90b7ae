-- A sheet that was read has at most 10,000 rules.
use Rattle.std.proofs.Common.{◌≤◌, ℕ, List, length, Ok, sym, subst}
use Rattle.tx_read.specs.Answer.{Gives}
use Rattle.tx_parse.specs.Grammar.{Found}
use Rattle.tx_parse.specs.Seen.{found_in}
use Rattle.tx_parse.specs.Texts.{located, told, sheet_of}
use Rattle.tx_parse.specs.declared.sheets.Gathered.{Gathered}
use Rattle.tx_parse.proofs.WholeAnswers.{answer_read}
use Rattle.tx_parse.proofs.lemmas.TextLaws.{sheet_text}

pub few_rules : (bytes : List ℕ) (gathered : Gathered) → Gives (found_in bytes) told (Ok gathered) (located (λ (found : Found). found) bytes (sheet_of bytes)) → length gathered.rules.items ≤ 10000
few_rules bytes gathered gives =
    let got = answer_read (found_in bytes) (λ (f : Found). f) (λ (f : Found). length f.rules ≤ 10000) bytes (Ok gathered) (sheet_of bytes) (λ f is. (sheet_text bytes f is).grammar.few) gives in
    subst (λ (f : Found). length f.rules ≤ 10000) (sym got.1) got.2
