-- A fault is the first one.
use Rattle.std.proofs.Common.{◌≡◌, List, [], ◌∷◌, ◌++◌, Ok, Err, ap, sym, ◌∙◌}
use Rattle.tx_read.proofs.lemmas.Cases.{granted}
use Rattle.tx_read.proofs.lemmas.LocalReaders.{Plain}
use Rattle.tx_lex.specs.Lexemes.{Lexeme}
use Rattle.tx_parse.specs.Grammar.{Body, Found, IsSheet, IsBody}
use Rattle.tx_parse.specs.Laws.{NoneBeginsSo, FaultsAreFirst}
use Rattle.tx_parse.specs.SheetReading.{Reads, sheet_at, inline_at}
use Rattle.tx_parse.specs.declared.fault.Wrong.{Wrong}
use Rattle.tx_parse.proofs.AgainBodies.{inline_again}
use Rattle.tx_parse.proofs.AgainSheets.{sheet_again}
use Rattle.tx_parse.proofs.LocalBodies.{inline-plain}
use Rattle.tx_parse.proofs.LocalSheets.{sheet-plain}

-- where what is in a grammar is read, a list that has a fault isn't in it
none_begins : {A : Type 0} (reader : Reads A) (IsIn : List Lexeme → Type 0) → Plain reader → ((ts : List Lexeme) → IsIn ts → (a : A) × (reader ts ≡ Ok (a, []))) → (ts rest : List Lexeme) (wrong : Wrong)
    → reader ts ≡ Err (wrong, rest) → NoneBeginsSo IsIn ts rest
none_begins reader IsIn plain again ts [] wrong is = λ grammar. let read = again ts grammar in granted (read.0, []) wrong [] (sym read.1 ∙ is)
none_begins reader IsIn plain again ts (t ∷ more) wrong is =
    let split : (front : List Lexeme) × (ts ≡ front ++ (t ∷ more)) = plain.leaves.fault ts (t ∷ more) wrong is in (
      split.0,
      split.1,
      λ other grammar.
          let read = again (split.0 ++ (t ∷ other)) grammar in
          granted (read.0, []) wrong (t ∷ other) (sym read.1 ∙ plain.local.fault split.0 more other t wrong (ap reader (sym split.1) ∙ is)),
    )

pub faults_first : FaultsAreFirst
faults_first ts rest wrong = (
  λ is. none_begins sheet_at (λ other. (found : Found) × IsSheet other found) sheet-plain (λ xs grammar. (grammar.0, sheet_again xs grammar.0 grammar.1)) ts rest wrong is,
  λ is. none_begins inline_at (λ other. (body : Body) × IsBody [] other body) inline-plain (λ xs grammar. (grammar.0, inline_again xs grammar.0 grammar.1)) ts rest wrong is,
)
