-- What holds of the reading of selectors that stand among other tokens.
use Rattle.std.proofs.Common.{◌≡◌, false, List, Ok}
use Rattle.tx_lex.specs.Lexemes.{Lexeme}
use Rattle.tx_select.specs.SelectorReading.{selector_at}
use Rattle.tx_select.specs.Laws.{StandsBefore, SelectorsAreRead, SelectorsAreLocal}
use Rattle.tx_select.specs.declared.value.Compound.{Compound}
use Rattle.tx_select.proofs.FoundWhole.{CompoundsFound, selector-found}
use Rattle.tx_select.proofs.AgainWhole.{selector-again}
use Rattle.tx_select.proofs.Local.{selector-plain}

stands-before : (s rest : List Lexeme) (compounds : List Compound) → selector_at s ≡ Ok (compounds, rest) → StandsBefore s compounds rest
stands-before s rest compounds is =
    let found : CompoundsFound 16 false s compounds rest = selector-found s rest compounds is in
    record { selector = found.middle; behind = found.behind; parts = found.parts; grammar = record { joined = found.joined; first = found.first; few = found.few }; blank = found.blank }

pub selectors-read : SelectorsAreRead
selectors-read ts compounds rest = (stands-before ts rest compounds, λ stands ends. selector-again ts rest compounds stands ends)

pub selectors-local : SelectorsAreLocal
selectors-local = (selector-plain.local, selector-plain.leaves)
