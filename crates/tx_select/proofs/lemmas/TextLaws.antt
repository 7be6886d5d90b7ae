-- A text is read exactly where it is a selector.
use Rattle.std.proofs.Common.{◌≡◌, ℕ, List, Ok, refl}
use Rattle.tx_lex.specs.Lexing.{lexed}
use Rattle.tx_select.specs.SelectorReading.{whole_at}
use Rattle.tx_select.specs.SelectorValue.{SelectorValue}
use Rattle.tx_select.specs.Texts.{tokens_of, selector_of, IsSelectorText}
use Rattle.tx_select.proofs.WholeTexts.{found-text, text-again}

pub selector_text : (text : List ℕ) (selector : SelectorValue) → selector_of text ≡ Ok selector → IsSelectorText text selector
unfolding selector_of
selector_text text selector is = found-text text selector (lexed text).fault (whole_at (tokens_of text)) refl refl is

pub text_selector : (text : List ℕ) (selector : SelectorValue) → IsSelectorText text selector → selector_of text ≡ Ok selector
text_selector text selector is = text-again text selector is
