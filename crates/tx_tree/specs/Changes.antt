-- The changes of one row's own parts, as one type.
use Rattle.std.specs.Prelude.{ℕ, length}
use Rattle.tx_tree.specs.Edits.{with_text, with_inline, with_disabled, with_state}
use Rattle.tx_tree.specs.declared.row.Row.{Row}
use Rattle.tx_tree.specs.declared.tree.set.Change.{Change}
use Rattle.tx_tree.specs.declared.tree.set.Change.TheVariants.{Text, Inline, Disabled, State}

-- a row once it is changed
abbrev pub changed_by : Change → Row → Row
changed_by (Text text) = with_text text
changed_by (Inline text) = with_inline text
changed_by (Disabled to) = with_disabled to
changed_by (State text private) = with_state text private

-- how many bytes the text has by which a cursor is set
abbrev pub text_size : Change → ℕ
text_size (Text text) = length text
text_size change = 0
