-- What holds of every reaction.
use Rattle.std.specs.Prelude.{◌≡◌, ◌≢◌, ◌≤◌, ℕ, true, List, length, max}
use Rattle.std.specs.Str.{IsUtf8}
use Rattle.tx_tree.specs.declared.kind.Kind.{Kind}
use Rattle.tx_tree.specs.declared.kind.Kind.TheVariants.{Input}
use Rattle.tx_widgets.specs.Editing.{most_typed}
use Rattle.tx_widgets.specs.Form.{is_in_form}
use Rattle.tx_widgets.specs.Reaction.{reaction}
use Rattle.tx_widgets.specs.declared.reactions.held.Held.{Held}
use Rattle.tx_widgets.specs.declared.reactions.held.Reaction.{Reaction}
use Rattle.tx_widgets.specs.declared.reactions.message.Message.{Message}

-- A reaction of a row of this kind with this text: there are at most two effects, the private state is in form, and only the text
-- of an Input changes, which grows to no more than what typing leads to.
pub record IsModest (kind : Kind) (text : List ℕ) (made : Reaction) : Type 0 where
  pub few : length made.effects ≤ 2
  pub form : is_in_form kind made.text made.private ≡ true
  pub kept : kind ≢ Input → made.text ≡ text
  pub short : length made.text ≤ max most_typed (length text)

-- every reaction is so
abbrev pub ReactionsAreModest : Type 0
ReactionsAreModest = (held : Held) (message : Message) → IsUtf8 held.text → IsModest held.kind held.text (reaction held message)
