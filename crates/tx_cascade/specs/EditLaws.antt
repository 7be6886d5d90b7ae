-- What leads from one tree and pseudo state to another.
use Rattle.std.specs.Prelude.{◌≡◌, ℕ, Bool, true, List, [], ◌∷◌, ◌++◌, Option, is_some}
use Rattle.tx_tree.specs.Classes.{with_name, without}
use Rattle.tx_tree.specs.Edits.{changed_at, with_classes, with_text, with_inline, with_disabled, with_state}
use Rattle.tx_tree.specs.Rows.{row_at}
use Rattle.tx_tree.specs.Walk.{NumbersDiffer}
use Rattle.tx_tree.specs.declared.kind.Private.{Private}
use Rattle.tx_tree.specs.declared.row.NodeId.{NodeId}
use Rattle.tx_tree.specs.declared.row.Row.{Row}
use Rattle.tx_select.specs.declared.value.Pseudo.{Pseudo as State}
use Rattle.tx_cascade.specs.Edits.{Leads}
use Rattle.tx_cascade.specs.declared.edit.Edit.{Edit}
use Rattle.tx_cascade.specs.declared.edit.Edit.TheVariants.{Class, Text, Inline, Disabled, State as Private_state, Focus, Pointed, Dark}

-- Where nothing changed, no edit is wanted.
abbrev pub NoEditLeads : Type 0
NoEditLeads = (rows : List Row) (state : State) → Leads [] rows state rows state

-- The edit that names a change of one row leads from the rows before it to the rows after it.
pub record ChangesOfRowsLead (rows : List Row) (state : State) (node : NodeId) : Type 0 where
  pub class_came : (name : List ℕ) → Leads (Class node name ∷ []) rows state (changed_at node.0 (with_classes (with_name name)) rows) state
  pub class_went : (name : List ℕ) → Leads (Class node name ∷ []) rows state (changed_at node.0 (with_classes (without name)) rows) state
  pub text : (text : List ℕ) → Leads (Text node ∷ []) rows state (changed_at node.0 (with_text text) rows) state
  pub inline : (text : List ℕ) → Leads (Inline node ∷ []) rows state (changed_at node.0 (with_inline text) rows) state
  pub disabled : (to : Bool) → Leads (Disabled node ∷ []) rows state (changed_at node.0 (with_disabled to) rows) state
  pub private : (text : List ℕ) (private : Private) → Leads (Private_state node ∷ []) rows state (changed_at node.0 (with_state text private) rows) state

-- So does the one that names a change of the pseudo state.
pub record ChangesOfStatesLead (rows : List Row) (state : State) : Type 0 where
  pub focus : (to : Option NodeId) → Leads (Focus state.focused to ∷ []) rows state rows (record state { focused = to })
  pub pointed : (to : Option NodeId) → Leads (Pointed state.pointed to ∷ []) rows state rows (record state { pointed = to })
  pub dark : (to : Bool) → Leads (Dark ∷ []) rows state rows (record state { dark = to })

abbrev pub EachEditLeads : Type 0
EachEditLeads = (rows : List Row) (state : State) → ((node : NodeId) → ChangesOfRowsLead rows state node) × ChangesOfStatesLead rows state

-- a row that is there before and after some change is there in between: no number comes again
abbrev pub StayBetween : List Row → List Row → List Row → Type 0
StayBetween old between rows = (n : ℕ) → is_some (row_at n old) ≡ true → is_some (row_at n rows) ≡ true → is_some (row_at n between) ≡ true

-- Edits that lead to a tree and pseudo state, followed by edits that lead on from there, lead all the way.
abbrev pub EditsLeadOn : Type 0
EditsLeadOn = (first second : List Edit) (old between rows : List Row) (old_state middle state : State)
    → Leads first old old_state between middle → Leads second between middle rows state
    → NumbersDiffer old → NumbersDiffer between → StayBetween old between rows
    → Leads (first ++ second) old old_state rows state
