-- The line that says a cause.
use Rattle.std.specs.Prelude.{ℕ, List, [], ◌++◌, Option, Some, None, codes, decimal}
use Rattle.tx_parse.specs.declared.fault.SheetKind.{SheetKind}
use Rattle.tx_parse.specs.declared.fault.SheetKind.TheVariants as sheet
use Rattle.tx_geom.specs.declared.choices.Axis.{Axis}
use Rattle.tx_geom.specs.declared.choices.Axis.TheVariants.{Width, Height}
use Rattle.tx_tree.specs.declared.fault.TreeKind.{TreeKind}
use Rattle.tx_tree.specs.declared.fault.TreeKind.TheVariants.{BadByte, Expected, BadIndent, DuplicateId, TooMany, TooDeep, Leaf}
use Rattle.tx_tree.specs.declared.row.NodeId.{NodeId}
use Rattle.tx_app.specs.declared.causes.Cause.{Cause}
use Rattle.tx_app.specs.declared.causes.Cause.TheVariants.{Usage, Refused, ReadFault, Fraction, SinkFault, NoMemory}
use Rattle.tx_app.specs.declared.causes.Refusal.{Refusal}
use Rattle.tx_app.specs.declared.causes.Refusal.TheVariants.{Tree, Sheet, Inline, NoCustom, TooLong}

abbrev pub tree_kind_bytes : TreeKind → List ℕ
tree_kind_bytes BadByte = codes "BadByte"
tree_kind_bytes Expected = codes "Expected"
tree_kind_bytes BadIndent = codes "BadIndent"
tree_kind_bytes DuplicateId = codes "DuplicateId"
tree_kind_bytes TooMany = codes "TooMany"
tree_kind_bytes TooDeep = codes "TooDeep"
tree_kind_bytes Leaf = codes "Leaf"

abbrev pub sheet_kind_bytes : SheetKind → List ℕ
sheet_kind_bytes sheet.Unclosed = codes "Unclosed"
sheet_kind_bytes sheet.BadByte = codes "BadByte"
sheet_kind_bytes sheet.NumberTooLong = codes "NumberTooLong"
sheet_kind_bytes sheet.Expected = codes "Expected"
sheet_kind_bytes sheet.UndefinedVariable = codes "UndefinedVariable"
sheet_kind_bytes sheet.ValueTooLong = codes "ValueTooLong"
sheet_kind_bytes sheet.UnknownProperty = codes "UnknownProperty"
sheet_kind_bytes sheet.UnknownPseudo = codes "UnknownPseudo"
sheet_kind_bytes sheet.BadValue = codes "BadValue"
sheet_kind_bytes sheet.TooManyRules = codes "TooManyRules"

abbrev pub kind_bytes : Refusal → List ℕ
kind_bytes (Tree kind) = tree_kind_bytes kind
kind_bytes (Sheet kind) = sheet_kind_bytes kind
kind_bytes Inline = codes "Inline"
kind_bytes NoCustom = codes "NoCustom"
kind_bytes TooLong = codes "TooLong"

-- a file, a place in it, and what is wrong there
abbrev pub refused_line : List ℕ → ℕ → ℕ → Refusal → List ℕ
refused_line file line column kind =
    codes "tx: " ++ file ++ codes ":" ++ decimal line ++ codes ":" ++ decimal column ++ codes ": " ++ kind_bytes kind ++ codes "\n"

abbrev pub axis_bytes : Axis → List ℕ
axis_bytes Width = codes "width"
axis_bytes Height = codes "height"

-- the container whose arrangement is undefined, and along which axis
abbrev pub fraction_line : NodeId → Axis → List ℕ
fraction_line node axis = codes "tx: fraction at node " ++ decimal node.0 ++ codes " " ++ axis_bytes axis ++ codes "\n"

-- the line that says the cause
abbrev pub error_line : Cause → List ℕ
error_line Usage = codes "tx: usage\n"
error_line (Refused file line column kind) = refused_line file line column kind
error_line (ReadFault rose) = codes "tx: read fault\n"
error_line (Fraction node axis) = fraction_line node axis
error_line (SinkFault rose) = codes "tx: sink fault\n"
error_line NoMemory = codes "tx: no memory\n"

-- what `err` is sent: nothing, or the line
abbrev pub error_bytes : Option Cause → List ℕ
error_bytes None = []
error_bytes (Some cause) = error_line cause
