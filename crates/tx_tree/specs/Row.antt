-- A row and its place.
use Rattle.std.specs.Prelude.{ℕ, Bool, false, ◌==◌, [], None}
use Rattle.tx_tree.specs.Kind.{fresh}
use Rattle.tx_tree.specs.declared.kind.Kind.{Kind}
use Rattle.tx_tree.specs.declared.row.Row.{Row}
use Rattle.tx_tree.specs.declared.row.NewRow.{NewRow}

-- the number of a row's node
abbrev pub number : Row → ℕ
number row = row.node.0

-- whether a row has this number
abbrev pub has_number : ℕ → Row → Bool
has_number n row = row.node.0 == n

-- the row itself, of which the room for further classes is no part
abbrev pub plain : Row → Row
plain row = record row { classes = record row.classes { spare = 0 } }

-- a new row of a kind with nothing else
abbrev pub bare : Kind → NewRow
bare kind = record {
  kind = kind;
  id = None;
  classes = [];
  disabled = false;
  text = [];
  inline = [];
  binds = [];
  private = fresh kind 0;
}

-- a new row with its number and depth
abbrev pub placed : NewRow → ℕ → ℕ → Row
placed new n depth = record {
  node = record { 0 = n };
  depth = depth;
  kind = new.kind;
  id = new.id;
  classes = record { names = new.classes; spare = 0 };
  disabled = new.disabled;
  text = new.text;
  inline = new.inline;
  binds = new.binds;
  private = new.private;
}
