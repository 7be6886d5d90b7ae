-- The fields of a tree, and what they mean.
use Rattle.std.specs.Prelude.{◌-◌, map, length}
use Rattle.std.specs.HashMap.{get}
use Rattle.std.specs.Str.{bytes_eq}
use Rattle.tx_tree.specs.Links.{slots, rows_of, spare_in, IsKept}
use Rattle.tx_tree.specs.TreeValue.{TreeValue}
use Rattle.tx_tree.specs.declared.tree.Tree.TheInside.{Inside}

-- the rows that the nodes stand for
abbrev pub value_of : Inside → TreeValue
value_of tree = record {
  rows = rows_of (slots tree.nodes.items);
  made = length tree.nodes.items - 1;
  spares = map spare_in tree.nodes.items;
}

-- the fields agree with each other
abbrev pub IsWhole : Inside → Type 0
IsWhole tree = IsKept tree.nodes.items tree.behind.items (λ name. get bytes_eq tree.ids name)
