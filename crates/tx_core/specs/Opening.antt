-- What an application has before its first event.
use Rattle.std.specs.Prelude.{ℕ, true, [], None}
use Rattle.tx_cell.specs.Cell.{blank}
use Rattle.tx_cell.specs.Grid.{filled}
use Rattle.tx_cell.specs.Pen.{white_on_black}
use Rattle.tx_geom.specs.declared.places.Size.{Size}
use Rattle.tx_parse.specs.Values.{SheetValue}
use Rattle.tx_opening.specs.OpeningState.{opening_state}
use Rattle.tx_tree.specs.TreeValue.{TreeValue}
use Rattle.tx_core.specs.State.{State}

-- A tree under a sheet, on a screen of a size, with so many senders outside, in the state of opening. Nothing is scrolled, nothing waits,
-- blanks of white on black count as shown, and the first update is whole. No objects are handed in.
unfoldable pub opened : TreeValue → SheetValue → Size → ℕ → State
opened tree sheet size senders = record {
  sheet = sheet;
  rows = tree.rows;
  made = tree.made;
  pseudo = opening_state tree.rows;
  scrolls = λ n. (0, 0);
  mail = λ n. [];
  objects = λ n. None;
  handed = [];
  kept = None;
  size = size;
  shown = filled size (blank white_on_black);
  whole = true;
  next_message = 1;
  senders = senders;
  next_input = λ sender. 1;
}
