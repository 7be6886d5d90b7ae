-- A unit of an update, as it is read.
use Rattle.std.proofs.Common.{◌≡◌, ◌≤◌, ◌<◌, ◌+◌, ◌-◌, ◌==◌, ℕ, min, List, [], ◌∷◌, ◌++◌, length, Bool, true, false, refl, arith, ap, sym, ◌∙◌, ◌&&◌, cond, append-nil, Option, Some, None, subst}
use Rattle.std.specs.Prelude.{⊤}
use Rattle.std.proofs.lemmas.Bool.{and_parts, le-leb, eqb-true}
use Rattle.std.specs.List.{list_all}
use Rattle.std.specs.Str.{chars}
use mathlib.Core.Logic.{inl, inr}
use Rattle.tx_cell.proofs.lemmas.MadeCells.{IsMade-own}
use Rattle.tx_cell.specs.Cell.{CellValue, IsOfItsText, cell_of}
use Rattle.tx_cell.specs.Grid.{GridValue, with_put}
use Rattle.tx_cell.specs.Pen.{pen_eq-decides}
use Rattle.tx_cell.specs.Plain.{begins_plain, is_plain}
use Rattle.tx_cell.specs.declared.pen.Pen.{Pen}
use Rattle.tx_term.proofs.CanvasLemmas.{held-put_held}
use Rattle.tx_term.proofs.FeedLemmas.{fed-append, pen-put_held, put_held-nothing}
use Rattle.tx_term.proofs.HeldLemmas.{LetsBegin, fed-cell_text}
use Rattle.tx_term.proofs.SequenceLemmas.{fed-move, fed-pen}
use Rattle.tx_term.specs.Canvas.{CanvasValue, put_held, moved, fitting, drawn, columns_of}
use Rattle.tx_term.specs.Drawing.{unit_marks}
use Rattle.tx_term.specs.Machine.{Machine, fed, ended}
use Rattle.tx_term.specs.Update.{Move, Write, written, cell_bytes, is_last_pen, is_plain_cell, move_bytes, pen_bytes}

-- whether the cursor is shown, and whether the screen is the alternate one
abbrev pub modes_of : Machine → Bool × Bool
modes_of machine = (machine.cursor_shown, machine.alternate)

-- the pen of the last unit is the present one, if there was one
abbrev pub IsLast : Option Pen → Pen → Type 0
IsLast None present = ⊤
IsLast (Some last) present = last ≡ present

-- the canvas in which this cell is held
abbrev pub holding : GridValue → ℕ → ℕ → CellValue → CanvasValue
holding grid row column cell = record { grid = grid; row = row; column = column; pen = cell.pen; held = cell.text }

-- ---- the pen and the text

cell_bytes_by : (machine : Machine) (cell : CellValue) (last : Option Pen) (same : Bool) → is_last_pen last cell.pen ≡ same
    → machine.unfinished ≡ [] → IsOfItsText cell → LetsBegin machine.canvas.held cell → IsLast last machine.canvas.pen
    → fed machine (cond same [] (pen_bytes cell.pen) ++ cell.text) ≡ record machine { canvas = record (put_held machine.canvas) { pen = cell.pen; held = cell.text }; unfinished = [] }
cell_bytes_by machine cell last false is ready own lets is_last =
    let next = record (ended machine) { canvas = record (put_held machine.canvas) { pen = cell.pen } } in
    let nothing : next.canvas.held ≡ [] = held-put_held machine.canvas in
    fed-append machine (pen_bytes cell.pen) cell.text
    ∙ ap (λ m. fed m cell.text) (fed-pen machine cell.pen own.channels)
    ∙ fed-cell_text next cell refl own (inl nothing)
    ∙ ap (λ (c : CanvasValue). record next { canvas = record c { held = cell.text } }) (put_held-nothing next.canvas nothing)
cell_bytes_by machine cell None true is ready own lets is_last = cc
cell_bytes_by machine cell (Some last) true is ready own lets is_last =
    let same : machine.canvas.pen ≡ cell.pen = sym is_last ∙ (pen_eq-decides last cell.pen).0 is in
    fed-cell_text machine cell ready own lets
    ∙ ap (λ pen. record machine { canvas = record (put_held machine.canvas) { pen = pen; held = cell.text }; unfinished = [] }) (pen-put_held machine.canvas ∙ same)

fed-cell_bytes : (machine : Machine) (cell : CellValue) (last : Option Pen) → machine.unfinished ≡ [] → IsOfItsText cell
    → LetsBegin machine.canvas.held cell → IsLast last machine.canvas.pen
    → fed machine (cell_bytes last cell) ≡ record machine { canvas = record (put_held machine.canvas) { pen = cell.pen; held = cell.text }; unfinished = [] }
fed-cell_bytes machine cell last ready own lets is_last = cell_bytes_by machine cell last (is_last_pen last cell.pen) refl ready own lets is_last

-- ---- a unit

-- the held cell is in its place behind a unit, so that a plain one can follow without a move
pub record Follows (canvas : CanvasValue) (row column : ℕ) : Type 0 where
  pub at_row : (put_held canvas).row ≡ row
  pub at_column : (put_held canvas).column ≡ column
  pub plain : begins_plain (chars canvas.held) ≡ true

-- The machine has these modes and has drawn this grid, but for the held cell that is still to be put, its pen is that of the last
-- unit, and behind a plain unit its cursor stands behind it.
pub record Stands (modes : Bool × Bool) (machine : Machine) (grid : GridValue) (last : Option Pen) (row column : ℕ) (behind_plain : Bool) : Type 0 where
  pub modes_are : modes_of machine ≡ modes
  pub ready : machine.unfinished ≡ []
  pub drawn : (put_held machine.canvas).grid ≡ grid
  pub pen : IsLast last machine.canvas.pen
  pub follows : behind_plain ≡ true → Follows machine.canvas row column

-- a unit that is written, in its place
pub record Holds (modes : Bool × Bool) (machine : Machine) (grid : GridValue) (row column : ℕ) (cell : CellValue) : Type 0 where
  pub modes_are : modes_of machine ≡ modes
  pub ready : machine.unfinished ≡ []
  pub canvas : machine.canvas ≡ holding grid row column cell

unit_by : {modes : Bool × Bool} (machine : Machine) (grid : GridValue) (last : Option Pen) (row column : ℕ) (behind_plain goes_on : Bool) (cell : CellValue)
    → (behind_plain && is_plain_cell cell) ≡ goes_on → Stands modes machine grid last row column behind_plain → IsOfItsText cell
    → row < grid.size.height → column < grid.size.width → grid.size.height ≤ 65535 → grid.size.width ≤ 65535
    → Holds modes (fed machine (written last ((cond goes_on [] (Move (row + 1) (column + 1) ∷ [])) ++ Write cell ∷ []))) grid row column cell
unit_by machine grid last row column behind_plain true cell is stands own below beside high wide =
    let follows = stands.follows (and_parts _ _ is).0 in
    let put = put_held machine.canvas in
    let e = ap (fed machine) (append-nil (cell_bytes last cell))
    ∙ fed-cell_bytes machine cell last stands.ready own (inr (follows.plain, (and_parts _ _ is).1)) stands.pen in
    record {
      modes_are = ap modes_of e ∙ stands.modes_are;
      ready = ap (λ (m : Machine). m.unfinished) e;
      canvas = ap (λ (m : Machine). m.canvas) e
          ∙ (λ i. record { grid = stands.drawn i; row = follows.at_row i; column = follows.at_column i; pen = cell.pen; held = cell.text });
    }
unit_by machine grid last row column behind_plain false cell is stands own below beside high wide =
    let put = put_held machine.canvas in
    let next = record (ended machine) { canvas = moved (row + 1) (column + 1) put } in
    let nothing : next.canvas.held ≡ [] = held-put_held machine.canvas in
    let e = fed-append machine (move_bytes (row + 1) (column + 1)) (cell_bytes last cell ++ [])
    ∙ ap (λ m. fed m (cell_bytes last cell ++ [])) (fed-move machine (row + 1) (column + 1) (omega arith) (omega arith) (omega arith) (omega arith))
    ∙ ap (fed next) (append-nil (cell_bytes last cell))
    ∙ fed-cell_bytes next cell last refl own (inl nothing) (subst (IsLast last) (sym (pen-put_held machine.canvas)) stands.pen)
    ∙ ap (λ (c : CanvasValue). record next { canvas = record c { pen = cell.pen; held = cell.text } }) (put_held-nothing next.canvas nothing) in
    let height : put.grid.size.height ≡ grid.size.height = ap (λ (g : GridValue). g.size.height) stands.drawn in
    let width : put.grid.size.width ≡ grid.size.width = ap (λ (g : GridValue). g.size.width) stands.drawn in
    let at_row : min (row + 1) put.grid.size.height - 1 ≡ row = omega arith in
    let at_column : min (column + 1) put.grid.size.width - 1 ≡ column = omega arith in
    record {
      modes_are = ap modes_of e ∙ stands.modes_are;
      ready = ap (λ (m : Machine). m.unfinished) e;
      canvas = ap (λ (m : Machine). m.canvas) e
          ∙ (λ i. record { grid = stands.drawn i; row = at_row i; column = at_column i; pen = cell.pen; held = cell.text });
    }

-- the unit is put in its place
put_held-holding : (grid : GridValue) (row column : ℕ) (cell : CellValue) → IsOfItsText cell → column + cell.width ≤ grid.size.width
    → put_held (holding grid row column cell) ≡ record { grid = with_put grid column row cell; row = row; column = column + cell.width; pen = cell.pen; held = [] }
unfolding put_held
put_held-holding grid row column cell own inside =
    let held : fitting column grid.size.width (cell_of cell.text cell.pen) ≡ Some cell =
    ap (fitting column grid.size.width) own.own ∙ ap (λ b. cond b (Some cell) None) (le-leb _ _ inside) in
    λ i. record { grid = drawn grid column row (held i); row = row; column = column + columns_of (held i); pen = cell.pen; held = [] }

begins_by : (cs : List ℕ) (one : Bool) → (length cs == 1) ≡ one → (one && list_all is_plain cs) ≡ true → begins_plain cs ≡ true
begins_by cs false is plain = cc
begins_by [] true is plain = absurd (let some : length {A = ℕ} [] ≡ 1 = eqb-true _ _ is in omega (arith, some))
begins_by (c ∷ cs) true is plain = (and_parts _ _ plain).0

plain_begins : (cell : CellValue) → is_plain_cell cell ≡ true → begins_plain (chars cell.text) ≡ true
unfolding is_plain_cell
plain_begins cell plain = begins_by (chars cell.text) _ refl plain

-- what a unit that is written makes of the machine
pub Stands-unit : {modes : Bool × Bool} (machine : Machine) (grid : GridValue) (last : Option Pen) (row column : ℕ) (behind_plain : Bool) (cell : CellValue)
    → Stands modes machine grid last row column behind_plain → IsOfItsText cell
    → row < grid.size.height → column + cell.width ≤ grid.size.width → grid.size.height ≤ 65535 → grid.size.width ≤ 65535
    → Stands modes (fed machine (written last (unit_marks row column behind_plain cell))) (with_put grid column row cell) (Some cell.pen) row (column + cell.width) (is_plain_cell cell)
Stands-unit machine grid last row column behind_plain cell stands own below inside high wide =
    let made = IsMade-own cell own in
    let holds = unit_by machine grid last row column behind_plain (behind_plain && is_plain_cell cell) cell refl stands own below (omega (arith, made.some)) high wide in
    let put = ap put_held holds.canvas ∙ put_held-holding grid row column cell own inside in
    record {
      modes_are = holds.modes_are;
      ready = holds.ready;
      drawn = ap (λ (c : CanvasValue). c.grid) put;
      pen = sym (ap (λ (c : CanvasValue). c.pen) holds.canvas);
      follows = λ plain. record {
        at_row = ap (λ (c : CanvasValue). c.row) put;
        at_column = ap (λ (c : CanvasValue). c.column) put;
        plain = ap (λ (c : CanvasValue). begins_plain (chars c.held)) holds.canvas ∙ plain_begins cell plain;
      };
    }
