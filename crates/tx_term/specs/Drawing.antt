-- Marks that are written one after another.
use Rattle.std.specs.Prelude.{◌≡◌, ◌≤◌, ◌+◌, ◌*◌, ℕ, List, [], ◌∷◌, ◌++◌, length, drop, Option, Some, Bool, false, ◌&&◌, if◌then◌else◌, flat_map}
use Rattle.tx_cell.specs.Cell.{CellValue}
use Rattle.tx_cell.specs.declared.pen.Pen.{Pen}
use Rattle.tx_io.specs.Sink.{SinkSeen}
use Rattle.tx_term.specs.Gather.{Adds, handed}
use Rattle.tx_term.specs.Update.{Mark, Move, Write, Unit, written, is_plain_cell, run_marks, runs, units}
use Rattle.tx_term.specs.declared.update.writer.Writer.{Writer}

-- the pen of the last unit after these marks
abbrev pub pen_after : Option Pen → List Mark → Option Pen
pen_after last [] = last
pen_after last (Move row column ∷ marks) = pen_after last marks
pen_after last (Write cell ∷ marks) = pen_after (Some cell.pen) marks

-- these marks were written after whatever was sent before them, each in at most 512 bytes
pub record Draws (sink_old sink_new : SinkSeen) (old new : Writer) (marks : List Mark) : Type 0 where
  pub added : Adds sink_old sink_new old.gather new.gather (written old.pen marks)
  pub pen : new.pen ≡ pen_after old.pen marks
  pub bounded : handed new.gather ≤ handed old.gather + 512 * length marks

-- the marks of a unit that is written, after a plain unit of its run or not
abbrev pub unit_marks : ℕ → ℕ → Bool → CellValue → List Mark
unit_marks row column behind_plain cell = (if behind_plain && is_plain_cell cell then [] else Move (row + 1) (column + 1) ∷ []) ++ Write cell ∷ []

-- the marks of these runs, the first of which goes on after a plain unit or not
abbrev pub first_run_marks : ℕ → Bool → List (List Unit) → List Mark
first_run_marks row behind_plain [] = []
first_run_marks row behind_plain (run ∷ more) = run_marks row behind_plain run ++ flat_map (run_marks row false) more

-- the marks of the rest of a row
unfoldable pub rest_marks : ℕ → Bool → List Unit → List Mark
rest_marks row behind_plain rest = first_run_marks row behind_plain (runs rest)

-- What is written at the start of the rest of a row, of the cells shown there each with the next one: the marks with
-- which those of the rest begin.
pub record DrawsColumn (sink_old sink_new : SinkSeen) (old new : Writer) (row column : ℕ) (whole behind_plain after_plain : Bool) (pairs : List (CellValue × CellValue)) : Type 0 where
  pub marks : List Mark
  pub drawn : Draws sink_old sink_new old new marks
  pub few : length marks ≤ 2
  pub rest : rest_marks row behind_plain (units whole column pairs) ≡ marks ++ rest_marks row after_plain (units whole (column + 1) (drop 1 pairs))
