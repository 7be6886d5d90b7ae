-- The size of the screen, which nothing that is read changes.
use Rattle.std.proofs.Common.{◌≡◌, ◌==◌, ℕ, List, [], ◌∷◌, fold, Bool, true, false, refl, sym, ◌∙◌, ◌&&◌, cond}
use Rattle.std.specs.Int.{is_in_range}
use Rattle.std.specs.Str.{chars, is_utf8}
use Rattle.tx_geom.specs.declared.places.Size.{Size}
use Rattle.tx_cell.specs.Plain.{begins_plain}
use Rattle.tx_term.proofs.CanvasLemmas.{size-drawn}
use Rattle.tx_term.specs.Canvas.{CanvasValue, held_cell, put_held, with_character, ready_for}
use Rattle.tx_term.specs.Laws.{BytesKeepTheSize}
use Rattle.tx_term.specs.Machine.{Machine, fed, step, run, ended, last_command, byte_in, stage_of, with_bytes, is_cut, is_control_byte, longer_by}
use Rattle.tx_term.specs.declared.machine.command.Command.{Command}
use Rattle.tx_term.specs.declared.machine.command.Command.TheVariants.{Nothing, Move, Erase, SetPen, ShowCursor, Alternate}
use Rattle.tx_term.specs.declared.machine.unfinished.Stage.{Stage}
use Rattle.tx_term.specs.declared.machine.unfinished.Stage.TheVariants.{InText, InEscape, InSequence}

-- ---- a canvas

abbrev size_of : CanvasValue → Size
size_of canvas = canvas.grid.size

-- one of two canvases
canvas-either : (size : Size) (b : Bool) (x y : CanvasValue) → size_of x ≡ size → size_of y ≡ size → size_of (cond b x y) ≡ size
canvas-either size true x y first second = first
canvas-either size false x y first second = second

pub size-put_held : (canvas : CanvasValue) → (put_held canvas).grid.size ≡ canvas.grid.size
unfolding put_held
size-put_held canvas = size-drawn canvas.grid canvas.column canvas.row (held_cell canvas)

size-with_character : (character : List ℕ) (canvas : CanvasValue) → size_of (with_character character canvas) ≡ size_of canvas
unfolding with_character
size-with_character character canvas =
    let ready = ready_for character canvas in
    let same : size_of ready ≡ size_of canvas =
    canvas-either (size_of canvas) (begins_plain (chars canvas.held) && begins_plain (chars character)) (put_held canvas) canvas (size-put_held canvas) refl in
    canvas-either (size_of canvas) _ ready _ same same

-- ---- a machine

-- the screen of the machine has this size
abbrev HasSize : Size → Machine → Type 0
HasSize size machine = machine.canvas.grid.size ≡ size

HasSize-either : (size : Size) (b : Bool) (x y : Machine) → HasSize size x → HasSize size y → HasSize size (cond b x y)
HasSize-either size true x y first second = first
HasSize-either size false x y first second = second

HasSize-run : (size : Size) (command : Command) (machine : Machine) → HasSize size machine → HasSize size (run command machine)
HasSize-run size Nothing machine same = same
HasSize-run size (Move row column) machine same = same
HasSize-run size Erase machine same = same
HasSize-run size (SetPen pen) machine same = same
HasSize-run size (ShowCursor on) machine same = same
HasSize-run size (Alternate on) machine same = same

HasSize-with_bytes : (size : Size) (bytes : List ℕ) (machine otherwise : Machine) → HasSize size machine → HasSize size otherwise → HasSize size (with_bytes bytes machine otherwise)
unfolding with_bytes
HasSize-with_bytes size bytes machine otherwise same other =
    HasSize-either size (is_utf8 bytes) _ _ (size-with_character bytes machine.canvas ∙ same) (HasSize-either size (is_cut bytes) _ otherwise same other)

HasSize-byte_in : (size : Size) (stage : Stage) (machine : Machine) (byte : ℕ) → HasSize size machine → HasSize size (byte_in stage machine byte)
HasSize-byte_in size InText machine byte same =
    HasSize-either size (is_control_byte byte) _ _ same
    (HasSize-with_bytes size (longer_by machine.unfinished byte) machine _ same (HasSize-with_bytes size (byte ∷ []) machine _ same same))
HasSize-byte_in size InEscape machine byte same = same
HasSize-byte_in size InSequence machine byte same =
    HasSize-either size (is_in_range 0x20 0x3F byte) _ _ same
    (HasSize-either size (is_in_range 0x40 0x7E byte) _ _ (HasSize-run size (last_command machine byte) (ended machine) (size-put_held machine.canvas ∙ same)) same)

HasSize-step : (size : Size) (machine : Machine) (byte : ℕ) → HasSize size machine → HasSize size (step machine byte)
unfolding step
HasSize-step size machine byte same =
    let put = size-put_held machine.canvas ∙ same in
    HasSize-either size (byte == 27) _ _ put (HasSize-either size (byte == 24) _ _ put (HasSize-byte_in size (stage_of machine.unfinished) machine byte same))

HasSize-fold : (size : Size) (machine : Machine) (bytes : List ℕ) → HasSize size machine → HasSize size (fold step machine bytes)
HasSize-fold size machine [] same = same
HasSize-fold size machine (byte ∷ bytes) same = HasSize-fold size (step machine byte) bytes (HasSize-step size machine byte same)

-- the screen that is seen has the size of the cells that are drawn
size-shown : (machine : Machine) → (put_held machine.canvas).grid.size ≡ machine.canvas.grid.size
size-shown machine = size-put_held machine.canvas

pub bytes_keep_size : BytesKeepTheSize
unfolding fed put_held
bytes_keep_size machine bytes =
    let kept = HasSize-fold machine.canvas.grid.size machine bytes refl in
    (kept, size-shown (fed machine bytes) ∙ kept ∙ sym (size-shown machine))
