-- Bytes that are read one behind another, and sequences.
use Rattle.std.proofs.Common.{◌≡◌, ◌≤◌, ◌<◌, ◌+◌, ◌==◌, ℕ, List, [], ◌∷◌, ◌++◌, length, drop, fold, true, false, refl, arith, ap, sym, ◌∙◌, cond, nat_le, nat_lt, append_assoc, append-nil, length-append, None}
use Rattle.std.proofs.lemmas.Bool.{and_from, and_parts, and_right, le-leb, leb-true, lt-ltb, lt-leb, ne_eqb}
use Rattle.std.specs.Int.{is_in_range}
use Rattle.std.specs.List.{list_all}
use Rattle.tx_cell.proofs.lemmas.MadeCells.{cell_of-nothing}
use Rattle.tx_cell.specs.Cell.{cell_of}
use Rattle.tx_term.specs.Canvas.{CanvasValue, put_held, held_cell, fitting, drawn, columns_of}
use Rattle.tx_term.specs.Laws.{BytesFollow}
use Rattle.tx_term.specs.Machine.{Machine, fed, step, ended, run, stage_of, longer_by}
use Rattle.tx_term.specs.Sequence.{command_of}
use Rattle.tx_term.specs.declared.machine.command.Command.TheVariants.{Nothing}
use Rattle.tx_term.proofs.CanvasLemmas.{held-put_held}

-- ---- bytes behind bytes

fold-append : (machine : Machine) (a b : List ℕ) → fold step machine (a ++ b) ≡ fold step (fold step machine a) b
fold-append machine [] b = refl
fold-append machine (byte ∷ a) b = fold-append (step machine byte) a b

pub fed-append : (machine : Machine) (a b : List ℕ) → fed machine (a ++ b) ≡ fed (fed machine a) b
unfolding fed
fed-append machine a b = fold-append machine a b

pub bytes_follow : BytesFollow
bytes_follow machine first second = sym (fed-append machine first second)

pub fed-nothing : (machine : Machine) → fed machine [] ≡ machine
unfolding fed
fed-nothing machine = refl

pub fed-cons : (machine : Machine) (byte : ℕ) (bytes : List ℕ) → fed machine (byte ∷ bytes) ≡ fed (step machine byte) bytes
unfolding fed
fed-cons machine byte bytes = refl

-- ---- what is held is put once

pub put_held-nothing : (canvas : CanvasValue) → canvas.held ≡ [] → put_held canvas ≡ canvas
unfolding put_held
put_held-nothing canvas nothing =
    let none : held_cell canvas ≡ None =
    ap (λ cell. fitting canvas.column canvas.grid.size.width cell) (ap (λ text. cell_of text canvas.pen) nothing ∙ cell_of-nothing canvas.pen) in
    let stays : canvas.column + columns_of (held_cell canvas) ≡ canvas.column = ap (λ cell. canvas.column + columns_of cell) none ∙ omega arith in
    let grid : drawn canvas.grid canvas.column canvas.row (held_cell canvas) ≡ canvas.grid = ap (λ cell. drawn canvas.grid canvas.column canvas.row cell) none in
    λ i. record { grid = grid i; row = canvas.row; column = stays i; pen = canvas.pen; held = sym nothing i }

pub put_held-put_held : (canvas : CanvasValue) → put_held (put_held canvas) ≡ put_held canvas
put_held-put_held canvas = put_held-nothing (put_held canvas) (held-put_held canvas)

pub pen-put_held : (canvas : CanvasValue) → (put_held canvas).pen ≡ canvas.pen
unfolding put_held
pen-put_held canvas = refl

-- ---- sequences

pub step-escape : (machine : Machine) → step machine 27 ≡ record (ended machine) { unfinished = 27 ∷ [] }
unfolding step
step-escape machine = refl

pub step-cancel : (machine : Machine) → step machine 24 ≡ ended machine
unfolding step
step-cancel machine = refl

-- bytes in a range
pub within : (low high a : ℕ) → low ≤ a → a ≤ high → is_in_range low high a ≡ true
within low high a above below = and_from _ _ (le-leb low a above) (le-leb a high below)

pub in_range : (low high a : ℕ) → is_in_range low high a ≡ true → (low ≤ a) × (a ≤ high)
in_range low high a inside = let both = and_parts _ _ inside in (leb-true low a both.0, leb-true a high both.1)

pub not_equal : (a b low high : ℕ) → is_in_range low high a ≡ true → b < low → (a == b) ≡ false
not_equal a b low high inside below = ne_eqb a b (λ same. absurd (omega (arith, (in_range low high a inside).0)))

-- a byte between the brackets and the end
step-parameter : (machine : Machine) (parameters : List ℕ) (byte : ℕ) → machine.unfinished ≡ 27 ∷ 91 ∷ parameters → is_in_range 0x20 0x3F byte ≡ true → length parameters < 62
    → step machine byte ≡ record machine { unfinished = 27 ∷ 91 ∷ (parameters ++ byte ∷ []) }
unfolding step
step-parameter machine parameters byte unfinished inside short =
    let no_escape : (byte == 27) ≡ false = not_equal byte 27 0x20 0x3F inside (omega arith) in
    let no_cancel : (byte == 24) ≡ false = not_equal byte 24 0x20 0x3F inside (omega arith) in
    let room : nat_lt (length (27 ∷ 91 ∷ parameters)) 64 ≡ true = lt-ltb _ _ (omega (arith, short)) in
    rw (no_escape, no_cancel, ap stage_of unfinished, inside, ap (λ u. longer_by u byte) unfinished)
    (ap (λ b. record machine { unfinished = cond b (27 ∷ 91 ∷ (parameters ++ byte ∷ [])) (27 ∷ 91 ∷ parameters) }) room)

out_of_range : (a low high below : ℕ) → is_in_range low high a ≡ true → below < low → is_in_range 0x20 below a ≡ false
out_of_range a low high below inside under =
    and_right (nat_le 0x20 a) _ (lt-leb a below (omega (arith, (in_range low high a inside).0)))

-- the bytes between the brackets and the end
abbrev pub AreParameters : List ℕ → Type 0
AreParameters bytes = list_all (is_in_range 0x20 0x3F) bytes ≡ true

fed-parameters : (bytes before : List ℕ) (machine : Machine) → machine.unfinished ≡ 27 ∷ 91 ∷ before → AreParameters bytes → length before + length bytes ≤ 62
    → fed machine bytes ≡ record machine { unfinished = 27 ∷ 91 ∷ (before ++ bytes) }
fed-parameters [] before machine unfinished all short =
    fed-nothing machine ∙ ap (λ u. record machine { unfinished = u }) (unfinished ∙ ap (λ b. 27 ∷ 91 ∷ b) (sym (append-nil before)))
fed-parameters (byte ∷ bytes) before machine unfinished all short =
    fed-cons machine byte bytes
    ∙ ap (λ m. fed m bytes) (step-parameter machine before byte unfinished (and_parts _ _ all).0 (omega (arith, short)))
    ∙ fed-parameters bytes (before ++ byte ∷ []) (record machine { unfinished = 27 ∷ 91 ∷ (before ++ byte ∷ []) }) refl (and_parts _ _ all).1
    (omega (arith, short, length-append before (byte ∷ [])))
    ∙ ap (λ b. record machine { unfinished = 27 ∷ 91 ∷ b }) (append_assoc before (byte ∷ []) bytes)

-- the last byte
step-last : (machine : Machine) (parameters : List ℕ) (byte : ℕ) → machine.unfinished ≡ 27 ∷ 91 ∷ parameters → is_in_range 0x40 0x7E byte ≡ true → length parameters < 62
    → step machine byte ≡ run (command_of byte parameters machine.canvas.pen) (ended machine)
unfolding step
step-last machine parameters byte unfinished inside short =
    let no_escape : (byte == 27) ≡ false = not_equal byte 27 0x40 0x7E inside (omega arith) in
    let no_cancel : (byte == 24) ≡ false = not_equal byte 24 0x40 0x7E inside (omega arith) in
    let room : nat_lt (length (27 ∷ 91 ∷ parameters)) 64 ≡ true = lt-ltb _ _ (omega (arith, short)) in
    rw (no_escape, no_cancel, ap stage_of unfinished, out_of_range byte 0x40 0x7E 0x3F inside (omega arith), inside)
    (ap (λ u. run (cond (nat_lt (length u) 64) (command_of byte (drop 2 u) machine.canvas.pen) Nothing) (ended machine)) unfinished
    ∙ ap (λ b. run (cond b (command_of byte parameters machine.canvas.pen) Nothing) (ended machine)) room)

step-bracket : (m : Machine) → step (record m { unfinished = 27 ∷ [] }) 91 ≡ record m { unfinished = 27 ∷ 91 ∷ [] }
unfolding step
step-bracket m = refl

-- a whole sequence, whatever stood before it
pub fed-sequence : (machine : Machine) (parameters : List ℕ) (last : ℕ) → AreParameters parameters → length parameters ≤ 61 → is_in_range 0x40 0x7E last ≡ true
    → fed machine (27 ∷ 91 ∷ (parameters ++ last ∷ [])) ≡ run (command_of last parameters machine.canvas.pen) (ended machine)
fed-sequence machine parameters last all short inside =
    let begun = record (ended machine) { unfinished = 27 ∷ 91 ∷ [] } in
    let whole = record (ended machine) { unfinished = 27 ∷ 91 ∷ parameters } in
    fed-cons machine 27 (91 ∷ (parameters ++ last ∷ []))
    ∙ ap (λ m. fed m (91 ∷ (parameters ++ last ∷ []))) (step-escape machine)
    ∙ fed-cons (record (ended machine) { unfinished = 27 ∷ [] }) 91 (parameters ++ last ∷ [])
    ∙ ap (λ m. fed m (parameters ++ last ∷ [])) (step-bracket (ended machine))
    ∙ fed-append begun parameters (last ∷ [])
    ∙ ap (λ m. fed m (last ∷ [])) (fed-parameters parameters [] begun refl all (omega (arith, short)))
    ∙ fed-cons whole last [] ∙ fed-nothing (step whole last)
    ∙ step-last whole parameters last refl inside (omega (arith, short))
    ∙ ap (λ pen. run (command_of last parameters pen) (ended whole)) (pen-put_held machine.canvas)
    ∙ ap (λ canvas. run (command_of last parameters machine.canvas.pen) (record machine { canvas = canvas; unfinished = [] })) (put_held-put_held machine.canvas)
