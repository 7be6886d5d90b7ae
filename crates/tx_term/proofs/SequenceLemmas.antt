-- The sequences of an update, as they are read back.
use Rattle.std.proofs.Common.{◌≡◌, ◌≤◌, ◌<◌, ℕ, List, [], ◌∷◌, ◌++◌, length, Bool, true, false, refl, arith, ap, sym, ◌∙◌, ◌&&◌, cond, nat_le, nat_lt, append_assoc, append-nil, length-append, Some, None, codes}
use Rattle.std.proofs.lemmas.Bool.{le-leb, lt-ltb}
use Rattle.std.specs.Fmt.{decimal}
use Rattle.tx_cell.specs.declared.pen.Pen.{Pen}
use Rattle.tx_geom.specs.declared.styles.TextStyle.{TextStyle}
use Rattle.tx_geom.specs.declared.colours.Rgb.{Rgb}
use Rattle.tx_term.proofs.FeedLemmas.{AreParameters, fed-sequence}
use Rattle.tx_term.proofs.NumberLemmas.{decimal_read, decimal_stands, AreParameters-append, length-decimal3, length-decimal5}
use Rattle.tx_term.specs.Canvas.{moved, put_held}
use Rattle.tx_cell.specs.Pen.{HasByteChannels}
use Rattle.tx_term.specs.Machine.{Machine, fed, ended, run}
use Rattle.tx_term.specs.Sequence.{numbers_behind, numbers_of, with_settings, move_command, pen_command, command_of_pen, command_of}
use Rattle.tx_term.specs.Update.{move_bytes, pen_bytes, style_bytes, csi}
use Rattle.tx_term.specs.declared.machine.command.Command.TheVariants.{Nothing, Move, SetPen}

-- ---- the move

regroup_move : (row column : List ℕ) → csi ++ row ++ codes ";" ++ column ++ codes "H" ≡ 27 ∷ 91 ∷ ((row ++ (59 ∷ column)) ++ 72 ∷ [])
regroup_move row column = simp append_assoc

move_read : (row column : ℕ) → row ≤ 65535 → column ≤ 65535 → numbers_of (decimal row ++ (59 ∷ decimal column)) ≡ Some (row ∷ column ∷ [])
move_read row column row_small column_small =
    decimal_read row (59 ∷ decimal column) [] (omega arith)
    ∙ ap (numbers_behind (row ∷ []) None) (sym (append-nil (decimal column)))
    ∙ decimal_read column [] (row ∷ []) (omega arith)

move_asked : (row column : ℕ) (pen : Pen) → row ≤ 65535 → column ≤ 65535 → 0 < row → 0 < column
    → command_of 72 (decimal row ++ (59 ∷ decimal column)) pen ≡ Move row column
unfolding command_of
move_asked row column pen row_small column_small row_some column_some =
    ap move_command (move_read row column row_small column_small)
    ∙ ap (λ b. cond (b && nat_lt 0 column) (Move row column) Nothing) (lt-ltb 0 row row_some)
    ∙ ap (λ b. cond b (Move row column) Nothing) (lt-ltb 0 column column_some)

-- what a move makes of any machine
pub fed-move : (machine : Machine) (row column : ℕ) → row ≤ 65535 → column ≤ 65535 → 0 < row → 0 < column
    → fed machine (move_bytes row column) ≡ record (ended machine) { canvas = moved row column (put_held machine.canvas) }
fed-move machine row column row_small column_small row_some column_some =
    let parameters = decimal row ++ (59 ∷ decimal column) in
    ap (fed machine) (regroup_move (decimal row) (decimal column))
    ∙ fed-sequence machine parameters 72 (AreParameters-append (decimal row) (59 ∷ decimal column) (decimal_stands row) (decimal_stands column))
    (omega (arith, length-append (decimal row) (59 ∷ decimal column), length-decimal5 row row_small, length-decimal5 column column_small)) refl
    ∙ ap (λ command. run command (ended machine)) (move_asked row column machine.canvas.pen row_small column_small row_some column_some)

-- ---- the pen

-- the numbers of marks
abbrev pub marks_of : TextStyle → List ℕ
marks_of style =
    (cond style.bold (1 ∷ []) []) ++ (cond style.dim (2 ∷ []) []) ++ (cond style.italic (3 ∷ []) []) ++ (cond style.underline (4 ∷ []) []) ++ (cond style.reverse (7 ∷ []) []) ++ (cond style.strike (9 ∷ []) [])

abbrev style_with : (bold dim italic underline reverse strike : Bool) → TextStyle
style_with bold dim italic underline reverse strike = record { bold = bold; dim = dim; italic = italic; underline = underline; reverse = reverse; strike = strike }

style_read : (bold dim italic underline reverse strike : Bool) (rest : List ℕ)
    → numbers_of (48 ∷ (style_bytes (style_with bold dim italic underline reverse strike) ++ (codes ";38;2;" ++ rest)))
    ≡ numbers_behind (0 ∷ (marks_of (style_with bold dim italic underline reverse strike) ++ 38 ∷ 2 ∷ [])) None rest
style_read true true true true true true rest = refl
style_read true true true true true false rest = refl
style_read true true true true false true rest = refl
style_read true true true true false false rest = refl
style_read true true true false true true rest = refl
style_read true true true false true false rest = refl
style_read true true true false false true rest = refl
style_read true true true false false false rest = refl
style_read true true false true true true rest = refl
style_read true true false true true false rest = refl
style_read true true false true false true rest = refl
style_read true true false true false false rest = refl
style_read true true false false true true rest = refl
style_read true true false false true false rest = refl
style_read true true false false false true rest = refl
style_read true true false false false false rest = refl
style_read true false true true true true rest = refl
style_read true false true true true false rest = refl
style_read true false true true false true rest = refl
style_read true false true true false false rest = refl
style_read true false true false true true rest = refl
style_read true false true false true false rest = refl
style_read true false true false false true rest = refl
style_read true false true false false false rest = refl
style_read true false false true true true rest = refl
style_read true false false true true false rest = refl
style_read true false false true false true rest = refl
style_read true false false true false false rest = refl
style_read true false false false true true rest = refl
style_read true false false false true false rest = refl
style_read true false false false false true rest = refl
style_read true false false false false false rest = refl
style_read false true true true true true rest = refl
style_read false true true true true false rest = refl
style_read false true true true false true rest = refl
style_read false true true true false false rest = refl
style_read false true true false true true rest = refl
style_read false true true false true false rest = refl
style_read false true true false false true rest = refl
style_read false true true false false false rest = refl
style_read false true false true true true rest = refl
style_read false true false true true false rest = refl
style_read false true false true false true rest = refl
style_read false true false true false false rest = refl
style_read false true false false true true rest = refl
style_read false true false false true false rest = refl
style_read false true false false false true rest = refl
style_read false true false false false false rest = refl
style_read false false true true true true rest = refl
style_read false false true true true false rest = refl
style_read false false true true false true rest = refl
style_read false false true true false false rest = refl
style_read false false true false true true rest = refl
style_read false false true false true false rest = refl
style_read false false true false false true rest = refl
style_read false false true false false false rest = refl
style_read false false false true true true rest = refl
style_read false false false true true false rest = refl
style_read false false false true false true rest = refl
style_read false false false true false false rest = refl
style_read false false false false true true rest = refl
style_read false false false false true false rest = refl
style_read false false false false false true rest = refl
style_read false false false false false false rest = refl

settings_read : (bold dim italic underline reverse strike : Bool) (fore back : Rgb) (pen : Pen)
    → nat_le fore.r 255 ≡ true → nat_le fore.g 255 ≡ true → nat_le fore.b 255 ≡ true → nat_le back.r 255 ≡ true → nat_le back.g 255 ≡ true → nat_le back.b 255 ≡ true
    → with_settings (0 ∷ (marks_of (style_with bold dim italic underline reverse strike) ++ 38 ∷ 2 ∷ fore.r ∷ fore.g ∷ fore.b ∷ 48 ∷ 2 ∷ back.r ∷ back.g ∷ back.b ∷ [])) pen
    ≡ Some (record { fore = fore; back = back; style = style_with bold dim italic underline reverse strike })
settings_read true true true true true true fore back pen r g b r' g' b' = rw (r, g, b, r', g', b') refl
settings_read true true true true true false fore back pen r g b r' g' b' = rw (r, g, b, r', g', b') refl
settings_read true true true true false true fore back pen r g b r' g' b' = rw (r, g, b, r', g', b') refl
settings_read true true true true false false fore back pen r g b r' g' b' = rw (r, g, b, r', g', b') refl
settings_read true true true false true true fore back pen r g b r' g' b' = rw (r, g, b, r', g', b') refl
settings_read true true true false true false fore back pen r g b r' g' b' = rw (r, g, b, r', g', b') refl
settings_read true true true false false true fore back pen r g b r' g' b' = rw (r, g, b, r', g', b') refl
settings_read true true true false false false fore back pen r g b r' g' b' = rw (r, g, b, r', g', b') refl
settings_read true true false true true true fore back pen r g b r' g' b' = rw (r, g, b, r', g', b') refl
settings_read true true false true true false fore back pen r g b r' g' b' = rw (r, g, b, r', g', b') refl
settings_read true true false true false true fore back pen r g b r' g' b' = rw (r, g, b, r', g', b') refl
settings_read true true false true false false fore back pen r g b r' g' b' = rw (r, g, b, r', g', b') refl
settings_read true true false false true true fore back pen r g b r' g' b' = rw (r, g, b, r', g', b') refl
settings_read true true false false true false fore back pen r g b r' g' b' = rw (r, g, b, r', g', b') refl
settings_read true true false false false true fore back pen r g b r' g' b' = rw (r, g, b, r', g', b') refl
settings_read true true false false false false fore back pen r g b r' g' b' = rw (r, g, b, r', g', b') refl
settings_read true false true true true true fore back pen r g b r' g' b' = rw (r, g, b, r', g', b') refl
settings_read true false true true true false fore back pen r g b r' g' b' = rw (r, g, b, r', g', b') refl
settings_read true false true true false true fore back pen r g b r' g' b' = rw (r, g, b, r', g', b') refl
settings_read true false true true false false fore back pen r g b r' g' b' = rw (r, g, b, r', g', b') refl
settings_read true false true false true true fore back pen r g b r' g' b' = rw (r, g, b, r', g', b') refl
settings_read true false true false true false fore back pen r g b r' g' b' = rw (r, g, b, r', g', b') refl
settings_read true false true false false true fore back pen r g b r' g' b' = rw (r, g, b, r', g', b') refl
settings_read true false true false false false fore back pen r g b r' g' b' = rw (r, g, b, r', g', b') refl
settings_read true false false true true true fore back pen r g b r' g' b' = rw (r, g, b, r', g', b') refl
settings_read true false false true true false fore back pen r g b r' g' b' = rw (r, g, b, r', g', b') refl
settings_read true false false true false true fore back pen r g b r' g' b' = rw (r, g, b, r', g', b') refl
settings_read true false false true false false fore back pen r g b r' g' b' = rw (r, g, b, r', g', b') refl
settings_read true false false false true true fore back pen r g b r' g' b' = rw (r, g, b, r', g', b') refl
settings_read true false false false true false fore back pen r g b r' g' b' = rw (r, g, b, r', g', b') refl
settings_read true false false false false true fore back pen r g b r' g' b' = rw (r, g, b, r', g', b') refl
settings_read true false false false false false fore back pen r g b r' g' b' = rw (r, g, b, r', g', b') refl
settings_read false true true true true true fore back pen r g b r' g' b' = rw (r, g, b, r', g', b') refl
settings_read false true true true true false fore back pen r g b r' g' b' = rw (r, g, b, r', g', b') refl
settings_read false true true true false true fore back pen r g b r' g' b' = rw (r, g, b, r', g', b') refl
settings_read false true true true false false fore back pen r g b r' g' b' = rw (r, g, b, r', g', b') refl
settings_read false true true false true true fore back pen r g b r' g' b' = rw (r, g, b, r', g', b') refl
settings_read false true true false true false fore back pen r g b r' g' b' = rw (r, g, b, r', g', b') refl
settings_read false true true false false true fore back pen r g b r' g' b' = rw (r, g, b, r', g', b') refl
settings_read false true true false false false fore back pen r g b r' g' b' = rw (r, g, b, r', g', b') refl
settings_read false true false true true true fore back pen r g b r' g' b' = rw (r, g, b, r', g', b') refl
settings_read false true false true true false fore back pen r g b r' g' b' = rw (r, g, b, r', g', b') refl
settings_read false true false true false true fore back pen r g b r' g' b' = rw (r, g, b, r', g', b') refl
settings_read false true false true false false fore back pen r g b r' g' b' = rw (r, g, b, r', g', b') refl
settings_read false true false false true true fore back pen r g b r' g' b' = rw (r, g, b, r', g', b') refl
settings_read false true false false true false fore back pen r g b r' g' b' = rw (r, g, b, r', g', b') refl
settings_read false true false false false true fore back pen r g b r' g' b' = rw (r, g, b, r', g', b') refl
settings_read false true false false false false fore back pen r g b r' g' b' = rw (r, g, b, r', g', b') refl
settings_read false false true true true true fore back pen r g b r' g' b' = rw (r, g, b, r', g', b') refl
settings_read false false true true true false fore back pen r g b r' g' b' = rw (r, g, b, r', g', b') refl
settings_read false false true true false true fore back pen r g b r' g' b' = rw (r, g, b, r', g', b') refl
settings_read false false true true false false fore back pen r g b r' g' b' = rw (r, g, b, r', g', b') refl
settings_read false false true false true true fore back pen r g b r' g' b' = rw (r, g, b, r', g', b') refl
settings_read false false true false true false fore back pen r g b r' g' b' = rw (r, g, b, r', g', b') refl
settings_read false false true false false true fore back pen r g b r' g' b' = rw (r, g, b, r', g', b') refl
settings_read false false true false false false fore back pen r g b r' g' b' = rw (r, g, b, r', g', b') refl
settings_read false false false true true true fore back pen r g b r' g' b' = rw (r, g, b, r', g', b') refl
settings_read false false false true true false fore back pen r g b r' g' b' = rw (r, g, b, r', g', b') refl
settings_read false false false true false true fore back pen r g b r' g' b' = rw (r, g, b, r', g', b') refl
settings_read false false false true false false fore back pen r g b r' g' b' = rw (r, g, b, r', g', b') refl
settings_read false false false false true true fore back pen r g b r' g' b' = rw (r, g, b, r', g', b') refl
settings_read false false false false true false fore back pen r g b r' g' b' = rw (r, g, b, r', g', b') refl
settings_read false false false false false true fore back pen r g b r' g' b' = rw (r, g, b, r', g', b') refl
settings_read false false false false false false fore back pen r g b r' g' b' = rw (r, g, b, r', g', b') refl

-- the numbers and semicolons of a pen
abbrev pen_parameters : Pen → List ℕ
pen_parameters pen =
    48 ∷ (style_bytes pen.style
    ++ (codes ";38;2;" ++ (decimal pen.fore.r ++ (59 ∷ (decimal pen.fore.g ++ (59 ∷ (decimal pen.fore.b
    ++ (codes ";48;2;" ++ (decimal pen.back.r ++ (59 ∷ (decimal pen.back.g ++ (59 ∷ decimal pen.back.b))))))))))))

regroup_pen : (start style before r g b between r' g' b' mark last : List ℕ)
    → start ++ style ++ before ++ (r ++ mark ++ g ++ mark ++ b) ++ between ++ (r' ++ mark ++ g' ++ mark ++ b') ++ last
    ≡ start ++ ((style ++ (before ++ (r ++ (mark ++ (g ++ (mark ++ (b ++ (between ++ (r' ++ (mark ++ (g' ++ (mark ++ b')))))))))))) ++ last)
regroup_pen start style before r g b between r' g' b' mark last = simp append_assoc

regroup_numbers : (marks : List ℕ) (r g b r' g' b' : ℕ)
    → ((((((((0 ∷ (marks ++ 38 ∷ 2 ∷ [])) ++ r ∷ []) ++ g ∷ []) ++ b ∷ []) ++ 48 ∷ []) ++ 2 ∷ []) ++ r' ∷ []) ++ g' ∷ []) ++ b' ∷ []
    ≡ 0 ∷ (marks ++ 38 ∷ 2 ∷ r ∷ g ∷ b ∷ 48 ∷ 2 ∷ r' ∷ g' ∷ b' ∷ [])
regroup_numbers marks r g b r' g' b' = simp append_assoc

pen_read : (pen : Pen) → HasByteChannels pen
    → numbers_of (pen_parameters pen)
    ≡ Some (0 ∷ (marks_of pen.style ++ 38 ∷ 2 ∷ pen.fore.r ∷ pen.fore.g ∷ pen.fore.b ∷ 48 ∷ 2 ∷ pen.back.r ∷ pen.back.g ∷ pen.back.b ∷ []))
pen_read pen bytes =
    let style = pen.style in
    style_read style.bold style.dim style.italic style.underline style.reverse style.strike _
    ∙ decimal_read pen.fore.r _ _ (omega (arith, bytes.fore_r))
    ∙ decimal_read pen.fore.g _ _ (omega (arith, bytes.fore_g))
    ∙ decimal_read pen.fore.b _ _ (omega (arith, bytes.fore_b))
    ∙ decimal_read pen.back.r _ _ (omega (arith, bytes.back_r))
    ∙ decimal_read pen.back.g _ _ (omega (arith, bytes.back_g))
    ∙ ap (numbers_behind _ None) (sym (append-nil (decimal pen.back.b)))
    ∙ decimal_read pen.back.b [] _ (omega (arith, bytes.back_b))
    ∙ ap Some (regroup_numbers (marks_of style) pen.fore.r pen.fore.g pen.fore.b pen.back.r pen.back.g pen.back.b)

pen_asked : (pen present : Pen) → HasByteChannels pen → command_of 109 (pen_parameters pen) present ≡ SetPen pen
unfolding command_of
pen_asked pen present bytes =
    let style = pen.style in
    ap (λ numbers. pen_command numbers present) (pen_read pen bytes)
    ∙ ap command_of_pen (settings_read style.bold style.dim style.italic style.underline style.reverse style.strike pen.fore pen.back present
    (le-leb _ _ bytes.fore_r) (le-leb _ _ bytes.fore_g) (le-leb _ _ bytes.fore_b) (le-leb _ _ bytes.back_r) (le-leb _ _ bytes.back_g) (le-leb _ _ bytes.back_b))

style_fits : (bold dim italic underline reverse strike : Bool)
    → AreParameters (style_bytes (style_with bold dim italic underline reverse strike)) × (length (style_bytes (style_with bold dim italic underline reverse strike)) ≤ 12)
style_fits true true true true true true = (refl, omega arith)
style_fits true true true true true false = (refl, omega arith)
style_fits true true true true false true = (refl, omega arith)
style_fits true true true true false false = (refl, omega arith)
style_fits true true true false true true = (refl, omega arith)
style_fits true true true false true false = (refl, omega arith)
style_fits true true true false false true = (refl, omega arith)
style_fits true true true false false false = (refl, omega arith)
style_fits true true false true true true = (refl, omega arith)
style_fits true true false true true false = (refl, omega arith)
style_fits true true false true false true = (refl, omega arith)
style_fits true true false true false false = (refl, omega arith)
style_fits true true false false true true = (refl, omega arith)
style_fits true true false false true false = (refl, omega arith)
style_fits true true false false false true = (refl, omega arith)
style_fits true true false false false false = (refl, omega arith)
style_fits true false true true true true = (refl, omega arith)
style_fits true false true true true false = (refl, omega arith)
style_fits true false true true false true = (refl, omega arith)
style_fits true false true true false false = (refl, omega arith)
style_fits true false true false true true = (refl, omega arith)
style_fits true false true false true false = (refl, omega arith)
style_fits true false true false false true = (refl, omega arith)
style_fits true false true false false false = (refl, omega arith)
style_fits true false false true true true = (refl, omega arith)
style_fits true false false true true false = (refl, omega arith)
style_fits true false false true false true = (refl, omega arith)
style_fits true false false true false false = (refl, omega arith)
style_fits true false false false true true = (refl, omega arith)
style_fits true false false false true false = (refl, omega arith)
style_fits true false false false false true = (refl, omega arith)
style_fits true false false false false false = (refl, omega arith)
style_fits false true true true true true = (refl, omega arith)
style_fits false true true true true false = (refl, omega arith)
style_fits false true true true false true = (refl, omega arith)
style_fits false true true true false false = (refl, omega arith)
style_fits false true true false true true = (refl, omega arith)
style_fits false true true false true false = (refl, omega arith)
style_fits false true true false false true = (refl, omega arith)
style_fits false true true false false false = (refl, omega arith)
style_fits false true false true true true = (refl, omega arith)
style_fits false true false true true false = (refl, omega arith)
style_fits false true false true false true = (refl, omega arith)
style_fits false true false true false false = (refl, omega arith)
style_fits false true false false true true = (refl, omega arith)
style_fits false true false false true false = (refl, omega arith)
style_fits false true false false false true = (refl, omega arith)
style_fits false true false false false false = (refl, omega arith)
style_fits false false true true true true = (refl, omega arith)
style_fits false false true true true false = (refl, omega arith)
style_fits false false true true false true = (refl, omega arith)
style_fits false false true true false false = (refl, omega arith)
style_fits false false true false true true = (refl, omega arith)
style_fits false false true false true false = (refl, omega arith)
style_fits false false true false false true = (refl, omega arith)
style_fits false false true false false false = (refl, omega arith)
style_fits false false false true true true = (refl, omega arith)
style_fits false false false true true false = (refl, omega arith)
style_fits false false false true false true = (refl, omega arith)
style_fits false false false true false false = (refl, omega arith)
style_fits false false false false true true = (refl, omega arith)
style_fits false false false false true false = (refl, omega arith)
style_fits false false false false false true = (refl, omega arith)
style_fits false false false false false false = (refl, omega arith)

pen_stands : (pen : Pen) → HasByteChannels pen → AreParameters (pen_parameters pen) × (length (pen_parameters pen) ≤ 61)
pen_stands pen bytes =
    let style = pen.style in
    let fits = style_fits style.bold style.dim style.italic style.underline style.reverse style.strike in
    let b' = decimal pen.back.b in
    let g' = decimal pen.back.g in
    let r' = decimal pen.back.r in
    let b = decimal pen.fore.b in
    let g = decimal pen.fore.g in
    let r = decimal pen.fore.r in
    let blue' = decimal_stands pen.back.b in
    let green' = AreParameters-append g' (59 ∷ b') (decimal_stands pen.back.g) blue' in
    let red' = AreParameters-append r' (59 ∷ (g' ++ (59 ∷ b'))) (decimal_stands pen.back.r) green' in
    let blue = AreParameters-append b (codes ";48;2;" ++ (r' ++ (59 ∷ (g' ++ (59 ∷ b'))))) (decimal_stands pen.fore.b) red' in
    let green = AreParameters-append g (59 ∷ (b ++ (codes ";48;2;" ++ (r' ++ (59 ∷ (g' ++ (59 ∷ b'))))))) (decimal_stands pen.fore.g) blue in
    let red = AreParameters-append r (59 ∷ (g ++ (59 ∷ (b ++ (codes ";48;2;" ++ (r' ++ (59 ∷ (g' ++ (59 ∷ b'))))))))) (decimal_stands pen.fore.r) green in (
      AreParameters-append (style_bytes style) (codes ";38;2;" ++ (r ++ (59 ∷ (g ++ (59 ∷ (b ++ (codes ";48;2;" ++ (r' ++ (59 ∷ (g' ++ (59 ∷ b'))))))))))) fits.0 red,
      lengths (style_bytes style) r g b r' g' b' fits.1 (length-decimal3 _ bytes.fore_r) (length-decimal3 _ bytes.fore_g) (length-decimal3 _ bytes.fore_b) (length-decimal3 _ bytes.back_r) (length-decimal3 _ bytes.back_g) (length-decimal3 _ bytes.back_b),
    )
  where
    lengths : (style r g b r' g' b' : List ℕ) → length style ≤ 12 → length r ≤ 3 → length g ≤ 3 → length b ≤ 3 → length r' ≤ 3 → length g' ≤ 3 → length b' ≤ 3
        → length (48 ∷ (style ++ (codes ";38;2;" ++ (r ++ (59 ∷ (g ++ (59 ∷ (b ++ (codes ";48;2;" ++ (r' ++ (59 ∷ (g' ++ (59 ∷ b'))))))))))))) ≤ 61
    lengths style r g b r' g' b' s r3 g3 b3 r3' g3' b3' = simp length-append (omega arith)

-- what a pen makes of any machine
pub fed-pen : (machine : Machine) (pen : Pen) → HasByteChannels pen
    → fed machine (pen_bytes pen) ≡ record (ended machine) { canvas = record (put_held machine.canvas) { pen = pen } }
fed-pen machine pen bytes =
    let stands = pen_stands pen bytes in
    ap (fed machine) (regroup_pen (csi ++ codes "0") (style_bytes pen.style) (codes ";38;2;") (decimal pen.fore.r) (decimal pen.fore.g) (decimal pen.fore.b)
    (codes ";48;2;") (decimal pen.back.r) (decimal pen.back.g) (decimal pen.back.b) (codes ";") (codes "m"))
    ∙ fed-sequence machine (pen_parameters pen) 109 stands.0 stands.1 refl
    ∙ ap (λ command. run command (ended machine)) (pen_asked pen machine.canvas.pen bytes)
