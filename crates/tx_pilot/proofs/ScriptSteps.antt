-- The loop over the lines of a script.
use Rattle.std.proofs.Common.{◌≡◌, ℕ, ◌+◌, ◌-◌, ◌≤◌, Bool, false, cond, List, [], ◌∷◌, ◌++◌, length, Result, Ok, Err, refl, ap, sym, ◌∙◌, arith, append-nil, length-append}
use Rattle.tx_read.specs.Pieces.{pieces}
use Rattle.tx_tree_file.specs.TreeReading.{is_empty}
use Rattle.tx_tree_file.proofs.lemmas.Lines.{joined, joined-pieces, some_piece}
use Rattle.tx_route.specs.declared.input.Input.{Input}
use Rattle.tx_pilot.specs.ScriptReading.{Met, limited, put_before, then_lines, inputs_of, script_of}

-- lines that are left, behind one
pub more_lines : (line : List ℕ) (lines : List (List ℕ)) (before size : ℕ) → is_empty lines ≡ false
    → inputs_of (line ∷ lines) before size ≡ then_lines (before + 1) (limited before (size + (length line + 1)) line) (inputs_of lines (before + 1) (size + (length line + 1)))
more_lines line [] before size h = absurd cc
more_lines line (next ∷ lines) before size h = refl

pub put-nothing : (r : Result (List Input) Met) → put_before [] r ≡ r
put-nothing (Ok inputs) = refl
put-nothing (Err met) = refl

-- a line, its line feed and the rest
pub cut_size : (left line rest : List ℕ) → pieces 10 left ≡ line ∷ pieces 10 rest → length left ≡ length line + 1 + length rest
cut_size left line rest cut =
    let text = by (pieces 10 rest) (some_piece rest) (joined-pieces rest) in
    let all = ap length (sym (joined-pieces left) ∙ ap joined cut ∙ text) in
    let size = length-append line (10 ∷ rest) in
    omega (arith, all, size)
  where
    by : (ps : List (List ℕ)) → is_empty ps ≡ false → joined ps ≡ rest → joined (line ∷ ps) ≡ line ++ (10 ∷ rest)
    by [] h e = absurd cc
    by (p ∷ ps) h e = ap (λ (z : List ℕ). line ++ (10 ∷ z)) e

-- what is read so far, with what the lines that are left give, is what all gives
abbrev pub So : List ℕ → List ℕ → List Input → ℕ → Type 0
So bytes left inputs before = put_before inputs (inputs_of (pieces 10 left) before (length bytes - length left)) ≡ script_of bytes

pub so-first : (bytes : List ℕ) → So bytes bytes [] 0
unfolding script_of
so-first bytes =
    put-nothing (inputs_of (pieces 10 bytes) 0 (length bytes - length bytes))
    ∙ ap (inputs_of (pieces 10 bytes) 0) (let none : length bytes - length bytes ≡ 0 = omega arith in none)

-- one line on
pub so-line : (bytes left line rest : List ℕ) (inputs : List Input) (before : ℕ) → pieces 10 left ≡ line ∷ pieces 10 rest → length left ≤ length bytes → So bytes left inputs before
    → put_before inputs (then_lines (before + 1) (limited before (length bytes - length rest) line) (inputs_of (pieces 10 rest) (before + 1) (length bytes - length rest))) ≡ script_of bytes
so-line bytes left line rest inputs before cut short so =
    let sum = cut_size left line rest cut in
    let size : length bytes - length rest ≡ length bytes - length left + (length line + 1) = omega (arith, sum, short) in
    ap (λ (n : ℕ). put_before inputs (then_lines (before + 1) (limited before n line) (inputs_of (pieces 10 rest) (before + 1) n))) size
    ∙ ap (put_before inputs) (sym (ap (λ (ps : List (List ℕ)). inputs_of ps before (length bytes - length left)) cut ∙ more_lines line (pieces 10 rest) before (length bytes - length left) (some_piece rest)))
    ∙ so

pub so-more : (bytes left line rest : List ℕ) (inputs next : List Input) (before : ℕ) → pieces 10 left ≡ line ∷ pieces 10 rest → length left ≤ length bytes → So bytes left inputs before
    → put_before inputs (then_lines (before + 1) (limited before (length bytes - length rest) line) (inputs_of (pieces 10 rest) (before + 1) (length bytes - length rest)))
    ≡ put_before next (inputs_of (pieces 10 rest) (before + 1) (length bytes - length rest))
    → So bytes rest next (before + 1)
so-more bytes left line rest inputs next before cut short so step = sym step ∙ so-line bytes left line rest inputs before cut short so

-- nothing is left
pub so-end : (bytes left : List ℕ) (inputs : List Input) (before : ℕ) → pieces 10 left ≡ left ∷ [] → left ≡ [] → So bytes left inputs before → script_of bytes ≡ Ok inputs
so-end bytes left inputs before cut none so =
    sym so
    ∙ ap (λ (ps : List (List ℕ)). put_before inputs (inputs_of ps before (length bytes - length left))) cut
    ∙ ap (λ (line : List ℕ). put_before inputs (inputs_of (line ∷ []) before (length bytes - length left))) none
    ∙ ap Ok (append-nil inputs)

-- a last line without a line feed
pub so-last : (bytes left : List ℕ) (inputs : List Input) (before : ℕ) → pieces 10 left ≡ left ∷ [] → is_empty left ≡ false → length left ≤ length bytes → So bytes left inputs before
    → put_before inputs (then_lines (before + 1) (limited before (length bytes) left) (Ok [])) ≡ script_of bytes
so-last bytes left inputs before cut some short so =
    let size : length bytes ≡ length bytes - length left + length left = omega (arith, short) in
    ap (λ (n : ℕ). put_before inputs (then_lines (before + 1) (limited before n left) (Ok []))) size
    ∙ ap (λ (b : Bool). put_before inputs (cond b (Ok []) (then_lines (before + 1) (limited before (length bytes - length left + length left) left) (Ok [])))) (sym some)
    ∙ ap (λ (ps : List (List ℕ)). put_before inputs (inputs_of ps before (length bytes - length left))) (sym cut)
    ∙ so

pub put-end : (inputs : List Input) → put_before inputs (Ok []) ≡ Ok inputs
put-end inputs = ap Ok (append-nil inputs)
