-- A script is read exactly as what it spells, and refused exactly for its first line that breaks a rule.
use Rattle.std.proofs.lemmas.Bool.{false≢true, and_parts, leb-true, leb-false, le-leb, lt-leb, ltb-true, ltb-false, lt-ltb}
use Rattle.std.proofs.Common.{◌≡◌, ◌≢◌, ◌⊎◌, inl, inr, ℕ, ◌+◌, ◌≤◌, ◌<◌, Bool, true, false, cond, nat_le, nat_lt, List, [], ◌∷◌, ◌++◌, length, flat_map, Option, Some, None, Result, Ok, Err, option_to_list, IfOk, IfErr, codes, refl, ap, ap₂, sym, subst, ◌∙◌, arith, append_assoc, append-nil, length-append}
use Rattle.std.specs.List.{list_all}
use Rattle.tx_read.specs.Answer.{Gives}
use Rattle.tx_read.specs.Pieces.{pieces}
use Rattle.tx_tree.specs.Spelled.{no_line_feed}
use Rattle.tx_tree_file.specs.FirstFault.{is_line_end}
use Rattle.tx_tree_file.specs.TreeReading.{is_empty}
use Rattle.tx_tree_file.proofs.lemmas.Lines.{joined, joined-pieces, pieces-whole, cut-again, cut-last, some_piece}
use Rattle.tx_tree_file.proofs.lemmas.WordCuts.{same-byte}
use Rattle.tx_route.specs.declared.input.Input.{Input}
use Rattle.tx_route.specs.declared.input.Track.{Track}
use Rattle.tx_pilot.specs.Laws.{ScriptsAreRead}
use Rattle.tx_pilot.specs.LineReading.{line_of}
use Rattle.tx_pilot.specs.Lines.{Spells, Breaks}
use Rattle.tx_pilot.specs.Script.{fed, SpellAll, count_with, IsScript, BreaksAt, feed_count, IsFirstFault, IsFaultOf}
use Rattle.tx_pilot.specs.ScriptReading.{Met, limited, put_before, then_lines, inputs_of, script_of, told}
use Rattle.tx_pilot.specs.declared.fault.LineKind.{LineKind}
use Rattle.tx_pilot.specs.declared.fault.LineKind.TheVariants.{TooMany, TooLong, BadByte, Expected, BadKey, BadNumber, BadSelector, BadInline}
use Rattle.tx_pilot.specs.declared.fault.ScriptFault.{ScriptFault}
use Rattle.tx_pilot.specs.declared.fault.ScriptFault.TheVariants.{Line, NoMemory}
use Rattle.tx_pilot.proofs.LineLaws.{line-read, line-spelled, line-met, line-meets, nothing-read}
use Rattle.tx_pilot.proofs.ScriptSteps.{more_lines}
use Rattle.tx_pilot.proofs.Steps.{ok-same, err-same, ok-err, err-ok}

-- ---- one line, with its limits

abbrev limits : ℕ → ℕ → List ℕ → Bool → Bool → Result (Option Input) LineKind
limits before size line many long = cond many (Err TooMany) (cond long (Err TooLong) (line_of line))

limits-as : (before size : ℕ) (line : List ℕ) (many long : Bool) → nat_le 100000 before ≡ many → nat_lt 67108864 size ≡ long → limited before size line ≡ limits before size line many long
limits-as before size line many long a b =
    ap (λ (x : Bool). limits before size line x (nat_lt 67108864 size)) a ∙ ap (λ (x : Bool). limits before size line many x) b

below : (before : ℕ) → before < 100000 → nat_le 100000 before ≡ false
below before h = lt-leb 100000 before h

within : (size : ℕ) → size ≤ 67108864 → nat_lt 67108864 size ≡ false
within size h = by (nat_lt 67108864 size) refl
  where
    by : (b : Bool) → nat_lt 67108864 size ≡ b → nat_lt 67108864 size ≡ false
    by true e = let big = ltb-true 67108864 size e in absurd (omega (arith, h, big))
    by false e = e

limited-spelled : (before size : ℕ) (line : List ℕ) (read : Option Input) → before < 100000 → size ≤ 67108864 → Spells line read → limited before size line ≡ Ok read
limited-spelled before size line read few small is = limits-as before size line false false (below before few) (within size small) ∙ line-spelled line read is

limited-read : (before size : ℕ) (line : List ℕ) (read : Option Input) → limited before size line ≡ Ok read → (before < 100000) × (size ≤ 67108864) × Spells line read
limited-read before size line read h = by (nat_le 100000 before) (nat_lt 67108864 size) refl refl h
  where
    by : (a b : Bool) → nat_le 100000 before ≡ a → nat_lt 67108864 size ≡ b → limits before size line a b ≡ Ok read → (before < 100000) × (size ≤ 67108864) × Spells line read
    by true b e f g = err-ok g
    by false true e f g = err-ok g
    by false false e f g = (leb-false 100000 before e, ltb-false 67108864 size f, line-read line read g)

-- the line's own rule
own : (before size : ℕ) (line : List ℕ) (kind : LineKind) → before < 100000 → size ≤ 67108864 → Breaks line kind → BreaksAt before size line kind
own before size line TooMany few small bad = absurd bad
own before size line TooLong few small bad = (few, inr bad)
own before size line BadByte few small bad = (few, small, bad)
own before size line Expected few small bad = (few, small, bad)
own before size line BadKey few small bad = (few, small, bad)
own before size line BadNumber few small bad = (few, small, bad)
own before size line BadSelector few small bad = (few, small, bad)
own before size line BadInline few small bad = (few, small, bad)

limited-met : (before size : ℕ) (line : List ℕ) (kind : LineKind) → limited before size line ≡ Err kind → BreaksAt before size line kind
limited-met before size line kind h = by (nat_le 100000 before) (nat_lt 67108864 size) refl refl h
  where
    by : (a b : Bool) → nat_le 100000 before ≡ a → nat_lt 67108864 size ≡ b → limits before size line a b ≡ Err kind → BreaksAt before size line kind
    by true b e f g = subst (BreaksAt before size line) (err-same g) (leb-true 100000 before e)
    by false true e f g = subst (BreaksAt before size line) (err-same g) (leb-false 100000 before e, inl (ltb-true 67108864 size f))
    by false false e f g = own before size line kind (leb-false 100000 before e) (ltb-false 67108864 size f) (line-met line kind g)

own-met : (before size : ℕ) (line : List ℕ) (kind : LineKind) → before < 100000 → size ≤ 67108864 → Breaks line kind → limited before size line ≡ Err kind
own-met before size line kind few small bad = limits-as before size line false false (below before few) (within size small) ∙ line-meets line kind bad

too_long-met : (before size : ℕ) (line : List ℕ) → before < 100000 → (67108864 < size) ⊎ Breaks line TooLong → limited before size line ≡ Err TooLong
too_long-met before size line few (inl big) = limits-as before size line false true (below before few) (lt-ltb 67108864 size big)
too_long-met before size line few (inr bad) = by (nat_lt 67108864 size) refl
  where
    by : (b : Bool) → nat_lt 67108864 size ≡ b → limited before size line ≡ Err TooLong
    by true e = limits-as before size line false true (below before few) e
    by false e = limits-as before size line false false (below before few) e ∙ line-meets line TooLong bad

limited-meets : (before size : ℕ) (line : List ℕ) (kind : LineKind) → BreaksAt before size line kind → limited before size line ≡ Err kind
limited-meets before size line TooMany bad = ap (λ (x : Bool). limits before size line x (nat_lt 67108864 size)) (le-leb 100000 before bad)
limited-meets before size line TooLong bad = too_long-met before size line bad.0 bad.1
limited-meets before size line BadByte bad = own-met before size line BadByte bad.0 bad.1 bad.2
limited-meets before size line Expected bad = own-met before size line Expected bad.0 bad.1 bad.2
limited-meets before size line BadKey bad = own-met before size line BadKey bad.0 bad.1 bad.2
limited-meets before size line BadNumber bad = own-met before size line BadNumber bad.0 bad.1 bad.2
limited-meets before size line BadSelector bad = own-met before size line BadSelector bad.0 bad.1 bad.2
limited-meets before size line BadInline bad = own-met before size line BadInline bad.0 bad.1 bad.2

-- ---- the lines behind one

put-ok : (inputs all : List Input) (more : Result (List Input) Met) → put_before inputs more ≡ Ok all → (rest : List Input) × (more ≡ Ok rest) × (all ≡ inputs ++ rest)
put-ok inputs all (Ok rest) h = (rest, refl, sym (ok-same h))
put-ok inputs all (Err met) h = err-ok h

put-err : (inputs : List Input) (met : Met) (more : Result (List Input) Met) → put_before inputs more ≡ Err met → more ≡ Err met
put-err inputs met (Ok rest) h = ok-err h
put-err inputs met (Err m) h = ap (λ z. Err z) (err-same h)

pub record IsThen (number : ℕ) (first : Result (Option Input) LineKind) (more : Result (List Input) Met) (all : List Input) : Type 0 where
  pub read : Option Input
  pub rest : List Input
  pub first_is : first ≡ Ok read
  pub more_is : more ≡ Ok rest
  pub all_is : all ≡ option_to_list read ++ rest

then-ok : (number : ℕ) (first : Result (Option Input) LineKind) (more : Result (List Input) Met) (all : List Input) → then_lines number first more ≡ Ok all → IsThen number first more all
then-ok number (Ok read) more all h =
    let (rest, is, same) = put-ok (option_to_list read) all more h in
    record { read = read; rest = rest; first_is = refl; more_is = is; all_is = same }
then-ok number (Err kind) more all h = err-ok h

then-again : (number : ℕ) (first : Result (Option Input) LineKind) (more : Result (List Input) Met) (read : Option Input) (rest : List Input) → first ≡ Ok read → more ≡ Ok rest
    → then_lines number first more ≡ Ok (option_to_list read ++ rest)
then-again number first more read rest a b = ap₂ (λ x y. then_lines number x y) a b

then-err : (number : ℕ) (first : Result (Option Input) LineKind) (more : Result (List Input) Met) (met : Met) → then_lines number first more ≡ Err met
    → ((kind : LineKind) × (first ≡ Err kind) × (met ≡ (number, kind))) ⊎ ((read : Option Input) × (first ≡ Ok read) × (more ≡ Err met))
then-err number (Ok read) more met h = inr (read, refl, put-err (option_to_list read) met more h)
then-err number (Err kind) more met h = inl (kind, refl, sym (err-same h))

-- ---- what is read

-- lines with a last one, and the bytes that they are
fed-joined : (lines : List (List ℕ)) (end : List ℕ) → joined (lines ++ end ∷ []) ≡ flat_map fed lines ++ end
fed-joined [] end = refl
fed-joined (line ∷ []) end = by
  where
    by : line ++ (10 ∷ end) ≡ (fed line ++ []) ++ end
    by = sym (append_assoc line (codes "\n") end) ∙ ap (λ (z : List ℕ). z ++ end) (sym (append-nil (fed line)))
fed-joined (line ∷ next ∷ lines) end =
    ap (λ (z : List ℕ). line ++ (10 ∷ z)) (fed-joined (next ∷ lines) end)
    ∙ sym (append_assoc line (codes "\n") (flat_map fed (next ∷ lines) ++ end))
    ∙ sym (append_assoc (fed line) (flat_map fed (next ∷ lines)) end)

pub record AreRead (ps : List (List ℕ)) (before size : ℕ) (inputs : List Input) : Type 0 where
  pub lines : List (List ℕ)
  pub end : List ℕ
  pub are : ps ≡ lines ++ end ∷ []
  pub spelled : SpellAll (lines ++ end ∷ []) inputs
  pub few : before + count_with lines end ≤ 100000
  pub small : size + length (joined ps) ≤ 67108864

count-more : (line : List ℕ) (lines : List (List ℕ)) (end : List ℕ) → count_with (line ∷ lines) end ≡ count_with lines end + 1
count-more line lines [] = omega arith
count-more line lines (byte ∷ bytes) = omega arith

last-read : (end : List ℕ) (before size : ℕ) (inputs : List Input) → before ≤ 100000 → size ≤ 67108864 → inputs_of (end ∷ []) before size ≡ Ok inputs → AreRead (end ∷ []) before size inputs
last-read [] before size inputs few small h = record {
  lines = [];
  end = [];
  are = refl;
  spelled = (None, [], refl, sym (ok-same h), refl);
  few = omega (arith, few);
  small = omega (arith, small);
}
last-read (byte ∷ bytes) before size inputs few small h =
    let is = then-ok (before + 1) (limited before (size + length (byte ∷ bytes)) (byte ∷ bytes)) (Ok []) inputs h in
    let (less, within, spells) = limited-read before (size + length (byte ∷ bytes)) (byte ∷ bytes) is.read is.first_is in
    record {
      lines = [];
      end = byte ∷ bytes;
      are = refl;
      spelled = (is.read, is.rest, spells, is.all_is, sym (ok-same is.more_is));
      few = omega (arith, less);
      small = within;
    }

pub lines-read : (p : List ℕ) (ps : List (List ℕ)) (before size : ℕ) (inputs : List Input) → before ≤ 100000 → size ≤ 67108864 → inputs_of (p ∷ ps) before size ≡ Ok inputs → AreRead (p ∷ ps) before size inputs
lines-read p [] before size inputs few small h = last-read p before size inputs few small h
lines-read p (q ∷ qs) before size inputs few small h =
    let is = then-ok (before + 1) (limited before (size + (length p + 1)) p) (inputs_of (q ∷ qs) (before + 1) (size + (length p + 1))) inputs h in
    let (less, within, spells) = limited-read before (size + (length p + 1)) p is.read is.first_is in
    let more = lines-read q qs (before + 1) (size + (length p + 1)) is.rest (omega (arith, less)) within is.more_is in
    let count = count-more p more.lines more.end in
    let sum = length-append p (10 ∷ joined (q ∷ qs)) in
    record {
      lines = p ∷ more.lines;
      end = more.end;
      are = ap (λ (z : List (List ℕ)). p ∷ z) more.are;
      spelled = (is.read, is.rest, spells, is.all_is, more.spelled);
      few = omega (arith, count, more.few);
      small = omega (arith, sum, more.small);
    }

pub script-read : (bytes : List ℕ) (inputs : List Input) → script_of bytes ≡ Ok inputs → IsScript bytes inputs
unfolding script_of
script-read bytes inputs h = by (pieces 10 bytes) (some_piece bytes) (joined-pieces bytes) h
  where
    by : (ps : List (List ℕ)) → is_empty ps ≡ false → joined ps ≡ bytes → inputs_of ps 0 0 ≡ Ok inputs → IsScript bytes inputs
    by [] e t g = absurd cc
    by (p ∷ ps) e t g =
        let is = lines-read p ps 0 0 inputs (omega arith) (omega arith) g in
        let size = ap length t in
        record {
          lines = is.lines;
          end = is.end;
          text = sym t ∙ ap joined is.are ∙ fed-joined is.lines is.end;
          spelled = is.spelled;
          few = omega (arith, is.few);
          small = omega (arith, size, is.small);
        }

-- ---- what is spelled is read

-- a line that spells something has no line feed
spelled-whole : (line : List ℕ) (read : Option Input) → Spells line read → list_all no_line_feed line ≡ true
spelled-whole line None is = ap (list_all no_line_feed) is
spelled-whole line (Some i) (sound, is) = sound.whole

-- the pieces of lines, and of what stands behind them
pub cut-lines : (lines : List (List ℕ)) (rest : List ℕ) (inputs : List Input) → SpellAll lines inputs → pieces 10 (flat_map fed lines ++ rest) ≡ lines ++ pieces 10 rest
cut-lines [] rest inputs is = refl
cut-lines (line ∷ lines) rest inputs (read, more, spells, all, behind) =
    ap (pieces 10) (append_assoc (fed line) (flat_map fed lines) rest ∙ append_assoc line (codes "\n") (flat_map fed lines ++ rest))
    ∙ cut-again line (flat_map fed lines ++ rest) (spelled-whole line read spells)
    ∙ ap (λ (z : List (List ℕ)). line ∷ z) (cut-lines lines rest more behind)

-- an empty line spells nothing
nothing-spelled : (read : Option Input) → Spells [] read → read ≡ None
nothing-spelled read is = ok-same (sym (line-spelled [] read is) ∙ nothing-read)

last-spelled : (end : List ℕ) (before size : ℕ) (inputs : List Input) → SpellAll (end ∷ []) inputs → before + count_with [] end ≤ 100000 → size + length end ≤ 67108864 → inputs_of (end ∷ []) before size ≡ Ok inputs
last-spelled [] before size inputs (read, more, spells, all, none) few small =
    ap Ok (sym (all ∙ ap₂ (λ (x : Option Input) (y : List Input). option_to_list x ++ y) (nothing-spelled read spells) none))
last-spelled (byte ∷ bytes) before size inputs (read, more, spells, all, none) few small =
    then-again (before + 1) (limited before (size + length (byte ∷ bytes)) (byte ∷ bytes)) (Ok []) read []
    (limited-spelled before (size + length (byte ∷ bytes)) (byte ∷ bytes) read (omega (arith, few)) small spells) refl
    ∙ ap Ok (sym (all ∙ ap (λ (y : List Input). option_to_list read ++ y) none))

some-more : (lines : List (List ℕ)) (end : List ℕ) → is_empty (lines ++ end ∷ []) ≡ false
some-more [] end = refl
some-more (line ∷ lines) end = refl

lines-spelled : (lines : List (List ℕ)) (end : List ℕ) (before size : ℕ) (inputs : List Input) → SpellAll (lines ++ end ∷ []) inputs → before + count_with lines end ≤ 100000
    → size + length (flat_map fed lines ++ end) ≤ 67108864 → inputs_of (lines ++ end ∷ []) before size ≡ Ok inputs
lines-spelled [] end before size inputs is few small = last-spelled end before size inputs is few small
lines-spelled (line ∷ lines) end before size inputs (read, more, spells, all, behind) few small =
    let count = count-more line lines end in
    let a = length-append (fed line ++ flat_map fed lines) end in
    let b = length-append (fed line) (flat_map fed lines) in
    let d = length-append line (codes "\n") in
    let e = length-append (flat_map fed lines) end in
    more_lines line (lines ++ end ∷ []) before size (some-more lines end)
    ∙ then-again (before + 1) (limited before (size + (length line + 1)) line) (inputs_of (lines ++ end ∷ []) (before + 1) (size + (length line + 1))) read more
    (limited-spelled before (size + (length line + 1)) line read (omega (arith, few, count)) (omega (arith, small, a, b, d)) spells)
    (lines-spelled lines end (before + 1) (size + (length line + 1)) more behind (omega (arith, few, count)) (omega (arith, small, a, b, d, e)))
    ∙ ap Ok (sym all)

-- the inputs of the lines before the last one
before_last : (lines : List (List ℕ)) (end : List ℕ) (inputs : List Input) → SpellAll (lines ++ end ∷ []) inputs → (first : List Input) × SpellAll lines first × (list_all no_line_feed end ≡ true)
before_last [] end inputs (read, more, spells, all, none) = ([], refl, spelled-whole end read spells)
before_last (line ∷ lines) end inputs (read, more, spells, all, behind) =
    let (first, is, whole) = before_last lines end more behind in
    (option_to_list read ++ first, (read, first, spells, refl, is), whole)

pub script-spelled : (bytes : List ℕ) (inputs : List Input) → IsScript bytes inputs → script_of bytes ≡ Ok inputs
unfolding script_of
script-spelled bytes inputs is =
    let (first, are, whole) = before_last is.lines is.end inputs is.spelled in
    let size = ap length is.text in
    ap (λ (ps : List (List ℕ)). inputs_of ps 0 0) (ap (pieces 10) is.text ∙ cut-lines is.lines is.end first are ∙ ap (λ (z : List (List ℕ)). is.lines ++ z) (cut-last is.end whole))
    ∙ lines-spelled is.lines is.end 0 0 inputs is.spelled (omega (arith, is.few)) (omega (arith, is.small, size))

-- ---- the first fault

-- what stands behind a line with these pieces after it
abbrev pub after_of : List (List ℕ) → List ℕ
after_of [] = []
after_of (p ∷ ps) = 10 ∷ joined (p ∷ ps)

-- a line feed before further pieces
abbrev pub feeds : List (List ℕ) → ℕ
feeds [] = 0
feeds (p ∷ ps) = 1

pub record IsAt (ps : List (List ℕ)) (before size number : ℕ) (kind : LineKind) : Type 0 where
  pub lines : List (List ℕ)
  pub line : List ℕ
  pub rest : List (List ℕ)
  pub are : ps ≡ lines ++ line ∷ rest
  pub inputs : List Input
  pub spelled : SpellAll lines inputs
  pub few : before + length lines ≤ 100000
  pub small : size + length (flat_map fed lines) ≤ 67108864
  pub some : line ++ after_of rest ≢ []
  pub counted : number ≡ before + length lines + 1
  pub broken : BreaksAt (before + length lines) (size + length (flat_map fed lines) + (length line + feeds rest)) line kind

breaks-same : (a b c d : ℕ) (line : List ℕ) (kind : LineKind) → a ≡ b → c ≡ d → BreaksAt a c line kind → BreaksAt b d line kind
breaks-same a b c d line kind e f bad = subst (λ (n : ℕ). BreaksAt b n line kind) f (subst (λ (n : ℕ). BreaksAt n c line kind) e bad)

-- this line is at fault
fault-here : (line : List ℕ) (rest : List (List ℕ)) (before size number : ℕ) (kind k : LineKind) → before ≤ 100000 → size ≤ 67108864 → line ++ after_of rest ≢ []
    → limited before (size + (length line + feeds rest)) line ≡ Err k → ◌≡◌ {A = Met} (number, kind) (before + 1, k) → IsAt (line ∷ rest) before size number kind
fault-here line rest before size number kind k few small some is same =
    let count : number ≡ before + 1 = ap (λ (m : Met). m.0) same in
    let which : k ≡ kind = sym (ap (λ (m : Met). m.1) same) in
    record {
      lines = [];
      line = line;
      rest = rest;
      are = refl;
      inputs = [];
      spelled = refl;
      few = omega (arith, few);
      small = omega (arith, small);
      some = some;
      counted = omega (arith, count);
      broken = subst (λ (z : LineKind). BreaksAt (before + 0) (size + 0 + (length line + feeds rest)) line z) which
          (breaks-same before (before + 0) (size + (length line + feeds rest)) (size + 0 + (length line + feeds rest)) line k (omega arith) (omega arith) (limited-met before (size + (length line + feeds rest)) line k is));
    }

no-fault : {A : Type 0} (inputs : List Input) (met : Met) → ◌≡◌ {A = Result (List Input) Met} (Ok inputs) (Err met) → A
no-fault inputs met h = ok-err h

last-fault : (line : List ℕ) (before size number : ℕ) (kind : LineKind) → before ≤ 100000 → size ≤ 67108864 → inputs_of (line ∷ []) before size ≡ Err (number, kind) → IsAt (line ∷ []) before size number kind
last-fault [] before size number kind few small h = no-fault [] (number, kind) h
last-fault (byte ∷ bytes) before size number kind few small h =
    either (then-err (before + 1) (limited before (size + length (byte ∷ bytes)) (byte ∷ bytes)) (Ok []) (number, kind) h)
  where
    either : ((k : LineKind) × (limited before (size + length (byte ∷ bytes)) (byte ∷ bytes) ≡ Err k) × ◌≡◌ {A = Met} (number, kind) (before + 1, k)) ⊎ ((read : Option Input) × (limited before (size + length (byte ∷ bytes)) (byte ∷ bytes) ≡ Ok read) × ◌≡◌ {A = Result (List Input) Met} (Ok []) (Err (number, kind)))
        → IsAt ((byte ∷ bytes) ∷ []) before size number kind
    either (inl (k, is, same)) =
        let size_is : size + (length (byte ∷ bytes) + 0) ≡ size + length (byte ∷ bytes) = omega arith in
        fault-here (byte ∷ bytes) [] before size number kind k few small (λ e. absurd cc) (ap (λ (n : ℕ). limited before n (byte ∷ bytes)) size_is ∙ is) same
    either (inr (read, is, e)) = no-fault [] (number, kind) e

pub fault-at : (p : List ℕ) (ps : List (List ℕ)) (before size number : ℕ) (kind : LineKind) → before ≤ 100000 → size ≤ 67108864 → inputs_of (p ∷ ps) before size ≡ Err (number, kind) → IsAt (p ∷ ps) before size number kind
fault-at p [] before size number kind few small h = last-fault p before size number kind few small h
fault-at p (q ∷ qs) before size number kind few small h =
    either (λ less within g. fault-at q qs (before + 1) (size + (length p + 1)) number kind (omega (arith, less)) within g)
    (then-err (before + 1) (limited before (size + (length p + 1)) p) (inputs_of (q ∷ qs) (before + 1) (size + (length p + 1))) (number, kind) h)
  where
    filled : (line : List ℕ) → line ++ (10 ∷ joined (q ∷ qs)) ≢ []
    filled [] e = absurd cc
    filled (byte ∷ bytes) e = absurd cc

    either : (before < 100000 → size + (length p + 1) ≤ 67108864 → inputs_of (q ∷ qs) (before + 1) (size + (length p + 1)) ≡ Err (number, kind) → IsAt (q ∷ qs) (before + 1) (size + (length p + 1)) number kind)
        → ((k : LineKind) × (limited before (size + (length p + 1)) p ≡ Err k) × ◌≡◌ {A = Met} (number, kind) (before + 1, k)) ⊎ ((read : Option Input) × (limited before (size + (length p + 1)) p ≡ Ok read) × (inputs_of (q ∷ qs) (before + 1) (size + (length p + 1)) ≡ Err (number, kind)))
        → IsAt (p ∷ q ∷ qs) before size number kind
    either next (inl (k, is, same)) = fault-here p (q ∷ qs) before size number kind k few small (filled p) is same
    either next (inr (read, is, g)) =
        let (less, within, spells) = limited-read before (size + (length p + 1)) p read is in
        let at = next less within g in
        let a = length-append (fed p) (flat_map fed at.lines) in
        let b = length-append p (codes "\n") in
        record {
          lines = p ∷ at.lines;
          line = at.line;
          rest = at.rest;
          are = ap (λ (z : List (List ℕ)). p ∷ z) at.are;
          inputs = option_to_list read ++ at.inputs;
          spelled = (read, at.inputs, spells, refl, at.spelled);
          few = omega (arith, at.few);
          small = omega (arith, at.small, a, b);
          some = at.some;
          counted = omega (arith, at.counted);
          broken = breaks-same (before + 1 + length at.lines) (before + length (p ∷ at.lines)) (size + (length p + 1) + length (flat_map fed at.lines) + (length at.line + feeds at.rest))
              (size + length (flat_map fed (p ∷ at.lines)) + (length at.line + feeds at.rest)) at.line kind (omega arith) (omega (arith, a, b)) at.broken;
        }

joined-at : (lines : List (List ℕ)) (line : List ℕ) (rest : List (List ℕ)) → joined (lines ++ line ∷ rest) ≡ flat_map fed lines ++ (line ++ after_of rest)
joined-at [] line [] = sym (append-nil line)
joined-at [] line (r ∷ rs) = refl
joined-at (l ∷ []) line rest =
    ap (λ (z : List ℕ). l ++ (10 ∷ z)) (joined-at [] line rest)
    ∙ sym (append_assoc l (codes "\n") (line ++ after_of rest))
    ∙ ap (λ (z : List ℕ). z ++ (line ++ after_of rest)) (sym (append-nil (fed l)))
joined-at (l ∷ m ∷ ms) line rest =
    ap (λ (z : List ℕ). l ++ (10 ∷ z)) (joined-at (m ∷ ms) line rest)
    ∙ sym (append_assoc l (codes "\n") (flat_map fed (m ∷ ms) ++ (line ++ after_of rest)))
    ∙ sym (append_assoc (fed l) (flat_map fed (m ∷ ms)) (line ++ after_of rest))

whole-at : (lines : List (List ℕ)) (line : List ℕ) (rest : List (List ℕ)) → list_all (list_all no_line_feed) (lines ++ line ∷ rest) ≡ true → list_all no_line_feed line ≡ true
whole-at [] line rest h = (and_parts (list_all no_line_feed line) _ h).0
whole-at (l ∷ ls) line rest h = whole-at ls line rest (and_parts (list_all no_line_feed l) _ h).1

after-ends : (rest : List (List ℕ)) → is_line_end (after_of rest) ≡ true
after-ends [] = refl
after-ends (r ∷ rs) = refl

after-feeds : (rest : List (List ℕ)) → feeds rest ≡ feed_count (after_of rest)
after-feeds [] = refl
after-feeds (r ∷ rs) = refl

pub script-met : (bytes : List ℕ) (number : ℕ) (kind : LineKind) → script_of bytes ≡ Err (number, kind) → IsFirstFault bytes number kind
unfolding script_of
script-met bytes number kind h = by (pieces 10 bytes) (some_piece bytes) (joined-pieces bytes) (pieces-whole bytes) h
  where
    by : (ps : List (List ℕ)) → is_empty ps ≡ false → joined ps ≡ bytes → list_all (list_all no_line_feed) ps ≡ true → inputs_of ps 0 0 ≡ Err (number, kind) → IsFirstFault bytes number kind
    by [] e t w g = absurd cc
    by (p ∷ ps) e t w g =
        let at = fault-at p ps 0 0 number kind (omega arith) (omega arith) g in
        let size = length (flat_map fed at.lines) in
        let feed = after-feeds at.rest in
        record {
          lines = at.lines;
          line = at.line;
          after = after_of at.rest;
          text = sym t ∙ ap joined at.are ∙ joined-at at.lines at.line at.rest;
          inputs = at.inputs;
          spelled = at.spelled;
          few = omega (arith, at.few);
          small = omega (arith, at.small);
          whole = whole-at at.lines at.line at.rest (ap (list_all (list_all no_line_feed)) (sym at.are) ∙ w);
          ends = after-ends at.rest;
          some = at.some;
          counted = omega (arith, at.counted);
          broken = breaks-same (0 + length at.lines) (length at.lines) (0 + size + (length at.line + feeds at.rest)) (size + (length at.line + feed_count (after_of at.rest))) at.line kind (omega arith) (omega (arith, feed)) at.broken;
        }

-- ---- a first fault is reported

-- the pieces behind a line
abbrev tail_of : List ℕ → List (List ℕ)
tail_of [] = []
tail_of (byte ∷ bytes) = pieces 10 bytes

cut-at : (line after : List ℕ) → list_all no_line_feed line ≡ true → is_line_end after ≡ true → pieces 10 (line ++ after) ≡ line ∷ tail_of after
cut-at line [] whole ends = ap (pieces 10) (append-nil line) ∙ cut-last line whole
cut-at line (byte ∷ bytes) whole ends =
    ap (λ (x : ℕ). pieces 10 (line ++ (x ∷ bytes))) (same-byte byte 10 ends) ∙ cut-again line bytes whole

tail-feeds : (after : List ℕ) → feeds (tail_of after) ≡ feed_count after
tail-feeds [] = refl
tail-feeds (byte ∷ bytes) = by (pieces 10 bytes) (some_piece bytes)
  where
    by : (ps : List (List ℕ)) → is_empty ps ≡ false → feeds ps ≡ 1
    by [] h = absurd cc
    by (p ∷ ps) h = refl

-- a line at which nothing follows has a byte
tail-some : (line after : List ℕ) → line ++ after ≢ [] → tail_of after ≡ [] → line ≢ []
tail-some line [] some none e = some (ap (λ (z : List ℕ). z ++ []) e)
tail-some line (byte ∷ bytes) some none e = absurd (false≢true (sym (some_piece bytes) ∙ ap is_empty none))

met-here : (line : List ℕ) (rest : List (List ℕ)) (before size : ℕ) (kind : LineKind) → (rest ≡ [] → line ≢ []) → limited before (size + (length line + feeds rest)) line ≡ Err kind
    → inputs_of (line ∷ rest) before size ≡ Err (before + 1, kind)
met-here [] [] before size kind some is = absurd (some refl refl)
met-here (byte ∷ bytes) [] before size kind some is =
    let same : size + length (byte ∷ bytes) ≡ size + (length (byte ∷ bytes) + 0) = omega arith in
    ap (λ (r : Result (Option Input) LineKind). then_lines (before + 1) r (Ok [])) (ap (λ (n : ℕ). limited before n (byte ∷ bytes)) same ∙ is)
met-here line (r ∷ rs) before size kind some is =
    ap (λ (x : Result (Option Input) LineKind). then_lines (before + 1) x (inputs_of (r ∷ rs) (before + 1) (size + (length line + 1)))) is

some-behind : (lines : List (List ℕ)) (line : List ℕ) (rest : List (List ℕ)) → is_empty (lines ++ line ∷ rest) ≡ false
some-behind [] line rest = refl
some-behind (l ∷ ls) line rest = refl

at-fault : (lines : List (List ℕ)) (line : List ℕ) (rest : List (List ℕ)) (before size : ℕ) (inputs : List Input) (kind : LineKind) → SpellAll lines inputs → before + length lines ≤ 100000
    → size + length (flat_map fed lines) ≤ 67108864 → (rest ≡ [] → line ≢ []) → BreaksAt (before + length lines) (size + length (flat_map fed lines) + (length line + feeds rest)) line kind
    → inputs_of (lines ++ line ∷ rest) before size ≡ Err (before + length lines + 1, kind)
at-fault [] line rest before size inputs kind is few small some bad =
    met-here line rest before size kind some
    (limited-meets before (size + (length line + feeds rest)) line kind
    (breaks-same (before + 0) before (size + 0 + (length line + feeds rest)) (size + (length line + feeds rest)) line kind (omega arith) (omega arith) bad))
    ∙ ap (λ (n : ℕ). Err (n, kind)) (let same : before + 1 ≡ before + 0 + 1 = omega arith in same)
at-fault (l ∷ ls) line rest before size inputs kind (read, more, spells, all, behind) few small some bad =
    let a = length-append (fed l) (flat_map fed ls) in
    let b = length-append l (codes "\n") in
    let next = at-fault ls line rest (before + 1) (size + (length l + 1)) more kind behind (omega (arith, few)) (omega (arith, small, a, b)) some
    (breaks-same (before + length (l ∷ ls)) (before + 1 + length ls) (size + length (flat_map fed (l ∷ ls)) + (length line + feeds rest)) (size + (length l + 1) + length (flat_map fed ls) + (length line + feeds rest)) line kind
    (omega arith) (omega (arith, a, b)) bad) in
    let first = limited-spelled before (size + (length l + 1)) l read (omega (arith, few)) (omega (arith, small, a, b)) spells in
    more_lines l (ls ++ line ∷ rest) before size (some-behind ls line rest)
    ∙ ap₂ (λ (x : Result (Option Input) LineKind) (y : Result (List Input) Met). then_lines (before + 1) x y) first next
    ∙ ap (λ (n : ℕ). Err (n, kind)) (let same : before + 1 + length ls + 1 ≡ before + length (l ∷ ls) + 1 = omega arith in same)

pub script-meets : (bytes : List ℕ) (number : ℕ) (kind : LineKind) → IsFirstFault bytes number kind → script_of bytes ≡ Err (number, kind)
unfolding script_of
script-meets bytes number kind is =
    let size = length (flat_map fed is.lines) in
    let feed = tail-feeds is.after in
    ap (λ (ps : List (List ℕ)). inputs_of ps 0 0)
    (ap (pieces 10) is.text ∙ cut-lines is.lines (is.line ++ is.after) is.inputs is.spelled ∙ ap (λ (z : List (List ℕ)). is.lines ++ z) (cut-at is.line is.after is.whole is.ends))
    ∙ at-fault is.lines is.line (tail_of is.after) 0 0 is.inputs kind is.spelled (omega (arith, is.few)) (omega (arith, is.small)) (tail-some is.line is.after is.some)
    (breaks-same (length is.lines) (0 + length is.lines) (size + (length is.line + feed_count is.after)) (0 + size + (length is.line + feeds (tail_of is.after))) is.line kind (omega arith) (omega (arith, feed)) is.broken)
    ∙ ap (λ (n : ℕ). Err (n, kind)) (let same : 0 + length is.lines + 1 ≡ number = omega (arith, is.counted) in same)

pub scripts-read : ScriptsAreRead
scripts-read bytes = (λ inputs. (script-read bytes inputs, script-spelled bytes inputs), λ number kind. (script-met bytes number kind, script-meets bytes number kind))

-- ---- the clauses of the call

abbrev pub Given : Result Track ScriptFault → Result (List Input) Met → Type 0
Given = Gives {R = Track} {A = List Input} (λ track. track.inputs) told

pub clause-found : (bytes : List ℕ) (result : Result Track ScriptFault) → Given result (script_of bytes) → IfOk result (λ track. IsScript bytes track.inputs)
clause-found bytes (Ok track) gives = script-read bytes track.inputs gives
clause-found bytes (Err fault) gives = tt

pub clause-only : (bytes : List ℕ) (result : Result Track ScriptFault) → Given result (script_of bytes) → (inputs : List Input) → IsScript bytes inputs → Given result (Ok inputs)
clause-only bytes result gives inputs is = subst (Given result) (script-spelled bytes inputs is) gives

pub clause-fault : (bytes : List ℕ) (result : Result Track ScriptFault) → Given result (script_of bytes) → IfErr result (λ fault. IsFaultOf bytes fault)
clause-fault bytes (Ok track) gives = tt
clause-fault bytes (Err (Line line kind)) gives = script-met bytes line kind gives
clause-fault bytes (Err NoMemory) gives = tt

pub clause-refused : (bytes : List ℕ) (result : Result Track ScriptFault) → Given result (script_of bytes) → (line : ℕ) (kind : LineKind) → IsFirstFault bytes line kind → Given result (Err (line, kind))
clause-refused bytes result gives line kind is = subst (Given result) (script-meets bytes line kind is) gives
