-- The text of a cell, as it is held.
use Rattle.std.proofs.Common.{◌≡◌, ◌≤◌, ◌+◌, ◌==◌, ℕ, List, [], ◌∷◌, ◌++◌, length, Bool, true, false, refl, arith, ap, sym, ◌∙◌, ◌&&◌, cond, nat_lt, append_assoc, append-nil, length-append}
use Rattle.std.proofs.lemmas.Bool.{and_parts, le-ltb, ltb-false, eqb-true}
use Rattle.std.proofs.lemmas.List.Recursion.{is_count_by}
use Rattle.std.proofs.lemmas.Str.{IsUtf8-from_is_utf8, chars-encodes, chars-nil, encodes-append, length-encode, len_utf8_bounds}
use Rattle.std.specs.Char.{is_control}
use Rattle.std.specs.List.{list_any, list_all}
use Rattle.std.specs.Str.{chars}
use mathlib.Core.Logic.{◌⊎◌, inl, inr}
use lib.Utf8.{scalar, scalars, encode, encodes}
use Rattle.tx_cell.proofs.lemmas.MadeCells.{IsMade-own}
use Rattle.tx_cell.specs.Cell.{CellValue, IsMade, IsOfItsText, joins_plain}
use Rattle.tx_cell.specs.Plain.{begins_plain, is_plain}
use Rattle.tx_term.proofs.CanvasLemmas.{held-put_held}
use Rattle.tx_term.proofs.FeedLemmas.{put_held-nothing}
use Rattle.tx_term.proofs.TextLemmas.{with_characters, fed-encodes}
use Rattle.tx_term.specs.Canvas.{CanvasValue, put_held, with_character, joined_by}
use Rattle.tx_term.specs.Machine.{Machine, fed}
use Rattle.tx_term.specs.Update.{is_plain_cell}

-- ---- one character

chars-encode : (c : ℕ) → scalar c ≡ true → chars (encode c) ≡ c ∷ []
chars-encode c is = ap chars (sym (append-nil (encode c))) ∙ chars-encodes (c ∷ []) (ap (λ b. b && true) is)

short-encode : (c : ℕ) → length (encode c) ≤ 4
short-encode c = omega (arith, length-encode c, (len_utf8_bounds c).1)

-- a character joins
joined-here : (canvas : CanvasValue) (character : List ℕ) → length canvas.held + length character ≤ 32
    → joined_by character canvas ≡ record canvas { held = canvas.held ++ character }
joined-here canvas character room = rw (le-ltb 32 (length canvas.held + length character) room) refl

joins : (canvas : CanvasValue) (character : List ℕ) → (begins_plain (chars canvas.held) && begins_plain (chars character)) ≡ false
    → length canvas.held + length character ≤ 32
    → with_character character canvas ≡ record canvas { held = canvas.held ++ character }
unfolding with_character
joins canvas character apart room =
    ap (λ b. joined_by character (cond b (put_held canvas) canvas)) apart ∙ joined-here canvas character room

-- or begins another cell
begins : (canvas : CanvasValue) (character : List ℕ) → begins_plain (chars canvas.held) ≡ true → begins_plain (chars character) ≡ true → length character ≤ 32
    → with_character character canvas ≡ record (put_held canvas) { held = character }
unfolding with_character
begins canvas character held here short =
    ap (λ b. joined_by character (cond (b && begins_plain (chars character)) (put_held canvas) canvas)) held
    ∙ ap (λ b. joined_by character (cond b (put_held canvas) canvas)) here
    ∙ joined-here (put_held canvas) character (omega (arith, ap length (held-put_held canvas)))
    ∙ ap (λ h. record (put_held canvas) { held = h ++ character }) (held-put_held canvas)

-- ---- many

-- how many are plain
abbrev plain_count : List ℕ → ℕ
plain_count [] = 0
plain_count (c ∷ cs) = cond (is_plain c) (1 + plain_count cs) (plain_count cs)

-- no character behind the first one is plain, where that is
abbrev IsApart : ℕ → List ℕ → Type 0
IsApart first cs = is_plain first ≡ true → plain_count cs ≡ 0

apart-head : (first c : ℕ) (cs : List ℕ) (plain here : Bool) → is_plain first ≡ plain → is_plain c ≡ here → IsApart first (c ∷ cs) → (plain && here) ≡ false
apart-head first c cs true true is is_here apart =
    absurd (let none : 1 + plain_count cs ≡ 0 = ap (λ b. cond b (1 + plain_count cs) (plain_count cs)) (sym is_here) ∙ apart is in omega (arith, none))
apart-head first c cs true false is is_here apart = refl
apart-head first c cs false here is is_here apart = refl

none_by : (n : ℕ) (here : Bool) → cond here (1 + n) n ≡ 0 → n ≡ 0
none_by n true e = absurd (omega (arith, e))
none_by n false e = e

apart-rest : (first c : ℕ) (cs : List ℕ) → IsApart first (c ∷ cs) → IsApart first cs
apart-rest first c cs apart = λ is. none_by (plain_count cs) (is_plain c) (apart is)

apart_by : (c : ℕ) (cs : List ℕ) (many : Bool) → nat_lt 1 (plain_count (c ∷ cs)) ≡ many → (is_plain c && many) ≡ false → IsApart c cs
apart_by c cs true is apart = λ plain. absurd (let yes : (is_plain c && true) ≡ true = ap (λ b. b && true) plain in cc)
apart_by c cs false is apart = λ plain.
    let few : plain_count (c ∷ cs) ≤ 1 = ltb-false 1 _ is in
    let one : plain_count (c ∷ cs) ≡ 1 + plain_count cs = ap (λ b. cond b (1 + plain_count cs) (plain_count cs)) plain in
    omega (arith, few, one)

apart_from : (c : ℕ) (cs : List ℕ) → joins_plain (c ∷ cs) ≡ false → IsApart c cs
apart_from c cs apart =
    apart_by c cs _ refl (ap (λ n. is_plain c && nat_lt 1 n) (is_count_by plain_count is_plain refl (λ x xs. refl) (c ∷ cs)) ∙ apart)

scalars-more : (cs : List ℕ) (c : ℕ) → scalars cs ≡ true → scalar c ≡ true → scalars (cs ++ c ∷ []) ≡ true
scalars-more [] c are is = ap (λ b. b && true) is
scalars-more (x ∷ cs) c are is = ap (λ b. b && scalars (cs ++ c ∷ [])) (and_parts _ _ are).0 ∙ scalars-more cs c (and_parts _ _ are).1 is

text-grows : (first : ℕ) (done cs : List ℕ) (canvas : CanvasValue) → canvas.held ≡ encodes (first ∷ done) → scalars (first ∷ done) ≡ true → scalars cs ≡ true
    → IsApart first cs → length (encodes (first ∷ done)) + length (encodes cs) ≤ 32
    → with_characters cs canvas ≡ record canvas { held = encodes (first ∷ done) ++ encodes cs }
text-grows first done [] canvas held are more apart room = ap (λ h. record canvas { held = h }) (held ∙ sym (append-nil (encodes (first ∷ done))))
text-grows first done (c ∷ cs) canvas held are more apart room =
    let text = encodes (first ∷ done) in
    let scalar_c = (and_parts _ _ more).0 in
    let longer : text ++ encode c ≡ encodes (first ∷ (done ++ c ∷ [])) =
    ap (λ e. text ++ e) (sym (append-nil (encode c))) ∙ sym (encodes-append (first ∷ done) (c ∷ [])) in
    let plain_held : begins_plain (chars canvas.held) ≡ is_plain first = ap (λ t. begins_plain (chars t)) held ∙ ap begins_plain (chars-encodes (first ∷ done) are) in
    let plain_here : begins_plain (chars (encode c)) ≡ is_plain c = ap begins_plain (chars-encode c scalar_c) in
    let none : (begins_plain (chars canvas.held) && begins_plain (chars (encode c))) ≡ false =
    ap (λ b. b && begins_plain (chars (encode c))) plain_held ∙ ap (λ b. is_plain first && b) plain_here ∙ apart-head first c cs _ _ refl refl apart in
    let sizes : length (encodes (c ∷ cs)) ≡ length (encode c) + length (encodes cs) = length-append (encode c) (encodes cs) in
    let long : length canvas.held ≡ length text = ap length held in
    let next = record canvas { held = encodes (first ∷ (done ++ c ∷ [])) } in
    ap (with_characters cs) (joins canvas (encode c) none (omega arith) ∙ ap (λ h. record canvas { held = h ++ encode c }) held ∙ ap (λ h. record canvas { held = h }) longer)
    ∙ text-grows first (done ++ c ∷ []) cs next refl (scalars-more (first ∷ done) c are scalar_c) (and_parts _ _ more).1 (apart-rest first c cs apart)
    (omega (arith, ap length (sym longer), length-append text (encode c)))
    ∙ ap (λ h. record canvas { held = h }) (ap (λ t. t ++ encodes cs) (sym longer) ∙ append_assoc text (encode c) (encodes cs))

-- the text of a cell behind a move, a pen, or the start
text-held : (cs : List ℕ) (canvas : CanvasValue) → canvas.held ≡ [] → scalars cs ≡ true → joins_plain cs ≡ false → length (encodes cs) ≤ 32
    → with_characters cs canvas ≡ record canvas { held = encodes cs }
text-held [] canvas nothing are apart room = ap (λ h. record canvas { held = h }) nothing
text-held (c ∷ cs) canvas nothing are apart room =
    let none : (begins_plain (chars canvas.held) && begins_plain (chars (encode c))) ≡ false =
    ap (λ t. begins_plain (chars t) && begins_plain (chars (encode c))) nothing ∙ ap (λ l. begins_plain l && begins_plain (chars (encode c))) chars-nil in
    let sizes : length (encodes (c ∷ cs)) ≡ length (encode c) + length (encodes cs) = length-append (encode c) (encodes cs) in
    let alone : encode c ≡ encodes (c ∷ []) = sym (append-nil (encode c)) in
    let next = record canvas { held = encodes (c ∷ []) } in
    ap (with_characters cs) (joins canvas (encode c) none (omega (arith, short-encode c, ap length nothing)) ∙ ap (λ h. record canvas { held = h ++ encode c }) nothing ∙ ap (λ h. record canvas { held = h }) alone)
    ∙ text-grows c [] cs next refl (ap (λ b. b && true) (and_parts _ _ are).0) (and_parts _ _ are).1 (apart_from c cs apart) (omega (arith, ap length alone))
    ∙ ap (λ h. record canvas { held = h ++ encodes cs }) (sym alone)

-- ---- the text of a cell

-- what is held lets the text of this cell begin anew: nothing, or a plain character before a plain one
abbrev pub LetsBegin : List ℕ → CellValue → Type 0
LetsBegin held cell = (held ≡ []) ⊎ ((begins_plain (chars held) ≡ true) × (is_plain_cell cell ≡ true))

plain_text : (cs : List ℕ) (canvas : CanvasValue) (one : Bool) → (length cs == 1) ≡ one → (one && list_all is_plain cs) ≡ true → scalars cs ≡ true → begins_plain (chars canvas.held) ≡ true
    → with_characters cs canvas ≡ record (put_held canvas) { held = encodes cs }
plain_text cs canvas false is plain are held = cc
plain_text [] canvas true is plain are held = cc
plain_text (c ∷ d ∷ cs) canvas true is plain are held = absurd (let one : length (c ∷ d ∷ cs) ≡ 1 = eqb-true _ _ is in omega (arith, one))
plain_text (c ∷ []) canvas true is plain are held =
    let here : begins_plain (chars (encode c)) ≡ true = ap begins_plain (chars-encode c (and_parts _ _ are).0) ∙ (and_parts _ _ plain).0 in
    begins canvas (encode c) held here (omega (arith, short-encode c)) ∙ ap (λ h. record (put_held canvas) { held = h }) (sym (append-nil (encode c)))

cell_text : (cs : List ℕ) (cell : CellValue) (canvas : CanvasValue) → encodes cs ≡ cell.text → scalars cs ≡ true → IsMade cell.pen cell → LetsBegin canvas.held cell
    → with_characters cs canvas ≡ record (put_held canvas) { held = cell.text }
unfolding is_plain_cell
cell_text cs cell canvas is are made (inl nothing) =
    let characters : chars cell.text ≡ cs = ap chars (sym is) ∙ chars-encodes cs are in
    text-held cs canvas nothing are (ap joins_plain (sym characters) ∙ made.apart) (omega (arith, ap length is, made.short))
    ∙ ap (λ h. record canvas { held = h }) is
    ∙ ap (λ (c : CanvasValue). record c { held = cell.text }) (sym (put_held-nothing canvas nothing))
cell_text cs cell canvas is are made (inr plain) =
    let characters : chars cell.text ≡ cs = ap chars (sym is) ∙ chars-encodes cs are in
    plain_text cs canvas (length cs == 1) refl (ap (λ l. (length l == 1) && list_all is_plain l) (sym characters) ∙ plain.1) are plain.0
    ∙ ap (λ h. record (put_held canvas) { held = h }) is

-- the text of a cell, as it is read
pub fed-cell_text : (machine : Machine) (cell : CellValue) → machine.unfinished ≡ [] → IsOfItsText cell → LetsBegin machine.canvas.held cell
    → fed machine cell.text ≡ record machine { canvas = record (put_held machine.canvas) { held = cell.text }; unfinished = [] }
fed-cell_text machine cell ready own lets =
    let made = IsMade-own cell own in
    let utf8 = IsUtf8-from_is_utf8 cell.text own.utf8 in
    let cs = utf8.0 in
    let are : scalars cs ≡ true = utf8.1.0 in
    let is : encodes cs ≡ cell.text = utf8.1.1 in
    let characters : chars cell.text ≡ cs = ap chars (sym is) ∙ chars-encodes cs are in
    ap (fed machine) (sym is)
    ∙ fed-encodes cs machine ready are (ap (list_any is_control) (sym characters) ∙ made.shown)
    ∙ ap (λ c. record machine { canvas = c; unfinished = [] }) (cell_text cs cell machine.canvas is are made lets)
