-- Characters and texts, as they are read.
use Rattle.std.proofs.Common.{◌≡◌, ◌≢◌, ◌≤◌, ◌<◌, ◌+◌, ◌/◌, ◌%◌, ◌==◌, ℕ, List, [], ◌∷◌, Bool, true, false, refl, arith, ap, ◌∙◌, ◌||◌, cond, nat_le, nat_lt, subst}
use Rattle.std.proofs.lemmas.Bool.{and_parts, or_from, or_parts, leb-true, leb-false, le-ltb, ltb-true, ltb-false, ne_eqb, eqb-true}
use Rattle.std.proofs.lemmas.Str.{IsUtf8-encode, is_utf8-from_IsUtf8}
use Rattle.std.specs.Char.{is_control}
use Rattle.std.specs.Int.{is_in_range}
use Rattle.std.specs.List.{list_any}
use Rattle.std.specs.Str.{is_utf8, chars}
use Rattle.std.specs.Str.Lossy.{utf8_valid_len, utf8_error_len, second_byte_min, second_byte_max}
use mathlib.Core.Logic.{⊎_elim}
use lib.Utf8.{scalar, scalars, encode, encodes, scalar_cases}
use Rattle.tx_term.proofs.FeedLemmas.{fed-append, fed-cons, fed-nothing, within}
use Rattle.tx_term.proofs.MachineLemmas.{with_bytes-whole, with_bytes-cut}
use Rattle.tx_term.specs.Canvas.{CanvasValue, with_character}
use Rattle.tx_term.specs.Machine.{Machine, fed, step, stage_of, longer_by, is_control_byte, is_cut, with_bytes}
use Rattle.tx_term.specs.declared.machine.unfinished.Stage.TheVariants.{InText}

-- ---- bytes that are no text yet

-- the first byte of a longer character alone
alone_by : (b : ℕ) (two three : Bool) → nat_lt b 128 ≡ false → nat_lt b 224 ≡ two → nat_lt b 240 ≡ three → is_utf8 (b ∷ []) ≡ false
unfolding is_utf8 chars
alone_by b true three past one two = rw (past, one) refl
alone_by b false true past one two = rw (past, one, two) refl
alone_by b false false past one two = rw (past, one, two) refl

alone : (b : ℕ) → 128 ≤ b → is_utf8 (b ∷ []) ≡ false
alone b high = alone_by b (nat_lt b 224) (nat_lt b 240) (le-ltb b 128 high) refl refl

-- two bytes of a character of three or four
two_by : (b c : ℕ) (three : Bool) → nat_lt b 128 ≡ false → nat_lt b 224 ≡ false → nat_lt b 240 ≡ three → is_utf8 (b ∷ c ∷ []) ≡ false
unfolding is_utf8 chars
two_by b c true past one two = rw (past, one, two) refl
two_by b c false past one two = rw (past, one, two) refl

two : (b c : ℕ) → 224 ≤ b → is_utf8 (b ∷ c ∷ []) ≡ false
two b c high = two_by b c (nat_lt b 240) (le-ltb b 128 (omega arith)) (le-ltb b 224 high) refl

-- three bytes of a character of four
three : (b c d : ℕ) → 240 ≤ b → is_utf8 (b ∷ c ∷ d ∷ []) ≡ false
unfolding is_utf8 chars
three b c d high = rw (le-ltb b 128 (omega (arith, high)), le-ltb b 224 (omega (arith, high)), le-ltb b 240 high) refl

-- ---- they are the beginning of a character

cut_one : (b : ℕ) → is_utf8 (b ∷ []) ≡ false → is_in_range 0xC2 0xF4 b ≡ true → is_cut (b ∷ []) ≡ true
unfolding utf8_valid_len utf8_error_len
cut_one b no_text lead = rw (no_text, lead) refl

cut_two : (b c : ℕ) → is_utf8 (b ∷ []) ≡ false → is_utf8 (b ∷ c ∷ []) ≡ false → is_in_range 0xC2 0xF4 b ≡ true
    → is_in_range (second_byte_min b) (second_byte_max b) c ≡ true → is_cut (b ∷ c ∷ []) ≡ true
unfolding utf8_valid_len utf8_error_len
cut_two b c one no_text lead second = rw (one, no_text, lead, second) refl

cut_three : (b c d : ℕ) → is_utf8 (b ∷ []) ≡ false → is_utf8 (b ∷ c ∷ []) ≡ false → is_utf8 (b ∷ c ∷ d ∷ []) ≡ false → is_in_range 0xC2 0xF4 b ≡ true
    → is_in_range (second_byte_min b) (second_byte_max b) c ≡ true → is_in_range 0x80 0xBF d ≡ true → is_cut (b ∷ c ∷ d ∷ []) ≡ true
unfolding utf8_valid_len utf8_error_len
cut_three b c d one both no_text lead second third = rw (one, both, no_text, lead, second, third) refl

least_by : (x b : ℕ) (first second : Bool) → (x == 0xE0) ≡ first → (x == 0xF0) ≡ second → (x ≡ 0xE0 → 0xA0 ≤ b) → (x ≡ 0xF0 → 0x90 ≤ b) → 0x80 ≤ b
    → cond first 0xA0 (cond second 0x90 0x80) ≤ b
least_by x b true second is also e f low = e (eqb-true _ _ is)
least_by x b false true is also e f low = f (eqb-true _ _ also)
least_by x b false false is also e f low = low

most_by : (x b : ℕ) (first second : Bool) → (x == 0xED) ≡ first → (x == 0xF4) ≡ second → (x ≡ 0xED → b ≤ 0x9F) → (x ≡ 0xF4 → b ≤ 0x8F) → b ≤ 0xBF
    → b ≤ cond first 0x9F (cond second 0x8F 0xBF)
most_by x b true second is also e f high = e (eqb-true _ _ is)
most_by x b false true is also e f high = f (eqb-true _ _ also)
most_by x b false false is also e f high = high

second_fits : (x b : ℕ) → (x ≡ 0xE0 → 0xA0 ≤ b) → (x ≡ 0xF0 → 0x90 ≤ b) → 0x80 ≤ b → (x ≡ 0xED → b ≤ 0x9F) → (x ≡ 0xF4 → b ≤ 0x8F) → b ≤ 0xBF
    → is_in_range (second_byte_min x) (second_byte_max x) b ≡ true
second_fits x b e0 f0 low ed f4 high = within _ _ b (least_by x b _ _ refl refl e0 f0 low) (most_by x b _ _ refl refl ed f4 high)

-- ---- a byte of text

step-text : (machine : Machine) (byte : ℕ) → stage_of machine.unfinished ≡ InText → 32 ≤ byte → byte ≢ 127
    → step machine byte ≡ with_bytes (longer_by machine.unfinished byte) machine (with_bytes (byte ∷ []) machine (record machine { unfinished = [] }))
unfolding step
step-text machine byte stage high no_delete =
    let no_escape : (byte == 27) ≡ false = ne_eqb byte 27 (λ same. absurd (omega arith)) in
    let no_cancel : (byte == 24) ≡ false = ne_eqb byte 24 (λ same. absurd (omega arith)) in
    let shown : is_control_byte byte ≡ false = or_from (nat_lt byte 0x20) (byte == 0x7F) (le-ltb byte 32 high) (ne_eqb byte 127 no_delete) in
    rw (no_escape, no_cancel, stage, shown) refl

-- a byte with which a character is whole
step-whole : (machine : Machine) (byte : ℕ) (bytes : List ℕ) → stage_of machine.unfinished ≡ InText → 32 ≤ byte → byte ≢ 127
    → longer_by machine.unfinished byte ≡ bytes → is_utf8 bytes ≡ true
    → step machine byte ≡ record machine { canvas = with_character bytes machine.canvas; unfinished = [] }
step-whole machine byte bytes stage high no_delete longer whole =
    step-text machine byte stage high no_delete
    ∙ ap (λ l. with_bytes l machine (with_bytes (byte ∷ []) machine (record machine { unfinished = [] }))) longer
    ∙ with_bytes-whole bytes machine _ whole

-- a byte with which it is longer
step-cut : (machine : Machine) (byte : ℕ) (bytes : List ℕ) → stage_of machine.unfinished ≡ InText → 32 ≤ byte → byte ≢ 127
    → longer_by machine.unfinished byte ≡ bytes → is_utf8 bytes ≡ false → is_cut bytes ≡ true
    → step machine byte ≡ record machine { unfinished = bytes }
step-cut machine byte bytes stage high no_delete longer no_text cut =
    step-text machine byte stage high no_delete
    ∙ ap (λ l. with_bytes l machine (with_bytes (byte ∷ []) machine (record machine { unfinished = [] }))) longer
    ∙ with_bytes-cut bytes machine _ no_text cut

stage_one : (b : ℕ) → 32 ≤ b → stage_of (b ∷ []) ≡ InText
stage_one b high = rw (ne_eqb b 27 (λ same. absurd (omega arith))) refl

stage_more : (b c : ℕ) (rest : List ℕ) → 32 ≤ b → stage_of (b ∷ c ∷ rest) ≡ InText
stage_more b c rest high = rw (ne_eqb b 27 (λ same. absurd (omega arith))) refl

-- the machine with unfinished bytes
abbrev begun : Machine → List ℕ → Machine
begun machine bytes = record machine { unfinished = bytes }

abbrev taken : Machine → List ℕ → Machine
taken machine bytes = record machine { canvas = with_character bytes machine.canvas; unfinished = [] }

fed-one : (machine : Machine) (a : ℕ) → machine.unfinished ≡ [] → 32 ≤ a → a ≢ 127 → is_utf8 (a ∷ []) ≡ true
    → fed machine (a ∷ []) ≡ taken machine (a ∷ [])
fed-one machine a ready high no_delete whole =
    fed-cons machine a [] ∙ fed-nothing (step machine a)
    ∙ step-whole machine a (a ∷ []) (ap stage_of ready) high no_delete (ap (λ u. longer_by u a) ready) whole

fed-two : (machine : Machine) (a b : ℕ) → machine.unfinished ≡ [] → 128 ≤ a → 128 ≤ b → is_in_range 0xC2 0xF4 a ≡ true → is_utf8 (a ∷ b ∷ []) ≡ true
    → fed machine (a ∷ b ∷ []) ≡ taken machine (a ∷ b ∷ [])
fed-two machine a b ready high_a high_b lead whole =
    let m1 = begun machine (a ∷ []) in
    fed-cons machine a (b ∷ [])
    ∙ ap (λ m. fed m (b ∷ [])) (step-cut machine a (a ∷ []) (ap stage_of ready) (omega arith) (λ same. absurd (omega arith)) (ap (λ u. longer_by u a) ready) (alone a high_a) (cut_one a (alone a high_a) lead))
    ∙ fed-cons m1 b [] ∙ fed-nothing (step m1 b)
    ∙ step-whole m1 b (a ∷ b ∷ []) (stage_one a (omega arith)) (omega arith) (λ same. absurd (omega arith)) refl whole

fed-three : (machine : Machine) (a b c : ℕ) → machine.unfinished ≡ [] → 224 ≤ a → 128 ≤ b → 128 ≤ c → is_in_range 0xC2 0xF4 a ≡ true
    → is_in_range (second_byte_min a) (second_byte_max a) b ≡ true → is_utf8 (a ∷ b ∷ c ∷ []) ≡ true
    → fed machine (a ∷ b ∷ c ∷ []) ≡ taken machine (a ∷ b ∷ c ∷ [])
fed-three machine a b c ready high_a high_b high_c lead second whole =
    let m1 = begun machine (a ∷ []) in
    let m2 = begun machine (a ∷ b ∷ []) in
    let one = alone a (omega arith) in
    let both = two a b high_a in
    fed-cons machine a (b ∷ c ∷ [])
    ∙ ap (λ m. fed m (b ∷ c ∷ [])) (step-cut machine a (a ∷ []) (ap stage_of ready) (omega arith) (λ same. absurd (omega arith)) (ap (λ u. longer_by u a) ready) one (cut_one a one lead))
    ∙ fed-cons m1 b (c ∷ [])
    ∙ ap (λ m. fed m (c ∷ [])) (step-cut m1 b (a ∷ b ∷ []) (stage_one a (omega arith)) (omega arith) (λ same. absurd (omega arith)) refl both (cut_two a b one both lead second))
    ∙ fed-cons m2 c [] ∙ fed-nothing (step m2 c)
    ∙ step-whole m2 c (a ∷ b ∷ c ∷ []) (stage_more a b [] (omega arith)) (omega arith) (λ same. absurd (omega arith)) refl whole

fed-four : (machine : Machine) (a b c d : ℕ) → machine.unfinished ≡ [] → 240 ≤ a → 128 ≤ b → is_in_range 0x80 0xBF c ≡ true → 128 ≤ c → 128 ≤ d → is_in_range 0xC2 0xF4 a ≡ true
    → is_in_range (second_byte_min a) (second_byte_max a) b ≡ true → is_utf8 (a ∷ b ∷ c ∷ d ∷ []) ≡ true
    → fed machine (a ∷ b ∷ c ∷ d ∷ []) ≡ taken machine (a ∷ b ∷ c ∷ d ∷ [])
fed-four machine a b c d ready high_a high_b third high_c high_d lead second whole =
    let m1 = begun machine (a ∷ []) in
    let m2 = begun machine (a ∷ b ∷ []) in
    let m3 = begun machine (a ∷ b ∷ c ∷ []) in
    let one = alone a (omega arith) in
    let both = two a b (omega arith) in
    let all = three a b c high_a in
    fed-cons machine a (b ∷ c ∷ d ∷ [])
    ∙ ap (λ m. fed m (b ∷ c ∷ d ∷ [])) (step-cut machine a (a ∷ []) (ap stage_of ready) (omega arith) (λ same. absurd (omega arith)) (ap (λ u. longer_by u a) ready) one (cut_one a one lead))
    ∙ fed-cons m1 b (c ∷ d ∷ [])
    ∙ ap (λ m. fed m (c ∷ d ∷ [])) (step-cut m1 b (a ∷ b ∷ []) (stage_one a (omega arith)) (omega arith) (λ same. absurd (omega arith)) refl both (cut_two a b one both lead second))
    ∙ fed-cons m2 c (d ∷ [])
    ∙ ap (λ m. fed m (d ∷ [])) (step-cut m2 c (a ∷ b ∷ c ∷ []) (stage_more a b [] (omega arith)) (omega arith) (λ same. absurd (omega arith)) refl all (cut_three a b c one both all lead second third))
    ∙ fed-cons m3 d [] ∙ fed-nothing (step m3 d)
    ∙ step-whole m3 d (a ∷ b ∷ c ∷ d ∷ []) (stage_more a b (c ∷ []) (omega arith)) (omega arith) (λ same. absurd (omega arith)) refl whole

-- ---- a character

encode_utf8 : (c : ℕ) → scalar c ≡ true → is_utf8 (encode c) ≡ true
encode_utf8 c is = is_utf8-from_IsUtf8 (encode c) (IsUtf8-encode c is)

below_all : (c : ℕ) → scalar c ≡ true → c < 1114112
below_all c is = ⊎_elim (λ low. omega arith) (λ high. omega (arith, high.1)) (scalar_cases c is)

below_surrogates : (c : ℕ) → scalar c ≡ true → c / 4096 ≡ 13 → 128 + c / 64 % 64 ≤ 0x9F
below_surrogates c is same = ⊎_elim (λ low. omega arith) (λ high. absurd (omega (arith, high.0))) (scalar_cases c is)

fed-encode_by : (machine : Machine) (c : ℕ) (ascii short middle : Bool) → nat_lt c 128 ≡ ascii → nat_lt c 2048 ≡ short → nat_lt c 65536 ≡ middle
    → machine.unfinished ≡ [] → scalar c ≡ true → 32 ≤ c → c ≢ 127
    → fed machine (encode c) ≡ taken machine (encode c)
unfolding encode
fed-encode_by machine c true short middle is1 is2 is3 ready is high no_delete =
    let whole = encode_utf8 c is in
    rw is1 (fed-one machine c ready high no_delete (rw is1 at whole))
fed-encode_by machine c false true middle is1 is2 is3 ready is high no_delete =
    let whole = encode_utf8 c is in
    let low = ltb-false c 128 is1 in
    let top = ltb-true c 2048 is2 in
    rw (is1, is2) (fed-two machine (192 + c / 64) (128 + c % 64) ready (omega arith) (omega arith) (within 0xC2 0xF4 (192 + c / 64) (omega arith) (omega arith)) (rw (is1, is2) at whole))
fed-encode_by machine c false false true is1 is2 is3 ready is high no_delete =
    let whole = encode_utf8 c is in
    let low = ltb-false c 2048 is2 in
    let top = ltb-true c 65536 is3 in
    rw (is1, is2, is3) (fed-three machine (224 + c / 4096) (128 + c / 64 % 64) (128 + c % 64) ready (omega arith) (omega arith) (omega arith) (within 0xC2 0xF4 (224 + c / 4096) (omega arith) (omega arith))
    (second_fits (224 + c / 4096) (128 + c / 64 % 64) (λ same. omega arith) (λ same. absurd (omega arith)) (omega arith) (λ same. below_surrogates c is (omega arith)) (λ same. absurd (omega arith)) (omega arith)) (rw (is1, is2, is3) at whole))
fed-encode_by machine c false false false is1 is2 is3 ready is high no_delete =
    let whole = encode_utf8 c is in
    let low = ltb-false c 65536 is3 in
    let top : c < 1114112 = below_all c is in
    rw (is1, is2, is3) (fed-four machine (240 + c / 262144) (128 + c / 4096 % 64) (128 + c / 64 % 64) (128 + c % 64) ready (omega arith) (omega arith) (within 0x80 0xBF (128 + c / 64 % 64) (omega arith) (omega arith)) (omega arith) (omega arith) (within 0xC2 0xF4 (240 + c / 262144) (omega arith) (omega arith))
    (second_fits (240 + c / 262144) (128 + c / 4096 % 64) (λ same. absurd (omega arith)) (λ same. omega arith) (omega arith) (λ same. absurd (omega arith)) (λ same. omega arith) (omega arith)) (rw (is1, is2, is3) at whole))

-- a character that isn't a control character is taken
pub fed-encode : (machine : Machine) (c : ℕ) → machine.unfinished ≡ [] → scalar c ≡ true → is_control c ≡ false → fed machine (encode c) ≡ taken machine (encode c)
fed-encode machine c ready is shown =
    fed-encode_by machine c _ _ _ refl refl refl ready is (high c shown) (λ same. absurd (no_delete c same shown))
  where
    high_by : (c : ℕ) (low : Bool) → nat_le c 0x1F ≡ low → is_control c ≡ false → 32 ≤ c
    high_by c true is none =
        let control : is_control c ≡ true = ap (λ b. b || is_in_range 0x7F 0x9F c) (within 0 0x1F c (omega arith) (leb-true c 0x1F is)) in cc
    high_by c false is none = omega (arith, leb-false c 0x1F is)

    high : (c : ℕ) → is_control c ≡ false → 32 ≤ c
    high c shown = high_by c (nat_le c 0x1F) refl shown

    no_delete : (c : ℕ) → c ≡ 127 → is_control c ≡ false → ⊥
    no_delete c same shown = let at : is_control 127 ≡ false = subst (λ d. is_control d ≡ false) same shown in cc

-- ---- a text

-- what characters make of a canvas, one after another
abbrev pub with_characters : List ℕ → CanvasValue → CanvasValue
with_characters [] canvas = canvas
with_characters (c ∷ cs) canvas = with_characters cs (with_character (encode c) canvas)

pub fed-encodes : (cs : List ℕ) (machine : Machine) → machine.unfinished ≡ [] → scalars cs ≡ true → list_any is_control cs ≡ false
    → fed machine (encodes cs) ≡ record machine { canvas = with_characters cs machine.canvas; unfinished = [] }
fed-encodes [] machine ready are shown = fed-nothing machine ∙ ap (λ u. record machine { unfinished = u }) ready
fed-encodes (c ∷ cs) machine ready are shown =
    fed-append machine (encode c) (encodes cs)
    ∙ ap (λ m. fed m (encodes cs)) (fed-encode machine c ready (and_parts _ _ are).0 (or_parts _ _ shown).0)
    ∙ fed-encodes cs (taken machine (encode c)) refl (and_parts _ _ are).1 (or_parts _ _ shown).1
