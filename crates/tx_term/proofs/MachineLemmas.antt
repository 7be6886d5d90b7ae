-- Bytes of text.
use Rattle.std.proofs.Common.{◌≡◌, ◌||◌, ℕ, List, [], ◌∷◌, Bool, true, false, refl, ap, sym, ◌∙◌, Option, Some, None, cond, not, is_none}
use Rattle.std.specs.Option.{is_some}
use Rattle.std.proofs.lemmas.Bool.{false_from_ne_true, or_from, or_left, or_right}
use Rattle.std.proofs.lemmas.Str.{IsUtf8-from_is_utf8}
use Rattle.std.specs.Str.{IsUtf8, is_utf8}
use Rattle.tx_term.specs.Canvas.{with_character}
use Rattle.tx_term.specs.Machine.{Machine, is_cut, is_control_byte, with_bytes, text_byte, longer_by}

pub none_is : {A : Type 0} (o : Option A) (b : Bool) → is_some o ≡ not b → b ≡ is_none o
none_is None true e = refl
none_is None false e = cc
none_is (Some x) true e = cc
none_is (Some x) false e = refl

pub with_bytes-whole : (bytes : List ℕ) (machine otherwise : Machine) → is_utf8 bytes ≡ true
    → with_bytes bytes machine otherwise ≡ record machine { canvas = with_character bytes machine.canvas; unfinished = [] }
unfolding with_bytes
with_bytes-whole bytes machine otherwise whole = rw whole refl

pub with_bytes-cut : (bytes : List ℕ) (machine otherwise : Machine) → is_utf8 bytes ≡ false → is_cut bytes ≡ true
    → with_bytes bytes machine otherwise ≡ record machine { unfinished = bytes }
unfolding with_bytes
with_bytes-cut bytes machine otherwise no_text cut = rw no_text (ap (λ b. cond b (record machine { unfinished = bytes }) otherwise) cut)

pub with_bytes-other : (bytes : List ℕ) (machine otherwise : Machine) → is_utf8 bytes ≡ false → is_cut bytes ≡ false
    → with_bytes bytes machine otherwise ≡ otherwise
unfolding with_bytes
with_bytes-other bytes machine otherwise no_text whole = rw no_text (ap (λ b. cond b (record machine { unfinished = bytes }) otherwise) whole)

known_by : (bytes : List ℕ) (machine otherwise : Machine) (whole cut : Bool) → is_utf8 bytes ≡ whole → is_cut bytes ≡ cut → true ≡ (is_utf8 bytes || is_cut bytes)
    → with_bytes bytes machine machine ≡ with_bytes bytes machine otherwise
known_by bytes machine otherwise true cut is is_cut_is known = with_bytes-whole bytes machine machine is ∙ sym (with_bytes-whole bytes machine otherwise is)
known_by bytes machine otherwise false true is is_cut_is known = with_bytes-cut bytes machine machine is is_cut_is ∙ sym (with_bytes-cut bytes machine otherwise is is_cut_is)
known_by bytes machine otherwise false false is is_cut_is known =
    absurd (let neither : (is_utf8 bytes || is_cut bytes) ≡ false = or_from _ _ is is_cut_is in cc)

-- the bytes are those of a character or of the beginning of one
pub with_bytes-known : (bytes : List ℕ) (machine otherwise : Machine) → true ≡ (is_utf8 bytes || is_cut bytes)
    → with_bytes bytes machine machine ≡ with_bytes bytes machine otherwise
with_bytes-known bytes machine otherwise known = known_by bytes machine otherwise _ _ refl refl known

unknown_by : (bytes : List ℕ) (machine otherwise : Machine) (whole cut : Bool) → is_utf8 bytes ≡ whole → is_cut bytes ≡ cut → false ≡ (is_utf8 bytes || is_cut bytes)
    → with_bytes bytes machine otherwise ≡ otherwise
unknown_by bytes machine otherwise true cut is is_cut_is unknown = absurd (let either : (is_utf8 bytes || is_cut bytes) ≡ true = or_left _ _ is in cc)
unknown_by bytes machine otherwise false true is is_cut_is unknown = absurd (let either : (is_utf8 bytes || is_cut bytes) ≡ true = or_right _ _ is_cut_is in cc)
unknown_by bytes machine otherwise false false is is_cut_is unknown = with_bytes-other bytes machine otherwise is is_cut_is

-- they are not
pub with_bytes-unknown : (bytes : List ℕ) (machine otherwise : Machine) → false ≡ (is_utf8 bytes || is_cut bytes) → with_bytes bytes machine otherwise ≡ otherwise
with_bytes-unknown bytes machine otherwise unknown = unknown_by bytes machine otherwise _ _ refl refl unknown

pub text_byte-text : (machine : Machine) (byte : ℕ) → is_control_byte byte ≡ false
    → text_byte machine byte ≡ with_bytes (longer_by machine.unfinished byte) machine (with_bytes (byte ∷ []) machine (record machine { unfinished = [] }))
text_byte-text machine byte no_control = rw no_control refl

pub no_text : (bytes : List ℕ) → (IsUtf8 bytes → ⊥) → is_utf8 bytes ≡ false
no_text bytes never = false_from_ne_true _ (λ is. never (IsUtf8-from_is_utf8 bytes is))
