-- Bytes that are UTF-8, and bytes that aren't.
use Rattle.std.proofs.Common.{◌≡◌, ℕ, Bool, true, false, List, refl, IsUtf8}
use Rattle.std.specs.Str.{is_utf8}
use Rattle.std.proofs.lemmas.Str.{IsUtf8-from_is_utf8, IsUtf8-from_ascii, is_utf8-from_IsUtf8}
use Rattle.tx_text.specs.Name.{is_name}
use Rattle.tx_text.proofs.lemmas.NameBytes.{IsAscii-name}

pub not_utf8 : (bytes : List ℕ) → (IsUtf8 bytes → ⊥) → is_utf8 bytes ≡ false
not_utf8 bytes h = by (is_utf8 bytes) refl
  where
    by : (b : Bool) → is_utf8 bytes ≡ b → is_utf8 bytes ≡ false
    by true e = absurd (h (IsUtf8-from_is_utf8 bytes e))
    by false e = e

pub name_utf8 : (bytes : List ℕ) → is_name bytes ≡ true → IsUtf8 bytes
name_utf8 bytes h = IsUtf8-from_ascii bytes (IsAscii-name bytes h)

pub text_utf8 : (bytes : List ℕ) → IsUtf8 bytes → is_utf8 bytes ≡ true
text_utf8 bytes u = is_utf8-from_IsUtf8 bytes u
